use Rattle.std.proofs.Common.{refl}
use Rattle.hw_replay.specs.Fates.{seen}
use Rattle.hw_service.specs.Begin.{names_of}
use Rattle.hw_program.specs.Services.{Serve, Host, Meet}
use Rattle.hw_program.proofs.CallLaws.{with_rest}
use Rattle.hw_program.proofs.FinishLaws.{asked_finished}
use Rattle.hw_program.proofs.ServedLaws.{asked_midway}
use Rattle.hw_program.proofs.run.run_node.Goals as goal

pub returns-in-Serve-clause-node : goal.returns-in-Serve-clause-node
returns-in-Serve-clause-node g c =
    let s = g.S.Sink in
    let given = g.C.Clock.given c.args.clock.now in
    let asked = Serve (names_of c.in-Serve.sources) c.in-Serve.address.now c.in-Serve.sessions in
    let e = c.serve-came_to.ensures in
    rw c.in-Serve.is
    (record {
      came_to = c.serve-came_to.result;
      between = record { taken = s.taken c.serve-came_to.new.out; faults = s.faults c.serve-came_to.new.out; wants = s.wants c.serve-came_to.new.out };
      runs = (e.serves, refl);
      ends = c.end_run.ensures;
      writes = e.writes;
      reads = e.reads;
      appends = e.appends;
      about = e.about;
      link = e.link;
      calls = with_rest _ c.serve-came_to.result e.accepts e.dials;
      finished = asked_finished (seen (λ b. (goal.Consumer-dyn g (b.vtable, b.value)).consumed b.value) (λ b. (goal.Consumer-dyn g (b.vtable, b.value)).faults b.value) (λ b. (goal.Consumer-dyn g (b.vtable, b.value)).wants b.value) (λ b. b.vtable)) asked g.F.Files.tells _ _ given given c.serve-came_to.result (e.serves, refl);
      fit = asked_midway (seen (λ b. (goal.Consumer-dyn g (b.vtable, b.value)).consumed b.value) (λ b. (goal.Consumer-dyn g (b.vtable, b.value)).faults b.value) (λ b. (goal.Consumer-dyn g (b.vtable, b.value)).wants b.value) (λ b. b.vtable)) asked g.F.Files.tells _ _ given given c.serve-came_to.result (e.serves, refl);
    })

pub returns-in-Host-clause-node : goal.returns-in-Host-clause-node
returns-in-Host-clause-node g c =
    let s = g.S.Sink in
    let given = g.C.Clock.given c.args.clock.now in
    let asked = Host (names_of c.in-Host.sources) c.in-Host.address.now c.in-Host.sessions in
    let e = c.host-came_to.ensures in
    rw c.in-Host.is
    (record {
      came_to = c.host-came_to.result;
      between = record { taken = s.taken c.host-came_to.new.out; faults = s.faults c.host-came_to.new.out; wants = s.wants c.host-came_to.new.out };
      runs = (e.hosts, refl);
      ends = c.end_run-in-Host.ensures;
      writes = e.writes;
      reads = e.reads;
      appends = e.appends;
      about = e.about;
      link = e.link;
      calls = with_rest _ c.host-came_to.result e.accepts e.dials;
      finished = asked_finished (seen (λ b. (goal.Consumer-dyn g (b.vtable, b.value)).consumed b.value) (λ b. (goal.Consumer-dyn g (b.vtable, b.value)).faults b.value) (λ b. (goal.Consumer-dyn g (b.vtable, b.value)).wants b.value) (λ b. b.vtable)) asked g.F.Files.tells _ _ given given c.host-came_to.result (e.hosts, refl);
      fit = asked_midway (seen (λ b. (goal.Consumer-dyn g (b.vtable, b.value)).consumed b.value) (λ b. (goal.Consumer-dyn g (b.vtable, b.value)).faults b.value) (λ b. (goal.Consumer-dyn g (b.vtable, b.value)).wants b.value) (λ b. b.vtable)) asked g.F.Files.tells _ _ given given c.host-came_to.result (e.hosts, refl);
    })

pub returns-in-Meet-clause-node : goal.returns-in-Meet-clause-node
returns-in-Meet-clause-node g c =
    let s = g.S.Sink in
    let given = g.C.Clock.given c.args.clock.now in
    let asked = Meet (names_of c.in-Meet.sources) c.in-Meet.peer.now in
    let e = c.meet-came_to.ensures in
    rw c.in-Meet.is
    (record {
      came_to = c.meet-came_to.result;
      between = record { taken = s.taken c.meet-came_to.new.out; faults = s.faults c.meet-came_to.new.out; wants = s.wants c.meet-came_to.new.out };
      runs = (e.calls, refl);
      ends = c.end_run-in-Meet.ensures;
      writes = e.writes;
      reads = e.reads;
      appends = e.appends;
      about = e.about;
      link = e.link;
      calls = with_rest _ c.meet-came_to.result e.dials e.accepts;
      finished = asked_finished (seen (λ b. (goal.Consumer-dyn g (b.vtable, b.value)).consumed b.value) (λ b. (goal.Consumer-dyn g (b.vtable, b.value)).faults b.value) (λ b. (goal.Consumer-dyn g (b.vtable, b.value)).wants b.value) (λ b. b.vtable)) asked g.F.Files.tells _ _ given given c.meet-came_to.result (e.calls, refl);
      fit = asked_midway (seen (λ b. (goal.Consumer-dyn g (b.vtable, b.value)).consumed b.value) (λ b. (goal.Consumer-dyn g (b.vtable, b.value)).faults b.value) (λ b. (goal.Consumer-dyn g (b.vtable, b.value)).wants b.value) (λ b. b.vtable)) asked g.F.Files.tells _ _ given given c.meet-came_to.result (e.calls, refl);
    })
