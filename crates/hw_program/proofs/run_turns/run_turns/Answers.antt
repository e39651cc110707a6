use Rattle.std.proofs.Common.{◌≡◌, Err, refl, inl, inr}
use Rattle.std.specs.Prelude.{map, string_bytes}
use Rattle.hw_replay.specs.Fates.{seen}
use Rattle.hw_service.specs.Begin.{names_of}
use Rattle.hw_service.specs.declared.fault.ServiceFault.TheVariants as fault
use Rattle.hw_program.specs.Services.{Run}
use Rattle.hw_program.proofs.CallLaws.{with_rest, peers_count}
use Rattle.hw_program.proofs.FinishLaws.{asked_finished}
use Rattle.hw_program.proofs.ServedLaws.{asked_midway}
use Rattle.hw_program.proofs.run_turns.run_turns.Goals as goal

pub returns-in-Ok : goal.returns-in-Ok
returns-in-Ok g c =
    let s = g.S.Sink in
    let e = c.run-came_to.ensures in
    let peers = c.in-Ok.peers.items in
    let runs = inl (record { first = peers; are_new = c.in-Ok.ensures; last = c.run-came_to.new.peers.items; runs = e.runs }) in
    record {
      runs = record {
        came_to = c.run-came_to.result;
        between = record { taken = s.taken c.run-came_to.new.environment.out.now; faults = s.faults c.run-came_to.new.environment.out.now; wants = s.wants c.run-came_to.new.environment.out.now };
        runs = runs;
        ends = c.end_run.ensures;
        writes = e.writes;
        reads = e.reads;
        appends = e.appends;
        about = e.about;
        link = e.link;
        calls = with_rest _ c.run-came_to.result (rw (← peers_count (map string_bytes c.args.addresses.now) peers c.in-Ok.ensures) e.dials) e.accepts;
        finished = asked_finished (seen (λ b. (goal.Consumer-dyn g (b.vtable, b.value)).consumed b.value) (λ b. (goal.Consumer-dyn g (b.vtable, b.value)).faults b.value) (λ b. (goal.Consumer-dyn g (b.vtable, b.value)).wants b.value) (λ b. b.vtable)) (Run (names_of c.args.sources) c.args.me c.args.turns (map string_bytes c.args.addresses.now)) g.F.Files.tells _ _ _ _ c.run-came_to.result runs;
        fit = asked_midway (seen (λ b. (goal.Consumer-dyn g (b.vtable, b.value)).consumed b.value) (λ b. (goal.Consumer-dyn g (b.vtable, b.value)).faults b.value) (λ b. (goal.Consumer-dyn g (b.vtable, b.value)).wants b.value) (λ b. b.vtable)) (Run (names_of c.args.sources) c.args.me c.args.turns (map string_bytes c.args.addresses.now)) g.F.Files.tells _ _ _ _ c.run-came_to.result runs;
      };
      lent = e.lent;
    }

-- no memory for the peers: nothing but the line for that is written
pub returns-in-Err : goal.returns-in-Err
returns-in-Err g c =
    let s = g.S.Sink in
    record {
      runs = record {
        came_to = Err fault.OutOfMemory;
        between = record { taken = s.taken c.args.environment.now.out.now; faults = s.faults c.args.environment.now.out.now; wants = s.wants c.args.environment.now.out.now };
        runs = inr (record { memory = refl; stays = record { files = λ name. refl; door = refl; written = refl; consumers = refl }; clock = refl });
        ends = c.end_run-in-Err.ensures;
        writes = refl;
        reads = refl;
        appends = refl;
        about = λ t is. absurd (let never : fault.OutOfMemory ≡ fault.Read = is in cc);
        link = tt;
        calls = tt;
        finished = λ h. tt;
        fit = λ t may. tt;
      };
      lent = refl;
    }
