use Rattle.std.proofs.Common.{◌≡◌}
use Rattle.hw_replay.specs.Fates.{seen}
use Rattle.hw_service.specs.Scene.{outside_of, scene, IsReady}
use Rattle.hw_service.specs.Steps.{TakesAll}
use Rattle.hw_service.specs.Run.{HaveTaken}
use Rattle.hw_service.specs.Held.{holds_session}
use Rattle.hw_service.specs.Counts.{IsDoorCounted}
use Rattle.hw_service.proofs.sessions.hold_all.Given as goal

abbrev pub invariant-loop-index : goal.invariant-loop-index
invariant-loop-index g l =
    let d = g.D.Door in
    let f = g.F.Files in
    let s = g.S.Sink in
    let sight = seen (λ b. (goal.Consumer-dyn g (b.vtable, b.value)).consumed b.value) (λ b. (goal.Consumer-dyn g (b.vtable, b.value)).faults b.value) (λ b. (goal.Consumer-dyn g (b.vtable, b.value)).wants b.value) (λ b. b.vtable) in
    record {
      taken : TakesAll (holds_session sight (g.T.Talk.talks l.sessions.talk f.tells) l.sessions.who.now) l.sessions.first l.index
          (scene l.initial.host.node l.initial.host.fanout (outside_of f s d l.initial.files l.initial.out l.initial.door l.initial.consumers.items), tt)
          (scene l.host.node l.host.fanout (outside_of f s d l.files l.out l.door l.consumers.items), tt) l.failed;
      whole : HaveTaken sight l.initial.host.node.core l.initial.host.fanout.passed l.initial.consumers.items → HaveTaken sight l.host.node.core l.host.fanout.passed l.consumers.items;
      ready : IsReady l.host.node l.host.fanout l.consumers.items;
      appends : f.append_faults l.files ≡ f.append_faults l.initial.files;
      writes : s.faults l.out ≡ s.faults l.initial.out;
      link : IsDoorCounted l.failed (d.faults l.initial.door) (d.faults l.door);
      reads : f.read_faults l.files ≡ f.read_faults l.initial.files;
    }
