use Rattle.std.proofs.Common.{◌≡◌}
use Rattle.hw_replay.specs.Fates.{seen}
use Rattle.hw_service.specs.Scene.{scene, IsReady}
use Rattle.hw_service.specs.Environs.{outside_in}
use Rattle.hw_service.specs.Steps.{TakesAll}
use Rattle.hw_service.specs.Run.{HaveTaken}
use Rattle.hw_service.specs.Turns.{TakesTurn, turning}
use Rattle.hw_service.specs.Counts.{IsDoorCounted}
use Rattle.hw_service.specs.Loans.{loans}
use Rattle.hw_service.proofs.turns.take_turns.Given as goal

abbrev pub invariant-loop-index : goal.invariant-loop-index
invariant-loop-index g l =
    let d = g.D.Door in
    let f = g.F.Files in
    let s = g.S.Sink in
    let k = g.C.Clock in
    let sight = seen (λ b. (goal.Consumer-dyn g (b.vtable, b.value)).consumed b.value) (λ b. (goal.Consumer-dyn g (b.vtable, b.value)).faults b.value) (λ b. (goal.Consumer-dyn g (b.vtable, b.value)).wants b.value) (λ b. b.vtable) in
    record {
      taken : TakesAll (TakesTurn sight f.tells l.me) 1 l._index
          (scene l.initial.host.node l.initial.host.fanout (outside_in f s d l.initial.environment l.initial.consumers.items), turning l.initial.peers.items (k.given l.initial.environment.clock.now))
          (scene l.host.node l.host.fanout (outside_in f s d l.environment l.consumers.items), turning l.peers.items (k.given l.environment.clock.now)) l.failed;
      whole : HaveTaken sight l.initial.host.node.core l.initial.host.fanout.passed l.initial.consumers.items → HaveTaken sight l.host.node.core l.host.fanout.passed l.consumers.items;
      ready : IsReady l.host.node l.host.fanout l.consumers.items;
      config : l.host.node.core.config ≡ l.initial.host.node.core.config;
      lent : loans l.environment.files l.environment.out l.environment.clock l.environment.door ≡ loans l.initial.environment.files l.initial.environment.out l.initial.environment.clock l.initial.environment.door;
      appends : f.append_faults l.environment.files.now ≡ f.append_faults l.initial.environment.files.now;
      writes : s.faults l.environment.out.now ≡ s.faults l.initial.environment.out.now;
      link : IsDoorCounted l.failed (d.faults l.initial.environment.door.now) (d.faults l.environment.door.now);
      reads : f.read_faults l.environment.files.now ≡ f.read_faults l.initial.environment.files.now;
    }
