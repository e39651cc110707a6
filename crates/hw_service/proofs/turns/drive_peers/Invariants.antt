use Rattle.std.proofs.Common.{◌≡◌, length}
use Rattle.hw_replay.specs.Fates.{seen}
use Rattle.hw_service.specs.Scene.{scene, IsReady}
use Rattle.hw_service.specs.Environs.{outside_in}
use Rattle.hw_service.specs.Steps.{TakesAll}
use Rattle.hw_service.specs.Run.{HaveTaken}
use Rattle.hw_service.specs.Turns.{DrivesSession}
use Rattle.hw_service.specs.Counts.{IsDoorCounted}
use Rattle.hw_service.specs.Loans.{loans}
use Rattle.hw_service.proofs.turns.drive_peers.Given as goal

abbrev pub invariant-loop-place : goal.invariant-loop-place
invariant-loop-place g l =
    let d = g.D.Door in
    let f = g.F.Files in
    let s = g.S.Sink in
    let sight = seen (λ b. (goal.Consumer-dyn g (b.vtable, b.value)).consumed b.value) (λ b. (goal.Consumer-dyn g (b.vtable, b.value)).faults b.value) (λ b. (goal.Consumer-dyn g (b.vtable, b.value)).wants b.value) (λ b. b.vtable) in
    record {
      taken : TakesAll (DrivesSession sight f.tells) 0 l.place
          (scene l.initial.host.node l.initial.host.fanout (outside_in f s d l.initial.environment l.initial.consumers.items), l.initial.peers.items)
          (scene l.host.node l.host.fanout (outside_in f s d l.environment l.consumers.items), l.peers.items) l.failed;
      whole : HaveTaken sight l.initial.host.node.core l.initial.host.fanout.passed l.initial.consumers.items → HaveTaken sight l.host.node.core l.host.fanout.passed l.consumers.items;
      ready : IsReady l.host.node l.host.fanout l.consumers.items;
      config : l.host.node.core.config ≡ l.initial.host.node.core.config;
      peers : length l.peers.items ≡ length l.initial.peers.items;
      lent : loans l.environment.files l.environment.out l.environment.clock l.environment.door ≡ loans l.initial.environment.files l.initial.environment.out l.initial.environment.clock l.initial.environment.door;
      appends : f.append_faults l.environment.files.now ≡ f.append_faults l.initial.environment.files.now;
      writes : s.faults l.environment.out.now ≡ s.faults l.initial.environment.out.now;
      link : IsDoorCounted l.failed (d.faults l.initial.environment.door.now) (d.faults l.environment.door.now);
      clock : g.C.Clock.given l.environment.clock.now ≡ g.C.Clock.given l.initial.environment.clock.now;
      reads : f.read_faults l.environment.files.now ≡ f.read_faults l.initial.environment.files.now;
    }
