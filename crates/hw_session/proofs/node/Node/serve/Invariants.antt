use Rattle.std.proofs.Common.{◌≡◌, ◌≤◌, ◌-◌, true}
use Rattle.hw_io.specs.Doors.{AsksMore}
use Rattle.hw_link.specs.Asked.{IsAskedBehind}
use Rattle.hw_session.specs.Outside.{reading}
use Rattle.hw_session.specs.Serving.{served_said}
use Rattle.hw_session.proofs.ServingLaws.{IsServing}
use Rattle.hw_session.proofs.node.Node.serve.Given as goal

abbrev pub invariant-loop-place : goal.invariant-loop-place
invariant-loop-place g l =
    let d = g.D.Door in
    let f = g.F.Files in
    record {
      serving : IsServing l.initial.self l.self l.place f.tells (f.held l.initial.files) (f.held l.files) (d.sessions l.initial.door) (d.sessions l.door);
      asks : AsksMore (IsAskedBehind (served_said l.initial.self) (d.sessions l.initial.door)) (d.asks l.initial.door) (d.asks l.door);
      within : l.place ≤ 268435456;
      session : d.is_open l.door ≡ true;
      ends : d.ends l.door ≡ d.ends l.initial.door;
      faults : d.faults l.door ≡ d.faults l.initial.door;
      accepts : d.accepts l.door ≡ d.accepts l.initial.door;
      dials : d.dials l.door ≡ d.dials l.initial.door;
      appends : f.append_faults l.files ≡ f.append_faults l.initial.files;
      reading : reading (f.begun l.files) (f.allowance l.files) (f.read_faults l.files) ≡ reading (f.begun l.initial.files) (f.allowance l.initial.files) (f.read_faults l.initial.files);
    }

abbrev pub decreases-loop-place : goal.decreases-loop-place
decreases-loop-place g l = 268435456 - l.place
