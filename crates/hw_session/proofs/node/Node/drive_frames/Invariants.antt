use Rattle.std.proofs.Common.{◌≡◌, ◌≤◌, ◌-◌, true, false, List, [], Option}
use Rattle.hw_io.specs.Doors.{Session, AsksMore}
use Rattle.hw_link.specs.Asked.{IsAskedBehind}
use Rattle.hw_link.specs.Frames.{sent_bytes}
use Rattle.hw_link.specs.Links.{after_part}
use Rattle.hw_session.specs.Outside.{reading}
use Rattle.hw_session.specs.Driving.{hello, driven_said}
use Rattle.hw_session.specs.DriveHandling.{IsDue}
use Rattle.hw_session.proofs.DrivingLaws.{IsDriving}
use Rattle.hw_session.proofs.node.Node.drive_frames.Given as goal

abbrev pub invariant-loop-place : goal.invariant-loop-place
invariant-loop-place g l =
    let d = g.D.Door in
    let f = g.F.Files in
    record {
      driving : (first : Option (List Session)) → d.sessions l.initial.door ≡ after_part [] (sent_bytes (hello l.initial.self)) false first
          → IsDriving l.initial.self l.initial.mark (record { stage = l.stage; node = l.self; mark = l.mark }) l.place f.tells (f.held l.initial.files) (f.held l.files) first (d.sessions l.door);
      asks : (first : Option (List Session)) → d.sessions l.initial.door ≡ after_part [] (sent_bytes (hello l.initial.self)) false first
          → AsksMore (IsAskedBehind (driven_said l.initial.self l.initial.mark) first) (d.asks l.initial.door) (d.asks l.door);
      within : l.place ≤ 268435456;
      session : d.is_open l.door ≡ true;
      ends : d.ends l.door ≡ d.ends l.initial.door;
      faults : d.faults l.door ≡ d.faults l.initial.door;
      accepts : d.accepts l.door ≡ d.accepts l.initial.door;
      dials : d.dials l.door ≡ d.dials l.initial.door;
      appends : f.append_faults l.files ≡ f.append_faults l.initial.files;
      reading : reading (f.begun l.files) (f.allowance l.files) (f.read_faults l.files) ≡ reading (f.begun l.initial.files) (f.allowance l.initial.files) (f.read_faults l.initial.files);
      due : IsDue l.stage l.self l.mark;
    }

abbrev pub decreases-loop-place : goal.decreases-loop-place
decreases-loop-place g l = 268435456 - l.place
