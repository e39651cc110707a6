use Rattle.std.proofs.Common.{◌-◌, ◌≡◌, ◌≤◌, [], true, false, length, take}
use Rattle.hw_io.specs.Doors.{AsksMore}
use Rattle.hw_link.specs.Asked.{IsAskedWithin}
use Rattle.hw_link.specs.Links.{after_part}
use Rattle.hw_link.proofs.fill.fill.Given as goal

abbrev pub invariant-loop-end : goal.invariant-loop-end
invariant-loop-end g l =
    let d = g.D.Door in
    record {
      within : l.end ≤ l.n;
      room : l.n ≤ length l.bytes;
      heard : d.sessions l.door ≡ after_part (take l.end l.bytes) [] false (d.sessions l.initial.door);
      asks : AsksMore (IsAskedWithin l.n (d.sessions l.initial.door)) (d.asks l.initial.door) (d.asks l.door);
      session : d.is_open l.door ≡ true;
      ends : d.ends l.door ≡ d.ends l.initial.door;
      faults : d.faults l.door ≡ d.faults l.initial.door;
      accepts : d.accepts l.door ≡ d.accepts l.initial.door;
      dials : d.dials l.door ≡ d.dials l.initial.door;
    }

abbrev pub decreases-loop-end : goal.decreases-loop-end
decreases-loop-end g l = l.n - l.end
