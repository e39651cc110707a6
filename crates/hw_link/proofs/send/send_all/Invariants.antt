use Rattle.std.proofs.Common.{◌-◌, ◌≡◌, ◌≤◌, [], true, false, length, take}
use Rattle.hw_link.specs.Links.{after_part}
use Rattle.hw_link.proofs.send.send_all.Given as goal

abbrev pub invariant-loop-done : goal.invariant-loop-done
invariant-loop-done g l =
    let d = g.D.Door in
    record {
      within : l.done ≤ length l.bytes;
      told : d.sessions l.door ≡ after_part [] (take l.done l.bytes) false (d.sessions l.initial.door);
      session : d.is_open l.door ≡ true;
      asks : d.asks l.door ≡ d.asks l.initial.door;
      ends : d.ends l.door ≡ d.ends l.initial.door;
      faults : d.faults l.door ≡ d.faults l.initial.door;
      accepts : d.accepts l.door ≡ d.accepts l.initial.door;
      dials : d.dials l.door ≡ d.dials l.initial.door;
    }

abbrev pub decreases-loop-done : goal.decreases-loop-done
decreases-loop-done g l = length l.bytes - l.done
