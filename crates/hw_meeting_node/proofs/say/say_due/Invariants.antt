use Rattle.std.proofs.Common.{◌≡◌, true, take, Ok}
use Rattle.hw_link.specs.Sent.{Sends}
use Rattle.hw_meeting_node.specs.Frames.{sent_bytes}
use Rattle.hw_meeting_node.proofs.SayLaws.{sent_at}
use Rattle.hw_meeting_node.proofs.say.say_due.Given as goal

abbrev pub invariant-loop-place : goal.invariant-loop-place
invariant-loop-place g l =
    let d = g.D.Door in
    record {
      sent : Sends {T = Unit {0}} (sent_bytes (sent_at l.core.journal (take l.place-index l.places))) (d.sessions l.initial.door) (d.sessions l.door) (Ok tt);
      session : d.is_open l.door ≡ true;
      asks : d.asks l.door ≡ d.asks l.initial.door;
      ends : d.ends l.door ≡ d.ends l.initial.door;
      faults : d.faults l.door ≡ d.faults l.initial.door;
      accepts : d.accepts l.door ≡ d.accepts l.initial.door;
      dials : d.dials l.door ≡ d.dials l.initial.door;
    }
