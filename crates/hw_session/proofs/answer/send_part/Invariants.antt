use Rattle.std.proofs.Common.{◌≡◌, ◌≤◌, ◌-◌, true, take, map, Ok}
use Rattle.hw_types.specs.declared.answers.Frame.TheVariants as frame
use Rattle.hw_link.specs.Frames.{sent_bytes}
use Rattle.hw_link.specs.Sent.{Sends}
use Rattle.hw_session.specs.Outside.{door_calls}
use Rattle.hw_session.specs.Serving.{part_from}
use Rattle.hw_session.proofs.answer.send_part.Given as goal

abbrev pub invariant-loop-at : goal.invariant-loop-at
invariant-loop-at g l =
    let d = g.D.Door in
    record {
      start : l.place ≤ l.at;
      sent : Sends {T = Unit {0}} (sent_bytes (map frame.Vertex (take (l.at - l.place) (part_from l.core.journal l.place)))) (d.sessions l.initial.door) (d.sessions l.door) (Ok tt);
      faults : d.faults l.door ≡ d.faults l.initial.door;
      door : door_calls (d.is_open l.door) (d.ends l.door) (d.accepts l.door) (d.dials l.door) (d.asks l.door) ≡ door_calls (d.is_open l.initial.door) (d.ends l.initial.door) (d.accepts l.initial.door) (d.dials l.initial.door) (d.asks l.initial.door);
      session : d.is_open l.door ≡ true;
    }
