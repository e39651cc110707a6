use Rattle.std.proofs.Common.{◌≡◌, true, take, Ok}
use Rattle.std.specs.List.{flat_map}
use Rattle.hw_link.specs.Frames.{sent_bytes}
use Rattle.hw_link.specs.Sent.{Sends}
use Rattle.hw_needs.specs.Needs.{vertices_of}
use Rattle.hw_needs.specs.Pairs.{ArePairs}
use Rattle.hw_session.specs.Outside.{door_calls}
use Rattle.hw_session.specs.Serving.{sent_for}
use Rattle.hw_session.proofs.answer.send_each.Given as goal

abbrev pub invariant-loop-need : goal.invariant-loop-need
invariant-loop-need g l =
    let d = g.D.Door in
    record {
      sent : Sends {T = Unit {0}} (sent_bytes (flat_map (λ need. sent_for need (vertices_of l.core need)) (take l.need-index l.needs))) (d.sessions l.initial.door) (d.sessions l.door) (Ok tt);
      pairs : ArePairs l.core l.pairs;
      faults : d.faults l.door ≡ d.faults l.initial.door;
      door : door_calls (d.is_open l.door) (d.ends l.door) (d.accepts l.door) (d.dials l.door) (d.asks l.door) ≡ door_calls (d.is_open l.initial.door) (d.ends l.initial.door) (d.accepts l.initial.door) (d.dials l.initial.door) (d.asks l.initial.door);
      session : d.is_open l.door ≡ true;
    }
