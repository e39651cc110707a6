use Rattle.std.proofs.Common.{◌≡◌, ◌≤◌, true}
use Rattle.hw_node_cases.proofs.meeting.exchange.exchange.Given as goal

abbrev pub invariant-loop-turn : goal.invariant-loop-turn
invariant-loop-turn g l =
    let d = g.D.Door in
    record {
      place : l.place ≤ 268435456;
      session : d.is_open l.door ≡ true;
    }
