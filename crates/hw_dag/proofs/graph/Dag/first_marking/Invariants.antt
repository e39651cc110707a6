-- The unit is on the lane, and those between are.
use Rattle.std.proofs.Common.{◌≡◌, ◌<◌, ◌≤◌, ◌-◌, true}
use Rattle.hw_dag.specs.Dag.{unit_at, count_of, seq_of}
use Rattle.hw_dag.specs.Lanes.{is_lane_below}
use Rattle.hw_dag.proofs.graph.Dag.first_marking.Given as goal

abbrev pub invariant-loop-from : goal.invariant-loop-from
invariant-loop-from l = (l.first.0 < count_of l.self) × (is_lane_below l.self l.first.0 l.no.0 ≡ true) × (l.to ≤ seq_of (unit_at l.self l.no.0))

abbrev pub decreases-loop-from : goal.decreases-loop-from
decreases-loop-from l = l.to - l.from
