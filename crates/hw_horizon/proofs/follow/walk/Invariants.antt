use Rattle.std.proofs.Common.{◌≡◌, ◌<◌, true}
use Rattle.hw_dag.specs.Dag.{count_of, unit_at, seq_of}
use Rattle.hw_dag.specs.Lanes.{is_lane_below}
use Rattle.hw_horizon.proofs.follow.walk.Given as goal

abbrev pub invariant-loop-tip : goal.invariant-loop-tip
invariant-loop-tip l = record {
  known : l.first.0 < count_of l.question.dag.now;
  on_lane : is_lane_below l.question.dag.now l.first.0 l.fn.tip.0 ≡ true;
}

abbrev pub decreases-loop-tip : goal.decreases-loop-tip
decreases-loop-tip l = seq_of (unit_at l.question.dag.now l.first.0)
