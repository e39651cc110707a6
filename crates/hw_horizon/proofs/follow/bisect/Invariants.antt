use Rattle.std.proofs.Common.{◌-◌}
use Rattle.hw_dag.specs.Dag.{unit_at, seq_of}
use Rattle.hw_horizon.specs.Bounds.{counts_over, IsGap}
use Rattle.hw_horizon.proofs.follow.bisect.Given as goal

abbrev pub invariant-loop-dag : goal.invariant-loop-dag
invariant-loop-dag l = IsGap l.question.dag.now l.fn.tip.0 (counts_over l.question.weights.now l.question.dag.now l.question.block.0 l.question.quorum l.is_votes l.lower.firsts) l.last.0 l.first.0

abbrev pub decreases-loop-dag : goal.decreases-loop-dag
decreases-loop-dag l = seq_of (unit_at l.question.dag.now l.first.0) - seq_of (unit_at l.question.dag.now l.last.0)
