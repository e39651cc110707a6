use Rattle.hw_dag.specs.Dag.{unit_at, seq_of}
use Rattle.hw_horizon.specs.Starts.{IsWalked, votes_over}
use Rattle.hw_horizon.proofs.votes.start_below.Given as goal

abbrev pub invariant-loop-before : goal.invariant-loop-before
invariant-loop-before l = IsWalked l.dag l.fn.tip.0 (votes_over l.dag l.fn.block.0) l.first.0

abbrev pub decreases-loop-before : goal.decreases-loop-before
decreases-loop-before l = seq_of (unit_at l.dag l.first.0)
