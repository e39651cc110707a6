use Rattle.std.proofs.Common.{◌-◌}
use Rattle.hw_horizon.specs.Firsts.{has_quorum}
use Rattle.hw_horizon.proofs.SearchLaws.{IsSearched}
use Rattle.hw_horizon.proofs.quorums.quorum_start.Given as goal

abbrev pub invariant-loop-low : goal.invariant-loop-low
invariant-loop-low l = IsSearched l.question.dag.now l.tip.0 l.floor (has_quorum l.question.weights.now l.question.dag.now l.question.quorum l.firsts) l.low l.high

abbrev pub decreases-loop-low : goal.decreases-loop-low
decreases-loop-low l = l.high - l.low
