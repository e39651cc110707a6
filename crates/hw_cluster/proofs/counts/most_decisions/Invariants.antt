use Rattle.hw_cluster.proofs.CountLaws.{IsMostOf}
use Rattle.hw_cluster.proofs.counts.most_decisions.Given as goal

-- the most of the nodes so far
abbrev pub invariant-loop-core : goal.invariant-loop-core
invariant-loop-core l = IsMostOf l.nodes l.core-index l.most
