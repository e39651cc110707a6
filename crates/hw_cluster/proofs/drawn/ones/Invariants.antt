use Rattle.std.proofs.Common.{◌≡◌, replicate}
use Rattle.hw_cluster.proofs.drawn.ones.Given as goal

-- the weights so far
abbrev pub invariant-loop : goal.invariant-loop
invariant-loop l = l.weights ≡ replicate l.counter 1
