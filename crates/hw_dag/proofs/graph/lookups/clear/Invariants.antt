use Rattle.std.proofs.Common.{◌≡◌, ℕ, ◌<◌, ◌≤◌, false}
use Rattle.hw_dag.specs.Walks.{is_marked}
use Rattle.hw_dag.proofs.graph.lookups.clear.Given as goal

abbrev pub invariant-loop-m : goal.invariant-loop-m
invariant-loop-m l = (k : ℕ) → l.from ≤ k → k < l.m → is_marked l.marked k ≡ false
