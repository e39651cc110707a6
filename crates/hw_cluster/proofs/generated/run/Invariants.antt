use Rattle.hw_cluster.specs.Generating.{IsAfter}
use Rattle.hw_cluster.proofs.generated.run.Given as goal

-- the node was given so many rounds
abbrev pub invariant-loop-done : goal.invariant-loop-done
invariant-loop-done l = IsAfter l.table l.fn.words.key l.done l.core l.words l.lanes
