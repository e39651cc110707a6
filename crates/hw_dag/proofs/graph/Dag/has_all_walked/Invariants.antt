use Rattle.std.proofs.Common.{ℕ, ◌<◌, [], get_or}
use Rattle.hw_dag.specs.Lists.{NamesBelow}
use Rattle.hw_dag.proofs.graph.Dag.has_all_walked.Given as goal

-- the names so far
abbrev pub invariant-loop-name : goal.invariant-loop-name
invariant-loop-name l = (k : ℕ) → k < l.name-index → NamesBelow l.self l.slots (get_or l.names k (record { 0 = [] }))
