use Rattle.std.proofs.Common.{ℕ, ◌<◌, [], get_or}
use Rattle.hw_dag.specs.Lists.{NamesBefore}
use Rattle.hw_dag.proofs.graph.Dag.least_open.Given as goal

-- the names so far
abbrev pub invariant-loop-name : goal.invariant-loop-name
invariant-loop-name l = (k : ℕ) → k < l.name-index → NamesBefore l.self l.slots l.least (get_or l.names k (record { 0 = [] }))
