use Rattle.std.proofs.Common.{◌≡◌, ℕ, ◌<◌, ◌≤◌, ◌⊎◌, true, [], get_or}
use Rattle.hw_dag.specs.Dag.{count_of, unit_at}
use Rattle.hw_dag.specs.Lanes.{is_seen}
use Rattle.hw_dag.specs.Walks.{is_marked, Cites}
use Rattle.hw_dag.specs.Lists.{HasNameAmong}
use Rattle.hw_dag.proofs.graph.Dag.mark_observed_by_named.Given as goal

-- what the units of the names so far observe is marked, if they have `low` below them, and nothing else
abbrev pub invariant-loop-name : goal.invariant-loop-name
invariant-loop-name l =
    ((k n m : ℕ) → k < l.name-index → n < count_of l.self → (unit_at l.self n).digest ≡ get_or l.names k (record { 0 = [] }) → is_seen l.self l.low.0 n ≡ true → Cites l.self n m → l.low.0 ≤ m → is_marked l.marked m ≡ true)
    × ((m : ℕ) → is_marked l.marked m ≡ true → (is_marked l.initial.marked m ≡ true) ⊎ ((n : ℕ) × HasNameAmong l.self l.names n × Cites l.self n m))
