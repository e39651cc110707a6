use Rattle.std.proofs.Common.{◌≡◌, ℕ, ◌<◌, ◌≤◌, true, [], get_or}
use Rattle.hw_dag.specs.Dag.{count_of, unit_at}
use Rattle.hw_dag.specs.Lanes.{is_seen}
use Rattle.hw_dag.specs.Lists.{HasNameAmong}
use Rattle.hw_dag.proofs.graph.Dag.open_top.Given as goal

-- the top of the names so far
abbrev pub invariant-loop-name : goal.invariant-loop-name
invariant-loop-name l =
    ((k n : ℕ) → k < l.name-index → n < count_of l.self → (unit_at l.self n).digest ≡ get_or l.names k (record { 0 = [] }) → is_seen l.self l.low.0 n ≡ true → (l.low.0 < n) × (n ≤ l.top))
    × (0 < l.top → HasNameAmong l.self l.names l.top)
