use Rattle.std.proofs.Common.{◌≡◌, ℕ, ◌<◌, ◌≤◌, ◌⊎◌, true}
use Rattle.hw_dag.specs.declared.numbers.UnitNo.{UnitNo}
use Rattle.hw_dag.specs.declared.numbers.View.TheVariants as view
use Rattle.hw_dag.specs.Dag.{view_at}
use Rattle.hw_dag.specs.Walks.{is_marked, Cites, IsCitedBySome}
use Rattle.hw_dag.proofs.graph.Dag.mark_observed_by.Given as goal

-- what the units of the slots so far observe is marked, and nothing else
abbrev pub invariant-loop-slot : goal.invariant-loop-slot
invariant-loop-slot l =
    ((v : ℕ) (number : UnitNo) (m : ℕ) → v < l.slot-index → view_at l.slots v ≡ view.Correct number → Cites l.self number.0 m → l.low.0 ≤ m → is_marked l.marked m ≡ true)
    × ((m : ℕ) → is_marked l.marked m ≡ true → (is_marked l.initial.marked m ≡ true) ⊎ IsCitedBySome l.self l.slots m)
