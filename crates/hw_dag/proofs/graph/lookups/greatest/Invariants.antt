use Rattle.std.proofs.Common.{◌≡◌, ℕ, ◌<◌, ◌≤◌}
use Rattle.hw_dag.specs.declared.numbers.UnitNo.{UnitNo}
use Rattle.hw_dag.specs.declared.numbers.View.TheVariants as view
use Rattle.hw_dag.specs.Dag.{view_at}
use Rattle.hw_dag.proofs.graph.lookups.greatest.Given as goal

-- the greatest number of the slots so far
abbrev pub invariant-loop-slot : goal.invariant-loop-slot
invariant-loop-slot l =
    ((v : ℕ) (number : UnitNo) → v < l.slot-index → view_at l.slots v ≡ view.Correct number → number.0 ≤ l.top)
    × (0 < l.top → (v : ℕ) × (number : UnitNo) × (view_at l.slots v ≡ view.Correct number) × (number.0 ≡ l.top))
