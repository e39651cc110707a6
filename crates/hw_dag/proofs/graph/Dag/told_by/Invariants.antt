use Rattle.std.proofs.Common.{◌≡◌, ◌<◌, ℕ, true, false}
use Rattle.std.specs.Prelude.{◌≢◌}
use Rattle.hw_dag.specs.declared.numbers.UnitNo.{UnitNo}
use Rattle.hw_dag.specs.declared.numbers.View.TheVariants as view
use Rattle.hw_dag.specs.Dag.{view_at}
use Rattle.hw_dag.specs.Lanes.{is_seen}
use Rattle.hw_dag.proofs.graph.Dag.told_by.Given as goal

-- no slot so far names the unit, and none is known to name one above it; where none is open, none does
abbrev pub invariant-loop-slot : goal.invariant-loop-slot
invariant-loop-slot l =
    ((v : ℕ) (number : UnitNo) → v < l.slot-index → view_at l.slots v ≡ view.Correct number → number.0 ≢ l.low.0)
    × ((v : ℕ) (number : UnitNo) → v < l.slot-index → view_at l.slots v ≡ view.Correct number → l.open ≡ false → is_seen l.self l.low.0 number.0 ≡ true → ⊥)
