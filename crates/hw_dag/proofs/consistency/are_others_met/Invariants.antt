-- What the other units in the slots so far observe is met, and what the last one looked at does.
use Rattle.std.proofs.Common.{◌≡◌, ℕ, ◌<◌, true}
use Rattle.hw_dag.specs.declared.numbers.UnitNo.{UnitNo}
use Rattle.hw_dag.specs.declared.numbers.View.TheVariants as view
use Rattle.hw_dag.specs.Dag.{unit_at, view_at}
use Rattle.hw_dag.proofs.OrderLaws.{is_below_all}
use Rattle.hw_dag.proofs.SharedLaws.{IsUnitBelow}
use Rattle.hw_dag.proofs.consistency.are_others_met.Given as goal

abbrev pub invariant-loop-validator : goal.invariant-loop-validator
invariant-loop-validator l = IsUnitBelow l.dag l.panorama l.last
    × ((v : ℕ) → v < l.validator → (number : UnitNo) → view_at l.panorama v ≡ view.Correct number → (view_at l.known v ≡ view.Correct number → ⊥)
    → is_below_all l.dag (unit_at l.dag number.0).panorama l.panorama ≡ true)
