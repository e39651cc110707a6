-- What the shared units in the slots so far observe is met.
use Rattle.std.proofs.Common.{◌≡◌, ℕ, ◌<◌, true}
use Rattle.hw_dag.specs.declared.numbers.UnitNo.{UnitNo}
use Rattle.hw_dag.specs.Dag.{unit_at, view_at}
use Rattle.hw_dag.specs.Views.{is_met, IsShared}
use Rattle.hw_dag.proofs.consistency.is_column_met.Given as goal

abbrev pub invariant-loop-validator : goal.invariant-loop-validator
invariant-loop-validator l = (v : ℕ) → v < l.validator → (number : UnitNo) → IsShared l.known l.panorama v number → is_met l.dag (view_at (unit_at l.dag number.0).panorama l.of) (view_at l.panorama l.of) ≡ true
