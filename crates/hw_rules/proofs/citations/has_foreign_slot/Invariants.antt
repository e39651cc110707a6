use Rattle.std.proofs.Common.{◌≡◌, ◌<◌, ℕ, true}
use Rattle.std.specs.Prelude.{◌==◌}
use Rattle.hw_dag.specs.declared.numbers.UnitNo.{UnitNo}
use Rattle.hw_dag.specs.declared.numbers.View.TheVariants as view
use Rattle.hw_dag.specs.Dag.{unit_at, creator_of, view_at}
use Rattle.hw_rules.proofs.citations.has_foreign_slot.Given as goal

-- the slots so far name units of their validators
abbrev pub invariant-loop-validator : goal.invariant-loop-validator
invariant-loop-validator l = (v : ℕ) (number : UnitNo) → v < l.validator → view_at l.prepared.panorama v ≡ view.Correct number → (creator_of (unit_at l.dag number.0) == v) ≡ true
