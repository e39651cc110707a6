use Rattle.std.proofs.Common.{◌≡◌, ◌<◌, ℕ, false}
use Rattle.std.specs.Prelude.{nat_lt}
use Rattle.hw_dag.specs.declared.numbers.UnitNo.{UnitNo}
use Rattle.hw_dag.specs.declared.numbers.View.TheVariants as view
use Rattle.hw_dag.specs.Dag.{unit_at, view_at}
use Rattle.hw_rules.proofs.citations.goes_back.Given as goal

-- no unit in a slot so far is later
abbrev pub invariant-loop-validator : goal.invariant-loop-validator
invariant-loop-validator l = (v : ℕ) (number : UnitNo) → v < l.validator → view_at l.prepared.panorama v ≡ view.Correct number → nat_lt l.time (unit_at l.dag number.0).signed.unit.time ≡ false
