use Rattle.std.proofs.Common.{◌≡◌, ◌<◌, ℕ, true}
use Rattle.std.specs.List.{list_all}
use Rattle.hw_types.specs.Rules.{has_digest}
use Rattle.hw_dag.specs.declared.numbers.UnitNo.{UnitNo}
use Rattle.hw_dag.specs.declared.numbers.View.TheVariants as view
use Rattle.hw_dag.specs.Dag.{unit_at, view_at}
use Rattle.hw_rules.proofs.endorsed.drops_endorsed.Given as goal

-- the lists of the units in slots so far are parts of its own
abbrev pub invariant-loop-validator : goal.invariant-loop-validator
invariant-loop-validator l = (v : ℕ) (number : UnitNo) → v < l.validator → view_at l.prepared.panorama v ≡ view.Correct number → list_all (has_digest l.own) (unit_at l.dag number.0).signed.unit.endorsed ≡ true
