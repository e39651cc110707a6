use Rattle.std.proofs.Common.{◌≡◌, ℕ, length, sym, ap, subst₂, ◌∙◌}
use Rattle.hw_types.specs.declared.unit.SignedUnit.{SignedUnit}
use Rattle.hw_dag.specs.Dag.{UnitGraph}
use Rattle.hw_dag.specs.Admission.{IsFor}
use Rattle.hw_core.proofs.fresh.prepare_copy.Goals as goal

pub prepare-requires : goal.prepare-requires
prepare-requires c =
    let many : length c.args.state.now.config.weights ≡ c.dag.result.now.validators = c.dag.ensures.weights.length_is ∙ ap (λ (d : UnitGraph). d.validators) (sym c.dag.ensures.dag) in
    subst₂ (λ (count : ℕ) (unit : SignedUnit). IsFor count unit) many (sym c.in_ok-copy.ensures) c.requires
