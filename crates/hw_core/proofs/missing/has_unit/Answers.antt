use Rattle.std.proofs.Common.{◌≡◌, false, subst}
use Rattle.std.specs.Prelude.{◌↔◌}
use Rattle.hw_dag.specs.Dag.{UnitGraph}
use Rattle.hw_dag.specs.Admission.{IsNew}
use Rattle.hw_core.proofs.MissingLaws.{new_met}
use Rattle.hw_core.proofs.missing.has_unit.Goals as goal

pub returns : goal.returns
returns c =
    let told = subst (λ (g : UnitGraph). (c.has_near.result ≡ false) ↔ IsNew g c.args.digest.now) c.dag.ensures.dag c.has_near.ensures in
    new_met c.args.state.now.dag c.dag.ensures.graph c.args.digest.now c.has_near.result told
