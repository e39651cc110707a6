use Rattle.std.proofs.Common.{refl, subst, ◌∙◌}
use Rattle.hw_types.specs.declared.unit.Digest.{Digest}
use Rattle.hw_dag.specs.Dag.{SettledUnit}
use Rattle.hw_dag.specs.Admission.{IsNew}
use Rattle.hw_types.specs.declared.unit.SignedUnit.{SignedUnit}
use Rattle.hw_types.specs.Same.{unit_eq}
use Rattle.std.proofs.Common.{ap}
use Rattle.hw_audit.proofs.UnitLaws.{settled_found, settled_none}
use Rattle.hw_audit.proofs.held.is_settled.Goals as goal

pub returns-in-Some : goal.returns-in-Some
returns-in-Some c =
    c.is_same_unit.ensures.test
    ∙ ap (λ (s : SignedUnit). unit_eq s.unit c.args.unit.now) (c.signed.ensures ∙ ap (λ (u : SettledUnit). u.signed) c.unit.ensures)
    ∙ settled_found c.args.dag.now c.args.unit.now c.recall_graph.ensures c.in-Some.no.0 c.in-Some.ensures.found.0 (c.in-Some.ensures.found.1 ∙ c.requires)

pub returns-in-None : goal.returns-in-None
returns-in-None c = settled_none c.args.dag.now c.args.unit.now (subst (λ (d : Digest). IsNew c.args.dag.now d) c.requires (c.in-None.ensures.none.0 refl))
