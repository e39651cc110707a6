use Rattle.std.proofs.Common.{◌≡◌, List, None, inr, sym, ap, subst, ◌∙◌}
use Rattle.std.proofs.lemmas.Result.{IfOk-weaker}
use Rattle.hw_types.specs.declared.config.Config.{Config}
use Rattle.hw_types.specs.Limits.{config_fault}
use Rattle.hw_core.specs.Shown.{HasSummitNow}
use Rattle.hw_dag.specs.declared.numbers.UnitNo.{UnitNo}
use Rattle.hw_dag.specs.Dag.{UnitGraph}
use Rattle.hw_light.specs.Standing.{IsStateOf}
use Rattle.hw_light.specs.Extract.{vertices_for}
use Rattle.hw_light.specs.Certify.{IsCertifiedAs, IfMade, IsYesFor}
use Rattle.hw_light.specs.Under.{AreKnown, nodes_at, AreUnder}
use Rattle.hw_light.proofs.CertifyLaws.{if_made_yes}
use Rattle.hw_light.proofs.SummitLaws.{some_is, none_is, answer_of}
use Rattle.hw_light.proofs.certifying.certify_if_standing.Goals.{In-Some}
use Rattle.hw_light.proofs.certifying.certify_if_standing.Goals as goal

pub summit_units-requires-clause-of : goal.summit_units-requires-clause-of
summit_units-requires-clause-of c = record {
  config = c.state-state.ensures.config;
  graph_is = c.dag-dag.ensures.graph;
  settled = c.state-state.ensures.settled;
  order = c.state-state.ensures.order;
  panorama = c.state-state.ensures.panorama;
}

pub returns-in_default-clause-answer : goal.returns-in_default-clause-answer
returns-in_default-clause-answer c = inr (none_is c.in_ok-numbers.field-0 (HasSummitNow c.args.core.now c.args.index → ⊥) c.in_default.is c.in_ok-numbers.ensures.none)

-- the units that were found
under : (c : In-Some) → AreUnder c.args.core.now c.args.index c.decision-decision.result.now c.state-state.result.now.dag c.in-Some.numbers.items
under c =
    some_is c.in_ok-numbers.field-0 c.in-Some.numbers (λ numbers. AreUnder c.args.core.now c.args.index c.decision-decision.result.now c.state-state.result.now.dag numbers.items)
    c.in-Some.is c.in_ok-numbers.ensures.under

pub vertices_for-requires-clause-known : goal.vertices_for-requires-clause-known
vertices_for-requires-clause-known c =
    let known = (under (goal.at.vertices_for-requires-clause-known c).In-Some).known in
    subst (λ (d : UnitGraph). AreKnown d c.as_slice.result.now) (sym c.dag-dag.ensures.dag)
    (subst (λ (ns : List UnitNo). AreKnown c.state-state.result.now.dag ns) (sym c.as_slice.ensures.value) known)

pub returns-clause-answer : goal.returns-clause-answer
returns-clause-answer c =
    let core = c.args.core.now in
    let state = c.state-state.result.now in
    let told = c.state-state.ensures in
    let of : IsStateOf core state = record { config = told.config; graph_is = c.dag-dag.ensures.graph; settled = told.settled; order = told.order; panorama = told.panorama } in
    let numbers = c.in-Some.numbers.items in
    let vertices = c.in_ok-vertices.ensures.vertices ∙ ap (λ (ns : List UnitNo). vertices_for core (nodes_at c.dag-dag.result.now ns)) c.as_slice.ensures.value
    ∙ ap (λ (d : UnitGraph). vertices_for core (nodes_at d numbers)) c.dag-dag.ensures.dag in
    let config = c.config-config.ensures.config ∙ told.config in
    IfOk-weaker c.counted.result _ (IsCertifiedAs core c.args.index)
    (λ certified counted. answer_of core state of c.args.index c.decision-decision.result.now numbers c.in_ok-vertices.vertices c.config-config.result.now certified
    c.requires.few_faulty (under (goal.at.returns-clause-answer c).In-Some) vertices config counted) c.counted.ensures.counted

pub returns-clause-yes : goal.returns-clause-yes
returns-clause-yes c =
    let core = c.args.core.now in
    let lawful = subst (λ (k : Config). config_fault k ≡ None) c.state-state.ensures.config c.config-config.ensures.lawful in
    IfOk-weaker c.counted.result (IsCertifiedAs core c.args.index) (IfMade IsYesFor)
    (λ certified is. if_made_yes core c.args.index certified lawful c.state-state.ensures.reached is) (returns-clause-answer c)
