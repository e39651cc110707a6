use Rattle.std.proofs.Common.{◌≡◌, List, length, sym, ap, subst, ◌∙◌, eqb-true}
use Rattle.hw_types.specs.declared.unit.Digest.{Digest}
use Rattle.hw_types.specs.declared.unit.SignedUnit.{SignedUnit}
use Rattle.hw_types.specs.declared.unit.WireUnit.{WireUnit}
use Rattle.hw_dag.specs.declared.numbers.View.TheVariants as view
use Rattle.hw_dag.specs.Dag.{unit_at, view_at}
use Rattle.hw_dag.specs.Lists.{AllNameBelow}
use Rattle.hw_dag.proofs.DepthLaws.{number_some}
use Rattle.hw_rules.proofs.SeenLaws.{cited_names, no_names}
use Rattle.hw_rules.proofs.endorsed.inherits_list.Goals as goal

pub returns-in-Some : goal.returns-in-Some
returns-in-Some c = λ t.
    let dag = c.args.dag.now in
    let p = c.args.prepared.now in
    let no = c.in-Some.no in
    let at : view_at p.panorama p.signed.unit.creator ≡ view.Correct no = number_some _ no (sym c.previous.ensures ∙ c.in-Some.is) in
    let lt = c.requires.case.resolved.known p.signed.unit.creator no at in
    let own = c.as_slice-list.ensures ∙ ap (λ (s : SignedUnit). s.unit.endorsed) c.signed.ensures in
    let list = c.as_slice.ensures ∙ ap (λ (w : WireUnit). w.endorsed) c.wire_unit.ensures in
    let same : (unit_at dag no.0).signed.unit.endorsed ≡ p.signed.unit.endorsed = sym list ∙ sym (c.is_same.ensures.0 t) ∙ own in
    subst (λ (ds : List Digest). AllNameBelow dag p.panorama ds) same
    (cited_names dag c.requires.case.graph_is p.panorama p.signed.unit.creator no (unit_at dag no.0).signed.unit.endorsed at lt (c.requires.seen no.0 lt))

pub returns-in-None : goal.returns-in-None
returns-in-None c = λ t.
    let own = c.as_slice-list.ensures ∙ ap (λ (s : SignedUnit). s.unit.endorsed) c.signed.ensures in
    no_names c.args.dag.now c.args.prepared.now.panorama c.args.prepared.now.signed.unit.endorsed (ap length (sym own) ∙ eqb-true (length c.as_slice-list.result.now) 0 (sym c.is_empty.ensures ∙ t))
