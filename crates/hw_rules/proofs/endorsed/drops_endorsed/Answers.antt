use Rattle.std.proofs.Common.{not, List, sym, ap, ◌∙◌, arith}
use Rattle.std.specs.List.{list_all}
use Rattle.hw_types.specs.declared.unit.Digest.{Digest}
use Rattle.hw_types.specs.declared.unit.SignedUnit.{SignedUnit}
use Rattle.hw_types.specs.declared.unit.WireUnit.{WireUnit}
use Rattle.hw_types.specs.Graph.{Node}
use Rattle.hw_types.specs.Rules.{has_digest}
use Rattle.hw_dag.specs.Dag.{unit_at}
use Rattle.hw_rules.proofs.CaseLaws.{length_is, view_within, some_number, no_number}
use Rattle.hw_rules.proofs.endorsed.drops_endorsed.Goals as goal

pub returns-then-not-has_all : goal.returns-then-not-has_all
returns-then-not-has_all c =
    let own = c.args.prepared.now.signed.unit.endorsed in
    let list = c.as_slice.ensures ∙ ap (λ (w : WireUnit). w.endorsed) c.wire_unit.ensures in
    let mine = c.as_slice-own.ensures ∙ ap (λ (s : SignedUnit). s.unit.endorsed) c.signed.ensures in
    sym (some_number c.args.dag.now c.args.prepared.now c.requires.case (λ (w : Node). not (list_all (has_digest own) w.unit.endorsed)) c.loop-validator.validator c.in-Some.no c.in-Some.ensures.cited
    (sym (ap not (c.has_all.ensures ∙ ap (λ (ds : List Digest). list_all (has_digest c.as_slice-own.result.now) ds) list ∙ ap (λ (ds : List Digest). list_all (has_digest ds) (unit_at c.args.dag.now c.in-Some.no.0).signed.unit.endorsed) mine)) ∙ ap not c.if-not-has_all.true))

pub returns : goal.returns
returns c =
    let own = c.args.prepared.now.signed.unit.endorsed in
    let mine = c.as_slice-own.ensures ∙ ap (λ (s : SignedUnit). s.unit.endorsed) c.signed.ensures in
    sym (no_number c.args.dag.now c.args.prepared.now c.requires.case (λ (w : Node). not (list_all (has_digest own) w.unit.endorsed))
    (λ v number e. ap not (ap (λ (ds : List Digest). list_all (has_digest ds) (unit_at c.args.dag.now number.0).signed.unit.endorsed) (sym mine) ∙ c.loop-validator.invariant v number
    (let lt = view_within c.args.prepared.now.panorama v number e in let len = length_is c.args.dag.now c.args.prepared.now c.requires.case in let over = c.loop-validator-test.false in let end = c.validators-validator-end.ensures.validators in omega arith) e)))
