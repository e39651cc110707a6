use Rattle.std.proofs.Common.{true, not, List, refl, ap, subst, ◌∙◌}
use Rattle.std.specs.List.{list_all}
use Rattle.std.specs.Prelude.{◌↔◌, IsTrue}
use Rattle.hw_types.specs.declared.unit.Digest.{Digest}
use Rattle.hw_types.specs.declared.unit.SignedUnit.{SignedUnit}
use Rattle.hw_dag.specs.declared.numbers.View.{View}
use Rattle.hw_dag.specs.Lists.{AllNameBelow}
use Rattle.hw_rules.specs.Judged.{below_of, has_named}
use Rattle.hw_rules.proofs.CaseLaws.{all_named}
use Rattle.hw_rules.proofs.endorsed.endorses_unseen.Goals as goal

pub returns-clause-unseen : goal.returns-clause-unseen
returns-clause-unseen c =
    let dag = c.args.dag.now in
    let list = c.as_slice-list.ensures ∙ ap (λ (s : SignedUnit). s.unit.endorsed) c.signed.ensures in
    let told = subst (λ (ws : List View). IsTrue c.has_all_below.result ↔ AllNameBelow dag ws c.as_slice-list.result.now) c.panorama.ensures c.has_all_below.ensures.below in
    ap not (all_named dag c.args.prepared.now c.requires.case c.as_slice-list.result.now c.has_all_below.result told
    ∙ ap (λ (ds : List Digest). list_all (has_named (below_of dag c.args.prepared.now)) ds) list)

pub returns-then-inherits_list-clause-unseen : goal.returns-then-inherits_list-clause-unseen
returns-then-inherits_list-clause-unseen c =
    let dag = c.args.dag.now in
    let p = c.args.prepared.now in
    ap not (all_named dag p c.requires.case p.signed.unit.endorsed true (λ t. c.inherits_list.ensures c.if-inherits_list.true, λ h. refl))
