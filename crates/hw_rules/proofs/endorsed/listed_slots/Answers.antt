use Rattle.std.proofs.Common.{◌-◌, ◌<◌, List, sym, ap, ◌∙◌, arith}
use Rattle.std.specs.List.{list_all}
use Rattle.hw_types.specs.declared.unit.Digest.{Digest}
use Rattle.hw_types.specs.declared.unit.SignedUnit.{SignedUnit}
use Rattle.hw_types.specs.Rules.{has_digest}
use Rattle.hw_dag.specs.declared.numbers.View.{View}
use Rattle.hw_dag.specs.Dag.{SettledUnit, count_of, view_at}
use Rattle.hw_rules.proofs.NewestLaws.{named_listed}
use Rattle.hw_rules.proofs.endorsed.listed_slots.Goals as goal

pub returns-in-Some : goal.returns-in-Some
returns-in-Some c = λ v number e.
    let newest = count_of c.args.dag.now - 1 in
    let lt : newest < count_of c.args.dag.now = let some = c.in-Some.ensures.some in omega arith in
    let slots = c.views.ensures ∙ c.panorama.ensures ∙ ap (λ (u : SettledUnit). u.panorama) c.in-Some.ensures.last in
    let list = c.as_slice.ensures ∙ ap (λ (s : SignedUnit). s.unit.endorsed) (c.signed.ensures ∙ ap (λ (u : SettledUnit). u.signed) c.in-Some.ensures.last) in
    let has = sym (c.has_all.ensures ∙ ap (λ (ds : List Digest). list_all (has_digest c.args.own.now) ds) list) ∙ c.if-has_all.true in
    named_listed c.args.dag.now c.requires.graph newest lt c.args.own.now (c.requires.kept newest lt) has v number
    (ap (λ (ws : List View). view_at ws v) (sym slots) ∙ e)
