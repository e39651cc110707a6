use Rattle.std.proofs.Common.{◌-◌, ◌<◌, ◌≤◌, List, sym, ap, subst, ◌∙◌, arith}
use Rattle.hw_types.specs.declared.unit.SignedUnit.{SignedUnit}
use Rattle.hw_dag.specs.declared.numbers.View.{View}
use Rattle.hw_dag.specs.Dag.{SettledUnit, count_of, view_at}
use Rattle.hw_rules.proofs.NewestLaws.{named_timely}
use Rattle.hw_rules.proofs.citations.timely_slots.Goals as goal

pub returns-in-Some : goal.returns-in-Some
returns-in-Some c = λ v number e.
    let newest = count_of c.args.dag.now - 1 in
    let lt : newest < count_of c.args.dag.now = let some = c.in-Some.ensures.some in omega arith in
    let slots = c.views.ensures ∙ c.panorama.ensures ∙ ap (λ (u : SettledUnit). u.panorama) c.in-Some.ensures.last in
    let signed = c.signed.ensures ∙ ap (λ (u : SettledUnit). u.signed) c.in-Some.ensures.last in
    named_timely c.args.dag.now c.requires newest lt c.args.time (subst (λ (s : SignedUnit). s.unit.time ≤ c.args.time) signed c.if-signed-time.true) v number
    (ap (λ (ws : List View). view_at ws v) (sym slots) ∙ e)
