use Rattle.std.proofs.Common.{◌≡◌, ℕ, List, get_or, refl, sym, ap, subst, ◌∙◌, arith, inl, inr}
use Rattle.std.proofs.lemmas.Bool.{cases_lt}
use Rattle.std.proofs.lemmas.List.{get_or_read}
use Rattle.hw_dag.specs.declared.numbers.View.{View}
use Rattle.hw_dag.specs.declared.numbers.View.TheVariants as view
use Rattle.hw_dag.specs.Dag.{SettledUnit, unit_at, view_at}
use Rattle.hw_light.proofs.UnderLaws.{view_within}
use Rattle.hw_light.proofs.under.mark_observed.Goals as goal

pub loop-slot-preserved : goal.loop-slot-preserved
loop-slot-preserved c =
    let i = c.loop-slot.invariant in
    let item = c.view.ensures ∙ get_or_read c.views-slot-items.result.now c.loop-slot.slot-index c.slot-item.result c.loop-slot-test.true c.slot-item.is view.Absent in
    let made = c.mark.ensures in
    let views : c.views-slot-items.result.now ≡ (unit_at c.args.dag.now c.args.no.0).panorama = c.views-slot-items.ensures ∙ c.panorama.ensures ∙ ap (λ (u : SettledUnit). u.panorama) c.unit.ensures in
    let here : view_at (unit_at c.args.dag.now c.args.no.0).panorama c.loop-slot.slot-index ≡ get_or c.views-slot-items.result.now c.loop-slot.slot-index view.Absent = ap (λ (ws : List View). view_at ws c.loop-slot.slot-index) (sym views) in
    record {
      length_is = made.length ∙ i.length_is;
      kept = λ m t. made.kept m (i.kept m t);
      all = λ v number less e. elim (cases_lt v c.loop-slot.slot-index) [
        | inl before ↦ made.kept number.0 (i.all v number before e)
        | inr above ↦
            (let same : v ≡ c.loop-slot.slot-index = omega arith in
            made.all number (item ∙ sym here ∙ subst (λ (n : ℕ). view_at (unit_at c.args.dag.now c.args.no.0).panorama n ≡ view.Correct number) same e))
      ];
      only = λ m t. elim (made.only m t) [
        | inl before ↦ i.only m before
        | inr named ↦ inr (record { slot = c.loop-slot.slot-index; number = record { 0 = m }; seen = here ∙ sym item ∙ named; is = refl })
      ];
    }

pub returns-clause-all : goal.returns-clause-all
returns-clause-all c m cites =
    let views : c.views-slot-items.result.now ≡ (unit_at c.args.dag.now c.args.no.0).panorama = c.views-slot-items.ensures ∙ c.panorama.ensures ∙ ap (λ (u : SettledUnit). u.panorama) c.unit.ensures in
    let within = view_within c.views-slot-items.result.now cites.slot cites.number (ap (λ (ws : List View). view_at ws cites.slot) views ∙ cites.seen) in
    subst (λ (n : ℕ). Rattle.hw_dag.specs.Walks.is_marked c.loop-slot.marked n ≡ Rattle.std.proofs.Common.true) cites.is
    (c.loop-slot.invariant.all cites.slot cites.number (let over = c.loop-slot-test.false in omega arith) cites.seen)
