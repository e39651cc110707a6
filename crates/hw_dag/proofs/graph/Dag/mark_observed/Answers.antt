use Rattle.std.proofs.Common.{◌≡◌, ℕ, List, get_or, refl, sym, ap, subst, ◌∙◌, arith, inl, inr}
use Rattle.std.proofs.lemmas.Bool.{cases_lt}
use Rattle.std.proofs.lemmas.List.{get_or_read}
use Rattle.hw_dag.specs.declared.numbers.View.{View}
use Rattle.hw_dag.specs.declared.numbers.View.TheVariants as view
use Rattle.hw_dag.specs.Dag.{SettledUnit, unit_at, view_at}
use Rattle.hw_dag.proofs.PlaceLaws.{read_unit}
use Rattle.hw_dag.proofs.graph.Dag.mark_observed.Goals as goal

pub loop-slot-preserved : goal.loop-slot-preserved
loop-slot-preserved c =
    let i = c.loop-slot.invariant in
    let unit = read_unit _ c.args.self.now c.args.no.0 c.index.result.now c.self.view_is c.requires.known c.index.ensures in
    let views : c.views-slot-items.result.now ≡ (unit_at c.args.self.now c.args.no.0).panorama = c.views-slot-items.ensures ∙ c.panorama.ensures ∙ ap (λ (u : SettledUnit). u.panorama) unit in
    let here : view_at (unit_at c.args.self.now c.args.no.0).panorama c.loop-slot.slot-index ≡ get_or c.views-slot-items.result.now c.loop-slot.slot-index view.Absent = ap (λ (ws : List View). view_at ws c.loop-slot.slot-index) (sym views) in
    let item = c.view.ensures ∙ get_or_read c.views-slot-items.result.now c.loop-slot.slot-index c.slot-item.result c.loop-slot-test.true c.slot-item.is view.Absent in
    let made = c.mark.ensures in (
      (λ m t. made.kept m (i.0 m t)),
      (λ v number lt e le. elim (cases_lt v c.loop-slot.slot-index) [
        | inl less ↦ made.kept number.0 (i.1 v number less e le)
        | inr above ↦
            let same : v ≡ c.loop-slot.slot-index = omega arith in
            made.all number (item ∙ sym here ∙ subst (λ (n : ℕ). view_at (unit_at c.args.self.now c.args.no.0).panorama n ≡ view.Correct number) same e) le
      ]),
      (λ m t. elim (made.only m t) [
        | inl before ↦ i.2 m before
        | inr named ↦ inr (record { slot = c.loop-slot.slot-index; number = record { 0 = m }; seen = here ∙ sym item ∙ named; is = refl })
      ]),
    )
