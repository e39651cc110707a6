-- One slot that isn't met is enough. A unit before the first one that the panorama is behind by needs no look: the known panorama is above it.
use Rattle.std.proofs.Common.{◌≡◌, ◌<◌, List, true, sym, ap, subst, ◌∙◌}
use borrow.Author.Count.{below_more}
use Rattle.hw_dag.specs.declared.numbers.UnitNo.{UnitNo}
use Rattle.hw_dag.specs.declared.numbers.View.{View}
use Rattle.hw_dag.specs.declared.numbers.View.TheVariants as view
use Rattle.hw_dag.specs.Dag.{SettledUnit, view_at, unit_at}
use Rattle.hw_dag.specs.Views.{is_met, IsShared}
use Rattle.hw_dag.proofs.OrderLaws.{met_step}
use Rattle.hw_dag.proofs.SharedLaws.{one_unmet, seen_by_known}
use Rattle.hw_dag.proofs.consistency.is_column_met.Goals as goal
use Rattle.hw_dag.proofs.consistency.is_column_met.Goals.{in-Correct+else-no-first, else-no-first-via-then-no-first+else-not-meets, else-no-first-via-else-no-first, in_default}

pub returns-then-not-meets-clause-unmet : goal.returns-then-not-meets-clause-unmet
returns-then-not-meets-clause-unmet c = λ e.
    let row = c.panorama.ensures ∙ ap (λ (u : SettledUnit). u.panorama) c.unit.ensures in
    let low = c.get-then-no-first.ensures ∙ ap (λ (p : List View). view_at p c.args.of) row in
    one_unmet c.args.dag.now c.validators-count.ensures.graph c.args.known.now c.args.panorama.now c.requires.known c.requires.panorama
    c.loop-validator.validator c.in-Correct.no (sym c.slot-slot.ensures ∙ sym c.view.ensures ∙ c.in-Correct.is) c.args.of c.requires.of
    (sym (met_step c.args.dag.now (unit_at c.args.dag.now c.in-Correct.no.0).panorama c.args.panorama.now c.args.of c.get-then-no-first.result c.get-high.result c.meets.result low c.get-high.ensures c.meets.ensures) ∙ c.if-not-meets.true)

pub loop-validator-preserved : goal.loop-validator-preserved
loop-validator-preserved c =
    below_more
    (λ v. (number : UnitNo) → IsShared c.args.known.now c.args.panorama.now v number → is_met c.args.dag.now (view_at (unit_at c.args.dag.now number.0).panorama c.args.of) (view_at c.args.panorama.now c.args.of) ≡ true)
    c.loop-validator.validator c.loop-validator.invariant
    (λ number s. elim c.match-view.branch [
      | in-Correct+else-no-first w ↦ (
          let same : w.in-Correct.no ≡ number = (let e : view.Correct w.in-Correct.no ≡ view.Correct number = sym w.in-Correct.is ∙ c.view.ensures ∙ c.slot-slot.ensures ∙ s.here in cc) in
          let seen = λ (k : UnitNo). view_at (unit_at c.args.dag.now k.0).panorama c.args.of in
          elim w.else-no-first.branch [
            | else-no-first-via-then-no-first+else-not-meets x ↦ (
                let row = x.panorama.ensures ∙ ap (λ (u : SettledUnit). u.panorama) x.unit.ensures in
                let low = x.get-then-no-first.ensures ∙ ap (λ (p : List View). view_at p c.args.of) row ∙ ap seen same in
                sym (met_step c.args.dag.now (unit_at c.args.dag.now number.0).panorama c.args.panorama.now c.args.of x.get-then-no-first.result c.get-high.result x.meets.result low c.get-high.ensures x.meets.ensures) ∙ x.if-not-meets.false
                )
            | else-no-first-via-else-no-first x ↦ (
                let before = subst (λ (k : UnitNo). k.0 < c.first_behind-first.result) same x.if-no-first.false in
                let known = seen_by_known c.args.dag.now c.validators-count.ensures.graph c.args.known.now c.args.panorama.now c.requires.known c.requires.panorama c.requires.consistent c.args.of c.requires.of c.loop-validator.validator number s.there in
                ap (λ (w : View). is_met c.args.dag.now (seen number) w) (sym c.get-high.ensures)
                ∙ c.first_behind-first.ensures number.0 before (ap (λ (w : View). is_met c.args.dag.now (seen number) w) c.get.ensures ∙ known)
                )
          ]
          )
      | in_default w ↦ absurd (w.in_default.not-Correct number (c.view.ensures ∙ c.slot-slot.ensures ∙ s.here))
    ])
