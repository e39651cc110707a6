-- One unit whose panorama isn't at most it is enough. A slot needs no look where the known panorama has it, or the last unit looked at has seen it.
use Rattle.std.proofs.Common.{rules, ◌≡◌, List, true, false, sym, ap, subst, ◌∙◌}
use borrow.Author.Count.{below_more}
use Rattle.hw_dag.specs.declared.numbers.UnitNo.{UnitNo}
use Rattle.hw_dag.specs.declared.numbers.View.{View}
use Rattle.hw_dag.specs.declared.numbers.View.TheVariants as view
use Rattle.hw_dag.specs.Dag.{SettledUnit, unit_at, view_at}
use Rattle.hw_dag.specs.Views.{HasSeen}
use Rattle.hw_dag.proofs.SharedLaws.{seen_below}
use Rattle.hw_dag.proofs.OrderLaws.{is_below_all, not_below_inconsistent}
use Rattle.hw_dag.proofs.consistency.are_others_met.Goals as goal
use Rattle.hw_dag.proofs.consistency.are_others_met.Goals.{then-is-via-then-is, then-is-via-else-is+then-has_seen}

pub returns-then-not-at_most-clause-unmet : goal.returns-then-not-at_most-clause-unmet
returns-then-not-at_most-clause-unmet c = λ e.
    let above : c.at_most.result ≡ false = search rules in
    not_below_inconsistent c.args.dag.now c.validators-validator-end.ensures.graph c.args.panorama.now c.requires.panorama c.loop-validator.validator c.in-Correct.no
    (sym c.slot-slot.ensures ∙ sym c.view-view.ensures ∙ c.in-Correct.is)
    (ap (λ (p : List View). is_below_all c.args.dag.now p c.args.panorama.now) (sym (c.panorama.ensures ∙ ap (λ (u : SettledUnit). u.panorama) c.unit.ensures)) ∙ sym c.at_most.ensures ∙ above)

pub loop-validator-preserved-then-is : goal.loop-validator-preserved-then-is
loop-validator-preserved-then-is c = (
  c.loop-validator.invariant.0,
  below_more
      (λ v. (number : UnitNo) → view_at c.args.panorama.now v ≡ view.Correct number → (view_at c.args.known.now v ≡ view.Correct number → ⊥)
      → is_below_all c.args.dag.now (unit_at c.args.dag.now number.0).panorama c.args.panorama.now ≡ true)
      c.loop-validator.validator c.loop-validator.invariant.1
      (λ number here other. elim c.then-is.branch [
        | then-is-via-then-is w ↦ (
            let same = c.is.ensures.0 w.if-is.true in
            absurd (other (sym c.slot.ensures ∙ sym same ∙ c.slot-slot.ensures ∙ here))
            )
        | then-is-via-else-is+then-has_seen w ↦ (
            let yes : w.has_seen.result ≡ true = search rules in
            seen_below c.args.dag.now c.validators-validator-end.ensures.graph c.args.panorama.now c.requires.panorama c.loop-validator.last c.loop-validator.invariant.0 c.loop-validator.validator number
            (subst (λ (seen : View). HasSeen c.args.dag.now c.loop-validator.last c.loop-validator.validator seen) (c.slot-slot.ensures ∙ here) (w.has_seen.ensures yes))
            )
      ]),
)
