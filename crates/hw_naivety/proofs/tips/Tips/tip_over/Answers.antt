use Rattle.std.proofs.Common.{◌≡◌, ℕ, inl, inr, subst, ◌∙◌, arith}
use Rattle.std.proofs.lemmas.Bool.{cases_lt}
use Rattle.hw_naivety.proofs.SharedLaws.{IsOver, over_raised, tip_of_all}
use Rattle.hw_naivety.proofs.tips.Tips.tip_over.Goals as goal

pub loop-slot-preserved : goal.loop-slot-preserved
loop-slot-preserved c =
    let sight = c.args.sight.now in
    let dag = sight.dag.now in
    let panorama = sight.panorama.now in
    let endorsed = sight.endorsed.now in
    let v = c.args.creator in
    let r = c.in_ok-tip-2.ensures.raised in
    let now = c.loop-slot.slot in
    let raised = c.in_ok-tip-2.tip in
    let i = c.loop-slot.invariant in (
      r.naive,
      over_raised dag panorama endorsed v c.args.shared.now.source.slot now c.loop-slot.tip raised r i.1,
      (λ slot from less. elim (cases_lt slot now) [
        | inl before ↦ over_raised dag panorama endorsed v slot now c.loop-slot.tip raised r (i.2 slot from before)
        | inr above ↦ (let same : now ≡ slot = omega arith in subst (λ (k : ℕ). IsOver dag panorama endorsed v k raised) same r.more)
      ]),
      c.raise_over-in-loop-slot.ensures.room ∙ i.3,
    )

pub returns-clause-tip : goal.returns-clause-tip
returns-clause-tip c =
    let sight = c.args.sight.now in
    let s = c.requires.sight in
    let i = c.loop-slot.invariant in
    let over = c.loop-slot-test.false in
    tip_of_all sight.dag.now s.graph_is sight.panorama.now s.panorama_is sight.endorsed.now c.requires.lists c.args.self.now c.requires.tips sight.validators c.args.creator c.args.shared.now.source.slot c.span_for-span.result
    c.loop-slot.slot c.loop-slot.tip s.validators_are c.requires.creator c.span_for-span.ensures (omega (arith, over)) i.0 i.1 i.2
