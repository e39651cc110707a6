use Rattle.std.proofs.Common.{◌+◌, sym, ap, subst, ◌∙◌, arith}
use Rattle.hw_horizon.specs.Bounds.{tip_in}
use Rattle.hw_horizon.specs.declared.follow.Span.{Span}
use Rattle.hw_horizon.proofs.FollowLaws.{HasSame, same_stretched, same_kept}
use Rattle.hw_horizon.proofs.follow.changed_span.Goals as goal
use Rattle.hw_horizon.proofs.follow.changed_span.Goals.{then-not-is_same, else-not-is_same}

pub loop-v-preserved : goal.loop-v-preserved
loop-v-preserved c = elim c.if-not-is_same.branch [
  | then-not-is_same w ↦
      subst (λ (s : Span). HasSame c.args.panorama.now c.args.tips.now s (c.loop-v.v + 1)) (sym w.span-is)
      (same_stretched c.args.panorama.now c.args.tips.now c.loop-v.span w.stretched-span.result c.loop-v.v c.loop-v.invariant w.stretched-span.ensures.within w.stretched-span.ensures.to w.stretched-span.ensures.outside)
  | else-not-is_same w ↦
      subst (λ (s : Span). HasSame c.args.panorama.now c.args.tips.now s (c.loop-v.v + 1)) (sym w.span-is)
      (same_kept c.args.panorama.now c.args.tips.now c.loop-v.span c.loop-v.v c.loop-v.invariant (c.is_same.ensures w.if-not-is_same.false ∙ ap tip_in c.get.ensures))
]

pub returns-clause-same : goal.returns-clause-same
returns-clause-same c = λ v lt out.
    let past = c.loop-v-test.false in
    let end = c.validators-v-end.ensures.validators in
    c.loop-v.invariant.same v (omega arith) out
