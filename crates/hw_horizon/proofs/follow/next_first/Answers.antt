use Rattle.std.proofs.Common.{◌≡◌, ◌^◌, ◌-◌, sym, subst, ◌∙◌}
use Rattle.hw_dag.specs.declared.numbers.UnitNo.{UnitNo}
use Rattle.hw_dag.specs.declared.numbers.View.TheVariants as view
use Rattle.hw_horizon.specs.Bounds.{counts_over, IsFirstOf}
use Rattle.hw_horizon.proofs.FollowLaws.{none_first}
use Rattle.hw_horizon.proofs.follow.next_first.Goals as goal

pub returns-then-not-tip_counts : goal.returns-then-not-tip_counts
returns-then-not-tip_counts c = λ tip e.
    let same : c.in-Correct.tip ≡ tip = (let both : view.Correct c.in-Correct.tip ≡ view.Correct tip = sym c.in-Correct.is ∙ c.get.ensures ∙ e in cc) in
    subst (λ (n : UnitNo). IsFirstOf c.args.question.now.dag.now n.0 (counts_over c.args.question.now.weights.now c.args.question.now.dag.now c.args.question.now.block.0 c.args.question.now.quorum c.args.below.now.is_votes c.args.below.now.bound.now.firsts) (2 ^ 32 - 1)) same
    (none_first c.args.question.now.dag.now c.args.question.now.asked.graph_is c.in-Correct.tip.0 (c.args.question.now.asked.panorama_is.known c.args.validator c.in-Correct.tip (sym c.get.ensures ∙ c.in-Correct.is)) (counts_over c.args.question.now.weights.now c.args.question.now.dag.now c.args.question.now.block.0 c.args.question.now.quorum c.args.below.now.is_votes c.args.below.now.bound.now.firsts)
    (sym c.tip_counts.ensures ∙ c.if-not-tip_counts.true))
