use Rattle.std.proofs.Common.{ap, ◌∙◌}
use Rattle.std.specs.Prelude.{nat_le}
use Rattle.hw_horizon.proofs.FollowLaws.{counts_by_sum}
use Rattle.hw_horizon.proofs.follow.tip_counts.Goals as goal

pub returns-else-below : goal.returns-else-below
returns-else-below c =
    ap (nat_le c.args.question.now.quorum) c.support.ensures
    ∙ counts_by_sum c.args.question.now.weights.now c.args.question.now.dag.now c.args.question.now.block.0 c.args.question.now.quorum c.args.below.now.is_votes c.args.below.now.bound.now.firsts c.args.tip.0 _ c.if-below.false (c.requires.supported c.if-below.false)
