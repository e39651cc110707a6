use Rattle.std.proofs.Common.{ℕ, ap, arith}
use Rattle.hw_forks.specs.Walk.{score_in}
use Rattle.hw_forks.proofs.MajorityLaws.{majority_below, score_weigh, weigh_bounded}
use Rattle.hw_forks.proofs.majority.majority_at.Goals as goal

pub overflow_mul-score_of : goal.overflow_mul-score_of
overflow_mul-score_of c =
    let few = score_weigh c.args.dag.now c.args.votes.now c.leading_at-block.result.0 in
    let bounded = weigh_bounded c.args.dag.now c.args.votes.now c.requires.votes in
    let score = c.score_of.ensures in
    omega arith

pub returns-else-weight-score_of-clause-none : goal.returns-else-weight-score_of-clause-none
returns-else-weight-score_of-clause-none c = majority_below c.args.dag.now c.requires.votes.graph c.args.votes.now c.requires.votes c.args.height (λ d m same.
    let leads = ap (λ (k : ℕ). score_in c.args.dag.now c.args.votes.now k) (c.leading_at-block.ensures.leads d m same) in
    let most = m.most in
    let score = c.score_of.ensures in
    let weight = c.requires.weight in
    let no_more = c.if-weight-score_of.false in
    absurd (omega arith))
