use Rattle.std.proofs.Common.{◌≡◌, ◌+◌, ◌<◌, Bool, length, get_or, ap, cond, ◌∙◌, sym, arith, take}
use Rattle.hw_forks.proofs.LoopLaws.{no_vote, vote_is_among}
use Rattle.hw_forks.proofs.ScoreLaws.{share, score_none, score_more}
use Rattle.hw_forks.proofs.MajorityLaws.{score_weigh, weigh_front, weigh_bounded}
use Rattle.hw_forks.proofs.majority.score_of.Goals as goal
use Rattle.hw_forks.proofs.majority.score_of.Goals.{then-is_towards, else-is_towards}

pub loop-vote-init : goal.loop-vote-init
loop-vote-init c = sym (score_none c.args.dag.now c.args.block.0)

pub is_towards-requires-clause-vote : goal.is_towards-requires-clause-vote
is_towards-requires-clause-vote c = c.requires.votes.each (get_or c.args.votes.now c.loop-vote.vote-index no_vote) (vote_is_among c.args.votes.now c.loop-vote.vote-index (omega arith))

pub overflow_add-score : goal.overflow_add-score
overflow_add-score c =
    let lt : c.loop-vote.vote-index < length c.args.votes.now = omega arith in
    let vote = get_or c.args.votes.now c.loop-vote.vote-index no_vote in
    let more = score_more c.args.dag.now c.args.votes.now c.loop-vote.vote-index no_vote c.args.block.0 lt in
    let here : share c.args.dag.now c.args.block.0 vote ≡ vote.weight = ap (λ (b : Bool). cond b vote.weight 0) (sym c.is_towards.ensures ∙ c.if-is_towards.true) in
    let few = score_weigh c.args.dag.now (take (c.loop-vote.vote-index + 1) c.args.votes.now) c.args.block.0 in
    let front = weigh_front c.args.votes.now (c.loop-vote.vote-index + 1) in
    let bounded = weigh_bounded c.args.dag.now c.args.votes.now c.requires.votes in
    let kept = c.loop-vote.invariant in
    omega arith

pub loop-vote-preserved : goal.loop-vote-preserved
loop-vote-preserved c =
    let lt : c.loop-vote.vote-index < length c.args.votes.now = omega arith in
    let vote = get_or c.args.votes.now c.loop-vote.vote-index no_vote in
    let more = score_more c.args.dag.now c.args.votes.now c.loop-vote.vote-index no_vote c.args.block.0 lt in
    let kept = c.loop-vote.invariant in
    elim c.if-is_towards.branch [
      | then-is_towards w ↦
          let here : share c.args.dag.now c.args.block.0 vote ≡ vote.weight = ap (λ (b : Bool). cond b vote.weight 0) (sym c.is_towards.ensures ∙ w.if-is_towards.true) in
          let next = w.score-is in
          omega arith
      | else-is_towards w ↦
          let here : share c.args.dag.now c.args.block.0 vote ≡ 0 = ap (λ (b : Bool). cond b vote.weight 0) (sym c.is_towards.ensures ∙ w.if-is_towards.false) in
          let next = w.score-is in
          omega arith
    ]
