use Rattle.std.proofs.Common.{◌≡◌, ◌<◌, ◌≤◌, length, get_or, sym, ap, subst, arith}
use Rattle.hw_types.specs.Below.{Among}
use Rattle.hw_forks.specs.declared.votes.Vote.{Vote}
use Rattle.hw_forks.proofs.LoopLaws.{no_vote, so_far_all, so_far_more, vote_is_among}
use Rattle.hw_forks.proofs.start.highest.Goals as goal
use Rattle.hw_forks.proofs.start.highest.Goals.{then-top-vote, else-top-vote}

pub loop-vote-preserved : goal.loop-vote-preserved
loop-vote-preserved c =
    let i = c.loop-vote.invariant in
    let lt : c.loop-vote.vote-index < length c.args.votes.now = omega arith in
    elim c.if-top-vote.branch [
      | then-top-vote w ↦
          let same = w.top-is in
          let height : c.if-top-vote.top.height ≡ (get_or c.args.votes.now c.loop-vote.vote-index no_vote).height = ap (λ (v : Vote). v.height) same in
          let more = w.if-top-vote.true in (
            subst (λ (v : Vote). Among v c.args.votes.now) (sym same) (vote_is_among c.args.votes.now c.loop-vote.vote-index lt),
            so_far_more (λ (v : Vote). v.height ≤ c.if-top-vote.top.height) c.args.votes.now c.loop-vote.vote-index (λ k less. let le = i.1 k less in omega arith) (omega arith),
          )
      | else-top-vote w ↦
          let same = w.top-is in
          let height : c.if-top-vote.top.height ≡ c.loop-vote.top.height = ap (λ (v : Vote). v.height) same in
          let no_more = w.if-top-vote.false in (
            subst (λ (v : Vote). Among v c.args.votes.now) (sym same) i.0,
            so_far_more (λ (v : Vote). v.height ≤ c.if-top-vote.top.height) c.args.votes.now c.loop-vote.vote-index (λ k less. let le = i.1 k less in omega arith) (omega arith),
          )
    ]

pub returns-clause-highest : goal.returns-clause-highest
returns-clause-highest c = so_far_all (λ (v : Vote). v.height ≤ c.loop-vote.top.height) c.args.votes.now c.loop-vote.vote-index (omega arith) c.loop-vote.invariant.1
