use Rattle.std.proofs.Common.{ℕ, ◌+◌, ◌<◌, ◌≤◌, List, length, get_or, take, sym, subst, arith}
use Rattle.std.proofs.lemmas.List.{take_more_set}
use Rattle.hw_forks.specs.declared.tallies.Share.{Share}
use Rattle.hw_forks.specs.Walk.{HoldsShares}
use Rattle.hw_forks.proofs.LoopLaws.{no_vote, vote_is_among}
use Rattle.hw_forks.proofs.ShareLaws.{holds_none, holds_still, holds_more}
use Rattle.hw_forks.proofs.tallies.share_out.Goals as goal
use Rattle.hw_forks.proofs.tallies.share_out.Goals.{in-Some, in_default}

pub loop-vote-init : goal.loop-vote-init
loop-vote-init c = (omega arith, holds_none c.args.dag.now c.args.place)

pub child_towards-requires-clause-vote : goal.child_towards-requires-clause-vote
child_towards-requires-clause-vote c = c.requires.votes.each (get_or c.args.votes.now c.loop-vote.vote-index no_vote) (vote_is_among c.args.votes.now c.loop-vote.vote-index (omega arith))

pub loop-vote-preserved : goal.loop-vote-preserved
loop-vote-preserved c =
    let i = c.loop-vote.invariant in
    let lt : c.loop-vote.vote-index < length c.args.votes.now = omega arith in
    let long = c.loop-vote.auto.shares in
    let large = c.requires.room in
    let Q : ℕ → List Share → Type 0 = λ n xs. (n ≤ c.loop-vote.vote-index + 1) × HoldsShares c.args.dag.now (take (c.loop-vote.vote-index + 1) c.args.votes.now) c.args.place (take n xs) in
    elim c.match-child_towards.branch [
      | in-Some w ↦
          let own : Share = record { child = w.in-Some.child; weight = (get_or c.args.votes.now c.loop-vote.vote-index no_vote).weight } in
          let room : c.loop-vote.count < length c.loop-vote.shares = omega arith in
          let more = holds_more c.args.dag.now c.args.place c.requires.votes.graph c.args.votes.now c.requires.votes c.loop-vote.vote-index lt (take c.loop-vote.count c.loop-vote.shares) w.in-Some.child w.in-Some.ensures.child i.1 in
          let put = take_more_set c.loop-vote.shares c.loop-vote.count own room in
          rw (w.shares-is, w.count-is) (
            (omega arith),
            subst (HoldsShares c.args.dag.now (take (c.loop-vote.vote-index + 1) c.args.votes.now) c.args.place) (sym put) more,
          )
      | in_default w ↦
          rw (w.shares-is, w.count-is) (
            (omega arith),
            holds_still c.args.dag.now c.args.place c.requires.votes.graph c.args.votes.now c.requires.votes c.loop-vote.vote-index lt (take c.loop-vote.count c.loop-vote.shares) w.in_default.ensures.none i.1,
          )
    ]
