use Rattle.std.proofs.Common.{◌+◌, ◌<◌, length, sym, arith}
use Rattle.hw_forks.proofs.MajorityLaws.{weigh_none, weigh_more, weigh_front}
use Rattle.hw_forks.proofs.majority.weight_of.Goals as goal

pub loop-vote-init : goal.loop-vote-init
loop-vote-init c = sym weigh_none

pub overflow_add-weight : goal.overflow_add-weight
overflow_add-weight c =
    let lt : c.loop-vote.vote-index < length c.args.votes.now = omega arith in
    let more = weigh_more c.args.votes.now c.loop-vote.vote-index lt in
    let front = weigh_front c.args.votes.now (c.loop-vote.vote-index + 1) in
    let kept = c.loop-vote.invariant in
    let bounded = c.requires.bounded in
    omega arith

pub loop-vote-preserved : goal.loop-vote-preserved
loop-vote-preserved c =
    let lt : c.loop-vote.vote-index < length c.args.votes.now = omega arith in
    let more = weigh_more c.args.votes.now c.loop-vote.vote-index lt in
    let kept = c.loop-vote.invariant in
    omega arith
