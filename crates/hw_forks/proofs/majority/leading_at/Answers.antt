use Rattle.std.proofs.Common.{◌+◌, ◌<◌, List, length, get_or, sym, subst, arith, take}
use Rattle.std.proofs.lemmas.List.{take_all}
use Rattle.hw_forks.specs.declared.votes.Vote.{Vote}
use Rattle.hw_forks.specs.declared.majority.Leader.{Leader}
use Rattle.hw_forks.proofs.LoopLaws.{no_vote, vote_is_among}
use Rattle.hw_forks.proofs.MajorityLaws.{Leads, leads_none, leads_all, leads_lower, leads_more, weigh_more, weigh_front, weigh_bounded}
use Rattle.hw_forks.proofs.majority.leading_at.Goals as goal
use Rattle.hw_forks.proofs.majority.leading_at.Goals.{then-height-vote, else-height-vote}

pub ancestor-requires-clause-known : goal.ancestor-requires-clause-known
ancestor-requires-clause-known c = (c.requires.votes.each c.args.top c.requires.top).known

pub ancestor-requires-clause-block : goal.ancestor-requires-clause-block
ancestor-requires-clause-block c = (c.requires.votes.each c.args.top c.requires.top).block

pub ancestor-requires-clause-within : goal.ancestor-requires-clause-within
ancestor-requires-clause-within c =
    let height = (c.requires.votes.each c.args.top c.requires.top).height_is in
    let within = c.requires.within in
    omega arith

pub loop-vote-init : goal.loop-vote-init
loop-vote-init c = leads_none c.args.dag.now c.requires.votes.graph c.args.height c.ancestor.result c.args.top.block.0 c.ancestor.ensures

pub ancestor-requires-then-height-vote-clause-known : goal.ancestor-requires-then-height-vote-clause-known
ancestor-requires-then-height-vote-clause-known c = (c.requires.votes.each (get_or c.args.votes.now c.loop-vote.vote-index no_vote) (vote_is_among c.args.votes.now c.loop-vote.vote-index (omega arith))).known

pub ancestor-requires-then-height-vote-clause-block : goal.ancestor-requires-then-height-vote-clause-block
ancestor-requires-then-height-vote-clause-block c = (c.requires.votes.each (get_or c.args.votes.now c.loop-vote.vote-index no_vote) (vote_is_among c.args.votes.now c.loop-vote.vote-index (omega arith))).block

pub ancestor-requires-then-height-vote-clause-within : goal.ancestor-requires-then-height-vote-clause-within
ancestor-requires-then-height-vote-clause-within c =
    let height = (c.requires.votes.each (get_or c.args.votes.now c.loop-vote.vote-index no_vote) (vote_is_among c.args.votes.now c.loop-vote.vote-index (omega arith))).height_is in
    let within = c.if-height-vote.true in
    omega arith

pub ahead-leader-requires : goal.ahead-leader-requires
ahead-leader-requires c =
    let lt : c.loop-vote.vote-index < length c.args.votes.now = omega arith in
    let more = weigh_more c.args.votes.now c.loop-vote.vote-index lt in
    let front = weigh_front c.args.votes.now (c.loop-vote.vote-index + 1) in
    let bounded = weigh_bounded c.args.dag.now c.args.votes.now c.requires.votes in
    let small = c.loop-vote.invariant.small in
    record { bounded = omega arith }

pub loop-vote-preserved : goal.loop-vote-preserved
loop-vote-preserved c =
    let lt : c.loop-vote.vote-index < length c.args.votes.now = omega arith in
    let Q : Leader → Type 0 = λ leader. Leads c.args.dag.now (take (c.loop-vote.vote-index + 1) c.args.votes.now) c.args.height leader in
    elim c.if-height-vote.branch [
      | then-height-vote w ↦
          subst Q (sym w.leader-is) (leads_more c.args.dag.now c.requires.votes.graph c.args.height c.args.votes.now c.requires.votes c.loop-vote.vote-index lt c.loop-vote.leader w.ahead-leader.result w.ancestor-then-height-vote.result
          w.ancestor-then-height-vote.ensures w.ahead-leader.ensures c.loop-vote.invariant)
      | else-height-vote w ↦
          subst Q (sym w.leader-is) (leads_lower c.args.dag.now c.requires.votes.graph c.args.height c.args.votes.now c.requires.votes c.loop-vote.vote-index lt c.loop-vote.leader (let low = w.if-height-vote.false in omega arith) c.loop-vote.invariant)
    ]

pub returns-clause-leads : goal.returns-clause-leads
returns-clause-leads c =
    let all = take_all c.loop-vote.vote-index c.args.votes.now (omega arith) in
    leads_all c.args.dag.now c.requires.votes.graph c.args.height c.args.votes.now c.loop-vote.leader (subst (λ (votes : List Vote). Leads c.args.dag.now votes c.args.height c.loop-vote.leader) all c.loop-vote.invariant)
