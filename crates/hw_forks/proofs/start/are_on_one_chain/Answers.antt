use Rattle.std.proofs.Common.{◌≡◌, ◌<◌, ℕ, length, get_or, rules, sym, subst, arith}
use Rattle.hw_dag.specs.Lanes.{IsAncestor, itself}
use Rattle.hw_forks.specs.declared.votes.Vote.{Vote}
use Rattle.hw_forks.proofs.LoopLaws.{no_vote, so_far_all, so_far_more, vote_is_among}
use Rattle.hw_forks.proofs.start.are_on_one_chain.Goals as goal
use Rattle.hw_forks.proofs.start.are_on_one_chain.Goals.{then-eq-via-then-eq, then-eq-via-else-eq+then-eq-2}

pub loop-vote-init : goal.loop-vote-init
loop-vote-init c = (λ k lt. absurd (omega arith), itself)

pub loop-vote-preserved-then-eq : goal.loop-vote-preserved-then-eq
loop-vote-preserved-then-eq c =
    let i = c.loop-vote.invariant in
    elim c.then-eq.branch [
      | then-eq-via-then-eq w ↦
          let same : (get_or c.args.votes.now c.loop-vote.vote-index no_vote).block.0 ≡ c.loop-vote.known.0 = search rules in (
            so_far_more (λ (v : Vote). IsAncestor c.args.dag.now v.block.0 c.args.top.block.0) c.args.votes.now c.loop-vote.vote-index i.0 (subst (λ (n : ℕ). IsAncestor c.args.dag.now n c.args.top.block.0) (sym same) i.1),
            i.1,
          )
      | then-eq-via-else-eq+then-eq-2 w ↦
          let same : (get_or c.args.votes.now c.loop-vote.vote-index no_vote).block.0 ≡ c.args.top.block.0 = search rules in (
            so_far_more (λ (v : Vote). IsAncestor c.args.dag.now v.block.0 c.args.top.block.0) c.args.votes.now c.loop-vote.vote-index i.0 (subst (λ (n : ℕ). IsAncestor c.args.dag.now n c.args.top.block.0) (sym same) itself),
            i.1,
          )
    ]

pub leads_up-requires-clause-known : goal.leads_up-requires-clause-known
leads_up-requires-clause-known c = (c.requires.votes.each c.args.top c.requires.top).known

pub leads_up-requires-clause-within : goal.leads_up-requires-clause-within
leads_up-requires-clause-within c =
    let lt : c.loop-vote.vote-index < length c.args.votes.now = omega arith in
    let height = (c.requires.votes.each c.args.top c.requires.top).height_is in
    let le = c.requires.highest (get_or c.args.votes.now c.loop-vote.vote-index no_vote) (vote_is_among c.args.votes.now c.loop-vote.vote-index lt) in
    omega arith

pub returns : goal.returns
returns c e = so_far_all (λ (v : Vote). IsAncestor c.args.dag.now v.block.0 c.args.top.block.0) c.args.votes.now c.loop-vote.vote-index (omega arith) c.loop-vote.invariant.0
