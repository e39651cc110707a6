use Rattle.std.proofs.Common.{◌≡◌, ℕ, ◌+◌, ◌<◌, List, length, get_or, drop, sym, ap, subst, ◌∙◌, arith, add-zero}
use Rattle.std.proofs.lemmas.List.{get_or-drop, get_or_default}
use Rattle.std.proofs.lemmas.List.Filters.{FiltersInPlace-all, FiltersInPlace-more_no, FiltersInPlace-more_set}
use Rattle.hw_forks.specs.declared.votes.Vote.{Vote}
use Rattle.hw_forks.specs.Votes.{IsVote}
use Rattle.hw_forks.specs.Walk.{votes_towards}
use Rattle.hw_forks.proofs.LoopLaws.{no_vote, vote_is_among}
use Rattle.hw_forks.proofs.branch.keep_towards.Goals as goal
use Rattle.hw_forks.proofs.branch.keep_towards.Goals.{then-is_towards, else-is_towards}

-- what hasn't been looked at stands as it did
read_same : (xs ys : List Vote) (i : ℕ) → drop i ys ≡ drop i xs → get_or xs i no_vote ≡ get_or ys i no_vote
read_same xs ys i rest =
    let plain : i + 0 ≡ i = add-zero i in
    ap (λ (k : ℕ). get_or xs k no_vote) (sym plain) ∙ sym (get_or-drop i xs 0 no_vote) ∙ ap (λ (zs : List Vote). get_or zs 0 no_vote) (sym rest) ∙ get_or-drop i ys 0 no_vote ∙ ap (λ (k : ℕ). get_or ys k no_vote) plain

pub is_towards-requires-clause-vote : goal.is_towards-requires-clause-vote
is_towards-requires-clause-vote c =
    let long = c.loop-i.auto.votes in
    let less : c.loop-i.i < length c.args.votes.now = omega arith in
    subst (IsVote c.args.dag.now) (read_same c.args.votes.now c.loop-i.votes c.loop-i.i c.loop-i.invariant.rest) (c.requires.votes.each (get_or c.args.votes.now c.loop-i.i no_vote) (vote_is_among c.args.votes.now c.loop-i.i less))

pub loop-i-preserved : goal.loop-i-preserved
loop-i-preserved c =
    let long = c.loop-i.auto.votes in
    let less : c.loop-i.i < length c.loop-i.votes = omega arith in
    let read : get_or c.loop-i.votes c.loop-i.i no_vote ≡ get_or c.loop-i.votes c.loop-i.i (get_or c.loop-i.votes c.loop-i.i no_vote) = get_or_default c.loop-i.votes c.loop-i.i no_vote (get_or c.loop-i.votes c.loop-i.i no_vote) less in
    elim c.if-is_towards.branch [
      | then-is_towards w ↦ rw (w.votes-is, w.count-is) (FiltersInPlace-more_set c.loop-i.invariant less (sym c.is_towards.ensures ∙ w.if-is_towards.true) read)
      | else-is_towards w ↦ rw (w.votes-is, w.count-is) (FiltersInPlace-more_no c.loop-i.invariant less (sym c.is_towards.ensures ∙ w.if-is_towards.false) read)
    ]

pub returns-clause-kept : goal.returns-clause-kept
unfolding votes_towards
returns-clause-kept c = let end = c.loop-i-test.false in FiltersInPlace-all c.loop-i.invariant (omega arith)
