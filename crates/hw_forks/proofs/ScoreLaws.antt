-- Scores by votes.
use Rattle.std.proofs.Common.{◌≡◌, ℕ, ◌+◌, ◌<◌, ◌≤◌, inl, inr, Bool, true, false, cond, List, [], ◌∷◌, ◌++◌, length, get_or, take, refl, sym, ap, subst, arith}
use Rattle.std.specs.Prelude.{sum_by, if◌then◌else◌}
use Rattle.std.proofs.lemmas.List.Sums.{sum_by-cons, sum_by_push, sum_by_more}
use Rattle.hw_types.specs.Below.{Among}
use Rattle.hw_dag.specs.Dag.{UnitGraph, count_of}
use Rattle.hw_dag.specs.Admission.{IsGraph}
use Rattle.hw_dag.specs.Lanes.{IsAncestor}
use Rattle.hw_forks.specs.declared.votes.Vote.{Vote}
use Rattle.hw_forks.specs.Votes.{IsVote}
use Rattle.hw_forks.specs.Walk.{is_over, score_in}
use Rattle.hw_forks.proofs.AncestorLaws.{over_anc, anc_over}

-- what a vote adds to the score of a block
abbrev pub share : UnitGraph → ℕ → Vote → ℕ
share dag c vote = if is_over dag c vote.block.0 then vote.weight else 0

share_most : (b : Bool) (w : ℕ) → cond b w 0 ≤ w
share_most true w = omega arith
share_most false w = omega arith

pub score_none : (dag : UnitGraph) (c : ℕ) → score_in dag [] c ≡ 0
unfolding score_in
score_none dag c = refl

pub score_push : (dag : UnitGraph) (votes : List Vote) (vote : Vote) (c : ℕ) → score_in dag (votes ++ vote ∷ []) c ≡ score_in dag votes c + share dag c vote
unfolding score_in
score_push dag votes vote c = sum_by_push (share dag c) votes vote

pub score_more : (dag : UnitGraph) (votes : List Vote) (i : ℕ) (d : Vote) (c : ℕ) → i < length votes → score_in dag (take (i + 1) votes) c ≡ score_in dag (take i votes) c + share dag c (get_or votes i d)
unfolding score_in
score_more dag votes i d c lt = sum_by_more (share dag c) votes i d lt

pub score_most : (dag : UnitGraph) (votes : List Vote) (c : ℕ) → score_in dag votes c ≤ sum_by (λ (vote : Vote). vote.weight) votes
unfolding score_in
score_most dag [] c = omega arith
score_most dag (vote ∷ votes) c =
    let rest = score_most dag votes c in
    let here = share_most (is_over dag c vote.block.0) vote.weight in
    omega (arith, sum_by-cons (share dag c) vote votes, sum_by-cons (λ (v : Vote). v.weight) vote votes)

module _ (dag : UnitGraph) (g : IsGraph dag) where
  -- what has a score is voted for
  pub score_some : (votes : List Vote) (c : ℕ) → 0 < score_in dag votes c → (vote : Vote) × Among vote votes × IsAncestor dag c vote.block.0
  unfolding score_in
  score_some [] c lt = absurd (omega arith)
  score_some (vote ∷ votes) c lt = go (is_over dag c vote.block.0) refl (λ h. score_some votes c h)
    where
      go : (t : Bool) → is_over dag c vote.block.0 ≡ t → (0 < sum_by (share dag c) votes → (v : Vote) × Among v votes × IsAncestor dag c v.block.0) → (v : Vote) × Among v (vote ∷ votes) × IsAncestor dag c v.block.0
      go true e later = (vote, inl refl, over_anc dag g (count_of dag) c vote.block.0 e)
      go false e later =
          let none : share dag c vote ≡ 0 = ap (λ (b : Bool). cond b vote.weight 0) e in
          let rest = later (omega (arith, sum_by-cons (share dag c) vote votes)) in
          (rest.0, inr rest.1, rest.2)

  -- what is voted for has a score
  pub score_has : (votes : List Vote) (c : ℕ) (vote : Vote) → Among vote votes → IsVote dag vote → IsAncestor dag c vote.block.0 → 0 < score_in dag votes c
  unfolding score_in
  score_has [] c vote m v h = absurd m
  score_has (first ∷ votes) c vote (inl e) v h =
      let over : is_over dag c first.block.0 ≡ true = subst (λ (x : Vote). is_over dag c x.block.0 ≡ true) (sym e) (anc_over dag g c vote.block.0 v.known h) in
      let here : share dag c first ≡ first.weight = ap (λ (b : Bool). cond b first.weight 0) over in
      let some : 0 < first.weight = subst (λ (x : Vote). 0 < x.weight) (sym e) v.some in
      omega (arith, sum_by-cons (share dag c) first votes)
  score_has (first ∷ votes) c vote (inr m) v h =
      let rest = score_has votes c vote m v h in
      omega (arith, sum_by-cons (share dag c) first votes)
