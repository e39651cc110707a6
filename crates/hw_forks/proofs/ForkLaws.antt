-- What holds of the end of the walk.
use Rattle.std.proofs.Common.{◌≡◌, ℕ, zero, suc, ◌<◌, ◌⊎◌, inl, inr, true, false, List, [], Option, Some, None, refl, sym, ap, subst, ◌∙◌, arith}
use Rattle.std.specs.Prelude.{is_some, slice_index}
use Rattle.std.specs.List.{list_any}
use Rattle.std.proofs.lemmas.Bool.{cases_lt}
use Rattle.hw_types.specs.declared.unit.Digest.{Digest}
use Rattle.hw_types.specs.declared.unit.Obs.{Obs}
use Rattle.hw_types.specs.declared.unit.Obs.TheVariants.{Absent, Correct, Faulty}
use Rattle.hw_types.specs.Graph.{is_correct, slot}
use Rattle.hw_types.specs.Below.{Among}
use Rattle.hw_types.specs.Votes.{is_block}
use Rattle.hw_types.proofs.PastLaws.{some_of, any_of}
use Rattle.hw_types.proofs.StableLaws.{both_ways}
use Rattle.hw_types.proofs.EntryLaws.{append_cases}
use Rattle.hw_types.proofs.UnionLaws.{from_left, from_right}
use Rattle.hw_types.proofs.WordsLaws.{among_slot, correct_in}
use Rattle.hw_dag.specs.declared.numbers.UnitNo.{UnitNo}
use Rattle.hw_dag.specs.declared.numbers.View.{View}
use Rattle.hw_dag.specs.declared.numbers.View.TheVariants as view
use Rattle.hw_dag.specs.Dag.{UnitGraph, unit_at, count_of, node_at, view_at, obs_of, observations, IsPanorama}
use Rattle.hw_dag.specs.Admission.{IsGraph, IsFork}
use Rattle.hw_dag.specs.Lanes.{IsAncestor, itself, further}
use Rattle.hw_dag.proofs.DepthLaws.{parent_earlier, parent_is_block}
use Rattle.hw_dag.proofs.SlotLaws.{slot_of, obs_number, length-observations}
use Rattle.hw_forks.specs.declared.votes.Vote.{Vote}
use Rattle.hw_forks.specs.Votes.{votes_of, vote_of, vote_in, AreVotes}
use Rattle.hw_forks.specs.Walk.{score_in, IsChild, WalksTo, stops, goes}
use Rattle.hw_forks.proofs.ScoreLaws.{score_some, score_has}

-- the end is the place, or a block of the graph
pub end_is : (dag : UnitGraph) (votes : List Vote) (end place : Option UnitNo) → WalksTo dag votes end place → (end ≡ place) ⊎ ((p : UnitNo) × (end ≡ Some p) × (p.0 < count_of dag) × (is_block (node_at dag p.0) ≡ true))
end_is dag votes end _ (stops place e none) = inl e
end_is dag votes end _ (goes place c best next) = elim (end_is dag votes end (Some c) next) [
  | inl e ↦ inr (c, e, best.child.known, best.child.block)
  | inr p ↦ inr p
]

module _ (dag : UnitGraph) (g : IsGraph dag) where
  -- each block descends from one without a parent
  root_within : (fuel b : ℕ) → b < fuel → b < count_of dag → is_block (node_at dag b) ≡ true → (r : ℕ) × IsChild dag None r × IsAncestor dag r b
  root_within zero b less lt t = absurd (omega arith)
  root_within (suc fuel) b less lt t = go (unit_at dag b).parent refl (root_within fuel)
    where
      go : (o : Option UnitNo) → (unit_at dag b).parent ≡ o → ((p : ℕ) → p < fuel → p < count_of dag → is_block (node_at dag p) ≡ true → (r : ℕ) × IsChild dag None r × IsAncestor dag r p) → (r : ℕ) × IsChild dag None r × IsAncestor dag r b
      go None e later = (b, record { known = lt; block = t; parent = e }, itself)
      go (Some p) e later =
          let earlier = parent_earlier dag g b p lt e in
          let r = later p.0 (omega arith) (omega arith) (parent_is_block dag g b p lt e) in
          (r.0, r.1, further b p e r.2)

  -- where there are votes, the walk comes to a block
  pub votes_end : (votes : List Vote) (are : AreVotes dag votes) (end : Option UnitNo) (vote : Vote) → Among vote votes → WalksTo dag votes end None → is_some end ≡ true
  votes_end votes are end vote m h = go None refl h
    where
      go : (place : Option UnitNo) → place ≡ None → WalksTo dag votes end place → is_some end ≡ true
      go _ e (stops place same none) = absurd (
          let is = are.each vote m in
          let r = root_within (suc vote.block.0) vote.block.0 (omega arith) is.known is.block in
          let some = score_has dag g votes r.0 vote m is r.2 in
          let zero_score = none r.0 (subst (λ (o : Option UnitNo). IsChild dag o r.0) (sym e) r.1) in
          omega arith)
      go _ e (goes place c best next) = elim (end_is dag votes end (Some c) next) [
        | inl same ↦ ap (λ (o : Option UnitNo). is_some o) same
        | inr p ↦ ap (λ (o : Option UnitNo). is_some o) p.1
      ]

  -- and where it comes to one, there are votes
  pub end_votes : (votes : List Vote) (end : Option UnitNo) → is_some end ≡ true → WalksTo dag votes end None → (vote : Vote) × Among vote votes
  end_votes votes end t h = go None refl h
    where
      go : (place : Option UnitNo) → place ≡ None → WalksTo dag votes end place → (vote : Vote) × Among vote votes
      go _ e (stops place same none) = absurd (let no_end : true ≡ false = sym t ∙ ap (λ (o : Option UnitNo). is_some o) (same ∙ e) in cc)
      go _ e (goes place c best next) = let v = score_some dag g votes c.0 best.some in (v.0, v.1)

-- ---- votes and slots

module _ (dag : UnitGraph) (weights : List ℕ) (panorama : List View) where
  slot_vote : (n v : ℕ) (number : UnitNo) → v < n → view_at panorama v ≡ view.Correct number → (vote : Vote) × Among vote (votes_of dag weights panorama n)
  unfolding votes_of
  slot_vote zero v number lt e = absurd (omega arith)
  slot_vote (suc n) v number lt e = elim (cases_lt v n) [
    | inl less ↦ (let r = slot_vote n v number less e in (r.0, from_left r.0 (votes_of dag weights panorama n) (vote_in dag (view_at panorama n) (slice_index weights n)) r.1))
    | inr above ↦
        let same : v ≡ n = omega arith in
        let here : view_at panorama n ≡ view.Correct number = ap (view_at panorama) (sym same) ∙ e in
        let vote = vote_of dag number (slice_index weights n) in
        (vote, from_right vote (votes_of dag weights panorama n) (vote_in dag (view_at panorama n) (slice_index weights n)) (subst (λ (w : View). Among vote (vote_in dag w (slice_index weights n))) (sym here) (inl refl)))
  ]

  vote_slot : (n : ℕ) (vote : Vote) → Among vote (votes_of dag weights panorama n) → (v : ℕ) × (number : UnitNo) × (view_at panorama v ≡ view.Correct number)
  unfolding votes_of
  vote_slot zero vote m = absurd m
  vote_slot (suc n) vote m = elim (append_cases vote (votes_of dag weights panorama n) (vote_in dag (view_at panorama n) (slice_index weights n)) m) [
    | inl before ↦ vote_slot n vote before
    | inr last ↦ go (view_at panorama n) refl last
  ]
    where
      go : (w : View) → view_at panorama n ≡ w → Among vote (vote_in dag w (slice_index weights n)) → (v : ℕ) × (number : UnitNo) × (view_at panorama v ≡ view.Correct number)
      go view.Absent e h = absurd h
      go view.Faulty e h = absurd h
      go (view.Correct number) e h = (n, number, e)

  correct_is : (o : Obs) → is_correct o ≡ true → (d : Digest) × (o ≡ Correct d)
  correct_is Absent t = absurd cc
  correct_is Faulty t = absurd cc
  correct_is (Correct d) t = (d, refl)

  -- a slot is Correct where there is a vote
  pub votes_correct : (n : ℕ) (vote : Vote) → Among vote (votes_of dag weights panorama n) → list_any is_correct (observations dag panorama) ≡ true
  votes_correct n vote m =
      let s = vote_slot n vote m in
      let o : slot (observations dag panorama) s.0 ≡ Correct (unit_at dag s.1.0).digest = slot_of dag panorama s.0 ∙ ap (obs_of dag) s.2 in
      any_of is_correct (Correct (unit_at dag s.1.0).digest) (observations dag panorama) (correct_in (observations dag panorama) s.0 (unit_at dag s.1.0).digest o).0 refl

  -- and there is a vote where one is
  pub correct_votes : IsPanorama dag panorama → list_any is_correct (observations dag panorama) ≡ true → (vote : Vote) × Among vote (votes_of dag weights panorama dag.validators)
  correct_votes ip t =
      let o = some_of is_correct (observations dag panorama) t in
      let d = correct_is o.0 o.2 in
      let v = among_slot (observations dag panorama) o.0 o.1 in
      let k = obs_number dag (view_at panorama v.0) d.0 (sym (slot_of dag panorama v.0) ∙ v.2 ∙ d.1) in
      let long = length-observations dag panorama in
      let many = ip.length_is in
      let lt = v.1 in
      slot_vote dag.validators v.0 k.0 (omega arith) k.1

  -- The end of the walk is a fork choice of the panorama.
  pub end_is_fork : (g : IsGraph dag) → IsPanorama dag panorama → AreVotes dag (votes_of dag weights panorama dag.validators) → (end : Option UnitNo) → WalksTo dag (votes_of dag weights panorama dag.validators) end None → IsFork dag (observations dag panorama) end
  end_is_fork g ip are end h = record {
    some = both_ways (is_some end) (list_any is_correct (observations dag panorama))
        (λ t. let v = end_votes dag g (votes_of dag weights panorama dag.validators) end t h in votes_correct dag.validators v.0 v.1)
        (λ t. let v = correct_votes ip t in votes_end dag g (votes_of dag weights panorama dag.validators) are end v.0 v.1 h);
    known = λ number e. (whole number e).0;
    block = λ number e. (whole number e).1;
  }
    where
      whole : (number : UnitNo) → end ≡ Some number → (number.0 < count_of dag) × (is_block (node_at dag number.0) ≡ true)
      whole number e = elim (end_is dag (votes_of dag weights panorama dag.validators) end None h) [
        | inl none ↦ absurd (let no_end : Some number ≡ None = sym e ∙ none in cc)
        | inr p ↦ (let same : p.0 ≡ number = (let s : Some p.0 ≡ Some number = sym p.1 ∙ e in cc) in
            (subst (λ (q : UnitNo). q.0 < count_of dag) same p.2, subst (λ (q : UnitNo). is_block (node_at dag q.0) ≡ true) same p.3))
      ]

-- where there are no votes, the walk doesn't begin
pub no_votes_walk : (dag : UnitGraph) → WalksTo dag [] None None
unfolding score_in
no_votes_walk dag = stops None refl (λ c k. refl)
