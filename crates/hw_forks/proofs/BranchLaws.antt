-- The walk by the votes of one branch.
use Rattle.std.proofs.Common.{◌≡◌, ℕ, ◌+◌, ◌<◌, ◌≤◌, inl, inr, Bool, true, false, cond, not, List, [], ◌∷◌, length, Option, Some, None, refl, sym, ap, subst, ◌∙◌, arith}
use Rattle.std.specs.Prelude.{sum_by, filter, IfSome, if◌then◌else◌}
use Rattle.std.proofs.lemmas.Bool.{cases_lt}
use Rattle.std.proofs.lemmas.List.Sums.{sum_by-cons}
use Rattle.std.proofs.lemmas.List.Filters.{sum_by-filter_both}
use Rattle.hw_types.specs.Below.{Among}
use Rattle.hw_types.specs.Votes.{is_block}
use Rattle.hw_types.proofs.WordsLaws.{never_both}
use Rattle.hw_dag.specs.declared.numbers.UnitNo.{UnitNo}
use Rattle.hw_dag.specs.Dag.{UnitGraph, count_of, node_at}
use Rattle.hw_dag.specs.Admission.{IsGraph, height_above}
use Rattle.hw_dag.specs.Lanes.{IsAncestor, itself, further}
use Rattle.hw_dag.proofs.PlaceLaws.{among_place}
use Rattle.hw_forks.specs.declared.votes.Vote.{Vote}
use Rattle.hw_forks.specs.Votes.{IsVote, AreVotes}
use Rattle.hw_forks.specs.Walk.{is_over, score_in, weight_in, votes_towards, Yields, IsBest, WalksTo, stops, goes, IsCommon, IsPassed, NoChildHasMajority}
use Rattle.hw_forks.proofs.AncestorLaws.{over_anc, anc_over, anc_trans, anc_height, anc_between}
use Rattle.hw_forks.proofs.ScoreLaws.{share, score_some}
use Rattle.hw_forks.proofs.LoopLaws.{no_vote}
use Rattle.hw_forks.proofs.StartLaws.{passed_down, begins}
use Rattle.hw_forks.proofs.MajorityLaws.{score_all}

-- what is kept is a vote towards the block
pub towards_is : (dag : UnitGraph) (c : ℕ) (votes : List Vote) (vote : Vote) → Among vote (votes_towards dag c votes) → Among vote votes × (is_over dag c vote.block.0 ≡ true)
unfolding votes_towards
towards_is dag c [] vote m = absurd m
towards_is dag c (first ∷ votes) vote m = go (is_over dag c first.block.0) refl m (towards_is dag c votes vote)
  where
    go : (b : Bool) → is_over dag c first.block.0 ≡ b → Among vote (cond b (first ∷ filter (λ (v : Vote). is_over dag c v.block.0) votes) (filter (λ (v : Vote). is_over dag c v.block.0) votes))
        → (Among vote (filter (λ (v : Vote). is_over dag c v.block.0) votes) → Among vote votes × (is_over dag c vote.block.0 ≡ true)) → Among vote (first ∷ votes) × (is_over dag c vote.block.0 ≡ true)
    go true e (inl same) later = (inl same, subst (λ (v : Vote). is_over dag c v.block.0 ≡ true) same e)
    go true e (inr k) later = let rest = later k in (inr rest.0, rest.1)
    go false e k later = let rest = later k in (inr rest.0, rest.1)

-- each vote towards the block is kept
pub towards_has : (dag : UnitGraph) (c : ℕ) (votes : List Vote) (vote : Vote) → Among vote votes → is_over dag c vote.block.0 ≡ true → Among vote (votes_towards dag c votes)
unfolding votes_towards
towards_has dag c [] vote m t = absurd m
towards_has dag c (first ∷ votes) vote (inl same) t =
    let here : is_over dag c first.block.0 ≡ true = subst (λ (v : Vote). is_over dag c v.block.0 ≡ true) (sym same) t in
    subst (λ (b : Bool). Among vote (cond b (first ∷ filter (λ (v : Vote). is_over dag c v.block.0) votes) (filter (λ (v : Vote). is_over dag c v.block.0) votes))) (sym here) (inl same)
towards_has dag c (first ∷ votes) vote (inr m) t = go (is_over dag c first.block.0) (towards_has dag c votes vote m t)
  where
    go : (b : Bool) → Among vote (filter (λ (v : Vote). is_over dag c v.block.0) votes) → Among vote (cond b (first ∷ filter (λ (v : Vote). is_over dag c v.block.0) votes) (filter (λ (v : Vote). is_over dag c v.block.0) votes))
    go true k = inr k
    go false k = k

-- they weigh no more than all
towards_weigh : (dag : UnitGraph) (c : ℕ) (votes : List Vote) → sum_by (λ (v : Vote). v.weight) (votes_towards dag c votes) ≤ sum_by (λ (v : Vote). v.weight) votes
unfolding votes_towards
towards_weigh dag c votes =
    let both = sum_by-filter_both (λ (v : Vote). is_over dag c v.block.0) (λ (v : Vote). not (is_over dag c v.block.0)) (λ v. refl) (λ (v : Vote). v.weight) votes in
    omega arith

pub towards_are : (dag : UnitGraph) (c : ℕ) (votes : List Vote) → AreVotes dag votes → AreVotes dag (votes_towards dag c votes)
towards_are dag c votes are = record {
  graph = are.graph;
  each = λ vote m. are.each vote (towards_is dag c votes vote m).0;
  bounded = (let le = towards_weigh dag c votes in let all = are.bounded in omega arith);
}

module _ (dag : UnitGraph) (g : IsGraph dag) where
  -- all that are kept descend from the block
  pub towards_common : (c : ℕ) (votes : List Vote) → c < count_of dag → is_block (node_at dag c) ≡ true → IsCommon dag (votes_towards dag c votes) c
  towards_common c votes lt t = record {
    known = lt;
    block = t;
    over = λ vote m. over_anc dag g (count_of dag) c vote.block.0 (towards_is dag c votes vote m).1;
  }

  -- a block from which all descend is no higher than that of a vote
  pub common_lower : (votes : List Vote) (place : Option UnitNo) (vote : Vote) → Among vote votes → IsVote dag vote → IfSome place (λ number. IsCommon dag votes number.0) → height_above dag place ≤ height_above dag (Some vote.block)
  common_lower votes None vote m is common = omega arith
  common_lower votes (Some number) vote m is common = let le = anc_height dag g number.0 vote.block.0 is.known (common.over vote m) in omega arith

  -- a vote that isn't kept is for no descendant of the block
  share_left : (c d : ℕ) (vote : Vote) → vote.block.0 < count_of dag → IsAncestor dag c d → is_over dag c vote.block.0 ≡ false → share dag d vote ≡ 0
  share_left c d vote lt h left = go (is_over dag d vote.block.0) refl
    where
      go : (b : Bool) → is_over dag d vote.block.0 ≡ b → (if b then vote.weight else 0) ≡ 0
      go true e = absurd (never_both (is_over dag c vote.block.0) (anc_over dag g c vote.block.0 lt (anc_trans dag g c d vote.block.0 h (over_anc dag g (count_of dag) d vote.block.0 e))) left)
      go false e = refl

  -- so those that are kept give the block and its descendants their scores
  score_towards : (c d : ℕ) → IsAncestor dag c d → (votes : List Vote) → ((vote : Vote) → Among vote votes → vote.block.0 < count_of dag) → score_in dag (votes_towards dag c votes) d ≡ score_in dag votes d
  unfolding score_in votes_towards
  score_towards c d h [] known = refl
  score_towards c d h (vote ∷ votes) known = go (is_over dag c vote.block.0) refl (score_towards c d h votes (λ v m. known v (inr m)))
    where
      go : (b : Bool) → is_over dag c vote.block.0 ≡ b → sum_by (share dag d) (filter (λ (v : Vote). is_over dag c v.block.0) votes) ≡ sum_by (share dag d) votes
          → sum_by (share dag d) (cond b (vote ∷ filter (λ (v : Vote). is_over dag c v.block.0) votes) (filter (λ (v : Vote). is_over dag c v.block.0) votes)) ≡ sum_by (share dag d) (vote ∷ votes)
      go true e later = sum_by-cons (share dag d) vote (filter (λ (v : Vote). is_over dag c v.block.0) votes) ∙ ap (λ (n : ℕ). share dag d vote + n) later ∙ sym (sum_by-cons (share dag d) vote votes)
      go false e later =
          let none = share_left c d vote (known vote (inl refl)) h e in
          let whole = sum_by-cons (share dag d) vote votes in
          omega arith

  module _ (c : ℕ) (votes : List Vote) (are : AreVotes dag votes) where
    score_same : (d : ℕ) → IsAncestor dag c d → score_in dag (votes_towards dag c votes) d ≡ score_in dag votes d
    score_same d h = score_towards c d h votes (λ vote m. (are.each vote m).known)

    same_yields : (d e : ℕ) → IsAncestor dag c d → IsAncestor dag c e → Yields dag (votes_towards dag c votes) d e → Yields dag votes d e
    same_yields d e h k (inl less) = inl (let a = score_same d h in let b = score_same e k in omega arith)
    same_yields d e h k (inr tie) = inr (sym (score_same d h) ∙ tie.0 ∙ score_same e k, tie.1)

    -- from a descendant of the block they walk as all votes do
    walk_within : (end place : Option UnitNo) (d : UnitNo) → place ≡ Some d → IsAncestor dag c d.0 → WalksTo dag (votes_towards dag c votes) end place → WalksTo dag votes end place
    walk_within end _ d at h (stops place same none) = stops place same (λ e k. sym (score_same e (further e d (k.parent ∙ at) h)) ∙ none e k)
    walk_within end _ d at h (goes place next best rest) =
        let above : IsAncestor dag c next.0 = further next.0 d (best.child.parent ∙ at) h in
        goes place next (record {
          child = best.child;
          some = (let same = score_same next.0 above in let some = best.some in omega arith);
          others = λ e k. elim (best.others e k) [
            | inl same ↦ inl same
            | inr yields ↦ inr (same_yields e next.0 (further e d (k.parent ∙ at) h) above yields)
          ];
        })
        (walk_within end (Some next) next refl above rest)

    -- some vote is kept
    pub towards_some : (place : Option UnitNo) → IsBest dag votes place c → 0 < length (votes_towards dag c votes)
    towards_some place best =
        let v = score_some dag g votes c best.some in
        let k = among_place no_vote v.0 (votes_towards dag c votes) (towards_has dag c votes v.0 v.1 (anc_over dag g c v.0.block.0 (are.each v.0 v.1).known v.2)) in
        let lt = k.1 in
        omega arith

    -- They have half of the weight of all at most, since no child of the place has the majority.
    pub towards_half : (place : Option UnitNo) → IsBest dag votes place c → NoChildHasMajority dag votes place
        → (0 < weight_in (votes_towards dag c votes)) × (weight_in (votes_towards dag c votes) + weight_in (votes_towards dag c votes) ≤ weight_in votes)
    towards_half place best none =
        let whole = score_all dag g c (votes_towards dag c votes) (λ vote m. (towards_is dag c votes vote m).1) in
        let same = score_same c itself in
        let some = best.some in
        elim (cases_lt (weight_in votes) (score_in dag votes c + score_in dag votes c)) [
          | inl more ↦ absurd (none c best.child (record { known = best.child.known; block = best.child.block; most = more }))
          | inr no_more ↦ (omega arith, omega arith)
        ]

    -- A walk by the votes that are kept, from a block that it passes through and that isn't below the best child, is a walk by all votes.
    next_round : (place next end : Option UnitNo) → IsBest dag votes place c → height_above dag (Some (record { 0 = c })) ≤ height_above dag next
        → IfSome next (λ number. IsPassed dag (votes_towards dag c votes) number.0) → WalksTo dag (votes_towards dag c votes) end next → WalksTo dag votes end place
    next_round place None end best up w h = absurd (omega arith)
    next_round place (Some s) end best up w h =
        let common = towards_common c votes best.child.known best.child.block in
        let v = score_some dag g (votes_towards dag c votes) s.0 (w s.0 itself).some in
        let known = (are.each v.0 (towards_is dag c votes v.0 v.1).0).known in
        let above : IsAncestor dag c s.0 = anc_between dag g c s.0 v.0.block.0 known (common.over v.0 v.1) v.2 (omega arith) in
        goes place (record { 0 = c }) best
        (walk_within end (Some (record { 0 = c })) (record { 0 = c }) refl itself (passed_down dag (votes_towards dag c votes) (towards_are dag c votes are) c s.0 above w end h))

-- The walk by all votes passes through the place, and goes on from there as the walk by the votes that are kept.
pub record IsUnderWay (dag : UnitGraph) (all kept : List Vote) (place : Option UnitNo) : Type 0 where
  pub are : AreVotes dag kept
  pub passed : IfSome place (λ number. IsPassed dag kept number.0)
  pub highest : NoChildHasMajority dag kept place
  pub goes_on : (end : Option UnitNo) → WalksTo dag kept end place → WalksTo dag all end None

-- It begins with all votes.
pub under_way_first : (dag : UnitGraph) (all : List Vote) (place : Option UnitNo) → AreVotes dag all → IfSome place (λ number. IsPassed dag all number.0) → NoChildHasMajority dag all place → IsUnderWay dag all all place
under_way_first dag all place are passed highest = record {
  are = are;
  passed = passed;
  highest = highest;
  goes_on = begins dag all are place passed;
}

-- At a branching it goes on with the votes towards the best child.
pub under_way_more : (dag : UnitGraph) (all before kept : List Vote) (place next : Option UnitNo) (child : UnitNo) → IsUnderWay dag all before place → IsBest dag before place child.0 → kept ≡ votes_towards dag child.0 before
    → IfSome next (λ number. IsPassed dag kept number.0) → NoChildHasMajority dag kept next → height_above dag (Some child) ≤ height_above dag next → IsUnderWay dag all kept next
under_way_more dag all before kept place next child w best same passed highest up = record {
  are = subst (AreVotes dag) (sym same) (towards_are dag child.0 before w.are);
  passed = passed;
  highest = highest;
  goes_on = λ end h. w.goes_on end (next_round dag w.are.graph child.0 before w.are place next end best up
      (subst (λ (votes : List Vote). IfSome next (λ number. IsPassed dag votes number.0)) same passed)
      (subst (λ (votes : List Vote). WalksTo dag votes end next) same h));
}
