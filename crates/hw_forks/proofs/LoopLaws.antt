-- What loops over votes keep.
use Rattle.std.proofs.Common.{◌≡◌, ◌≢◌, ℕ, ◌+◌, ◌<◌, ◌≤◌, ◌⊎◌, inl, inr, Bool, true, false, List, length, get_or, take, Option, refl, ap, subst, arith}
use Rattle.std.specs.Prelude.{if◌then◌else◌}
use Rattle.std.proofs.lemmas.Bool.{cases_lt}
use Rattle.hw_types.specs.Below.{Among}
use Rattle.hw_dag.specs.declared.numbers.UnitNo.{UnitNo}
use Rattle.hw_dag.specs.Dag.{UnitGraph, count_of}
use Rattle.hw_dag.specs.Admission.{IsGraph}
use Rattle.hw_dag.specs.Lanes.{IsAncestor}
use Rattle.hw_dag.proofs.PlaceLaws.{among_place, place_is_among}
use Rattle.hw_forks.specs.declared.votes.Vote.{Vote}
use Rattle.hw_forks.specs.Votes.{AreVotes}
use Rattle.hw_forks.specs.Walk.{is_over, score_in, IsChild}
use Rattle.hw_forks.proofs.AncestorLaws.{over_anc, anc_over, one_child}
use Rattle.hw_forks.proofs.ScoreLaws.{share, score_more}

-- what stands for a vote where there is none
abbrev pub no_vote : Vote
no_vote = record { block = record { 0 = 0 }; height = 0; weight = 0 }

-- the fact of each vote so far
abbrev pub EachSoFar : (Vote → Type 0) → List Vote → ℕ → Type 0
EachSoFar P votes i = (k : ℕ) → k < i → P (get_or votes k no_vote)

pub so_far_all : (P : Vote → Type 0) (votes : List Vote) (i : ℕ) → length votes ≤ i → EachSoFar P votes i → (vote : Vote) → Among vote votes → P vote
so_far_all P votes i le each vote m =
    let k = among_place no_vote vote votes m in
    let lt = k.1 in
    subst P k.2 (each k.0 (omega arith))

pub so_far_more : (P : Vote → Type 0) (votes : List Vote) (i : ℕ) → EachSoFar P votes i → P (get_or votes i no_vote) → EachSoFar P votes (i + 1)
so_far_more P votes i each here k lt = elim (cases_lt k i) [
  | inl less ↦ each k less
  | inr above ↦ (let same : i ≡ k = omega arith in subst (λ (n : ℕ). P (get_or votes n no_vote)) same here)
]

pub vote_is_among : (votes : List Vote) (i : ℕ) → i < length votes → Among (get_or votes i no_vote) votes
vote_is_among votes i lt = place_is_among no_vote votes i lt

pub eq_cases : (m n : ℕ) → (m ≡ n) ⊎ (m ≢ n)
eq_cases m n = elim (cases_lt m n) [
  | inl less ↦ inr (λ e. absurd (omega arith))
  | inr above ↦ elim (cases_lt n m) [ inl more ↦ inr (λ e. absurd (omega arith)) | inr below ↦ inl (omega arith) ]
]

-- ---- what a vote adds to the scores of the children of a place

module _ (dag : UnitGraph) (g : IsGraph dag) (place : Option UnitNo) where
  -- a vote towards none of them
  abbrev pub HasNone : Vote → Type 0
  HasNone vote = (c : ℕ) → IsChild dag place c → IsAncestor dag c vote.block.0 → ⊥

  -- a vote towards this one
  abbrev pub HasChild : Vote → ℕ → Type 0
  HasChild vote d = IsChild dag place d × IsAncestor dag d vote.block.0

  none_share : (vote : Vote) (c : ℕ) → HasNone vote → IsChild dag place c → share dag c vote ≡ 0
  none_share vote c none k = go (is_over dag c vote.block.0) refl
    where
      go : (b : Bool) → is_over dag c vote.block.0 ≡ b → (if b then vote.weight else 0) ≡ 0
      go true e = absurd (none c k (over_anc dag g (count_of dag) c vote.block.0 e))
      go false e = refl

  own_share : (vote : Vote) (d : ℕ) → HasChild vote d → vote.block.0 < count_of dag → share dag d vote ≡ vote.weight
  own_share vote d h lt = ap (λ (b : Bool). if b then vote.weight else 0) (anc_over dag g d vote.block.0 lt h.1)

  other_share : (vote : Vote) (c d : ℕ) → HasChild vote d → vote.block.0 < count_of dag → IsChild dag place c → c ≢ d → share dag c vote ≡ 0
  other_share vote c d h lt k differ = go (is_over dag c vote.block.0) refl
    where
      go : (b : Bool) → is_over dag c vote.block.0 ≡ b → (if b then vote.weight else 0) ≡ 0
      go true e = absurd (differ (one_child dag g place c d vote.block.0 k h.0 lt (over_anc dag g (count_of dag) c vote.block.0 e) h.1))
      go false e = refl

  module _ (votes : List Vote) (are : AreVotes dag votes) (i : ℕ) (lt : i < length votes) where
    abbrev vote : Vote
    vote = get_or votes i no_vote

    abbrev front : List Vote
    front = take i votes

    abbrev more : List Vote
    more = take (i + 1) votes

    known : vote.block.0 < count_of dag
    known = (are.each vote (vote_is_among votes i lt)).known

    score_is : (c : ℕ) → score_in dag more c ≡ score_in dag front c + share dag c vote
    score_is c = score_more dag votes i no_vote c lt

    pub none_stays : HasNone vote → (c : ℕ) → IsChild dag place c → score_in dag more c ≡ score_in dag front c
    none_stays none c k = let s = score_is c in let n = none_share vote c none k in omega arith

    pub other_stays : (d : ℕ) → HasChild vote d → (c : ℕ) → IsChild dag place c → c ≢ d → score_in dag more c ≡ score_in dag front c
    other_stays d h c k differ = let s = score_is c in let n = other_share vote c d h known k differ in omega arith

    pub child_more : (d : ℕ) → HasChild vote d → score_in dag more d ≡ score_in dag front d + vote.weight
    child_more d h = let s = score_is d in let n = own_share vote d h known in omega arith
