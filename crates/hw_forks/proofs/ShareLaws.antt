-- Shares of votes, and tallies of shares.
use Rattle.std.proofs.Common.{◌≡◌, ◌≢◌, ℕ, ◌+◌, ◌<◌, ◌≤◌, ◌^◌, ◌⊎◌, inl, inr, Bool, true, false, cond, List, [], ◌∷◌, ◌++◌, length, get_or, take, Option, Some, None, refl, sym, ap, subst, ◌∙◌, arith, eqb-true, eq-eqb}
use Rattle.std.specs.Prelude.{sum_by, ◌==◌, IfSome, IfNone, if◌then◌else◌}
use Rattle.std.specs.List.Sorted.{IsPermutation, IsNonDecreasingBy}
use Rattle.std.proofs.lemmas.Bool.{cases_lt}
use Rattle.std.proofs.lemmas.List.Sorted.{All-permutation, sum_by-IsPermutation}
use Rattle.std.proofs.lemmas.List.Sums.{sum_by-cons, sum_by_push, sum_by_more, sum_by_more_le_part}
use Rattle.hw_types.specs.Graph.{digest_lt}
use Rattle.hw_types.specs.Below.{Among}
use Rattle.hw_types.proofs.EntryLaws.{append_cases}
use Rattle.hw_types.proofs.OrderedLaws.{all_among, among_all}
use Rattle.hw_types.proofs.WordsLaws.{never_both}
use Rattle.hw_dag.specs.declared.numbers.UnitNo.{UnitNo}
use Rattle.hw_dag.specs.Dag.{UnitGraph, unit_at, count_of}
use Rattle.hw_dag.specs.Admission.{IsGraph}
use Rattle.hw_dag.proofs.PlaceLaws.{place_is_among}
use Rattle.hw_forks.specs.declared.votes.Vote.{Vote}
use Rattle.hw_forks.specs.declared.tallies.Share.{Share}
use Rattle.hw_forks.specs.Votes.{AreVotes}
use Rattle.hw_forks.specs.Walk.{score_in, IsChild, Yields, IsBest, HasNoSupport, tally_in, AreShares, HoldsShares, ComesBefore, IsHeavier, whole_tally, IsHeaviest}
use Rattle.hw_forks.proofs.BestLaws.{digest_lt_trans, digest_cases}
use Rattle.hw_forks.proofs.ScoreLaws.{score_none}
use Rattle.hw_forks.proofs.LoopLaws.{no_vote, vote_is_among, eq_cases, HasNone, HasChild, none_stays, other_stays, child_more}

-- what stands for a share where there is none
abbrev pub no_share : Share
no_share = record { child = record { 0 = 0 }; weight = 0 }

-- what a share adds to the tally of a child
abbrev part : ℕ → Share → ℕ
part c share = if share.child.0 == c then share.weight else 0

part_most : (c : ℕ) (share : Share) → part c share ≤ share.weight
part_most c share = go (share.child.0 == c)
  where
    go : (b : Bool) → (if b then share.weight else 0) ≤ share.weight
    go true = omega arith
    go false = omega arith

part_own : (c : ℕ) (share : Share) → share.child.0 ≡ c → part c share ≡ share.weight
part_own c share e = ap (λ (b : Bool). if b then share.weight else 0) (eq-eqb share.child.0 c e)

part_other : (c : ℕ) (share : Share) → c ≢ share.child.0 → part c share ≡ 0
part_other c share differ = go (share.child.0 == c) refl
  where
    go : (b : Bool) → (share.child.0 == c) ≡ b → (if b then share.weight else 0) ≡ 0
    go true e = absurd (differ (sym (eqb-true share.child.0 c e)))
    go false e = refl

pub tally_none : (c : ℕ) → tally_in [] c ≡ 0
unfolding tally_in
tally_none c = refl

tally_push : (shares : List Share) (share : Share) (c : ℕ) → tally_in (shares ++ share ∷ []) c ≡ tally_in shares c + part c share
unfolding tally_in
tally_push shares share c = sum_by_push (part c) shares share

tally_more : (shares : List Share) (i c : ℕ) → i < length shares → tally_in (take (i + 1) shares) c ≡ tally_in (take i shares) c + part c (get_or shares i no_share)
unfolding tally_in
tally_more shares i c lt = sum_by_more (part c) shares i no_share lt

tally_same : (xs ys : List Share) → IsPermutation xs ys → (c : ℕ) → tally_in ys c ≡ tally_in xs c
unfolding tally_in
tally_same xs ys moved c = sum_by-IsPermutation (part c) xs ys moved

-- the tally so far and the next share are within the weight of all
tally_fits : (shares : List Share) (i c : ℕ) → i < length shares → tally_in (take i shares) c + (get_or shares i no_share).weight ≤ sum_by (λ (share : Share). share.weight) shares
unfolding tally_in
tally_fits shares i c lt = sum_by_more_le_part (part c) (λ (share : Share). share.weight) shares i no_share lt (part_most c)

-- what has a tally has a share
tally_some : (shares : List Share) (c : ℕ) → 0 < tally_in shares c → (share : Share) × Among share shares × (share.child.0 ≡ c)
unfolding tally_in
tally_some [] c lt = absurd (omega arith)
tally_some (share ∷ shares) c lt = go (share.child.0 == c) refl (λ h. tally_some shares c h)
  where
    go : (b : Bool) → (share.child.0 == c) ≡ b → (0 < sum_by (part c) shares → (s : Share) × Among s shares × (s.child.0 ≡ c)) → (s : Share) × Among s (share ∷ shares) × (s.child.0 ≡ c)
    go true e later = (share, inl refl, eqb-true share.child.0 c e)
    go false e later =
        let none : part c share ≡ 0 = ap (λ (b : Bool). cond b share.weight 0) e in
        let rest = later (omega (arith, sum_by-cons (part c) share shares)) in
        (rest.0, inr rest.1, rest.2)

-- ---- what the votes give to the children of a place

module _ (dag : UnitGraph) (place : Option UnitNo) where
  -- a share of a child of the place
  abbrev IsShare : Share → Type 0
  IsShare share = IsChild dag place share.child.0 × (0 < share.weight)

  pub holds_none : HoldsShares dag [] place []
  holds_none = record {
    each = λ share m. absurd m;
    tally_is = λ c k. tally_none c ∙ sym (score_none dag c);
    light = omega arith;
  }

  pub holds_are : (votes : List Vote) (shares : List Share) → AreVotes dag votes → HoldsShares dag votes place shares → AreShares dag shares
  holds_are votes shares are holds = record {
    graph = are.graph;
    each = λ share m. let is = holds.each share m in (is.0.known, is.1);
    bounded = (let all = are.bounded in let le = holds.light in omega arith);
  }

  -- whatever their order
  pub holds_moved : (votes : List Vote) (xs ys : List Share) → IsPermutation xs ys → HoldsShares dag votes place xs → HoldsShares dag votes place ys
  holds_moved votes xs ys moved holds = record {
    each = all_among IsShare ys (All-permutation IsShare xs ys moved (among_all IsShare xs holds.each));
    tally_is = λ c k. tally_same xs ys moved c ∙ holds.tally_is c k;
    light = (let same = sum_by-IsPermutation (λ (share : Share). share.weight) xs ys moved in let le = holds.light in omega arith);
  }

  module _ (g : IsGraph dag) (votes : List Vote) (are : AreVotes dag votes) (i : ℕ) (lt : i < length votes) where
    abbrev vote : Vote
    vote = get_or votes i no_vote

    heavier_front : sum_by (λ (v : Vote). v.weight) (take (i + 1) votes) ≡ sum_by (λ (v : Vote). v.weight) (take i votes) + vote.weight
    heavier_front = sum_by_more (λ (v : Vote). v.weight) votes i no_vote lt

    -- a vote towards none of the children has no share
    pub holds_still : (shares : List Share) → HasNone dag g place vote → HoldsShares dag (take i votes) place shares → HoldsShares dag (take (i + 1) votes) place shares
    holds_still shares none holds = record {
      each = holds.each;
      tally_is = λ c k. holds.tally_is c k ∙ sym (none_stays dag g place votes are i lt none c k);
      light = (let le = holds.light in let more = heavier_front in omega arith);
    }

    -- and one towards a child has one
    pub holds_more : (shares : List Share) (child : UnitNo) → HasChild dag g place vote child.0 → HoldsShares dag (take i votes) place shares
        → HoldsShares dag (take (i + 1) votes) place (shares ++ record { child = child; weight = vote.weight } ∷ [])
    holds_more shares child towards holds = record {
      each = λ share m. elim (append_cases share shares (own ∷ []) m) [
        | inl before ↦ holds.each share before
        | inr last ↦ elim last [ inl same ↦ subst IsShare same (towards.0, (are.each vote (vote_is_among votes i lt)).some) | inr none ↦ absurd none ]
      ];
      tally_is = λ c k. let all = tally_push shares own c in elim (eq_cases c child.0) [
        | inl same ↦
            let here = part_own c own (sym same) in
            let front = holds.tally_is c k in
            let score : score_in dag (take (i + 1) votes) c ≡ score_in dag (take i votes) c + vote.weight =
            subst (λ (n : ℕ). score_in dag (take (i + 1) votes) n ≡ score_in dag (take i votes) n + vote.weight) (sym same) (child_more dag g place votes are i lt child.0 towards) in
            omega arith
        | inr differ ↦
            let here = part_other c own differ in
            let front = holds.tally_is c k in
            let score = other_stays dag g place votes are i lt child.0 towards c k differ in
            omega arith
      ];
      light = (let le = holds.light in let more = heavier_front in let all = sum_by_push (λ (share : Share). share.weight) shares own in omega arith);
    }
      where
        own : Share
        own = record { child = child; weight = vote.weight }

  module _ (votes : List Vote) (shares : List Share) (holds : HoldsShares dag votes place shares) where
    yields : (d c : ℕ) → IsChild dag place d → IsChild dag place c → ComesBefore dag (whole_tally shares d) (whole_tally shares c) → Yields dag votes d c
    yields d c l k (inl less) = inl (let a = holds.tally_is d l in let b = holds.tally_is c k in omega arith)
    yields d c l k (inr tie) = inr (sym (holds.tally_is d l) ∙ tie.0 ∙ holds.tally_is c k, tie.1)

    -- the child of the greatest tally is the best
    heaviest_best : (c : ℕ) → IsHeaviest dag shares c → IsBest dag votes place c
    heaviest_best c most =
        let own = tally_some shares c most.some in
        let k : IsChild dag place c = subst (IsChild dag place) own.2 (holds.each own.0 own.1).0 in
        record {
          child = k;
          some = (let same = holds.tally_is c k in let some = most.some in omega arith);
          others = λ d l. elim (cases_lt 0 (tally_in shares d)) [
            | inl voted ↦ elim (most.others d voted) [ inl same ↦ inl same | inr before ↦ inr (yields d c l k before) ]
            | inr none ↦ inr (inl (let same = holds.tally_is d l in let own_same = holds.tally_is c k in let some = most.some in omega arith))
          ];
        }

    pub if_heaviest_best : (found : Option UnitNo) → IfSome found (λ no. IsHeaviest dag shares no.0) → IfSome found (λ no. IsBest dag votes place no.0)
    if_heaviest_best None most = most
    if_heaviest_best (Some child) most = heaviest_best child.0 most

    -- where there is no tally, no child is voted for
    pub if_none_supports : (found : Option UnitNo) → IfNone found ((c : ℕ) → tally_in shares c ≡ 0) → IfNone found (HasNoSupport dag votes place)
    if_none_supports None none = λ c k. sym (holds.tally_is c k) ∙ none c
    if_none_supports (Some child) none = none

-- ---- the order of tallies

module _ (dag : UnitGraph) where
  before_trans : (x y z : Share) → ComesBefore dag x y → ComesBefore dag y z → ComesBefore dag x z
  before_trans x y z (inl l) (inl m) = inl (omega arith)
  before_trans x y z (inl l) (inr m) = inl (let e = m.0 in omega arith)
  before_trans x y z (inr l) (inl m) = inl (let e = l.0 in omega arith)
  before_trans x y z (inr l) (inr m) = inr (l.0 ∙ m.0, digest_lt_trans (unit_at dag x.child.0).digest (unit_at dag y.child.0).digest (unit_at dag z.child.0).digest l.1 m.1)

  -- of a tally only the child and the weight count
  before_like : (x y z : Share) → x.child.0 ≡ y.child.0 → x.weight ≡ y.weight → ComesBefore dag y z → ComesBefore dag x z
  before_like x y z child weight (inl less) = inl (omega arith)
  before_like x y z child weight (inr tie) = inr (weight ∙ tie.0, subst (λ (n : ℕ). digest_lt (unit_at dag n).digest (unit_at dag z.child.0).digest ≡ true) (sym child) tie.1)

  -- what comes before a tally, or is the same, is no greater
  never_before : (x y : Share) → ((x ≡ y) ⊎ ComesBefore dag x y) → y.weight < x.weight → ⊥
  never_before x y (inl same) more = (let e : x.weight ≡ y.weight = ap (λ (s : Share). s.weight) same in omega arith)
  never_before x y (inr (inl less)) more = omega arith
  never_before x y (inr (inr tie)) more = (let e = tie.0 in omega arith)

  -- a tally that isn't next
  pub stays_best : IsGraph dag → (best tally : Share) → best.child.0 < count_of dag → tally.child.0 < count_of dag → tally.weight ≤ best.weight
      → (best.weight ≡ tally.weight → digest_lt (unit_at dag best.child.0).digest (unit_at dag tally.child.0).digest ≡ false) → (tally ≡ best) ⊎ ComesBefore dag tally best
  stays_best g best tally known_best known le never = elim (cases_lt tally.weight best.weight) [
    | inl less ↦ inr (inl less)
    | inr above ↦
        let same : best.weight ≡ tally.weight = omega arith in
        elim (digest_cases (unit_at dag best.child.0).digest (unit_at dag tally.child.0).digest (never same)) [
          | inl e ↦ inl (let one : tally.child.0 ≡ best.child.0 = g.distinct tally.child.0 best.child.0 known known_best e in λ j. record { child = record { 0 = one j }; weight = sym same j })
          | inr less ↦ inr (inr (sym same, less))
        ]
  ]

  -- the best of the tallies of these shares
  abbrev pub IsBestOf : List Share → Option Share → Type 0
  IsBestOf shares None = (c : ℕ) → tally_in shares c ≡ 0
  IsBestOf shares (Some best) = (best.child.0 < count_of dag) × (0 < best.weight) × (best.weight ≡ tally_in shares best.child.0)
      × ((c : ℕ) → 0 < tally_in shares c → (c ≡ best.child.0) ⊎ ComesBefore dag (whole_tally shares c) best)

  -- a share more, which only makes this tally greater
  best_more : (front more : List Share) (best : Option Share) (tally next : Share) → tally.child.0 < count_of dag → tally.weight ≡ tally_in more tally.child.0 → tally_in front tally.child.0 < tally.weight
      → ((c : ℕ) → c ≢ tally.child.0 → tally_in more c ≡ tally_in front c) → IsHeavier dag best tally next → IsBestOf front best → IsBestOf more (Some next)
  best_more front more None tally next known own grows stays e old =
      subst (λ (n : Share). IsBestOf more (Some n)) (sym e) (
        known,
        omega arith,
        own,
        λ c some. elim (eq_cases c tally.child.0) [
          | inl same ↦ inl same
          | inr differ ↦ absurd (let s = stays c differ in let o = old c in omega arith)
        ],
      )
  best_more front more (Some best) tally next known own grows stays (inl up) old =
      subst (λ (n : Share). IsBestOf more (Some n)) (sym up.0) (
        known,
        omega arith,
        own,
        λ c some. elim (eq_cases c tally.child.0) [
          | inl same ↦ inl same
          | inr differ ↦ elim (old.3 c (let s = stays c differ in omega arith)) [
            | inl here ↦ inr (before_like (whole_tally more c) best tally here (stays c differ ∙ ap (tally_in front) here ∙ sym old.2) up.1)
            | inr less ↦ inr (before_trans (whole_tally more c) best tally (before_like (whole_tally more c) (whole_tally front c) best refl (stays c differ) less) up.1)
          ]
        ],
      )
  best_more front more (Some best) tally next known own grows stays (inr still) old =
      let other : best.child.0 ≢ tally.child.0 = λ same. never_before tally best still.1 (let e : best.weight ≡ tally_in front tally.child.0 = old.2 ∙ ap (tally_in front) same in omega arith) in
      subst (λ (n : Share). IsBestOf more (Some n)) (sym still.0) (
        old.0,
        old.1,
        old.2 ∙ sym (stays best.child.0 other),
        λ c some. elim (eq_cases c tally.child.0) [
          | inl same ↦ elim still.1 [
            | inl one ↦ inl (same ∙ ap (λ (s : Share). s.child.0) one)
            | inr less ↦ inr (before_like (whole_tally more c) tally best same (ap (tally_in more) same ∙ sym own) less)
          ]
          | inr differ ↦ elim (old.3 c (let s = stays c differ in omega arith)) [
            | inl here ↦ inl here
            | inr less ↦ inr (before_like (whole_tally more c) (whole_tally front c) best refl (stays c differ) less)
          ]
        ],
      )

-- ---- tallies that are added up in turn

-- the tally of the child of the last share, and the best tally, after the first shares of a sorted list
pub record IsTallied (dag : UnitGraph) (shares : List Share) (i : ℕ) (tally : Share) (best : Option Share) : Type 0 where
  pub own : tally.weight ≡ tally_in (take i shares) tally.child.0
  pub later : (c : ℕ) → tally.child.0 < c → tally_in (take i shares) c ≡ 0
  pub low : (k : ℕ) → i ≤ k → k < length shares → tally.child.0 ≤ (get_or shares k no_share).child.0
  pub best_is : IsBestOf dag (take i shares) best

pub tallied_first : (dag : UnitGraph) (shares : List Share) → IsTallied dag shares 0 no_share None
tallied_first dag shares = record {
  own = sym (tally_none 0);
  later = λ c lt. tally_none c;
  low = λ k le lt. omega arith;
  best_is = λ c. tally_none c;
}

module _ (dag : UnitGraph) (shares : List Share) (are : AreShares dag shares) (i : ℕ) (lt : i < length shares) where
  abbrev share : Share
  share = get_or shares i no_share

  pub share_is : (share.child.0 < count_of dag) × (0 < share.weight)
  share_is = are.each share (place_is_among no_share shares i lt)

  module _ (tally : Share) (best : Option Share) (so_far : IsTallied dag shares i tally best) where
    pub tallied_fits : tally.weight + share.weight < 2 ^ 62
    tallied_fits =
        let own = so_far.own in
        let most = tally_fits shares i tally.child.0 lt in
        let all = are.bounded in
        omega arith

    tallied_own : (weight : ℕ) → weight ≡ (if tally.child.0 == share.child.0 then tally.weight + share.weight else share.weight) → weight ≡ tally_in (take i shares) share.child.0 + share.weight
    tallied_own weight e = e ∙ go (tally.child.0 == share.child.0) refl
      where
        low : tally.child.0 ≤ share.child.0
        low = so_far.low i (omega arith) lt

        go : (b : Bool) → (tally.child.0 == share.child.0) ≡ b → (if b then tally.weight + share.weight else share.weight) ≡ tally_in (take i shares) share.child.0 + share.weight
        go true t = ap (λ (n : ℕ). n + share.weight) (so_far.own ∙ ap (tally_in (take i shares)) (eqb-true tally.child.0 share.child.0 t))
        go false t = elim (cases_lt tally.child.0 share.child.0) [
          | inl less ↦ (let none = so_far.later share.child.0 less in omega arith)
          | inr above ↦ absurd (let le = low in never_both (tally.child.0 == share.child.0) (eq-eqb tally.child.0 share.child.0 (omega arith)) t)
        ]

    pub tallied_more : IsNonDecreasingBy (λ (s : Share). s.child.0) shares → (after next : Share) → after.child ≡ share.child
        → after.weight ≡ (if tally.child.0 == share.child.0 then tally.weight + share.weight else share.weight) → IsHeavier dag best after next → IsTallied dag shares (i + 1) after (Some next)
    tallied_more sorted after next child weight heavier = record {
      own = own;
      later = λ c above. (
          let more = tally_more shares i c lt in
          let here = same in
          let other = part_other c share (λ e. absurd (omega arith)) in
          let le = so_far.low i (omega arith) lt in
          let none = so_far.later c (omega arith) in
          omega arith);
      low = λ k le within. (let here = same in let up = sorted i k no_share (omega arith) within in omega arith);
      best_is = best_more dag (take i shares) (take (i + 1) shares) best after next (let here = same in let known = share_is.0 in omega arith) own (let all = front in let some = share_is.1 in omega arith) stays heavier so_far.best_is;
    }
      where
        same : after.child.0 ≡ share.child.0
        same = ap (λ (n : UnitNo). n.0) child

        front : after.weight ≡ tally_in (take i shares) after.child.0 + share.weight
        front = tallied_own after.weight weight ∙ ap (λ (n : ℕ). tally_in (take i shares) n + share.weight) (sym same)

        own : after.weight ≡ tally_in (take (i + 1) shares) after.child.0
        own = (let all = front in let more = tally_more shares i after.child.0 lt in let here = part_own after.child.0 share (sym same) in omega arith)

        stays : (c : ℕ) → c ≢ after.child.0 → tally_in (take (i + 1) shares) c ≡ tally_in (take i shares) c
        stays c differ = (let more = tally_more shares i c lt in let none = part_other c share (λ e. differ (e ∙ sym same)) in omega arith)
