-- Blocks that have the majority, and the search for one of some height.
use Rattle.std.proofs.Common.{◌≡◌, ◌≢◌, ℕ, zero, suc, ◌+◌, ◌^◌, ◌<◌, ◌≤◌, inl, inr, Bool, true, false, cond, List, [], ◌∷◌, length, get_or, take, Option, Some, None, refl, sym, ap, subst, ◌∙◌, arith}
use Rattle.std.specs.Prelude.{unwrap_or, ◌==◌, IfSome, if◌then◌else◌}
use Rattle.std.proofs.lemmas.Bool.{cases_lt, eqb-true}
use Rattle.std.proofs.lemmas.List.Sums.{sum_by-cons, sum_by_more, sum_by-take-le}
use Rattle.hw_dag.specs.Jumps.{floor_log2}
use Rattle.hw_dag.proofs.LogLaws.{double, log2_rounded, log2_at_least}
use Rattle.hw_types.specs.Below.{Among}
use Rattle.hw_types.specs.Votes.{is_block}
use Rattle.hw_dag.specs.declared.numbers.UnitNo.{UnitNo}
use Rattle.hw_dag.specs.Dag.{UnitGraph, unit_at, count_of, node_at}
use Rattle.hw_dag.specs.Admission.{IsGraph, height_above}
use Rattle.hw_dag.specs.Lanes.{IsAncestor, IsAncestorAt, itself, further}
use Rattle.hw_dag.proofs.DepthLaws.{parent_earlier, parent_is_block, height_next, height_is}
use Rattle.hw_forks.specs.declared.votes.Vote.{Vote}
use Rattle.hw_forks.specs.declared.majority.Leader.{Leader}
use Rattle.hw_forks.specs.Votes.{height_at, AreVotes}
use Rattle.hw_forks.specs.Walk.{is_over, score_in, weight_in, IsChild, IsBest, IsCommon, IsPassed, HasMajority, NoChildHasMajority, IsAhead}
use Rattle.hw_forks.proofs.AncestorLaws.{anc_trans, anc_known, anc_block, anc_height, over_anc, anc_over, over_test, over_higher, child_height, one_child}
use Rattle.hw_forks.proofs.ScoreLaws.{share, score_more, score_most, score_some, score_has}
use Rattle.hw_forks.proofs.LoopLaws.{no_vote, vote_is_among, eq_cases}

pub weigh_none : weight_in [] ≡ 0
unfolding weight_in
weigh_none = refl

weigh_cons : (vote : Vote) (votes : List Vote) → weight_in (vote ∷ votes) ≡ vote.weight + weight_in votes
unfolding weight_in
weigh_cons vote votes = sum_by-cons (λ (v : Vote). v.weight) vote votes

pub weigh_more : (votes : List Vote) (i : ℕ) → i < length votes → weight_in (take (i + 1) votes) ≡ weight_in (take i votes) + (get_or votes i no_vote).weight
unfolding weight_in
weigh_more votes i lt = sum_by_more (λ (v : Vote). v.weight) votes i no_vote lt

pub weigh_front : (votes : List Vote) (i : ℕ) → weight_in (take i votes) ≤ weight_in votes
unfolding weight_in
weigh_front votes i = sum_by-take-le (λ (v : Vote). v.weight) votes i

pub score_weigh : (dag : UnitGraph) (votes : List Vote) (c : ℕ) → score_in dag votes c ≤ weight_in votes
unfolding weight_in
score_weigh dag votes c = score_most dag votes c

-- votes of a graph are few enough to be added up
pub weigh_bounded : (dag : UnitGraph) (votes : List Vote) → AreVotes dag votes → weight_in votes < 2 ^ 62
unfolding weight_in
weigh_bounded dag votes are = are.bounded

-- what is half of a weight or less has a logarithm that is less
pub log2_half : (m n : ℕ) → 0 < m → m + m ≤ n → n < 2 ^ 64 → floor_log2 m < floor_log2 n
log2_half m n some half fits =
    let low = (log2_rounded m some (omega arith)).0 in
    let power = double (floor_log2 m) in
    log2_at_least n (suc (floor_log2 m)) fits (omega arith)

module _ (dag : UnitGraph) (g : IsGraph dag) where
  abbrev AreKnown : List Vote → Type 0
  AreKnown votes = (vote : Vote) → Among vote votes → vote.block.0 < count_of dag

  -- ---- scores of two blocks

  share_down : (a c : ℕ) (vote : Vote) → vote.block.0 < count_of dag → IsAncestor dag a c → share dag c vote ≤ share dag a vote
  share_down a c vote lt h = go (is_over dag c vote.block.0) refl
    where
      go : (b : Bool) → is_over dag c vote.block.0 ≡ b → (if b then vote.weight else 0) ≤ share dag a vote
      go true e =
          let over : is_over dag a vote.block.0 ≡ true = anc_over dag g a vote.block.0 lt (anc_trans dag g a c vote.block.0 h (over_anc dag g (count_of dag) c vote.block.0 e)) in
          let whole : share dag a vote ≡ vote.weight = ap (λ (b : Bool). cond b vote.weight 0) over in
          omega arith
      go false e = omega arith

  -- an ancestor has no lesser score
  score_down : (a c : ℕ) → IsAncestor dag a c → (votes : List Vote) → AreKnown votes → score_in dag votes c ≤ score_in dag votes a
  unfolding score_in
  score_down a c h [] known = omega arith
  score_down a c h (vote ∷ votes) known =
      let rest = score_down a c h votes (λ v m. known v (inr m)) in
      let here = share_down a c vote (known vote (inl refl)) h in
      omega (arith, sum_by-cons (share dag c) vote votes, sum_by-cons (share dag a) vote votes)

  share_apart : (place : Option UnitNo) (a d : ℕ) (vote : Vote) → vote.block.0 < count_of dag → IsChild dag place a → IsChild dag place d → d ≢ a → share dag a vote + share dag d vote ≤ vote.weight
  share_apart place a d vote lt ka kd differ = go (is_over dag a vote.block.0) refl (is_over dag d vote.block.0) refl
    where
      go : (b : Bool) → is_over dag a vote.block.0 ≡ b → (x : Bool) → is_over dag d vote.block.0 ≡ x → (if b then vote.weight else 0) + (if x then vote.weight else 0) ≤ vote.weight
      go true e true f = absurd (differ (one_child dag g place d a vote.block.0 kd ka lt (over_anc dag g (count_of dag) d vote.block.0 f) (over_anc dag g (count_of dag) a vote.block.0 e)))
      go true e false f = omega arith
      go false e true f = omega arith
      go false e false f = omega arith

  -- two children of a place share no vote
  score_apart : (place : Option UnitNo) (a d : ℕ) → IsChild dag place a → IsChild dag place d → d ≢ a → (votes : List Vote) → AreKnown votes → score_in dag votes a + score_in dag votes d ≤ weight_in votes
  unfolding score_in weight_in
  score_apart place a d ka kd differ [] known = omega arith
  score_apart place a d ka kd differ (vote ∷ votes) known =
      let rest = score_apart place a d ka kd differ votes (λ v m. known v (inr m)) in
      let here = share_apart place a d vote (known vote (inl refl)) ka kd differ in
      omega (arith, sum_by-cons (share dag a) vote votes, sum_by-cons (share dag d) vote votes, sum_by-cons (λ (v : Vote). v.weight) vote votes)

  -- what all votes are for has their whole weight
  pub score_all : (c : ℕ) (votes : List Vote) → ((vote : Vote) → Among vote votes → is_over dag c vote.block.0 ≡ true) → score_in dag votes c ≡ weight_in votes
  unfolding score_in weight_in
  score_all c [] all = refl
  score_all c (vote ∷ votes) all =
      let rest = score_all c votes (λ v m. all v (inr m)) in
      let here : share dag c vote ≡ vote.weight = ap (λ (b : Bool). cond b vote.weight 0) (all vote (inl refl)) in
      omega (arith, sum_by-cons (share dag c) vote votes, sum_by-cons (λ (v : Vote). v.weight) vote votes)

  -- ---- a block of each height below

  -- a block has an ancestor of each lesser height
  ancestor_within : (fuel c height : ℕ) → c < fuel → c < count_of dag → is_block (node_at dag c) ≡ true → height ≤ height_at dag c → (a : ℕ) × IsAncestor dag a c × (height_at dag a ≡ height)
  ancestor_within zero c height less lt t le = absurd (omega arith)
  ancestor_within (suc fuel) c height less lt t le = elim (eq_cases (height_at dag c) height) [
    | inl same ↦ (c, itself, same)
    | inr differ ↦ go (unit_at dag c).parent refl (λ p more known block low. ancestor_within fuel p height more known block low)
  ]
    where
      go : (o : Option UnitNo) → (unit_at dag c).parent ≡ o → ((p : ℕ) → p < fuel → p < count_of dag → is_block (node_at dag p) ≡ true → height ≤ height_at dag p → (a : ℕ) × IsAncestor dag a p × (height_at dag a ≡ height))
          → (a : ℕ) × IsAncestor dag a c × (height_at dag a ≡ height)
      go None e later = (c, itself, (let own : height_at dag c ≡ 0 = ap (λ (o : Option ℕ). unwrap_or o 0) (height_is dag g c lt t) ∙ ap (height_above dag) e in omega arith))
      go (Some p) e later = elim (eq_cases (height_at dag c) height) [
        | inl same ↦ (c, itself, same)
        | inr differ ↦
            let earlier = parent_earlier dag g c p lt e in
            let next = height_next dag g c p lt e in
            let rest = later p.0 (omega arith) (omega arith) (parent_is_block dag g c p lt e) (omega arith) in
            (rest.0, further c p e rest.1, rest.2)
      ]

  -- ---- majorities

  module _ (votes : List Vote) (are : AreVotes dag votes) where
    known_all : AreKnown votes
    known_all vote m = (are.each vote m).known

    -- an ancestor has the majority too
    majority_down : (a c : ℕ) → IsAncestor dag a c → HasMajority dag votes c → HasMajority dag votes a
    majority_down a c h m = record {
      known = anc_known dag g a c m.known h;
      block = anc_block dag g a c m.known m.block h;
      most = (let no_less = score_down a c h votes known_all in let most = m.most in omega arith);
    }

    majority_best : (a : ℕ) → HasMajority dag votes a → IsBest dag votes (unit_at dag a).parent a
    majority_best a m = record {
      child = own;
      some = (let most = m.most in omega arith);
      others = λ d k. elim (eq_cases d a) [
        | inl same ↦ inl same
        | inr differ ↦ inr (inl (let apart = score_apart (unit_at dag a).parent a d own k differ votes known_all in let most = m.most in omega arith))
      ];
    }
      where
        own : IsChild dag (unit_at dag a).parent a
        own = record { known = m.known; block = m.block; parent = refl }

    -- The walk passes through each block that has the majority.
    pub majority_passed : (c : ℕ) → HasMajority dag votes c → IsPassed dag votes c
    majority_passed c m = λ a h. majority_best a (majority_down a c h m)

    -- what all votes are for has it
    pub common_majority : 0 < length votes → (c : ℕ) → IsCommon dag votes c → HasMajority dag votes c
    common_majority many c common = record {
      known = common.known;
      block = common.block;
      most = (
          let whole = score_all c votes (λ vote m. anc_over dag g c vote.block.0 (known_all vote m) (common.over vote m)) in
          let first = vote_is_among votes 0 many in
          let some = score_has dag g votes c (get_or votes 0 no_vote) first (are.each (get_or votes 0 no_vote) first) (common.over (get_or votes 0 no_vote) first) in
          omega arith);
    }

    pub place_majority : 0 < length votes → (place : Option UnitNo) → IfSome place (λ number. IsCommon dag votes number.0) → IfSome place (λ number. HasMajority dag votes number.0)
    place_majority many None common = tt
    place_majority many (Some number) common = common_majority many number.0 common

    pub place_passed : (place : Option UnitNo) → IfSome place (λ number. HasMajority dag votes number.0) → IfSome place (λ number. IsPassed dag votes number.0)
    place_passed None m = tt
    place_passed (Some number) m = majority_passed number.0 m

    -- it isn't higher than the highest vote
    pub majority_lower : (top : Vote) → ((other : Vote) → Among other votes → other.height ≤ top.height) → (c : ℕ) → HasMajority dag votes c → height_at dag c ≤ top.height
    majority_lower top highest c m =
        let v = score_some dag g votes c (let most = m.most in omega arith) in
        let le = anc_height dag g c v.0.block.0 (known_all v.0 v.1) v.2 in
        let own = (are.each v.0 v.1).height_is in
        let high = highest v.0 v.1 in
        omega arith

    -- so no child of the block of the highest vote has it
    pub top_none : (top : Vote) → Among top votes → ((other : Vote) → Among other votes → other.height ≤ top.height) → NoChildHasMajority dag votes (Some top.block)
    top_none top among highest c child m =
        let le = majority_lower top highest c m in
        let own = (are.each top among).height_is in
        let height = child_height dag g (Some top.block) c child in
        absurd (omega arith)

    -- where no block of a height has it, none at or above that height has
    pub majority_below : (height : ℕ) → ((c : ℕ) → HasMajority dag votes c → height_at dag c ≡ height → ⊥) → (c : ℕ) → HasMajority dag votes c → height_at dag c < height
    majority_below height none c m = elim (cases_lt (height_at dag c) height) [
      | inl less ↦ less
      | inr above ↦ (let a = ancestor_within (suc c) c height (omega arith) m.known m.block (omega arith) in absurd (none a.0 (majority_down a.0 c a.1 m) a.2))
    ]

-- ---- votes that are set against each other

-- The block that leads those of its height by these votes. It has no more than its lead beyond half of their weight, and each other
-- block of the height falls short of half by the lead at least.
pub record Leads (dag : UnitGraph) (part : List Vote) (height : ℕ) (leader : Leader) : Type 0 where
  pub known : leader.block.0 < count_of dag
  pub block : is_block (node_at dag leader.block.0) ≡ true
  pub height_is : height_at dag leader.block.0 ≡ height
  pub small : leader.lead ≤ weight_in part
  pub own : score_in dag part leader.block.0 + score_in dag part leader.block.0 ≤ weight_in part + leader.lead
  pub others : (c : ℕ) → height_at dag c ≡ height → c ≢ leader.block.0 → score_in dag part c + score_in dag part c + leader.lead ≤ weight_in part

module _ (dag : UnitGraph) (g : IsGraph dag) (height : ℕ) where
  -- no vote is counted
  pub leads_none : (found : UnitNo) (start : ℕ) → IsAncestorAt dag start height found.0 → Leads dag [] height (record { block = found; lead = 0 })
  unfolding score_in weight_in
  leads_none found start at = record {
    known = at.known;
    block = at.block;
    height_is = ap (λ (o : Option ℕ). unwrap_or o 0) at.height_is;
    small = omega arith;
    own = omega arith;
    others = λ c same differ. omega arith;
  }

  -- what has the majority of all leads
  pub leads_all : (votes : List Vote) (leader : Leader) → Leads dag votes height leader → (c : ℕ) → HasMajority dag votes c → height_at dag c ≡ height → c ≡ leader.block.0
  leads_all votes leader leads c m same = elim (eq_cases c leader.block.0) [
    | inl here ↦ here
    | inr differ ↦ absurd (let short = leads.others c same differ in let most = m.most in omega arith)
  ]

  module _ (votes : List Vote) (are : AreVotes dag votes) (i : ℕ) (lt : i < length votes) where
    abbrev vote : Vote
    vote = get_or votes i no_vote

    abbrev front : List Vote
    front = take i votes

    abbrev more : List Vote
    more = take (i + 1) votes

    known_here : vote.block.0 < count_of dag
    known_here = (are.each vote (vote_is_among votes i lt)).known

    -- a vote that is lower is for no block of the height
    lower_share : vote.height < height → (c : ℕ) → height_at dag c ≡ height → share dag c vote ≡ 0
    lower_share low c same =
        let own = (are.each vote (vote_is_among votes i lt)).height_is in
        sym (ap (λ (b : Bool). cond b vote.weight 0) (over_higher dag g c vote.block.0 known_here (omega arith)))

    -- any other is for its ancestor of the height alone
    own_share : (found : ℕ) → IsAncestorAt dag vote.block.0 height found → share dag found vote ≡ vote.weight
    own_share found at = ap (λ (b : Bool). cond b vote.weight 0) (anc_over dag g found vote.block.0 known_here at.ancestor)

    other_share : (found : ℕ) → IsAncestorAt dag vote.block.0 height found → (c : ℕ) → height_at dag c ≡ height → c ≢ found → share dag c vote ≡ 0
    other_share found at c same differ = ap (λ (b : Bool). cond b vote.weight 0) (sym (over_test dag g c found vote.block.0 known_here at.ancestor (ap (λ (o : Option ℕ). unwrap_or o 0) at.height_is ∙ sym same)) ∙ go (found == c) refl)
      where
        go : (t : Bool) → (found == c) ≡ t → t ≡ false
        go true e = absurd (differ (sym (eqb-true found c e)))
        go false e = refl

    score_is : (c : ℕ) → score_in dag more c ≡ score_in dag front c + share dag c vote
    score_is c = score_more dag votes i no_vote c lt

    pub leads_lower : (leader : Leader) → vote.height < height → Leads dag front height leader → Leads dag more height leader
    leads_lower leader low leads =
        let whole = weigh_more votes i lt in record {
          known = leads.known;
          block = leads.block;
          height_is = leads.height_is;
          small = (let small = leads.small in omega arith);
          own = (let s = score_is leader.block.0 in let n = lower_share low leader.block.0 leads.height_is in let own = leads.own in omega arith);
          others = λ c same differ. let s = score_is c in let n = lower_share low c same in let short = leads.others c same differ in omega arith;
        }

    pub leads_more : (before after : Leader) (found : UnitNo) → IsAncestorAt dag vote.block.0 height found.0 → IsAhead before found vote.weight after → Leads dag front height before → Leads dag more height after
    -- it is for the block that leads
    leads_more before after found at (inl ahead) leads = subst (Leads dag more height) (sym ahead.1) (
        let whole = weigh_more votes i lt in
        let reached : height_at dag found.0 ≡ height = ap (λ (o : Option ℕ). unwrap_or o 0) at.height_is in
        let same_block : found.0 ≡ before.block.0 = ap (λ (u : UnitNo). u.0) ahead.0 in record {
          known = at.known;
          block = at.block;
          height_is = reached;
          small = (let small = leads.small in omega arith);
          own = (let s = score_is found.0 in let n = own_share found.0 at in let own = leads.own in let here = ap (λ (k : ℕ). score_in dag front k) same_block in omega arith);
          others = λ c same differ.
              let s = score_is c in
              let n = other_share found.0 at c same differ in
              let short = leads.others c same (λ e. differ (e ∙ sym same_block)) in
              omega arith;
        })
    -- it is for another, and takes the lead over
    leads_more before after found at (inr (inl ahead)) leads = subst (Leads dag more height) (sym ahead.2) (
        let whole = weigh_more votes i lt in
        let less = ahead.1 in
        let reached : height_at dag found.0 ≡ height = ap (λ (o : Option ℕ). unwrap_or o 0) at.height_is in record {
          known = at.known;
          block = at.block;
          height_is = reached;
          small = omega arith;
          own = (let s = score_is found.0 in let n = own_share found.0 at in let short = leads.others found.0 reached (λ e. ahead.0 (number_same found before.block e)) in omega arith);
          others = λ c same differ.
              let s = score_is c in
              let n = other_share found.0 at c same differ in
              elim (eq_cases c before.block.0) [
                | inl here ↦ (let own = leads.own in let e = ap (λ (k : ℕ). score_in dag front k) here in omega arith)
                | inr apart ↦ (let short = leads.others c same apart in let small = leads.small in omega arith)
              ];
        })
      where
        number_same : (x y : UnitNo) → x.0 ≡ y.0 → x ≡ y
        number_same x y e = ap (λ (k : ℕ). record { 0 = k }) e
    -- it is for another, and takes from the lead
    leads_more before after found at (inr (inr ahead)) leads = subst (Leads dag more height) (sym ahead.2) (
        let whole = weigh_more votes i lt in
        let no_more = ahead.1 in
        let reached : height_at dag found.0 ≡ height = ap (λ (o : Option ℕ). unwrap_or o 0) at.height_is in record {
          known = leads.known;
          block = leads.block;
          height_is = leads.height_is;
          small = (let small = leads.small in omega arith);
          own = (let s = score_is before.block.0 in let n = other_share found.0 at before.block.0 leads.height_is (λ e. ahead.0 (number_same found before.block (sym e))) in let own = leads.own in omega arith);
          others = λ c same differ. elim (eq_cases c found.0) [
            | inl here ↦ (
                let s = score_is found.0 in
                let n = own_share found.0 at in
                let e = ap (λ (k : ℕ). score_in dag more k) here in
                let f = ap (λ (k : ℕ). score_in dag front k) here in
                let short = leads.others c same differ in
                omega arith)
            | inr apart ↦ (let s = score_is c in let n = other_share found.0 at c same apart in let short = leads.others c same differ in omega arith)
          ];
        })
      where
        number_same : (x y : UnitNo) → x.0 ≡ y.0 → x ≡ y
        number_same x y e = ap (λ (k : ℕ). record { 0 = k }) e
