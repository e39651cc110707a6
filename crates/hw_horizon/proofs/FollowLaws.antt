-- The bound of a level follows the panorama.
use Rattle.std.proofs.Common.{◌≡◌, ◌≢◌, ℕ, zero, suc, ◌+◌, ◌-◌, ◌^◌, ◌≤◌, ◌<◌, inl, inr, Bool, true, false, List, length, set, get_or, get_or-set_other, get_or-set_same, Option, Some, None, refl, sym, ap, subst, ◌∙◌, arith}
use Rattle.std.specs.Prelude.{◌==◌, ◌⊎◌, nat_le, if◌then◌else◌}
use Rattle.std.proofs.Math.ListN.{length-set, get_or-eq_default}
use Rattle.std.proofs.lemmas.Bool.{cases_lt, cases_eq, eqb-true, le-leb, leb-true, lt-leb}
use Rattle.hw_types.specs.Votes.{weight_of}
use Rattle.hw_types.proofs.SummitLaws.{weight_le}
use Rattle.hw_types.proofs.WordsLaws.{either}
use Rattle.hw_dag.specs.declared.numbers.UnitNo.{UnitNo}
use Rattle.hw_dag.specs.declared.numbers.View.{View}
use Rattle.hw_dag.specs.declared.numbers.View.TheVariants as view
use Rattle.hw_dag.specs.Dag.{UnitGraph, unit_at, count_of, seq_of, view_at}
use Rattle.hw_dag.specs.Admission.{IsGraph}
use Rattle.hw_dag.specs.Lanes.{is_lane_below}
use Rattle.hw_horizon.specs.Starts.{votes_over}
use Rattle.hw_horizon.specs.Firsts.{is_after, sees_after, weight_after, has_quorum}
use Rattle.hw_horizon.specs.Bounds.{LevelBound, AskedBounds, AreBounds, tip_in, bound_of, first_of, support_of, counts_at, counts_over, IsFirstOf, IsBounded, AreLowered, AreSameBelow, IsOutside, IsGap}
use Rattle.hw_horizon.specs.declared.follow.Span.{Span}
use Rattle.hw_horizon.proofs.LaneLaws.{lane_self, lane_same, lane_lower, lane_above}
use Rattle.hw_horizon.proofs.BoundLaws.{lane_earlier, lane_order}

-- ---- the walk down a lane

-- the walk has come to this unit of the lane, and the units after it have no lesser number than the first one
pub record HasCome (dag : UnitGraph) (tip first at : ℕ) : Type 0 where
  pub known : at < count_of dag
  pub on_lane : is_lane_below dag at tip ≡ true
  pub less : at < first
  pub after : (n : ℕ) → n < count_of dag → is_lane_below dag n tip ≡ true → n < first → n ≤ at

module _ (dag : UnitGraph) (g : IsGraph dag) (tip : ℕ) (lt : tip < count_of dag) where
  -- no unit has the greatest number
  last_less : tip < 2 ^ 32 - 1
  last_less = let b = g.bounded in omega arith

  pub come_first : HasCome dag tip (2 ^ 32 - 1) tip
  come_first = record { known = lt; on_lane = lane_self dag g tip lt; less = last_less; after = λ n ln on less. lane_earlier dag g n tip ln lt on }

  -- it ends at a unit that doesn't count
  pub come_stop : (counts : ℕ → Bool) (first at : ℕ) → HasCome dag tip first at → counts at ≡ false → IsFirstOf dag tip counts first
  come_stop counts first at h f = λ n ln on less. (at, h.known, h.on_lane, h.after n ln on less, h.less, f)

  -- or at the first unit of the lane
  pub root_first : (counts : ℕ → Bool) (at : ℕ) → at < count_of dag → is_lane_below dag at tip ≡ true → seq_of (unit_at dag at) ≤ 0 → IsFirstOf dag tip counts at
  root_first counts at la on root = λ n ln there less.
      let order = lane_order dag g tip n at lt ln la there on (omega arith) in
      let same = lane_same dag g tip n at lt ln la there on (omega arith) in
      absurd (omega arith)

  -- or at a unit from which the first one is known
  pub known_first : (counts : ℕ → Bool) (at known : ℕ) → at < count_of dag → is_lane_below dag at tip ≡ true → known ≤ at → IsFirstOf dag at counts known → IsFirstOf dag tip counts known
  known_first counts at known la on le is = λ n ln there less.
      let order = lane_order dag g tip n at lt ln la there on (omega arith) in
      let m = is n ln (lane_lower dag g tip n at lt ln la there on order) less in
      (m.0, m.1, lane_above dag g tip m.0 at m.1 la m.2 on, m.3, m.4, m.5)

  -- or behind a unit that doesn't count
  pub gap_first : (counts : ℕ → Bool) (last first : ℕ) → IsGap dag tip counts last first → seq_of (unit_at dag first) ≤ seq_of (unit_at dag last) + 1 → IsFirstOf dag tip counts first
  gap_first counts last first gap near = λ n ln there less.
      let lk = gap.last_known in
      let fk = gap.first_known in
      let up = gap.order in
      let order = lane_order dag g tip n first lt ln fk there gap.first_on_lane (omega arith) in
      let below : seq_of (unit_at dag n) ≤ seq_of (unit_at dag last) = elim (cases_lt (seq_of (unit_at dag n)) (seq_of (unit_at dag first))) [
        | inl down ↦ omega arith
        | inr le ↦ absurd (let same = lane_same dag g tip n first lt ln fk there gap.first_on_lane (omega arith) in omega arith)
      ] in
      let earlier = lane_earlier dag g n last ln lk (lane_lower dag g tip n last lt ln lk there gap.last_on_lane below) in
      let before = lane_earlier dag g last first lk fk (lane_lower dag g tip last first lt lk fk gap.last_on_lane gap.first_on_lane (omega arith)) in
      let less_than : last < first = elim (cases_lt last first) [
        | inl is ↦ is
        | inr ge ↦ absurd (let one : last ≡ first = omega arith in let seqs = ap (λ (k : ℕ). seq_of (unit_at dag k)) one in omega arith)
      ] in
      (last, lk, gap.last_on_lane, earlier, less_than, gap.fails)

  -- where the last unit doesn't count, none does
  pub none_first : (counts : ℕ → Bool) → counts tip ≡ false → IsFirstOf dag tip counts (2 ^ 32 - 1)
  none_first counts f = come_stop counts (2 ^ 32 - 1) tip come_first f

-- above level 0 a unit counts by what it sees
pub counts_by_sum : (weights : List ℕ) (dag : UnitGraph) (block least : ℕ) (is_votes : Bool) (firsts : List ℕ) (n support : ℕ) → is_votes ≡ false → weight_after weights dag firsts n ≡ support
    → nat_le least support ≡ counts_over weights dag block least is_votes firsts n
counts_by_sum weights dag block least is_votes firsts n support e seen =
    sym (ap (λ (b : Bool). if b then votes_over dag block n else has_quorum weights dag least firsts n) e ∙ ap (nat_le least) seen)

-- ---- first units that come down

-- what a unit sees grows by first units of lesser numbers alone
pub lower_sees_less : (weights : List ℕ) (dag : UnitGraph) → IsGraph dag → (old new : LevelBound) (low n : ℕ) → AreLowered old new low → n < count_of dag → n ≤ low → weight_after weights dag new.firsts n ≤ weight_after weights dag old.firsts n
lower_sees_less weights dag g old new low n lowered ln le = weight_le weights (sees_after dag new.firsts n) (sees_after dag old.firsts n) (λ v h. go v (view_at (unit_at dag n).panorama v) refl h)
  where
    go : (v : ℕ) (w : View) → view_at (unit_at dag n).panorama v ≡ w → is_after (first_of new v) (view_at (unit_at dag n).panorama v) ≡ true → is_after (first_of old v) (view_at (unit_at dag n).panorama v) ≡ true
    go v view.Absent e h = absurd (let bad : false ≡ true = sym (ap (is_after (first_of new v)) e) ∙ h in cc)
    go v view.Faulty e h = absurd (let bad : false ≡ true = sym (ap (is_after (first_of new v)) e) ∙ h in cc)
    go v (view.Correct number) e h =
        let after : nat_le (first_of new v) number.0 ≡ true = sym (ap (is_after (first_of new v)) e) ∙ h in
        let from = leb-true _ _ after in
        let earlier = (g.settled n ln).earlier v number e in
        ap (is_after (first_of old v)) e ∙ le-leb (first_of old v) number.0 (elim (lowered v) [ inl same ↦ omega arith | inr down ↦ absurd (omega arith) ])

-- so a first unit of no greater number stays one
pub first_kept : (weights : List ℕ) (dag : UnitGraph) → IsGraph dag → (old new : LevelBound) (low least tip first : ℕ) → AreLowered old new low → first ≤ low
    → IsFirstOf dag tip (has_quorum weights dag least old.firsts) first → IsFirstOf dag tip (has_quorum weights dag least new.firsts) first
first_kept weights dag g old new low least tip first lowered le is = λ n ln on less.
    let m = is n ln on less in
    let lm = m.4 in
    let sees = lower_sees_less weights dag g old new low m.0 lowered m.1 (omega arith) in
    let fails : nat_le least (weight_after weights dag new.firsts m.0) ≡ false = elim (either (nat_le least (weight_after weights dag new.firsts m.0))) [
      | inl more ↦ (let enough = leb-true _ _ more in let there = le-leb least (weight_after weights dag old.firsts m.0) (omega arith) in absurd (let bad : false ≡ true = sym m.5 ∙ there in cc))
      | inr at ↦ at
    ] in
    (m.0, m.1, m.2, m.3, m.4, fails)

-- a first unit of no lesser number is no other to a unit
pub same_above : (first before low n : ℕ) (w : View) → (before ≡ first) ⊎ ((low ≤ before) × (low ≤ first)) → ((number : UnitNo) → w ≡ view.Correct number → number.0 < n) → n ≤ low → is_after before w ≡ is_after first w
same_above first before low n view.Absent moved earlier le = refl
same_above first before low n view.Faulty moved earlier le = refl
same_above first before low n (view.Correct number) moved earlier le = elim moved [
  | inl same ↦ ap (λ (k : ℕ). nat_le k number.0) same
  | inr above ↦ (let less = earlier number refl in lt-leb before number.0 (omega (arith, above.0)) ∙ sym (lt-leb first number.0 (omega (arith, above.1))))
]

-- what a unit sees is by first units of lesser numbers alone
pub same_seen : (weights : List ℕ) (dag : UnitGraph) → IsGraph dag → (old new : LevelBound) (low n : ℕ) → AreSameBelow old new low → n < count_of dag → n ≤ low → weight_after weights dag new.firsts n ≡ weight_after weights dag old.firsts n
same_seen weights dag g old new low n same ln le =
    ap (weight_of weights) (λ i v. sym (same_above (first_of new v) (first_of old v) low n (view_at (unit_at dag n).panorama v) (same v) (λ number e. (g.settled n ln).earlier v number e) le) i)

-- ---- one validator after the other

pub put_other : (xs ys : List ℕ) (at v n : ℕ) → ys ≡ set xs at n → v ≢ at → get_or ys v 0 ≡ get_or xs v 0
put_other xs ys at v n e other = ap (λ (t : List ℕ). get_or t v 0) e ∙ (rw get_or-set_other refl)

pub put_same : (xs ys : List ℕ) (at n : ℕ) → ys ≡ set xs at n → at < length xs → get_or ys at 0 ≡ n
put_same xs ys at n e lt = ap (λ (t : List ℕ). get_or t at 0) e ∙ (rw get_or-set_same refl)

-- a first unit that was put
pub lowered_more : (old before after : LevelBound) (at first lowest next : ℕ) → AreLowered old before lowest → first_of before at ≡ first_of old at → after.firsts ≡ set before.firsts at first → at < length before.firsts
    → next ≤ lowest → (first < first_of old at → next ≤ first) → AreLowered old after next
lowered_more old before after at first lowest next lowered same put lt most down v = elim (cases_eq v at) [
  | inl e ↦
      (let here : first_of after v ≡ first = ap (λ (i : ℕ). first_of after i) e ∙ put_same before.firsts after.firsts at first put lt in
      let there : first_of old v ≡ first_of old at = ap (λ (i : ℕ). first_of old i) e in
      elim (cases_lt first (first_of old at)) [ inl less ↦ inr (let low = down less in omega arith) | inr le ↦ inl (omega arith) ])
  | inr other ↦
      (let here = put_other before.firsts after.firsts at v first put other in
      elim (lowered v) [ inl le ↦ inl (omega arith) | inr le ↦ inr (omega arith) ])
]

pub same_more : (old before after : LevelBound) (at first lowest next : ℕ) → AreSameBelow old before lowest → first_of before at ≡ first_of old at → after.firsts ≡ set before.firsts at first → at < length before.firsts
    → next ≤ lowest → (first_of old at ≡ first) ⊎ ((next ≤ first_of old at) × (next ≤ first)) → AreSameBelow old after next
same_more old before after at first lowest next same is put lt most moved v = elim (cases_eq v at) [
  | inl e ↦
      (let here : first_of after v ≡ first = ap (λ (i : ℕ). first_of after i) e ∙ put_same before.firsts after.firsts at first put lt in
      let there : first_of old v ≡ first_of old at = ap (λ (i : ℕ). first_of old i) e in
      elim moved [ inl stays ↦ inl (there ∙ stays ∙ sym here) | inr above ↦ inr (omega (arith, above.0), omega (arith, above.1)) ])
  | inr other ↦
      (let here = put_other before.firsts after.firsts at v first put other in
      elim (same v) [ inl stays ↦ inl (stays ∙ sym here) | inr above ↦ inr (omega (arith, above.0), omega (arith, above.1)) ])
]

-- ---- one level after the other

-- a level that was put
pub put_level : (levels : List LevelBound) (j : ℕ) (bound : LevelBound) → j < length levels → bound_of (set levels j bound) j ≡ bound
put_level levels j bound lt = rw get_or-set_same refl

pub put_level_other : (levels : List LevelBound) (j i : ℕ) (bound : LevelBound) → i ≢ j → bound_of (set levels j bound) i ≡ bound_of levels i
put_level_other levels j i bound other = rw get_or-set_other refl

-- a level above another isn't level 0
not_first : (i : ℕ) → (suc i == 0) ≡ false
not_first i = elim (either (suc i == 0)) [ inl same ↦ absurd (let bad : suc i ≡ 0 = eqb-true (suc i) 0 same in omega arith) | inr f ↦ f ]

over_next : (weights : List ℕ) (dag : UnitGraph) (block least j : ℕ) (firsts : List ℕ) (tip first : ℕ) → IsFirstOf dag tip (has_quorum weights dag least firsts) first → IsFirstOf dag tip (counts_over weights dag block least (suc j == 0) firsts) first
over_next weights dag block least j firsts tip first is = λ n ln on less.
    let m = is n ln on less in
    (m.0, m.1, m.2, m.3, m.4, ap (λ (b : Bool). if b then votes_over dag block m.0 else has_quorum weights dag least firsts m.0) (not_first j) ∙ m.5)

-- the counts over a level are those of the level above it
pub over_at : (weights : List ℕ) (dag : UnitGraph) (block least : ℕ) (levels : List LevelBound) (lower : LevelBound) (j n : ℕ) → ((i : ℕ) → suc i ≡ j → lower ≡ bound_of levels i)
    → counts_over weights dag block least (j == 0) lower.firsts n ≡ counts_at weights dag block least levels j n
over_at weights dag block least levels lower zero n is = refl
over_at weights dag block least levels lower (suc i) n is =
    ap (λ (b : Bool). if b then votes_over dag block n else has_quorum weights dag least lower.firsts n) (not_first i)
    ∙ ap (λ (b : LevelBound). has_quorum weights dag least b.firsts n) (is i refl)

-- the bounds of the levels below this one follow the panorama, and those from it on are as they were
pub record HasFollowed (weights : List ℕ) (dag : UnitGraph) (panorama : List View) (tips : List (Option UnitNo)) (block asked least : ℕ) (start now : List LevelBound) (lower : LevelBound) (low j : ℕ) : Type 0 where
  pub long : length now ≡ length start
  pub same : (i : ℕ) → j ≤ i → bound_of now i ≡ bound_of start i
  pub lower_is : (i : ℕ) → suc i ≡ j → lower ≡ bound_of now i
  pub first : (i v : ℕ) (tip : UnitNo) → i < j → view_at panorama v ≡ view.Correct tip → IsFirstOf dag tip.0 (counts_at weights dag block least now i) (first_of (bound_of now i) v)
  pub support : (i v : ℕ) (tip : UnitNo) → i < j → view_at panorama v ≡ view.Correct tip → weight_after weights dag (bound_of now i).firsts tip.0 ≡ support_of (bound_of now i) v
  pub ready : (j ≡ 0 → asked ≡ block) → (v : ℕ) (tip : UnitNo) → j < length now → get_or tips v None ≡ Some tip → first_of (bound_of now j) v ≤ low → IsFirstOf dag tip.0 (counts_over weights dag block least (j == 0) lower.firsts) (first_of (bound_of now j) v)

module _ (weights : List ℕ) (dag : UnitGraph) (g : IsGraph dag) (panorama : List View) (tips : List (Option UnitNo)) (block asked least : ℕ) (start : List LevelBound)
    (bounded : (v : ℕ) (tip : UnitNo) → get_or tips v None ≡ Some tip → IsBounded weights dag asked least start v tip.0) where
  pub followed_none : (lower : LevelBound) (low : ℕ) → HasFollowed weights dag panorama tips block asked least start start lower low 0
  followed_none lower low = record {
    long = refl;
    same = λ i le. refl;
    lower_is = λ i e. absurd (omega arith);
    first = λ i v tip lt e. absurd (omega arith);
    support = λ i v tip lt e. absurd (omega arith);
    ready = λ same v tip lj e le. subst (λ (b : ℕ). IsFirstOf dag tip.0 (votes_over dag b) (first_of (bound_of start 0) v)) (same refl) ((bounded v tip e).first 0 lj);
  }

  module _ (now after : List LevelBound) (lower bound : LevelBound) (low next j : ℕ) (h : HasFollowed weights dag panorama tips block asked least start now lower low j) (lj : j < length now) (put : after ≡ set now j bound) where
    other : (i : ℕ) → i ≢ j → bound_of after i ≡ bound_of now i
    other i ne = ap (λ (bs : List LevelBound). bound_of bs i) put ∙ (rw get_or-set_other refl)

    here : bound_of after j ≡ bound
    here = ap (λ (bs : List LevelBound). bound_of bs j) put ∙ (rw get_or-set_same refl)

    counts_below : (i n : ℕ) → i ≤ j → counts_at weights dag block least after i n ≡ counts_at weights dag block least now i n
    counts_below zero n le = refl
    counts_below (suc i) n le = ap (λ (b : LevelBound). has_quorum weights dag least b.firsts n) (other i (omega arith))

    first_by : (f g : ℕ → Bool) → ((n : ℕ) → f n ≡ g n) → (tip first : ℕ) → IsFirstOf dag tip f first → IsFirstOf dag tip g first
    first_by f g same tip first is = λ n ln on less. let m = is n ln on less in (m.0, m.1, m.2, m.3, m.4, sym (same m.0) ∙ m.5)

    pub followed_more : ((v : ℕ) (tip : UnitNo) → view_at panorama v ≡ view.Correct tip → IsFirstOf dag tip.0 (counts_over weights dag block least (j == 0) lower.firsts) (first_of bound v))
        → ((v : ℕ) (tip : UnitNo) → view_at panorama v ≡ view.Correct tip → weight_after weights dag bound.firsts tip.0 ≡ support_of bound v)
        → AreLowered (bound_of now j) bound next → HasFollowed weights dag panorama tips block asked least start after bound next (j + 1)
    followed_more firsts supports lowered =
        let long : length after ≡ length now = ap length put ∙ length-set now j bound in record {
          long = long ∙ h.long;
          same = λ i le. other i (omega arith) ∙ h.same i (omega arith);
          lower_is = λ i e. let is : i ≡ j = omega arith in sym (ap (bound_of after) is ∙ here);
          first = λ i v tip lt e. elim (cases_eq i j) [
            | inl is ↦
                subst (λ (k : ℕ). IsFirstOf dag tip.0 (counts_at weights dag block least after k) (first_of (bound_of after k) v)) (sym is)
                (subst (λ (b : LevelBound). IsFirstOf dag tip.0 (counts_at weights dag block least after j) (first_of b v)) (sym here)
                (first_by (counts_over weights dag block least (j == 0) lower.firsts) (counts_at weights dag block least after j)
                (λ n. over_at weights dag block least now lower j n h.lower_is ∙ sym (counts_below j n (omega arith))) tip.0 (first_of bound v) (firsts v tip e)))
            | inr ne ↦
                subst (λ (b : LevelBound). IsFirstOf dag tip.0 (counts_at weights dag block least after i) (first_of b v)) (sym (other i ne))
                (first_by (counts_at weights dag block least now i) (counts_at weights dag block least after i) (λ n. sym (counts_below i n (omega arith))) tip.0 (first_of (bound_of now i) v) (h.first i v tip (omega arith) e))
          ];
          support = λ i v tip lt e. elim (cases_eq i j) [
            | inl is ↦
                subst (λ (k : ℕ). weight_after weights dag (bound_of after k).firsts tip.0 ≡ support_of (bound_of after k) v) (sym is)
                (subst (λ (b : LevelBound). weight_after weights dag b.firsts tip.0 ≡ support_of b v) (sym here) (supports v tip e))
            | inr ne ↦ subst (λ (b : LevelBound). weight_after weights dag b.firsts tip.0 ≡ support_of b v) (sym (other i ne)) (h.support i v tip (omega arith) e)
          ];
          ready = λ same v tip more e le. get_ready lowered v tip more e le;
        }
      where
        get_ready : AreLowered (bound_of now j) bound next → (v : ℕ) (tip : UnitNo) → j + 1 < length after → get_or tips v None ≡ Some tip → first_of (bound_of after (j + 1)) v ≤ next
            → IsFirstOf dag tip.0 (counts_over weights dag block least (j + 1 == 0) bound.firsts) (first_of (bound_of after (j + 1)) v)
        get_ready lowered v tip more e le =
            let long : length after ≡ length now = ap length put ∙ length-set now j bound in
            let whole = h.long in
            let one : suc j ≡ j + 1 = omega arith in
            let above : bound_of after (j + 1) ≡ bound_of start (suc j) = other (j + 1) (omega arith) ∙ h.same (j + 1) (omega arith) ∙ ap (bound_of start) (sym one) in
            let small : first_of (bound_of start (suc j)) v ≤ next = subst (λ (b : LevelBound). first_of b v ≤ next) above le in
            let before : IsFirstOf dag tip.0 (has_quorum weights dag least (bound_of now j).firsts) (first_of (bound_of start (suc j)) v) =
            subst (λ (b : LevelBound). IsFirstOf dag tip.0 (has_quorum weights dag least b.firsts) (first_of (bound_of start (suc j)) v)) (sym (h.same j (omega arith))) ((bounded v tip e).first (suc j) (omega arith)) in
            let now_is = first_kept weights dag g (bound_of now j) bound next least tip.0 (first_of (bound_of start (suc j)) v) lowered small before in
            subst (λ (k : ℕ). IsFirstOf dag tip.0 (counts_over weights dag block least (k == 0) bound.firsts) (first_of (bound_of after (j + 1)) v)) one
            (over_next weights dag block least j bound.firsts tip.0 (first_of (bound_of after (j + 1)) v) (subst (λ (b : LevelBound). IsFirstOf dag tip.0 (has_quorum weights dag least bound.firsts) (first_of b v)) (sym above) now_is))

  -- in the end all of them do
  pub followed_all : (now : List LevelBound) (lower : LevelBound) (low : ℕ) → HasFollowed weights dag panorama tips block asked least start now lower low (length now) → (v : ℕ) (tip : UnitNo) → tip.0 < count_of dag → view_at panorama v ≡ view.Correct tip
      → IsBounded weights dag block least now v tip.0
  followed_all now lower low h v tip known e = record { known = known; first = λ j lj. h.first j v tip lj e; support = λ j lj. h.support j v tip lj e }

-- what the latest units see of a level above level 0, they see of the one that was copied
pub support_below : (weights : List ℕ) (dag : UnitGraph) (panorama : List View) (tips : List (Option UnitNo)) (block asked least : ℕ) (start now : List LevelBound) (lower : LevelBound) (low j : ℕ) → HasFollowed weights dag panorama tips block asked least start now lower low j → (j == 0) ≡ false
    → (v : ℕ) (tip : UnitNo) → view_at panorama v ≡ view.Correct tip → weight_after weights dag lower.firsts tip.0 ≡ support_of lower v
support_below weights dag panorama tips block asked least start now lower low zero h e v tip t = absurd cc
support_below weights dag panorama tips block asked least start now lower low (suc i) h e v tip t = subst (λ (b : LevelBound). weight_after weights dag b.firsts tip.0 ≡ support_of b v) (sym (h.lower_is i refl)) (h.support i v tip (omega arith) t)

-- ---- what was kept

-- a slot with a unit is Correct
pub tip_correct : (w : View) (tip : UnitNo) → tip_in w ≡ Some tip → w ≡ view.Correct tip
tip_correct view.Absent tip e = absurd cc
tip_correct view.Faulty tip e = absurd cc
tip_correct (view.Correct number) tip e = let same : number ≡ tip = cc in ap view.Correct same

-- what was kept serves where the same is asked again
pub bounds_again : (weights : List ℕ) (dag : UnitGraph) (old : AskedBounds) (block : UnitNo) (least : ℕ) (tips : List (Option UnitNo)) (again : Bool) → AreBounds weights dag old → (again ≡ true → old.block ≡ Some block) → (again ≡ true → old.least ≡ least)
    → (again ≡ true → tips ≡ old.tips) → (again ≡ false → (v : ℕ) → get_or tips v None ≡ None) → (v : ℕ) (tip : UnitNo) → get_or tips v None ≡ Some tip → IsBounded weights dag block.0 least old.levels v tip.0
bounds_again weights dag old block least tips true are same_block same_least same_tips none v tip e =
    subst (λ (n : ℕ). IsBounded weights dag block.0 n old.levels v tip.0) (same_least refl)
    (are block (same_block refl) v tip (sym (ap (λ (ts : List (Option UnitNo)). get_or ts v None) (same_tips refl)) ∙ e))
bounds_again weights dag old block least tips false are same_block same_least same_tips none v tip e = absurd (let bad : None ≡ Some tip = sym (none refl v) ∙ e in cc)

-- the tips that were put are those of the panorama
pub tips_put : (panorama : List View) (tips : List (Option UnitNo)) → length tips ≡ length panorama → ((v : ℕ) → v < length panorama → get_or tips v None ≡ tip_in (view_at panorama v)) → (v : ℕ) (tip : UnitNo) → get_or tips v None ≡ Some tip
    → view_at panorama v ≡ view.Correct tip
tips_put panorama tips long put v tip e = elim (cases_lt v (length panorama)) [
  | inl lt ↦ tip_correct (view_at panorama v) tip (sym (put v lt) ∙ e)
  | inr le ↦ (let none = get_or-eq_default tips None (let same = long in omega arith) in absurd (let bad : None ≡ Some tip = sym none ∙ e in cc))
]

-- ---- whose latest unit changed

-- before this validator, the latest units outside the span are those that are kept
pub record HasSame (panorama : List View) (tips : List (Option UnitNo)) (span : Span) (v : ℕ) : Type 0 where
  pub order : span.from ≤ span.to
  pub behind : span.to ≤ v
  pub same : (w : ℕ) → w < v → IsOutside span w → get_or tips w None ≡ tip_in (view_at panorama w)

pub same_stretched : (panorama : List View) (tips : List (Option UnitNo)) (span next : Span) (v : ℕ) → HasSame panorama tips span v → next.from ≤ v → next.to ≡ v + 1
    → ((w : ℕ) → w < v → IsOutside next w → IsOutside span w) → HasSame panorama tips next (v + 1)
same_stretched panorama tips span next v h from to outside = record {
  order = omega arith;
  behind = omega arith;
  same = λ w lt out. elim (cases_lt w v) [
    | inl less ↦ h.same w less (outside w less out)
    | inr le ↦ elim out [ inl before ↦ absurd (omega arith) | inr past ↦ absurd (omega arith) ]
  ];
}

pub same_kept : (panorama : List View) (tips : List (Option UnitNo)) (span : Span) (v : ℕ) → HasSame panorama tips span v → get_or tips v None ≡ tip_in (view_at panorama v) → HasSame panorama tips span (v + 1)
same_kept panorama tips span v h here = record {
  order = h.order;
  behind = let le = h.behind in omega arith;
  same = λ w lt out. elim (cases_lt w v) [
    | inl less ↦ h.same w less out
    | inr le ↦ (let is : v ≡ w = omega arith in subst (λ (k : ℕ). get_or tips k None ≡ tip_in (view_at panorama k)) is here)
  ];
}
