-- What is kept of each level rules out summits, and stays true while the graph grows.
use Rattle.std.proofs.Common.{◌≡◌, ℕ, zero, suc, ◌+◌, ◌-◌, ◌≤◌, ◌<◌, inl, inr, true, false, List, length, get_or, Some, None, refl, sym, ap, subst, ◌∙◌, arith, eqb-true}
use Rattle.std.specs.Prelude.{◌&&◌, ◌==◌, nat_le}
use Rattle.std.proofs.lemmas.Bool.{cases_lt, le-leb, leb-true}
use Rattle.hw_types.specs.Graph.{Node, latest, observed, unit_cites, cites, is_consistent}
use Rattle.hw_types.specs.Below.{Among}
use Rattle.hw_types.specs.Votes.{weight_of}
use Rattle.hw_types.specs.Summit.{Committees, IsSummit, sees_from}
use Rattle.hw_types.proofs.PastLaws.{some_of, reach_within}
use Rattle.hw_types.proofs.StableLaws.{and_parts}
use Rattle.hw_types.proofs.SummitLaws.{weight_le}
use Rattle.hw_dag.specs.declared.numbers.UnitNo.{UnitNo}
use Rattle.hw_dag.specs.declared.numbers.View.{View}
use Rattle.hw_dag.specs.declared.numbers.View.TheVariants as view
use Rattle.hw_dag.specs.Dag.{SettledUnit, UnitGraph, unit_at, count_of, node_at, graph, creator_of, seq_of, view_at, obs_of, observations, IsPanorama, GrowsTo}
use Rattle.hw_dag.specs.Admission.{IsGraph}
use Rattle.hw_dag.specs.Lanes.{is_lane_below, AreWeights}
use Rattle.hw_dag.proofs.NodeLaws.{among_node}
use Rattle.hw_dag.proofs.SlotLaws.{slot_of, latest_of}
use Rattle.hw_dag.proofs.LaneLaws.{history, on_lane_among, seen_entry, lane_is_seen}
use Rattle.hw_dag.proofs.MarkLaws.{seen_earlier}
use Rattle.hw_dag.proofs.GrowthLaws.{count_grows, unit_stays, is_lane_below_stays}
use Rattle.hw_horizon.specs.Firsts.{is_after, sees_after, weight_after}
use Rattle.hw_horizon.specs.Bounds.{LevelBound, AskedBounds, tip_of, bound_of, first_of, support_of, counts_at, IsBounded, tip_in, AreTips}
use Rattle.hw_horizon.specs.Laws.{BoundsRuleOut, BoundsStay, SumsStay}
use Rattle.hw_horizon.proofs.LaneLaws.{lane_self, lane_lower, lane_above}
use Rattle.hw_horizon.proofs.VoteLaws.{votes_are}
use Rattle.hw_horizon.proofs.SightLaws.{unmarked_on_lane}
use Rattle.hw_horizon.proofs.FirstLaws.{view_on_lane, correct_inside}
use Rattle.hw_horizon.proofs.LesserLaws.{member_down}
use Rattle.hw_horizon.proofs.WalkLaws.{votes_stay, lane_was}

pub sums_stay : SumsStay
sums_stay dag later grows weights firsts n lt = ap (λ (u : SettledUnit). weight_of weights (λ v. is_after (get_or firsts v 0) (view_at u.panorama v))) (unit_stays dag later grows n lt)

-- ---- one lane

module _ (dag : UnitGraph) (g : IsGraph dag) where
  -- what is on the lane of a unit has no greater number
  pub lane_earlier : (low high : ℕ) → low < count_of dag → high < count_of dag → is_lane_below dag low high ≡ true → low ≤ high
  lane_earlier low high lo hi t = seen_earlier dag g low high lo hi (lane_is_seen dag g low high lo hi t)

  -- of two units of a lane the one of the lesser number has no greater sequence number
  pub lane_order : (tip m n : ℕ) → tip < count_of dag → m < count_of dag → n < count_of dag → is_lane_below dag m tip ≡ true → is_lane_below dag n tip ≡ true → m ≤ n → seq_of (unit_at dag m) ≤ seq_of (unit_at dag n)
  lane_order tip m n lt lm ln s t le = elim (cases_lt (seq_of (unit_at dag n)) (seq_of (unit_at dag m))) [
    | inl less ↦ absurd
        (let down = lane_earlier n m ln lm (lane_lower dag g tip n m lt ln lm t s (omega arith)) in
        let same : n ≡ m = omega arith in
        let seqs = ap (λ (k : ℕ). seq_of (unit_at dag k)) same in
        omega arith)
    | inr ge ↦ ge
  ]

-- a unit of a slot is that of a Correct one
slot_number : (dag : UnitGraph) (panorama : List View) (v : ℕ) (u : Node) → latest (graph dag) (observations dag panorama) v ≡ Some u → (number : UnitNo) × (view_at panorama v ≡ view.Correct number)
slot_number dag panorama v u e = go (view_at panorama v) refl
  where
    go : (w : View) → view_at panorama v ≡ w → (number : UnitNo) × (view_at panorama v ≡ view.Correct number)
    go view.Absent h = absurd (let bad : None ≡ Some u = sym (ap (observed (graph dag)) (slot_of dag panorama v ∙ ap (obs_of dag) h)) ∙ e in cc)
    go view.Faulty h = absurd (let bad : None ≡ Some u = sym (ap (observed (graph dag)) (slot_of dag panorama v ∙ ap (obs_of dag) h)) ∙ e in cc)
    go (view.Correct number) h = (number, h)

-- ---- a summit is within the bounds

module _ (weights : List ℕ) (dag : UnitGraph) (g : IsGraph dag) (aw : AreWeights weights dag) (panorama : List View) (ip : IsPanorama dag panorama) (consistent : is_consistent (graph dag) (observations dag panorama) ≡ true)
    (kept : AskedBounds) (block : UnitNo) (are : (v : ℕ) (tip : UnitNo) → tip_of kept v ≡ Some tip → IsBounded weights dag block.0 kept.least kept.levels v tip.0) (tips : AreTips panorama kept)
    (known : block.0 < count_of dag) (level quorum : ℕ) (few : kept.least ≤ quorum) (c : Committees) (s : IsSummit weights (graph dag) (observations dag panorama) (node_at dag block.0) level quorum c) where
  abbrev bound : ℕ → LevelBound
  bound j = bound_of kept.levels j

  bounded : (v : ℕ) (tip : UnitNo) → view_at panorama v ≡ view.Correct tip → IsBounded weights dag block.0 kept.least kept.levels v tip.0
  bounded v tip e = are v tip (tips v (correct_inside panorama v tip e) ∙ ap tip_in e)

  -- a member of a level has a slot with a unit
  tip_at : (j v : ℕ) → j ≤ level → c.member j v ≡ true → (tip : UnitNo) × (view_at panorama v ≡ view.Correct tip) × (latest (graph dag) (observations dag panorama) v ≡ Some (node_at dag tip.0))
  tip_at j v le h =
      let slot = s.correct_slot v (member_down weights (graph dag) (observations dag panorama) (node_at dag block.0) level quorum c s j 0 v (omega arith) (let e : 0 + j ≡ j = omega arith in ap (λ (k : ℕ). c.member k v) e ∙ h)) in
      let number = slot_number dag panorama v slot.1 slot.2 in
      (number.0, number.1, latest_of dag g panorama v number.0 number.1 (ip.known v number.0 number.1))

  -- the units from a member's start on have no lesser number than the first that may count
  abbrev Holds : ℕ → Type 0
  Holds j = (v : ℕ) (tip : UnitNo) → c.member j v ≡ true → view_at panorama v ≡ view.Correct tip → (m : ℕ) → m < count_of dag → is_lane_below dag m tip.0 ≡ true → c.start j v ≤ seq_of (unit_at dag m) → first_of (bound j) v ≤ m

  -- where all units from there on count
  by_each : (j v : ℕ) (tip : UnitNo) → j < length kept.levels → view_at panorama v ≡ view.Correct tip → (start : ℕ)
      → ((n : ℕ) → n < count_of dag → is_lane_below dag n tip.0 ≡ true → start ≤ seq_of (unit_at dag n) → counts_at weights dag block.0 kept.least kept.levels j n ≡ true)
      → (m : ℕ) → m < count_of dag → is_lane_below dag m tip.0 ≡ true → start ≤ seq_of (unit_at dag m) → first_of (bound j) v ≤ m
  by_each j v tip lj e start each m lm on from = elim (cases_lt m (first_of (bound j) v)) [
    | inl less ↦
        (let b = bounded v tip e in
        let n = b.first j lj m lm on less in
        let order = lane_order dag g tip.0 m n.0 b.known lm n.1 on n.2 n.3 in
        let counts = each n.0 n.1 n.2 (omega arith) in
        absurd (let bad : false ≡ true = sym n.5 ∙ counts in cc))
    | inr le ↦ le
  ]

  holds_first : 0 < length kept.levels → Holds 0
  holds_first some v tip h e =
      let t = tip_at 0 v (omega arith) h in
      let same : t.0 ≡ tip = (let both : view.Correct t.0 ≡ view.Correct tip = sym t.1 ∙ e in cc) in
      by_each 0 v tip some e (c.start 0 v)
      (λ n ln on from. sym (votes_are weights dag g aw block.0 n known ln)
      ∙ s.votes v (node_at dag t.0.0) h t.2 (node_at dag n) (on_lane_among dag g n t.0.0 ln (subst (λ (k : UnitNo). is_lane_below dag n k.0 ≡ true) (sym same) on)) from)

  -- what a unit from a member's start on sees of the committee, it sees by number
  module _ (j : ℕ) (lt : j < level) (below : Holds j) where
    sees_more : (t : ℕ) (tip : UnitNo) → view_at panorama t ≡ view.Correct tip → (n : ℕ) → n < count_of dag → is_lane_below dag n tip.0 ≡ true → (w : ℕ)
        → (c.member (suc j) w && sees_from (graph dag) (node_at dag n) w (c.start (suc j - 1) w)) ≡ true → sees_after dag (bound j).firsts n w ≡ true
    sees_more t tip e n ln on w h =
        let one : suc j ≡ j + 1 = omega arith in
        let back : suc j - 1 ≡ j = omega arith in
        let parts = and_parts (c.member (suc j) w) (sees_from (graph dag) (node_at dag n) w (c.start (suc j - 1) w)) h in
        let member = (s.nested j w lt (ap (λ (k : ℕ). c.member k w) (sym one) ∙ parts.0)).0 in
        let slot = tip_at j w (omega arith) member in
        let y = some_of (λ z. (z.unit.creator == w) && nat_le (c.start (suc j - 1) w) z.unit.seq) (history dag g n) parts.1 in
        let low = among_node dag y.0 (reach_within unit_cites (cites (unit_at dag n).signed.unit.panorama) (graph dag) y.0 y.1) in
        let inside : Among (node_at dag low.0) (history dag g n) = subst (λ (z : Node). Among z (history dag g n)) (sym low.2) y.1 in
        let passes = and_parts (y.0.unit.creator == w) (nat_le (c.start (suc j - 1) w) y.0.unit.seq) y.2 in
        let made : creator_of (unit_at dag low.0) ≡ w = subst (λ (z : Node). z.unit.creator ≡ w) (sym low.2) (eqb-true _ w passes.0) in
        let from : c.start (suc j - 1) w ≤ seq_of (unit_at dag low.0) = subst (λ (z : Node). c.start (suc j - 1) w ≤ z.unit.seq) (sym low.2) (leb-true _ _ passes.1) in
        elim (seen_entry dag g low.0 n low.1 ln inside) [
          | inl marked ↦ absurd (unmarked_on_lane dag g panorama ip consistent t tip e n ln on w slot.0 slot.1 (subst (λ (a : ℕ). view_at (unit_at dag n).panorama a ≡ view.Faulty) made marked))
          | inr k ↦
              (let slot_is : view_at (unit_at dag n).panorama w ≡ view.Correct k.0 = subst (λ (a : ℕ). view_at (unit_at dag n).panorama a ≡ view.Correct k.0) made k.1 in
              let known_k = (g.settled n ln).panorama_is.known w k.0 slot_is in
              let high = view_on_lane dag g panorama ip consistent t tip e n ln on w k.0 slot.0 slot_is slot.1 in
              let there = lane_above dag g slot.0.0 low.0 k.0.0 low.1 known_k k.2 high in
              let start : c.start j w ≤ seq_of (unit_at dag low.0) = subst (λ (i : ℕ). c.start i w ≤ seq_of (unit_at dag low.0)) back from in
              let first = below w slot.0 member slot.1 low.0 low.1 there start in
              let earlier = lane_earlier dag g low.0 k.0.0 low.1 known_k k.2 in
              ap (is_after (first_of (bound j) w)) slot_is ∙ le-leb (first_of (bound j) w) k.0.0 (omega arith))
        ]

    -- each unit from a member's start on sees a quorum by number
    quorum_seen : (v : ℕ) (tip : UnitNo) → c.member (suc j) v ≡ true → view_at panorama v ≡ view.Correct tip → (n : ℕ) → n < count_of dag → is_lane_below dag n tip.0 ≡ true → c.start (suc j) v ≤ seq_of (unit_at dag n)
        → quorum ≤ weight_after weights dag (bound j).firsts n
    quorum_seen v tip h e n ln on from =
        let t = tip_at (suc j) v (omega arith) h in
        let same : t.0 ≡ tip = (let both : view.Correct t.0 ≡ view.Correct tip = sym t.1 ∙ e in cc) in
        let seen = s.quorums (suc j) v (node_at dag t.0.0) (omega arith) (omega arith) h t.2 (node_at dag n) (on_lane_among dag g n t.0.0 ln (subst (λ (k : UnitNo). is_lane_below dag n k.0 ≡ true) (sym same) on)) from in
        let more = weight_le weights (λ w. c.member (suc j) w && sees_from (graph dag) (node_at dag n) w (c.start (suc j - 1) w)) (sees_after dag (bound j).firsts n) (λ w k. sees_more v tip e n ln on w k) in
        omega arith

    holds_next : suc j < length kept.levels → Holds (suc j)
    holds_next lj v tip h e = by_each (suc j) v tip lj e (c.start (suc j) v) (λ n ln on from. let seen = quorum_seen v tip h e n ln on from in le-leb kept.least (weight_after weights dag (bound j).firsts n) (omega arith))

    -- so those whose latest unit sees a quorum weigh one
    heavy : j < length kept.levels → quorum ≤ weight_of weights (λ v. nat_le quorum (support_of (bound j) v))
    heavy lj =
        let k : (k : ℕ) × (suc j + k ≡ level) = (level - suc j, omega arith) in
        let v = s.not_empty.0 in
        let member : c.member (suc j) v ≡ true = member_down weights (graph dag) (observations dag panorama) (node_at dag block.0) level quorum c s k.0 (suc j) v (let whole = k.1 in omega arith) (ap (λ (i : ℕ). c.member i v) k.1 ∙ s.not_empty.1) in
        let slot = tip_at (suc j) v (omega arith) member in
        let own = ip.known v slot.0 slot.1 in
        let reached = s.start_in_lane (suc j) v (node_at dag slot.0.0) (omega arith) member slot.2 in
        let on = lane_self dag g slot.0.0 own in
        let seen = s.quorums (suc j) v (node_at dag slot.0.0) (omega arith) (omega arith) member slot.2 (node_at dag slot.0.0) (on_lane_among dag g slot.0.0 slot.0.0 own on) reached in
        let some = weight_le weights (λ w. c.member (suc j) w && sees_from (graph dag) (node_at dag slot.0.0) w (c.start (suc j - 1) w)) (λ w. c.member (suc j) w) (λ w h. (and_parts (c.member (suc j) w) (sees_from (graph dag) (node_at dag slot.0.0) w (c.start (suc j - 1) w)) h).0) in
        let more = weight_le weights (λ w. c.member (suc j) w) (λ w. nat_le quorum (support_of (bound j) w)) (λ w h. supported lj w h) in
        omega arith
      where
        supported : j < length kept.levels → (w : ℕ) → c.member (suc j) w ≡ true → nat_le quorum (support_of (bound j) w) ≡ true
        supported lj w h =
            let slot = tip_at (suc j) w (omega arith) h in
            let own = ip.known w slot.0 slot.1 in
            let seen = quorum_seen w slot.0 h slot.1 slot.0.0 own (lane_self dag g slot.0.0 own) (s.start_in_lane (suc j) w (node_at dag slot.0.0) (omega arith) h slot.2) in
            let sum = (bounded w slot.0 slot.1).support j lj in
            le-leb quorum (support_of (bound j) w) (omega arith)

  holds : (j : ℕ) → j ≤ level → j < length kept.levels → Holds j
  holds zero le lj = holds_first lj
  holds (suc j) le lj = holds_next j (omega arith) (holds j (omega arith) (omega arith)) lj

  pub heavy_at : (j : ℕ) → j < level → j < length kept.levels → quorum ≤ weight_of weights (λ v. nat_le quorum (support_of (bound j) v))
  heavy_at j lt lj = heavy j lt (holds j (omega arith) lj) lj

pub bounds_rule_out : BoundsRuleOut
bounds_rule_out weights dag panorama kept block j level quorum g aw ip consistent are tips e known few lt lj light s =
    let h = heavy_at weights dag g aw panorama ip consistent kept block (are block e) tips known level quorum few s.0 s.1 j lt lj in
    omega arith

-- ---- while the graph grows

module _ (weights : List ℕ) (dag later : UnitGraph) (g : IsGraph dag) (h : IsGraph later) (grows : GrowsTo dag later) where
  counts_stay : (block least : ℕ) (levels : List LevelBound) (j n : ℕ) → n < count_of dag → counts_at weights later block least levels j n ≡ counts_at weights dag block least levels j n
  counts_stay block least levels zero n lt = votes_stay dag later g h grows block n lt
  counts_stay block least levels (suc j) n lt = ap (nat_le least) (sums_stay dag later grows weights (bound_of levels j).firsts n lt)

  bounded_stays : (block least : ℕ) (levels : List LevelBound) (v tip : ℕ) → IsBounded weights dag block least levels v tip → IsBounded weights later block least levels v tip
  bounded_stays block least levels v tip b =
      let more = count_grows dag later grows in
      let known = b.known in record {
        known = omega arith;
        first = λ j lj n ln on less.
            let was = lane_was dag later g h grows tip n known ln on in
            let m = b.first j lj n was (sym (is_lane_below_stays dag later grows g h.distinct n tip was known) ∙ on) less in (
              m.0,
              omega (arith, m.1),
              is_lane_below_stays dag later grows g h.distinct m.0 tip m.1 known ∙ m.2,
              m.3,
              m.4,
              counts_stay block least levels j m.0 m.1 ∙ m.5,
            );
        support = λ j lj. sums_stay dag later grows weights (bound_of levels j).firsts tip known ∙ b.support j lj;
      }

pub bounds_stay : BoundsStay
bounds_stay weights dag later kept g h grows are block e v tip t = bounded_stays weights dag later g h grows block.0 kept.least kept.levels v tip.0 (are block e v tip t)
