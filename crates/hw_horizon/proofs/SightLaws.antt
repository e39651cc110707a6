-- What a unit sees by its panorama in numbers is what it has below it.
use Rattle.std.proofs.Common.{◌≡◌, ℕ, ◌≤◌, ◌<◌, inl, inr, Bool, true, false, not, List, length, Option, None, refl, sym, ap, subst, ◌∙◌, arith, eqb-true, eq-eqb}
use Rattle.std.specs.Prelude.{◌&&◌, ◌||◌, ◌==◌, nat_le, is_some}
use Rattle.std.specs.List.{list_any}
use Rattle.std.proofs.lemmas.Bool.{cases_lt, leb-true, leb-false, le-leb, lt-leb}
use Rattle.hw_types.specs.declared.unit.Obs.{Obs}
use Rattle.hw_types.specs.declared.unit.Obs.TheVariants.{Absent, Correct, Faulty}
use Rattle.hw_types.specs.Graph.{Node, slot, slots, cites, unit_cites, past, lane_of, is_faulty_mark, obs_at_most, is_at_most, is_consistent}
use Rattle.hw_types.specs.Below.{Among}
use Rattle.hw_types.specs.Votes.{weight_of, votes_for, unit_fork}
use Rattle.hw_types.proofs.ClosureLaws.{Within}
use Rattle.hw_types.proofs.PastLaws.{some_of, any_of, any_within, reach_first, reach_within}
use Rattle.hw_types.proofs.StableLaws.{both_ways, and_parts, and_whole}
use Rattle.hw_types.proofs.WordsLaws.{all_of, slot_in, slots_in}
use Rattle.hw_types.proofs.SummitLaws.{weight_le}
use Rattle.hw_types.proofs.LaneLaws as lanes
use Rattle.hw_dag.specs.declared.numbers.UnitNo.{UnitNo}
use Rattle.hw_dag.specs.declared.numbers.View.{View}
use Rattle.hw_dag.specs.declared.numbers.View.TheVariants as view
use Rattle.hw_dag.specs.Dag.{UnitGraph, unit_at, count_of, node_at, graph, creator_of, seq_of, view_at, obs_of, observations, IsPanorama}
use Rattle.hw_dag.specs.Admission.{IsGraph}
use Rattle.hw_dag.specs.Lanes.{is_lane_below, AreWeights}
use Rattle.hw_dag.proofs.NodeLaws.{among_node, node_among, graph_one_name}
use Rattle.hw_dag.proofs.SlotLaws.{slot_of, slot_at, latest_of, number_cites}
use Rattle.hw_dag.proofs.LaneLaws.{even_weights, all_faulty, lawful, history, on_lane_among, seen_entry}
use Rattle.hw_dag.proofs.ChainLaws as chain
use Rattle.hw_safety.specs.Pruned.{begun, or_zero, vote_start}
use Rattle.hw_safety.proofs.SuffixLaws.{lane_past}
use Rattle.hw_horizon.specs.Tables.{Starts, entry, is_member, is_seen, start_over}
use Rattle.hw_horizon.specs.Starts.{IsSlotStart, votes_over, is_from, sees, sees_quorum, IsSuffix, HasSlots}
use Rattle.hw_horizon.proofs.LaneLaws.{lane_most, slot_start_is_begun, tip_begins}
use Rattle.hw_horizon.proofs.VoteLaws.{votes_are}
use Rattle.hw_horizon.proofs.TableLaws.{past_end}

module _ (dag : UnitGraph) (g : IsGraph dag) where
  abbrev seen_test : ℕ → ℕ → Node → Bool
  seen_test v from y = (y.unit.creator == v) && nat_le from y.unit.seq

  abbrev IsUnmarked : ℕ → ℕ → Type 0
  IsUnmarked n v = view_at (unit_at dag n).panorama v ≡ view.Faulty → ⊥

  -- a unit of a slot is below
  slot_below : (n v : ℕ) (number : UnitNo) → n < count_of dag → view_at (unit_at dag n).panorama v ≡ view.Correct number → Among (node_at dag number.0) (history dag g n)
  slot_below n v number ln e = reach_first unit_cites (cites (unit_at dag n).signed.unit.panorama) (graph dag) (node_at dag number.0) (node_among dag g number.0 ((g.settled n ln).panorama_is.known v number e))
      (subst (λ (os : List Obs). cites os (node_at dag number.0) ≡ true) (g.settled n ln).observes (number_cites dag g (unit_at dag n).panorama v number e))

  -- what the slot says holds of what is below
  from_is : (n v from : ℕ) → n < count_of dag → IsUnmarked n v → is_from dag from (view_at (unit_at dag n).panorama v) ≡ list_any (seen_test v from) (history dag g n)
  from_is n v from ln unmarked = both_ways (is_from dag from (view_at (unit_at dag n).panorama v)) (list_any (seen_test v from) (history dag g n)) (there (view_at (unit_at dag n).panorama v) refl) back
    where
      there : (w : View) → view_at (unit_at dag n).panorama v ≡ w → is_from dag from w ≡ true → list_any (seen_test v from) (history dag g n) ≡ true
      there view.Absent e h = absurd cc
      there view.Faulty e h = absurd cc
      there (view.Correct number) e h = any_of (seen_test v from) (node_at dag number.0) (history dag g n) (slot_below n v number ln e)
          (and_whole (creator_of (unit_at dag number.0) == v) (nat_le from (seq_of (unit_at dag number.0))) (eq-eqb _ v ((g.settled n ln).panorama_is.creator_is v number e)) h)

      back : list_any (seen_test v from) (history dag g n) ≡ true → is_from dag from (view_at (unit_at dag n).panorama v) ≡ true
      back h =
          let y = some_of (seen_test v from) (history dag g n) h in
          let low = among_node dag y.0 (reach_within unit_cites (cites (unit_at dag n).signed.unit.panorama) (graph dag) y.0 y.1) in
          let below : Among (node_at dag low.0) (history dag g n) = subst (λ (z : Node). Among z (history dag g n)) (sym low.2) y.1 in
          let passes : seen_test v from (node_at dag low.0) ≡ true = subst (λ (z : Node). seen_test v from z ≡ true) (sym low.2) y.2 in
          let parts = and_parts (creator_of (unit_at dag low.0) == v) (nat_le from (seq_of (unit_at dag low.0))) passes in
          let made : creator_of (unit_at dag low.0) ≡ v = eqb-true _ v parts.0 in
          elim (seen_entry dag g low.0 n low.1 ln below) [
            | inl marked ↦ absurd (unmarked (subst (λ (c : ℕ). view_at (unit_at dag n).panorama c ≡ view.Faulty) made marked))
            | inr k ↦ (
                let slot_is : view_at (unit_at dag n).panorama v ≡ view.Correct k.0 = subst (λ (c : ℕ). view_at (unit_at dag n).panorama c ≡ view.Correct k.0) made k.1 in
                let most = lane_most dag g k.0.0 low.0 ((g.settled n ln).panorama_is.known v k.0 slot_is) low.1 k.2 in
                let from_low : from ≤ seq_of (unit_at dag low.0) = leb-true _ _ parts.1 in
                ap (is_from dag from) slot_is ∙ le-leb from (seq_of (unit_at dag k.0.0)) (omega arith))
          ]

  -- none of those present is marked by the unit
  abbrev AreUnmarked : ℕ → Starts → Type 0
  AreUnmarked n present = (v : ℕ) → is_some (entry present v) ≡ true → IsUnmarked n v

  sees_is : (n : ℕ) → n < count_of dag → (lower present : Starts) → AreUnmarked n present → (v : ℕ) → sees dag n lower present v ≡ is_seen (history dag g n) lower present v
  sees_is n ln lower present unmarked v = go (is_some (entry present v)) refl
    where
      go : (b : Bool) → is_some (entry present v) ≡ b
          → (b && is_from dag (or_zero (entry lower v)) (view_at (unit_at dag n).panorama v)) ≡ (b && list_any (seen_test v (or_zero (entry lower v))) (history dag g n))
      go true e = from_is n v (or_zero (entry lower v)) ln (unmarked v e)
      go false e = refl

  -- so the weight is that of the definitions
  quorum_is : (weights : List ℕ) (n quorum : ℕ) → n < count_of dag → (lower present : Starts) → AreUnmarked n present
      → sees_quorum weights dag quorum lower present n ≡ nat_le quorum (weight_of weights (is_seen (history dag g n) lower present))
  quorum_is weights n quorum ln lower present unmarked = λ i. nat_le quorum (weight_of weights (λ v. sees_is n ln lower present unmarked v i))

  -- ---- a consistent panorama

  module _ (panorama : List View) (ip : IsPanorama dag panorama) (consistent : is_consistent (graph dag) (observations dag panorama) ≡ true) where
    -- a mark stays in a panorama that is no less
    mark_stays : (small large : List Obs) → is_at_most (graph dag) small large ≡ true → (v : ℕ) → slot small v ≡ Faulty → is_faulty_mark (slot large v) ≡ true
    unfolding is_at_most
    mark_stays small large h v e =
        let there = slot_in small v Faulty e (λ bad. absurd cc) in
        let met = all_of (λ w. obs_at_most (graph dag) (slot small w) (slot large w)) (slots small) h v (slots_in small v there.1) in
        subst (λ (o : Obs). obs_at_most (graph dag) o (slot large v) ≡ true) e met

    -- what a latest unit marks, the panorama marks
    latest_mark : (t : ℕ) (tip : UnitNo) → view_at panorama t ≡ view.Correct tip → (v : ℕ) → slot (unit_at dag tip.0).signed.unit.panorama v ≡ Faulty → is_faulty_mark (slot (observations dag panorama) v) ≡ true
    unfolding is_consistent
    latest_mark t tip e v marked =
        let lt = ip.known t tip e in
        let all : (not (cites (observations dag panorama) (node_at dag tip.0)) || is_at_most (graph dag) (unit_at dag tip.0).signed.unit.panorama (observations dag panorama)) ≡ true =
        all_of (λ w. not (cites (observations dag panorama) w) || is_at_most (graph dag) w.unit.panorama (observations dag panorama)) (graph dag) consistent (node_at dag tip.0) (node_among dag g tip.0 lt) in
        let most : is_at_most (graph dag) (unit_at dag tip.0).signed.unit.panorama (observations dag panorama) ≡ true =
        subst (λ (b : Bool). (not b || is_at_most (graph dag) (unit_at dag tip.0).signed.unit.panorama (observations dag panorama)) ≡ true) (number_cites dag g panorama t tip e) all in
        mark_stays (unit_at dag tip.0).signed.unit.panorama (observations dag panorama) most v marked

    -- so no unit of its lanes marks a validator with a Correct slot
    pub unmarked_on_lane : (t : ℕ) (tip : UnitNo) → view_at panorama t ≡ view.Correct tip → (n : ℕ) → n < count_of dag → is_lane_below dag n tip.0 ≡ true
        → (v : ℕ) (number : UnitNo) → view_at panorama v ≡ view.Correct number → IsUnmarked n v
    unmarked_on_lane t tip e n ln lane_test v number slot_is marked =
        let lt = ip.known t tip e in
        let here : slot (unit_at dag n).signed.unit.panorama v ≡ Faulty = slot_at dag g n v ln ∙ ap (obs_of dag) marked in
        let tip_marks : slot (unit_at dag tip.0).signed.unit.panorama v ≡ Faulty =
        elim (lanes.lane_below (even_weights dag) all_faulty (graph dag) (lawful dag g) (node_at dag tip.0) (node_at dag n) (node_among dag g tip.0 lt) (on_lane_among dag g n tip.0 ln lane_test)) [
          | inl same ↦ subst (λ (z : Node). slot z.unit.panorama v ≡ Faulty) same here
          | inr m ↦ is_marked (slot (unit_at dag tip.0).signed.unit.panorama v)
              (subst (λ (o : Obs). obs_at_most (graph dag) o (slot (unit_at dag tip.0).signed.unit.panorama v) ≡ true) here
              (lanes.past_at_most (even_weights dag) all_faulty (graph dag) (lawful dag g) (node_at dag tip.0) (node_at dag n) (node_among dag g tip.0 lt) m v))
        ] in
        let bad : is_faulty_mark (slot (observations dag panorama) v) ≡ true = latest_mark t tip e v tip_marks in
        let other : slot (observations dag panorama) v ≡ Correct (unit_at dag number.0).digest = slot_of dag panorama v ∙ ap (obs_of dag) slot_is in
        (let no : false ≡ true = subst (λ (o : Obs). is_faulty_mark o ≡ true) other bad in cc)
      where
        is_marked : (o : Obs) → is_faulty_mark o ≡ true → o ≡ Faulty
        is_marked Faulty h = refl
        is_marked Absent h = absurd cc
        is_marked (Correct d) h = absurd cc

    module _ (weights : List ℕ) (quorum : ℕ) (lower present : Starts) (has_slots : HasSlots panorama present) where
      abbrev pub enough : List Node → Bool
      enough below = nat_le quorum (weight_of weights (is_seen below lower present))

      pub quorum_on_lane : (t : ℕ) (tip : UnitNo) → view_at panorama t ≡ view.Correct tip → (n : ℕ) → n < count_of dag → is_lane_below dag n tip.0 ≡ true → sees_quorum weights dag quorum lower present n ≡ enough (history dag g n)
      quorum_on_lane t tip e n ln lane_test = quorum_is weights n quorum ln lower present (λ v h. let s = has_slots v h in unmarked_on_lane t tip e n ln lane_test v s.0 s.1)

      more_seen : (some more : List Node) → Within some more → enough some ≡ true → enough more ≡ true
      more_seen some more w h =
          let low : quorum ≤ weight_of weights (is_seen some lower present) = leb-true _ _ h in
          let grows = weight_le weights (is_seen some lower present) (is_seen more lower present)
          (λ v k. let parts = and_parts (is_some (entry present v)) (list_any (seen_test v (or_zero (entry lower v))) some) k in
          and_whole (is_some (entry present v)) (list_any (seen_test v (or_zero (entry lower v))) more) parts.0 (any_within (seen_test v (or_zero (entry lower v))) some more w parts.1)) in
          le-leb _ _ (omega arith)

      -- The units of a slot's lane that see a quorum are its last ones.
      pub suffix_is : (t : ℕ) (tip : UnitNo) → view_at panorama t ≡ view.Correct tip → IsSuffix dag tip.0 (sees_quorum weights dag quorum lower present)
      suffix_is t tip e m n lm ln tm tn le h =
          let lt = ip.known t tip e in
          let on : Among (node_at dag m) (lane_of (graph dag) (node_at dag n)) =
          chain.lane_chain (even_weights dag) all_faulty (graph dag) (lawful dag g) (node_at dag tip.0) (node_at dag m) (node_at dag n) (node_among dag g tip.0 lt)
          (on_lane_among dag g m tip.0 lm tm) (on_lane_among dag g n tip.0 ln tn) le in
          let within : Within (history dag g m) (history dag g n) = lane_past (graph dag) (graph_one_name dag) (node_at dag n) (node_among dag g n ln) (node_at dag m) on in
          quorum_on_lane t tip e n ln tn ∙ more_seen (history dag g m) (history dag g n) within (sym (quorum_on_lane t tip e m lm tm) ∙ h)

      -- The start of a slot is the one of pruning.
      pub start_over_is : (v : ℕ) (o : Option ℕ) → IsSlotStart dag (view_at panorama v) (or_zero (entry lower v)) (sees_quorum weights dag quorum lower present) o
          → start_over weights (graph dag) (observations dag panorama) quorum lower present v ≡ o
      start_over_is v o s = slot_start_is_begun dag g panorama ip v (or_zero (entry lower v)) (sees_quorum weights dag quorum lower present) (λ x. enough (past (graph dag) x.unit.panorama))
          (λ tip e n ln t. sym (quorum_on_lane v tip e n ln t)) o s

      -- nobody sees a quorum of those who weigh less than one
      pub light_none : weight_of weights (is_member present) < quorum → (v : ℕ) → start_over weights (graph dag) (observations dag panorama) quorum lower present v ≡ None
      light_none light v = start_over_is v None (go (view_at panorama v))
        where
          blind : (n : ℕ) → sees_quorum weights dag quorum lower present n ≡ false
          blind n =
              let most = weight_le weights (sees dag n lower present) (is_member present) (λ w h. (and_parts (is_some (entry present w)) (is_from dag (or_zero (entry lower w)) (view_at (unit_at dag n).panorama w)) h).0) in
              lt-leb quorum (weight_of weights (sees dag n lower present)) (omega arith)

          go : (w : View) → IsSlotStart dag w (or_zero (entry lower v)) (sees_quorum weights dag quorum lower present) None
          go view.Absent = refl
          go (view.Correct tip) = inr (blind tip.0)
          go view.Faulty = refl

      -- there is a start exactly where the latest unit sees a quorum, and isn't before the one of the level below
      pub tip_decides : (t : ℕ) (tip : UnitNo) → view_at panorama t ≡ view.Correct tip
          → is_some (start_over weights (graph dag) (observations dag panorama) quorum lower present t) ≡ (nat_le (or_zero (entry lower t)) (seq_of (unit_at dag tip.0)) && sees_quorum weights dag quorum lower present tip.0)
      tip_decides t tip e = go (nat_le (or_zero (entry lower t)) (seq_of (unit_at dag tip.0))) refl (sees_quorum weights dag quorum lower present tip.0) refl
        where
          none : IsSlotStart dag (view.Correct tip) (or_zero (entry lower t)) (sees_quorum weights dag quorum lower present) None → is_some (start_over weights (graph dag) (observations dag panorama) quorum lower present t) ≡ false
          none s = ap is_some (start_over_is t None (subst (λ (w : View). IsSlotStart dag w (or_zero (entry lower t)) (sees_quorum weights dag quorum lower present) None) (sym e) s))

          go : (a : Bool) → nat_le (or_zero (entry lower t)) (seq_of (unit_at dag tip.0)) ≡ a → (b : Bool) → sees_quorum weights dag quorum lower present tip.0 ≡ b
              → is_some (start_over weights (graph dag) (observations dag panorama) quorum lower present t) ≡ (a && b)
          go true low true p =
              ap (λ (u : Option Node). is_some (begun (graph dag) (or_zero (entry lower t)) (λ x. enough (past (graph dag) x.unit.panorama)) u)) (latest_of dag g panorama t tip e (ip.known t tip e))
              ∙ tip_begins dag g tip.0 (or_zero (entry lower t)) (sees_quorum weights dag quorum lower present) (λ x. enough (past (graph dag) x.unit.panorama)) (ip.known t tip e)
              (λ n ln on. sym (quorum_on_lane t tip e n ln on)) (leb-true _ _ low) p
          go true low false p = none (inr p)
          go false low b p = none (inl (leb-false _ _ low))

  -- and so is that of level 0
  pub vote_start_is : (weights : List ℕ) → AreWeights weights dag → (panorama : List View) → IsPanorama dag panorama → (block : ℕ) → block < count_of dag → (v : ℕ) (o : Option ℕ)
      → IsSlotStart dag (view_at panorama v) 0 (votes_over dag block) o → vote_start weights (graph dag) (observations dag panorama) (node_at dag block) v ≡ o
  vote_start_is weights aw panorama ip block lb v o s = slot_start_is_begun dag g panorama ip v 0 (votes_over dag block) (votes_for (length (graph dag)) (unit_fork weights (graph dag)) (node_at dag block))
      (λ tip e n ln t. votes_are weights dag g aw block n lb ln) o s

-- only a Correct slot has a start
pub slot_correct : (dag : UnitGraph) (w : View) (floor : ℕ) (passes : ℕ → Bool) (o : Option ℕ) → IsSlotStart dag w floor passes o → is_some o ≡ true → (number : UnitNo) × (w ≡ view.Correct number)
slot_correct dag view.Absent floor passes o e h = absurd (let bad : false ≡ true = ap is_some (sym e) ∙ h in cc)
slot_correct dag view.Faulty floor passes o e h = absurd (let bad : false ≡ true = ap is_some (sym e) ∙ h in cc)
slot_correct dag (view.Correct number) floor passes o s h = (number, refl)

pub slots_first : (dag : UnitGraph) (panorama : List View) (block n : ℕ) (t : Starts) → length t ≡ n → ((v : ℕ) → v < n → IsSlotStart dag (view_at panorama v) 0 (votes_over dag block) (entry t v)) → HasSlots panorama t
slots_first dag panorama block n t len each v h = elim (cases_lt v n) [
  | inl lt ↦ slot_correct dag (view_at panorama v) 0 (votes_over dag block) (entry t v) (each v lt) h
  | inr le ↦ absurd (let bad : false ≡ true = ap is_some (sym (past_end t v (omega arith))) ∙ h in cc)
]
