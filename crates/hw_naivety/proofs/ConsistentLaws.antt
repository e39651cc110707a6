-- What is below a consistent panorama, by its entries.
use Rattle.std.proofs.Common.{◌≡◌, ℕ, ◌<◌, ◌⊎◌, inl, inr, Bool, true, false, not, List, length, Some, refl, sym, ap, subst, ◌∙◌}
use Rattle.std.specs.Prelude.{◌||◌}
use Rattle.std.proofs.lemmas.Bool.{cases_lt}
use Rattle.hw_types.specs.declared.unit.Digest.{Digest}
use Rattle.hw_types.specs.declared.unit.Obs.{Obs}
use Rattle.hw_types.specs.Graph.{Node, is_some_and, find_node, slot, slots, cites, is_on_lane, obs_at_most, is_at_most, is_consistent}
use Rattle.hw_types.proofs.WordsLaws.{all_of, slots_in, found_node, passes_some}
use Rattle.hw_types.proofs.LaneLaws.{past_end}
use Rattle.hw_dag.specs.declared.numbers.UnitNo.{UnitNo}
use Rattle.hw_dag.specs.declared.numbers.View.{View}
use Rattle.hw_dag.specs.declared.numbers.View.TheVariants as view
use Rattle.hw_dag.specs.Dag.{UnitGraph, unit_at, count_of, node_at, graph, creator_of, view_at, obs_of, observations, IsPanorama}
use Rattle.hw_dag.specs.Admission.{IsGraph}
use Rattle.hw_dag.specs.Lanes.{IsBelow, is_lane_below}
use Rattle.hw_dag.proofs.NodeLaws.{graph_one_name, node_among}
use Rattle.hw_dag.proofs.SlotLaws.{slot_of, slot_at, number_cites}
use Rattle.hw_dag.proofs.LaneLaws.{seen_cases, seen_entry}
use Rattle.hw_naivety.specs.Tips.{IsNaive}
use Rattle.hw_naivety.proofs.BelowLaws.{lane_trans, lane_order, lane_itself}

-- a slot is a mark, or none
pub marked_or_not : (w : View) → (w ≡ view.Faulty) ⊎ (w ≡ view.Faulty → ⊥)
marked_or_not view.Absent = inr (λ e. cc)
marked_or_not (view.Correct last) = inr (λ e. cc)
marked_or_not view.Faulty = inl refl

slot_at_most : (units : List Node) (small large : List Obs) → is_at_most units small large ≡ true → (v : ℕ) → obs_at_most units (slot small v) (slot large v) ≡ true
unfolding is_at_most
slot_at_most units small large h v = elim (cases_lt v (length small)) [
  | inl lt ↦ all_of _ (slots small) h v (slots_in small v lt)
  | inr le ↦ subst (λ o. obs_at_most units o (slot large v) ≡ true) (sym (past_end small v le)) refl
]

module _ (dag : UnitGraph) (g : IsGraph dag) (panorama : List View) (panorama_is : IsPanorama dag panorama) (consistent : is_consistent (graph dag) (observations dag panorama) ≡ true) where
  -- a cited unit's entry is at most the panorama's
  entry_at_most : (s : ℕ) (cited : UnitNo) → view_at panorama s ≡ view.Correct cited → (v : ℕ)
      → obs_at_most (graph dag) (obs_of dag (view_at (unit_at dag cited.0).panorama v)) (obs_of dag (view_at panorama v)) ≡ true
  unfolding is_consistent
  entry_at_most s cited e v =
      let w = node_at dag cited.0 in
      let known = panorama_is.known s cited e in
      let all : (not (cites (observations dag panorama) w) || is_at_most (graph dag) w.unit.panorama (observations dag panorama)) ≡ true = all_of _ (graph dag) consistent w (node_among dag g cited.0 known) in
      let most = slot_at_most (graph dag) w.unit.panorama (observations dag panorama)
      (subst (λ b. (not b || is_at_most (graph dag) w.unit.panorama (observations dag panorama)) ≡ true) (number_cites dag g panorama s cited e) all) v in
      subst (λ o. obs_at_most (graph dag) (obs_of dag (view_at (unit_at dag cited.0).panorama v)) o ≡ true) (slot_of dag panorama v)
      (subst (λ o. obs_at_most (graph dag) o (slot (observations dag panorama) v) ≡ true) (slot_at dag g cited.0 v known) most)

  -- the unit of the creator that the panorama observes, with the other one on its lane
  abbrev IsEntry : ℕ → ℕ → Type 0
  IsEntry v n = (last : UnitNo) × (view_at panorama v ≡ view.Correct last) × (is_lane_below dag n last.0 ≡ true)

  number_at_most : (low last : UnitNo) → low.0 < count_of dag → last.0 < count_of dag → obs_at_most (graph dag) (obs_of dag (view.Correct low)) (obs_of dag (view.Correct last)) ≡ true → is_lane_below dag low.0 last.0 ≡ true
  number_at_most low last lo la h =
      let y = passes_some (λ (z : Node). is_some_and (λ (w : Node). is_on_lane (graph dag) w z) (find_node (graph dag) (unit_at dag low.0).digest)) (find_node (graph dag) (unit_at dag last.0).digest) h in
      let x = passes_some (λ (w : Node). is_on_lane (graph dag) w y.0) (find_node (graph dag) (unit_at dag low.0).digest) y.2 in
      let at_last = found_node (graph dag) (node_at dag last.0) (unit_at dag last.0).digest (graph_one_name dag) (node_among dag g last.0 la) refl in
      let at_low = found_node (graph dag) (node_at dag low.0) (unit_at dag low.0).digest (graph_one_name dag) (node_among dag g low.0 lo) refl in
      let same_last : y.0 ≡ node_at dag last.0 = (let s : Some y.0 ≡ Some (node_at dag last.0) = sym y.1 ∙ at_last in cc) in
      let same_low : x.0 ≡ node_at dag low.0 = (let s : Some x.0 ≡ Some (node_at dag low.0) = sym x.1 ∙ at_low in cc) in
      subst (λ (z : Node). is_on_lane (graph dag) (node_at dag low.0) z ≡ true) same_last (subst (λ (z : Node). is_on_lane (graph dag) z y.0 ≡ true) same_low x.2)

  -- by the entry of a cited unit
  through : (v n : ℕ) → n < count_of dag → (low : UnitNo) → low.0 < count_of dag → is_lane_below dag n low.0 ≡ true → (w : View) → view_at panorama v ≡ w → (w ≡ view.Faulty → ⊥)
      → obs_at_most (graph dag) (obs_of dag (view.Correct low)) (obs_of dag w) ≡ true → IsEntry v n
  through v n lt low lo on view.Absent e free h = absurd cc
  through v n lt low lo on view.Faulty e free h = absurd (free refl)
  through v n lt low lo on (view.Correct last) e free h =
      let la = panorama_is.known v last e in
      (last, e, lane_trans dag g n low.0 last.0 lt lo la on (number_at_most low last lo la h))

  marked_too : (w : View) → (w ≡ view.Faulty → ⊥) → obs_at_most (graph dag) (obs_of dag view.Faulty) (obs_of dag w) ≡ true → ⊥
  marked_too view.Absent free h = absurd cc
  marked_too (view.Correct last) free h = absurd cc
  marked_too view.Faulty free h = free refl

  entry_of : (v n : ℕ) → (view_at panorama v ≡ view.Faulty → ⊥) → n < count_of dag → creator_of (unit_at dag n) ≡ v → IsBelow dag panorama n → IsEntry v n
  entry_of v n free lt by b =
      let known = panorama_is.known b.slot b.cited b.observed in
      let most = entry_at_most b.slot b.cited b.observed v in
      elim (seen_cases dag g n b.cited.0 lt known b.seen) [
        | inl same ↦
            let here : b.slot ≡ v = sym (panorama_is.creator_is b.slot b.cited b.observed) ∙ ap (λ (k : ℕ). creator_of (unit_at dag k)) (sym same) ∙ by in
            (b.cited, subst (λ (k : ℕ). view_at panorama k ≡ view.Correct b.cited) here b.observed, subst (λ (k : ℕ). is_lane_below dag n k ≡ true) same (lane_itself dag g n lt))
        | inr m ↦ elim (seen_entry dag g n b.cited.0 lt known m) [
          | inl marked ↦
              let faulty : view_at (unit_at dag b.cited.0).panorama v ≡ view.Faulty = subst (λ (k : ℕ). view_at (unit_at dag b.cited.0).panorama k ≡ view.Faulty) by marked in
              absurd (marked_too (view_at panorama v) free (subst (λ (w : View). obs_at_most (graph dag) (obs_of dag w) (obs_of dag (view_at panorama v)) ≡ true) faulty most))
          | inr k ↦
              let entry : view_at (unit_at dag b.cited.0).panorama v ≡ view.Correct k.0 = subst (λ (c : ℕ). view_at (unit_at dag b.cited.0).panorama c ≡ view.Correct k.0) by k.1 in
              let lower = (g.settled b.cited.0 known).panorama_is.known v k.0 entry in
              through v n lt k.0 lower k.2 (view_at panorama v) refl free (subst (λ (w : View). obs_at_most (graph dag) (obs_of dag w) (obs_of dag (view_at panorama v)) ≡ true) entry most)
        ]
      ]

  -- of two naive units of a creator that isn't marked one is on the other's lane
  pub unmarked_ordered : (endorsed : List Digest) (v m n : ℕ) → (view_at panorama v ≡ view.Faulty → ⊥) → IsNaive dag panorama endorsed v m → IsNaive dag panorama endorsed v n
      → (is_lane_below dag m n ≡ true) ⊎ (is_lane_below dag n m ≡ true)
  unmarked_ordered endorsed v m n free hm hn =
      let em = entry_of v m free hm.known hm.creator_is hm.below in
      let en = entry_of v n free hn.known hn.creator_is hn.below in
      let same : en.0 ≡ em.0 = (let s : view.Correct en.0 ≡ view.Correct em.0 = sym en.1 ∙ em.1 in cc) in
      lane_order dag g em.0.0 m n (panorama_is.known v em.0 em.1) hm.known hn.known em.2 (subst (λ (k : UnitNo). is_lane_below dag n k.0 ≡ true) same en.2)
