-- What a unit sees by numbers alone is what it sees by the starts.
use Rattle.std.proofs.Common.{◌≡◌, ℕ, zero, suc, ◌≤◌, ◌<◌, ◌^◌, ◌-◌, ◌⊎◌, inl, inr, Bool, true, false, List, [], ◌∷◌, length, Option, get_or, get_or-set_other, get_or-set_same, ◌≢◌, set, refl, sym, ap, subst, ◌∙◌, arith}
use Rattle.std.specs.Prelude.{◌&&◌, ◌||◌, not, nat_le, is_some}
use Rattle.std.proofs.lemmas.Bool.{cases_lt, leb-true, le-leb, lt-leb}
use Rattle.hw_types.specs.declared.unit.Obs.{Obs}
use Rattle.hw_types.specs.declared.unit.Obs.TheVariants.{Absent, Correct, Faulty}
use Rattle.hw_types.specs.Graph.{slot, slots, cites, past, obs_at_most, is_at_most, is_consistent}
use Rattle.hw_types.specs.Votes.{weight_of}
use Rattle.hw_types.proofs.StableLaws.{both_ways}
use Rattle.hw_types.proofs.WordsLaws.{all_of, slot_in, slots_in}
use Rattle.hw_types.proofs.LaneLaws as lanes
use Rattle.hw_dag.specs.declared.numbers.UnitNo.{UnitNo}
use Rattle.hw_dag.specs.declared.numbers.View.{View}
use Rattle.hw_dag.specs.declared.numbers.View.TheVariants as view
use Rattle.hw_dag.specs.Dag.{UnitGraph, unit_at, count_of, node_at, graph, seq_of, view_at, obs_of, observations, IsPanorama}
use Rattle.hw_dag.specs.Admission.{IsGraph}
use Rattle.hw_dag.specs.Lanes.{is_lane_below, IsLaneAt}
use Rattle.hw_dag.proofs.NodeLaws.{node_among, node_found, same_node}
use Rattle.hw_dag.proofs.SlotLaws.{slot_of, slot_at, number_cites}
use Rattle.hw_dag.proofs.LaneLaws.{even_weights, all_faulty, lawful, on_lane_among, lane_is_seen}
use Rattle.hw_dag.proofs.MarkLaws.{seen_earlier}
use Rattle.hw_safety.specs.Pruned.{or_zero}
use Rattle.hw_horizon.specs.Tables.{Starts, entry, start_over}
use Rattle.hw_horizon.specs.Starts.{IsSlotStart, is_from, sees, sees_quorum, IsSuffix, HasSlots}
use Rattle.hw_horizon.specs.Firsts.{is_after, sees_after, has_quorum, IsLaneFrom, IsFirst, AreFirsts}
use Rattle.hw_horizon.proofs.LaneLaws.{lane_self, lane_most, lane_lower, lane_above, slot_start_is_begun}
use Rattle.hw_horizon.proofs.SightLaws.{quorum_on_lane, enough, suffix_is, tip_decides}

-- a slot with a number is one of the panorama's
pub correct_inside : (panorama : List View) (v : ℕ) (number : UnitNo) → view_at panorama v ≡ view.Correct number → v < length panorama
correct_inside [] v number e = absurd cc
correct_inside (w ∷ ws) zero number e = omega arith
correct_inside (w ∷ ws) (suc v) number e = let rest = correct_inside ws v number e in omega arith

-- a number that is put
pub put_number : (before after : List ℕ) (at v n : ℕ) → after ≡ set before at n → v < at → get_or after v 0 ≡ get_or before v 0
put_number before after at v n e lt = ap (λ (t : List ℕ). get_or t v 0) e ∙ (let other : v ≢ at = omega arith in rw get_or-set_other refl)

pub put_number_same : (before after : List ℕ) (at n : ℕ) → after ≡ set before at n → at < length before → get_or after at 0 ≡ n
put_number_same before after at n e lt = ap (λ (t : List ℕ). get_or t at 0) e ∙ (rw get_or-set_same refl)

module _ (dag : UnitGraph) (g : IsGraph dag) where
  -- ---- one lane

  -- what is on the lane of a unit has no greater number
  lane_earlier : (low high : ℕ) → low < count_of dag → high < count_of dag → is_lane_below dag low high ≡ true → low ≤ high
  lane_earlier low high lo hi t = seen_earlier dag g low high lo hi (lane_is_seen dag g low high lo hi t)

  -- the units from one of them on have the numbers from its number on
  pub lane_from : (tip start first : ℕ) → tip < count_of dag → IsLaneAt dag tip start first → (n : ℕ) → n < count_of dag → is_lane_below dag n tip ≡ true → nat_le first n ≡ nat_le start (seq_of (unit_at dag n))
  lane_from tip start first lt f n ln t =
      let e = f.seq_is in
      both_ways (nat_le first n) (nat_le start (seq_of (unit_at dag n)))
      (λ h. elim (cases_lt (seq_of (unit_at dag n)) start) [
        | inl less ↦ absurd (let low = leb-true first n h in
            let down = lane_earlier n first ln f.known (lane_lower dag g tip n first lt ln f.known t f.on_lane (omega arith)) in
            let same : n ≡ first = omega arith in
            let seqs = ap (λ (m : ℕ). seq_of (unit_at dag m)) same in
            omega arith)
        | inr le ↦ le-leb _ _ (omega arith)
      ])
      (λ h. let le = leb-true start (seq_of (unit_at dag n)) h in
      le-leb _ _ (lane_earlier first n f.known ln (lane_lower dag g tip first n lt f.known ln f.on_lane t (omega arith))))

  -- no unit has the greatest number
  pub none_after : (n : ℕ) → n < count_of dag → nat_le (2 ^ 32 - 1) n ≡ false
  none_after n lt = let b = g.bounded in lt-leb _ _ (omega arith)

  -- where the lane ends before the start, none of its units comes after it
  pub lane_ends : (tip start : ℕ) → tip < count_of dag → seq_of (unit_at dag tip) < start → (n : ℕ) → n < count_of dag → is_lane_below dag n tip ≡ true → nat_le (2 ^ 32 - 1) n ≡ nat_le start (seq_of (unit_at dag n))
  lane_ends tip start lt less n ln t = let most = lane_most dag g tip n lt ln t in none_after n ln ∙ sym (lt-leb start (seq_of (unit_at dag n)) (omega arith))

  -- a validator that isn't present, or has no Correct slot
  pub absent_first : (slot : View) (lower present : Starts) (v : ℕ) → is_some (entry present v) ≡ false → IsFirst dag slot lower present v (2 ^ 32 - 1)
  absent_first slot lower present v e = record { absent = λ f n lt. none_after n lt; in_lane = λ f. absurd (let bad : false ≡ true = sym e ∙ f in cc) }

  pub slotless_first : (slot : View) (lower present : Starts) (v : ℕ) → (slot ≡ view.Absent) ⊎ (slot ≡ view.Faulty) → IsFirst dag slot lower present v (2 ^ 32 - 1)
  slotless_first slot lower present v (inl e) = subst (λ (w : View). IsFirst dag w lower present v (2 ^ 32 - 1)) (sym e) (record { absent = λ f n lt. none_after n lt; in_lane = λ f. tt })
  slotless_first slot lower present v (inr e) = subst (λ (w : View). IsFirst dag w lower present v (2 ^ 32 - 1)) (sym e) (record { absent = λ f n lt. none_after n lt; in_lane = λ f. tt })

  -- a member
  pub member_first : (slot : View) (tip : UnitNo) (lower present : Starts) (v from first : ℕ) → slot ≡ view.Correct tip → is_some (entry present v) ≡ true → from ≡ or_zero (entry lower v)
      → ((n : ℕ) → n < count_of dag → is_lane_below dag n tip.0 ≡ true → nat_le first n ≡ nat_le from (seq_of (unit_at dag n))) → IsFirst dag slot lower present v first
  member_first slot tip lower present v from first es ep ef h =
      subst (λ (w : View). IsFirst dag w lower present v first) (sym es) (record {
        absent = λ f n lt. absurd (let bad : true ≡ false = sym ep ∙ f in cc);
        in_lane = λ f n ln on. h n ln on ∙ ap (λ (k : ℕ). nat_le k (seq_of (unit_at dag n))) ef;
      })

  -- ---- slots

  -- two slots are in the order of their lanes
  lane_of_slots : (low high : UnitNo) → low.0 < count_of dag → high.0 < count_of dag → obs_at_most (graph dag) (obs_of dag (view.Correct low)) (obs_of dag (view.Correct high)) ≡ is_lane_below dag low.0 high.0
  lane_of_slots low high lo hi = rw (node_found dag g high.0 hi, node_found dag g low.0 lo) refl

  -- and so over a third one
  lane_over : (low high : UnitNo) (w : View) → low.0 < count_of dag → high.0 < count_of dag → ((k : UnitNo) → w ≡ view.Correct k → k.0 < count_of dag)
      → obs_at_most (graph dag) (obs_of dag (view.Correct low)) (obs_of dag w) ≡ true → obs_at_most (graph dag) (obs_of dag w) (obs_of dag (view.Correct high)) ≡ true → is_lane_below dag low.0 high.0 ≡ true
  lane_over low high view.Absent lo hi known a b = absurd cc
  lane_over low high view.Faulty lo hi known a b = absurd cc
  lane_over low high (view.Correct k) lo hi known a b =
      let kn = known k refl in
      lane_above dag g high.0 low.0 k.0 lo kn (sym (lane_of_slots low k lo kn) ∙ a) (sym (lane_of_slots k high kn hi) ∙ b)

  -- what holds of panoramas holds of their slots
  most_at : (small large : List Obs) → is_at_most (graph dag) small large ≡ true → (v : ℕ) → obs_at_most (graph dag) (slot small v) (slot large v) ≡ true
  unfolding is_at_most
  most_at small large h v = go (slot small v) refl
    where
      met : (n : ℕ) → v < length small → obs_at_most (graph dag) (slot small v) (slot large v) ≡ true
      met n lt = all_of (λ w. obs_at_most (graph dag) (slot small w) (slot large w)) (slots small) h v (slots_in small v lt)

      go : (o : Obs) → slot small v ≡ o → obs_at_most (graph dag) (slot small v) (slot large v) ≡ true
      go Absent e = subst (λ (o : Obs). obs_at_most (graph dag) o (slot large v) ≡ true) (sym e) refl
      go (Correct d) e = met 0 (slot_in small v (Correct d) e (λ bad. absurd cc)).1
      go Faulty e = met 0 (slot_in small v Faulty e (λ bad. absurd cc)).1

  module _ (panorama : List View) (ip : IsPanorama dag panorama) (consistent : is_consistent (graph dag) (observations dag panorama) ≡ true) where
    -- a latest unit's panorama is at most the whole one
    latest_most : (t : ℕ) (tip : UnitNo) → view_at panorama t ≡ view.Correct tip → is_at_most (graph dag) (unit_at dag tip.0).signed.unit.panorama (observations dag panorama) ≡ true
    unfolding is_consistent
    latest_most t tip e =
        let all : (not (cites (observations dag panorama) (node_at dag tip.0)) || is_at_most (graph dag) (unit_at dag tip.0).signed.unit.panorama (observations dag panorama)) ≡ true =
        all_of (λ w. not (cites (observations dag panorama) w) || is_at_most (graph dag) w.unit.panorama (observations dag panorama)) (graph dag) consistent (node_at dag tip.0) (node_among dag g tip.0 (ip.known t tip e)) in
        subst (λ (b : Bool). (not b || is_at_most (graph dag) (unit_at dag tip.0).signed.unit.panorama (observations dag panorama)) ≡ true) (number_cites dag g panorama t tip e) all

    -- what a unit of a slot's lane observes of another validator is on the lane of that one's slot
    pub view_on_lane : (t : ℕ) (tip : UnitNo) → view_at panorama t ≡ view.Correct tip → (n : ℕ) → n < count_of dag → is_lane_below dag n tip.0 ≡ true
        → (v : ℕ) (number other : UnitNo) → view_at (unit_at dag n).panorama v ≡ view.Correct number → view_at panorama v ≡ view.Correct other → is_lane_below dag number.0 other.0 ≡ true
    view_on_lane t tip e n ln on v number other en eo =
        let lt = ip.known t tip e in
        let kn = (g.settled n ln).panorama_is.known v number en in
        let ko = ip.known v other eo in
        let most = most_at (unit_at dag tip.0).signed.unit.panorama (observations dag panorama) (latest_most t tip e) v in
        let right : slot (observations dag panorama) v ≡ obs_of dag (view.Correct other) = slot_of dag panorama v ∙ ap (obs_of dag) eo in
        let middle : slot (unit_at dag tip.0).signed.unit.panorama v ≡ obs_of dag (view_at (unit_at dag tip.0).panorama v) = slot_at dag g tip.0 v lt in
        let left : slot (unit_at dag n).signed.unit.panorama v ≡ obs_of dag (view.Correct number) = slot_at dag g n v ln ∙ ap (obs_of dag) en in
        let high : obs_at_most (graph dag) (obs_of dag (view_at (unit_at dag tip.0).panorama v)) (obs_of dag (view.Correct other)) ≡ true =
        sym (ap (λ (o : Obs). obs_at_most (graph dag) (obs_of dag (view_at (unit_at dag tip.0).panorama v)) o) right) ∙ sym (ap (λ (o : Obs). obs_at_most (graph dag) o (slot (observations dag panorama) v)) middle) ∙ most in
        elim (lanes.lane_below (even_weights dag) all_faulty (graph dag) (lawful dag g) (node_at dag tip.0) (node_at dag n) (node_among dag g tip.0 lt) (on_lane_among dag g n tip.0 ln on)) [
          | inl same ↦ (
              let here : view_at (unit_at dag tip.0).panorama v ≡ view.Correct number = subst (λ (m : ℕ). view_at (unit_at dag m).panorama v ≡ view.Correct number) (same_node dag g n tip.0 ln lt same) en in
              sym (lane_of_slots number other kn ko) ∙ subst (λ (w : View). obs_at_most (graph dag) (obs_of dag w) (obs_of dag (view.Correct other)) ≡ true) here high)
          | inr m ↦ (
              let below = lanes.past_at_most (even_weights dag) all_faulty (graph dag) (lawful dag g) (node_at dag tip.0) (node_at dag n) (node_among dag g tip.0 lt) m v in
              let low : obs_at_most (graph dag) (obs_of dag (view.Correct number)) (obs_of dag (view_at (unit_at dag tip.0).panorama v)) ≡ true =
              sym (ap (λ (o : Obs). obs_at_most (graph dag) (obs_of dag (view.Correct number)) o) middle) ∙ sym (ap (λ (o : Obs). obs_at_most (graph dag) o (slot (unit_at dag tip.0).signed.unit.panorama v)) left) ∙ below in
              lane_over number other (view_at (unit_at dag tip.0).panorama v) kn ko (λ k ek. (g.settled tip.0 lt).panorama_is.known v k ek) low high)
        ]

    module _ (weights : List ℕ) (quorum : ℕ) (lower present : Starts) (has_slots : HasSlots panorama present) (firsts : List ℕ) (are : AreFirsts dag panorama lower present firsts) where
      -- the numbers say what the starts do
      sees_same : (t : ℕ) (tip : UnitNo) → view_at panorama t ≡ view.Correct tip → (n : ℕ) → n < count_of dag → is_lane_below dag n tip.0 ≡ true → (v : ℕ) → sees_after dag firsts n v ≡ sees dag n lower present v
      sees_same t tip e n ln on v = go (view_at (unit_at dag n).panorama v) refl (is_some (entry present v)) refl
        where
          blind : (b : Bool) → false ≡ (b && false)
          blind true = refl
          blind false = refl

          inside : (number : UnitNo) → view_at (unit_at dag n).panorama v ≡ view.Correct number → v < dag.validators
          inside number en = let lt = correct_inside (unit_at dag n).panorama v number en in let same = (g.settled n ln).panorama_is.length_is in omega arith

          seen : (number other : UnitNo) → view_at (unit_at dag n).panorama v ≡ view.Correct number → is_some (entry present v) ≡ true → view_at panorama v ≡ view.Correct other
              → nat_le (get_or firsts v 0) number.0 ≡ nat_le (or_zero (entry lower v)) (seq_of (unit_at dag number.0))
          seen number other en eb eo =
              subst (λ (w : View). IsLaneFrom dag w (or_zero (entry lower v)) (get_or firsts v 0)) eo ((are v (inside number en)).in_lane eb) number.0 ((g.settled n ln).panorama_is.known v number en) (view_on_lane t tip e n ln on v number other en eo)

          go : (w : View) → view_at (unit_at dag n).panorama v ≡ w → (b : Bool) → is_some (entry present v) ≡ b → is_after (get_or firsts v 0) w ≡ (b && is_from dag (or_zero (entry lower v)) w)
          go view.Absent en b eb = blind b
          go view.Faulty en b eb = blind b
          go (view.Correct number) en false eb = (are v (inside number en)).absent eb number.0 ((g.settled n ln).panorama_is.known v number en)
          go (view.Correct number) en true eb = let s = has_slots v eb in seen number s.0 en eb s.1

      quorum_same : (t : ℕ) (tip : UnitNo) → view_at panorama t ≡ view.Correct tip → (n : ℕ) → n < count_of dag → is_lane_below dag n tip.0 ≡ true → has_quorum weights dag quorum firsts n ≡ sees_quorum weights dag quorum lower present n
      quorum_same t tip e n ln on = λ i. nat_le quorum (weight_of weights (λ v. sees_same t tip e n ln on v i))

      -- The units of a slot's lane that see a quorum are its last ones.
      pub suffix_after : (t : ℕ) (tip : UnitNo) → view_at panorama t ≡ view.Correct tip → IsSuffix dag tip.0 (has_quorum weights dag quorum firsts)
      suffix_after t tip e m n lm ln tm tn le h =
          quorum_same t tip e n ln tn ∙ suffix_is dag g panorama ip consistent weights quorum lower present has_slots t tip e m n lm ln tm tn le (sym (quorum_same t tip e m lm tm) ∙ h)

      -- The start of a slot is the one of pruning.
      pub start_after_is : (v : ℕ) (o : Option ℕ) → IsSlotStart dag (view_at panorama v) (or_zero (entry lower v)) (has_quorum weights dag quorum firsts) o
          → start_over weights (graph dag) (observations dag panorama) quorum lower present v ≡ o
      start_after_is v o s = slot_start_is_begun dag g panorama ip v (or_zero (entry lower v)) (has_quorum weights dag quorum firsts) (λ x. enough dag g panorama ip consistent weights quorum lower present has_slots (past (graph dag) x.unit.panorama))
          (λ tip e n ln t. sym (quorum_on_lane dag g panorama ip consistent weights quorum lower present has_slots v tip e n ln t) ∙ sym (quorum_same v tip e n ln t)) o s

      -- There is one where the latest unit sees a quorum, and isn't before the one of the level below.
      pub tip_decides_after : (t : ℕ) (tip : UnitNo) → view_at panorama t ≡ view.Correct tip
          → is_some (start_over weights (graph dag) (observations dag panorama) quorum lower present t) ≡ (nat_le (or_zero (entry lower t)) (seq_of (unit_at dag tip.0)) && has_quorum weights dag quorum firsts tip.0)
      tip_decides_after t tip e =
          let lt = ip.known t tip e in
          tip_decides dag g panorama ip consistent weights quorum lower present has_slots t tip e
          ∙ ap (λ (b : Bool). nat_le (or_zero (entry lower t)) (seq_of (unit_at dag tip.0)) && b) (sym (quorum_same t tip e tip.0 lt (lane_self dag g tip.0 lt)))
