-- Units that were there before the first one that a lane has behind a slot.
use Rattle.std.proofs.Common.{◌≡◌, ℕ, ◌+◌, ◌<◌, ◌≤◌, inl, inr, true, refl, sym, ◌∙◌, arith}
use Rattle.std.proofs.lemmas.Bool.{cases_lt}
use Rattle.hw_dag.specs.declared.numbers.UnitNo.{UnitNo}
use Rattle.hw_dag.specs.declared.numbers.View.{View}
use Rattle.hw_dag.specs.declared.numbers.View.TheVariants as view
use Rattle.hw_dag.specs.Dag.{UnitGraph, unit_at, count_of, node_at, graph, seq_of, view_at}
use Rattle.hw_dag.specs.Admission.{IsGraph}
use Rattle.hw_dag.specs.Lanes.{is_lane_below, IsLaneAt}
use Rattle.hw_dag.proofs.NodeLaws.{node_among}
use Rattle.hw_dag.proofs.LaneLaws.{even_weights, all_faulty, lawful, on_lane_among, among_on_lane}
use Rattle.hw_dag.proofs.LatestLaws.{lane_earlier}
use Rattle.hw_dag.proofs.ChainLaws as chain
use Rattle.hw_dag.specs.Views.{is_met, HaveSeenNoMore}
use Rattle.hw_dag.proofs.ViewLaws.{met_lane}

module _ (dag : UnitGraph) (g : IsGraph dag) where
  -- of two units on a lane the one with the lesser sequence number is on the lane of the other
  lane_chain : (top low high : ℕ) → top < count_of dag → low < count_of dag → high < count_of dag → is_lane_below dag low top ≡ true → is_lane_below dag high top ≡ true
      → seq_of (unit_at dag low) ≤ seq_of (unit_at dag high) → is_lane_below dag low high ≡ true
  lane_chain top low high ht hl hh l h le =
      among_on_lane dag g low high
      (chain.lane_chain (even_weights dag) all_faulty (graph dag) (lawful dag g) (node_at dag top) (node_at dag low) (node_at dag high) (node_among dag g top ht)
      (on_lane_among dag g low top hl l) (on_lane_among dag g high top hh h) le)

  module _ (top seq first : ℕ) (ht : top < count_of dag) (f : IsLaneAt dag top seq first) where
    -- units of a lane that were there before one of it have lesser sequence numbers
    lesser_before : (n : ℕ) → n < first → is_lane_below dag n top ≡ true → seq_of (unit_at dag n) < seq
    lesser_before n lt h = elim (cases_lt (seq_of (unit_at dag n)) seq) [
      | inl less ↦ less
      | inr le ↦
          let known = f.known in
          let same = f.seq_is in
          let inside : n < count_of dag = omega arith in
          absurd (let no_later = lane_earlier dag g first n known inside (lane_chain top first n ht known inside f.on_lane h (omega arith)) in omega arith)
    ]

    -- what is seen before that unit is at most a slot that all of the lane before it is at most
    seen_before : (high : View) → ((number : UnitNo) → number.0 < count_of dag → is_lane_below dag number.0 top ≡ true → seq_of (unit_at dag number.0) < seq → is_met dag (view.Correct number) high ≡ true)
        → (of : ℕ) → HaveSeenNoMore dag of (view.Correct (record { 0 = top })) high first
    seen_before high all of n lt met = go (view_at (unit_at dag n).panorama of) refl met
      where
        go : (w : View) → view_at (unit_at dag n).panorama of ≡ w → is_met dag w (view.Correct (record { 0 = top })) ≡ true → is_met dag w high ≡ true
        go view.Absent e m = refl
        go view.Faulty e m = absurd cc
        go (view.Correct number) e m =
            let known = f.known in
            let earlier = (g.settled n (omega arith)).earlier of number e in
            let inside : number.0 < count_of dag = omega arith in
            let on = sym (met_lane dag g number (record { 0 = top }) inside ht) ∙ m in
            all number inside on (lesser_before number.0 (omega arith) on)

  -- the first unit of the lane,
  pub before_first : (of : ℕ) (top : UnitNo) (first : ℕ) → top.0 < count_of dag → IsLaneAt dag top.0 0 first → HaveSeenNoMore dag of (view.Correct top) view.Absent first
  before_first of top first ht f = seen_before top.0 0 first ht f view.Absent (λ number inside on less. absurd (omega arith)) of

  -- and the one that follows another
  pub before_next : (of : ℕ) (top low : UnitNo) (first : ℕ) → top.0 < count_of dag → low.0 < count_of dag → is_lane_below dag low.0 top.0 ≡ true
      → IsLaneAt dag top.0 (seq_of (unit_at dag low.0) + 1) first → HaveSeenNoMore dag of (view.Correct top) (view.Correct low) first
  before_next of top low first ht hl l f =
      seen_before top.0 (seq_of (unit_at dag low.0) + 1) first ht f (view.Correct low)
      (λ number inside on less. met_lane dag g number low inside hl ∙ lane_chain top.0 number.0 low.0 ht inside hl on l (omega arith)) of
