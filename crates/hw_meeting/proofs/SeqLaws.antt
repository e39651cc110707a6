-- A unit's number on its lane is no greater than its number in the graph.
use Rattle.std.proofs.Common.{◌≡◌, ℕ, zero, suc, ◌<◌, ◌≤◌, true, false, refl, sym, ap, ◌∙◌, arith}
use Rattle.hw_types.specs.Graph.{slot, is_absent, is_faulty_mark}
use Rattle.hw_dag.specs.declared.numbers.View.{View}
use Rattle.hw_dag.specs.declared.numbers.View.TheVariants as view
use Rattle.hw_dag.specs.Dag.{UnitGraph, unit_at, count_of, creator_of, seq_of, view_at, obs_of}
use Rattle.hw_dag.specs.Admission.{IsGraph}
use Rattle.hw_dag.proofs.SlotLaws.{slot_at}
use Rattle.hw_dag.proofs.DepthLaws.{seq_next}

module _ (dag : UnitGraph) (g : IsGraph dag) where
  within : (most n : ℕ) → n < most → n < count_of dag → seq_of (unit_at dag n) ≤ n
  within zero n less lt = absurd (omega arith)
  within (suc most) n less lt = go (λ k below known. within most k below known) (view_at (unit_at dag n).panorama (creator_of (unit_at dag n))) refl
    where
      own : slot (unit_at dag n).signed.unit.panorama (creator_of (unit_at dag n)) ≡ obs_of dag (view_at (unit_at dag n).panorama (creator_of (unit_at dag n)))
      own = slot_at dag g n (creator_of (unit_at dag n)) lt

      go : ((k : ℕ) → k < most → k < count_of dag → seq_of (unit_at dag k) ≤ k) → (w : View) → view_at (unit_at dag n).panorama (creator_of (unit_at dag n)) ≡ w → seq_of (unit_at dag n) ≤ n
      go lower view.Absent e =
          let first : seq_of (unit_at dag n) ≡ 0 = (g.settled n lt).rules.first (ap is_absent (own ∙ ap (obs_of dag) e)) in
          omega arith
      go lower view.Faulty e = absurd (let bad : true ≡ false = sym (ap is_faulty_mark (own ∙ ap (obs_of dag) e)) ∙ (g.settled n lt).rules.unmarked in cc)
      go lower (view.Correct p) e =
          let earlier = (g.settled n lt).earlier (creator_of (unit_at dag n)) p e in
          let known = (g.settled n lt).panorama_is.known (creator_of (unit_at dag n)) p e in
          let below = lower p.0 (omega arith) known in
          let next = seq_next dag g n p lt e in
          omega arith

  pub seq_small : (n : ℕ) → n < count_of dag → seq_of (unit_at dag n) ≤ n
  seq_small n lt = within (suc n) n (omega arith) lt
