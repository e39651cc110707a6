-- Panoramas whose slots come one before the other by number.
use Rattle.std.proofs.Common.{◌≡◌, ℕ, Bool, true, false, inl, inr, List, refl, sym, ◌∙◌}
use Rattle.std.specs.Prelude.{◌↔◌, IsTrue}
use Rattle.std.proofs.lemmas.Bool.{le-leb}
use Rattle.hw_types.proofs.WordsLaws.{either}
use Rattle.hw_dag.specs.declared.numbers.View.{View}
use Rattle.hw_dag.specs.declared.numbers.View.TheVariants as view
use Rattle.hw_dag.specs.Dag.{UnitGraph, view_at, IsPanorama}
use Rattle.hw_dag.specs.Admission.{IsGraph}
use Rattle.hw_dag.specs.Lanes.{AreOnOneLane}
use Rattle.hw_dag.specs.Slots.{IsUpTo, IsWithin}
use Rattle.hw_dag.proofs.LatestLaws.{lane_earlier}
use Rattle.hw_dag.specs.Views.{IsViewOf, is_met}
use Rattle.hw_dag.proofs.ViewLaws.{met_lane}
use Rattle.hw_dag.proofs.SharedLaws.{slot_view}
use Rattle.hw_dag.proofs.OrderLaws.{is_below_all, all_met, each_met}

module _ (dag : UnitGraph) (g : IsGraph dag) where
  -- a slot that is met comes no later,
  met_up : (v : ℕ) (low high : View) → IsViewOf dag v low → IsViewOf dag v high → is_met dag low high ≡ true → IsUpTo low high
  met_up v view.Absent high kl kh t = tt
  met_up v (view.Correct m) view.Absent kl kh t = absurd cc
  met_up v (view.Correct m) (view.Correct n) kl kh t = lane_earlier dag g m.0 n.0 kl.0 kh.0 (sym (met_lane dag g m n kl.0 kh.0) ∙ t)
  met_up v (view.Correct m) view.Faulty kl kh t = tt
  met_up v view.Faulty view.Absent kl kh t = absurd cc
  met_up v view.Faulty (view.Correct n) kl kh t = absurd cc
  met_up v view.Faulty view.Faulty kl kh t = tt

  -- and where no validator has two lanes, one that comes no later is met
  up_met : AreOnOneLane dag → (v : ℕ) (low high : View) → IsViewOf dag v low → IsViewOf dag v high → IsUpTo low high → is_met dag low high ≡ true
  up_met one v view.Absent high kl kh up = refl
  up_met one v (view.Correct m) view.Absent kl kh up = absurd up
  up_met one v (view.Correct m) (view.Correct n) kl kh up = met_lane dag g m n kl.0 kh.0 ∙ one m.0 n.0 kl.0 kh.0 (kl.1 ∙ sym kh.1) ∙ le-leb m.0 n.0 up
  up_met one v (view.Correct m) view.Faulty kl kh up = refl
  up_met one v view.Faulty view.Absent kl kh up = absurd up
  up_met one v view.Faulty (view.Correct n) kl kh up = absurd up
  up_met one v view.Faulty view.Faulty kl kh up = refl

  module _ (low high : List View) (hl : IsPanorama dag low) (hh : IsPanorama dag high) where
    pub below_is_within : is_below_all dag low high ≡ true → IsWithin low high
    below_is_within below v lt = met_up v (view_at low v) (view_at high v) (slot_view dag low hl v (view_at low v) refl) (slot_view dag high hh v (view_at high v) refl) (each_met dag low high below v lt)

    pub within_is_below : AreOnOneLane dag → IsWithin low high → is_below_all dag low high ≡ true
    within_is_below one within =
        all_met dag low high (λ v lt. up_met one v (view_at low v) (view_at high v) (slot_view dag low hl v (view_at low v) refl) (slot_view dag high hh v (view_at high v) refl) (within v lt))

    -- where a slot comes later, the panorama isn't at most the other
    pub not_within_not_below : (within : Bool) → IsTrue within ↔ IsWithin low high → within ≡ false → false ≡ is_below_all dag low high
    not_within_not_below within is f = elim (either (is_below_all dag low high)) [
      | inl t ↦ absurd (let clash : false ≡ true = sym f ∙ is.1 (below_is_within t) in cc)
      | inr other ↦ sym other
    ]
