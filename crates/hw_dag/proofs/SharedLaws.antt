-- Units that a panorama shares with a consistent one, and the others.
use Rattle.std.proofs.Common.{◌≡◌, ℕ, ◌<◌, ◌==◌, ◌⊎◌, inl, inr, true, false, List, length, sym, ap, arith, eqb-true, eq-eqb}
use Rattle.hw_types.specs.Graph.{is_consistent}
use Rattle.hw_types.proofs.WordsLaws.{either, never_both}
use Rattle.hw_dag.specs.declared.numbers.UnitNo.{UnitNo}
use Rattle.hw_dag.specs.declared.numbers.View.{View}
use Rattle.hw_dag.specs.declared.numbers.View.TheVariants as view
use Rattle.hw_dag.specs.Dag.{UnitGraph, unit_at, count_of, graph, view_at, observations, IsPanorama}
use Rattle.hw_dag.specs.Admission.{IsGraph}
use Rattle.hw_dag.specs.Views.{IsKnownView, IsViewOf, is_met, HasSeen, IsColumnMet, AreSharedMet, AreOthersMet}
use Rattle.hw_dag.proofs.ViewLaws.{known_view, met_trans}
use Rattle.hw_dag.proofs.OrderLaws.{is_below_all, IsCitedBelow, below_trans, unit_consistent, all_met, each_met, one_not_met, cited_below_consistent, consistent_cited_below, not_below_inconsistent}

-- the slot of a validator has a unit of it
pub slot_view : (dag : UnitGraph) (panorama : List View) → IsPanorama dag panorama → (v : ℕ) (w : View) → w ≡ view_at panorama v → IsViewOf dag v w
slot_view dag panorama h v view.Absent e = tt
slot_view dag panorama h v view.Faulty e = tt
slot_view dag panorama h v (view.Correct number) e = (h.known v number (sym e), h.creator_is v number (sym e))

pub known_of : (dag : UnitGraph) (v : ℕ) (w : View) → IsViewOf dag v w → IsKnownView dag w
known_of dag v view.Absent h = tt
known_of dag v view.Faulty h = tt
known_of dag v (view.Correct number) h = h.0

-- two slots have one unit or not
same_unit : (w : View) (number : UnitNo) → (w ≡ view.Correct number) ⊎ (w ≡ view.Correct number → ⊥)
same_unit view.Absent number = inr (λ e. absurd cc)
same_unit view.Faulty number = inr (λ e. absurd cc)
same_unit (view.Correct m) number = elim (either (m.0 == number.0)) [
  | inl t ↦ inl (let e : m.0 ≡ number.0 = eqb-true m.0 number.0 t in ap (λ (k : ℕ). view.Correct (record { 0 = k })) e)
  | inr f ↦ inr (λ e. let same : m ≡ number = cc in never_both (m.0 == number.0) (eq-eqb m.0 number.0 (ap (λ (k : UnitNo). k.0) same)) f)
]

-- the panorama of the unit in a slot, where there is one, is at most the panorama
abbrev pub IsUnitBelow : UnitGraph → List View → View → Type 0
IsUnitBelow dag panorama view.Absent = Unit {0}
IsUnitBelow dag panorama (view.Correct number) = (number.0 < count_of dag) × (is_below_all dag (unit_at dag number.0).panorama panorama ≡ true)
IsUnitBelow dag panorama view.Faulty = Unit {0}

-- what such a unit has seen is at most the panorama too
pub seen_below : (dag : UnitGraph) (g : IsGraph dag) (panorama : List View) → IsPanorama dag panorama → (last : View) → IsUnitBelow dag panorama last
    → (v : ℕ) (number : UnitNo) → HasSeen dag last v (view.Correct number) → is_below_all dag (unit_at dag number.0).panorama panorama ≡ true
seen_below dag g panorama hp view.Absent below v number seen = absurd seen
seen_below dag g panorama hp view.Faulty below v number seen = absurd seen
seen_below dag g panorama hp (view.Correct last) below v number seen =
    let row = (g.settled last.0 below.0).panorama_is in
    let inner = (g.settled number.0 (row.known v number seen)).panorama_is in
    below_trans dag g (unit_at dag number.0).panorama (unit_at dag last.0).panorama panorama inner row hp
    (consistent_cited_below dag g (unit_at dag last.0).panorama row (unit_consistent dag g last.0 below.0) v number seen) below.1

module _ (dag : UnitGraph) (g : IsGraph dag) (known panorama : List View) (hk : IsPanorama dag known) (hp : IsPanorama dag panorama) where
  -- what a unit observes that the known panorama has is at most what that does
  pub seen_by_known : is_consistent (graph dag) (observations dag known) ≡ true → (of : ℕ) → of < dag.validators → (v : ℕ) (number : UnitNo) → view_at known v ≡ view.Correct number
      → is_met dag (view_at (unit_at dag number.0).panorama of) (view_at known of) ≡ true
  seen_by_known ok of inside v number there =
      each_met dag (unit_at dag number.0).panorama known (consistent_cited_below dag g known hk ok v number there) of (let len = (g.settled number.0 (hk.known v number there)).panorama_is.length_is in omega arith)

  -- and is met where that is met
  pub column_by_known : is_consistent (graph dag) (observations dag known) ≡ true → (of : ℕ) → of < dag.validators → is_met dag (view_at known of) (view_at panorama of) ≡ true → IsColumnMet dag known panorama of
  column_by_known ok of inside met v number s =
      met_trans dag g (view_at (unit_at dag number.0).panorama of) (view_at known of) (view_at panorama of)
      (known_view dag (unit_at dag number.0).panorama (g.settled number.0 (hk.known v number s.there)).panorama_is of) (known_view dag known hk of) (known_view dag panorama hp of)
      (seen_by_known ok of inside v number s.there) met

  -- a panorama is consistent where what shared units and others observe is met
  pub both_met : AreSharedMet dag known panorama → AreOthersMet dag known panorama → is_consistent (graph dag) (observations dag panorama) ≡ true
  both_met shared others = cited_below_consistent dag g panorama hp each
    where
      each : (v : ℕ) → v < length panorama → IsCitedBelow dag panorama v
      each v lt number e = elim (same_unit (view_at known v) number) [
        | inl there ↦ (
            let hr = (g.settled number.0 (hp.known v number e)).panorama_is in
            all_met dag (unit_at dag number.0).panorama panorama (λ of inside. shared of (let len = hr.length_is in omega arith) v number (record { here = e; there = there }))
            )
        | inr other ↦ others v number e other
      ]

  -- and isn't where one slot of one unit isn't
  pub one_unmet : (v : ℕ) (number : UnitNo) → view_at panorama v ≡ view.Correct number → (of : ℕ) → of < dag.validators
      → is_met dag (view_at (unit_at dag number.0).panorama of) (view_at panorama of) ≡ false → is_consistent (graph dag) (observations dag panorama) ≡ false
  one_unmet v number e of inside unmet =
      let hr = (g.settled number.0 (hp.known v number e)).panorama_is in
      not_below_inconsistent dag g panorama hp v number e (one_not_met dag (unit_at dag number.0).panorama panorama of (let len = hr.length_is in omega arith) unmet)
