-- What a unit sees while first units move one by one.
use Rattle.std.proofs.Common.{◌≡◌, ℕ, ◌+◌, ◌≤◌, ◌<◌, inl, inr, Bool, true, false, List, length, Option, Some, None, get_or, refl, sym, ap, subst, ◌∙◌, arith}
use Rattle.std.specs.Prelude.{sum, if◌then◌else◌}
use Rattle.std.proofs.Math.ListN.{get_or-eq_default}
use Rattle.std.proofs.lemmas.Bool.{cases_lt, cases_eq, le-leb, lt-leb}
use Rattle.hw_types.specs.Votes.{weight_of}
use Rattle.hw_dag.specs.declared.numbers.UnitNo.{UnitNo}
use Rattle.hw_dag.specs.Dag.{UnitGraph, unit_at, count_of, view_at}
use Rattle.hw_dag.specs.Admission.{IsGraph}
use Rattle.hw_safety.proofs.WeightLaws.{weight_most}
use Rattle.hw_horizon.specs.Firsts.{is_after, weight_after, first_amid, weight_amid}
use Rattle.hw_horizon.specs.Bounds.{LevelBound, support_of}
use Rattle.hw_horizon.proofs.WeightLaws.{one_fewer}
use Rattle.hw_horizon.proofs.FollowLaws.{same_above}

module _ (weights : List ℕ) (dag : UnitGraph) (old new : List ℕ) (n : ℕ) where
  abbrev sees : ℕ → ℕ → Bool
  sees moved v = is_after (first_amid old new moved v) (view_at (unit_at dag n).panorama v)

  still : (moved v : ℕ) → moved ≤ v → first_amid old new moved v ≡ get_or old v 0
  still moved v le = ap (λ (b : Bool). if b then get_or old v 0 else get_or new v 0) (le-leb moved v le)

  gone : (moved v : ℕ) → v < moved → first_amid old new moved v ≡ get_or new v 0
  gone moved v lt = ap (λ (b : Bool). if b then get_or old v 0 else get_or new v 0) (lt-leb moved v lt)

  by_first : (v k m : ℕ) → k ≡ m → is_after k (view_at (unit_at dag n).panorama v) ≡ is_after m (view_at (unit_at dag n).panorama v)
  by_first v k m e = ap (λ (i : ℕ). is_after i (view_at (unit_at dag n).panorama v)) e

  -- none has moved
  pub amid_none : weight_amid weights dag old new 0 n ≡ weight_after weights dag old n
  amid_none = ap (weight_of weights) (λ i v. by_first v (first_amid old new 0 v) (get_or old v 0) (still 0 v (omega arith)) i)

  -- all have
  pub amid_all : (many : ℕ) → length old ≡ many → length new ≡ many → weight_amid weights dag old new many n ≡ weight_after weights dag new n
  amid_all many a b = ap (weight_of weights) (λ i v. by_first v (first_amid old new many v) (get_or new v 0) (each v) i)
    where
      each : (v : ℕ) → first_amid old new many v ≡ get_or new v 0
      each v = elim (cases_lt v many) [
        | inl lt ↦ gone many v lt
        | inr le ↦ still many v le ∙ get_or-eq_default old 0 (omega arith) ∙ sym (get_or-eq_default new 0 (omega arith))
      ]

  -- one more has
  module _ (slot : ℕ) where
    before : sees slot slot ≡ is_after (get_or old slot 0) (view_at (unit_at dag n).panorama slot)
    before = by_first slot (first_amid old new slot slot) (get_or old slot 0) (still slot slot (omega arith))

    after : sees (slot + 1) slot ≡ is_after (get_or new slot 0) (view_at (unit_at dag n).panorama slot)
    after = by_first slot (first_amid old new (slot + 1) slot) (get_or new slot 0) (gone (slot + 1) slot (omega arith))

    others : (v : ℕ) → (v ≡ slot → ⊥) → sees slot v ≡ sees (slot + 1) v
    others v other = by_first v (first_amid old new slot v) (first_amid old new (slot + 1) v) (elim (cases_lt v slot) [
      | inl less ↦ gone slot v less ∙ sym (gone (slot + 1) v (omega arith))
      | inr le ↦ elim (cases_lt slot v) [
        | inl more ↦ still slot v le ∙ sym (still (slot + 1) v (omega arith))
        | inr same ↦ absurd (other (omega arith))
      ]
    ])

    -- which the unit sees as before
    pub amid_same : is_after (get_or old slot 0) (view_at (unit_at dag n).panorama slot) ≡ is_after (get_or new slot 0) (view_at (unit_at dag n).panorama slot) → weight_amid weights dag old new slot n ≡ weight_amid weights dag old new (slot + 1) n
    amid_same e = ap (weight_of weights) (λ i v. each v i)
      where
        each : (v : ℕ) → sees slot v ≡ sees (slot + 1) v
        each v = elim (cases_eq v slot) [
          | inl same ↦ subst (λ (k : ℕ). sees slot k ≡ sees (slot + 1) k) (sym same) (before ∙ e ∙ sym after)
          | inr other ↦ others v other
        ]

    -- as where it didn't move
    pub amid_stays : get_or old slot 0 ≡ get_or new slot 0 → weight_amid weights dag old new slot n ≡ weight_amid weights dag old new (slot + 1) n
    amid_stays e = amid_same (by_first slot (get_or old slot 0) (get_or new slot 0) e)

    -- or is of no lesser number than the unit, before and after
    pub amid_later : IsGraph dag → n < count_of dag → n ≤ get_or old slot 0 → n ≤ get_or new slot 0 → weight_amid weights dag old new slot n ≡ weight_amid weights dag old new (slot + 1) n
    amid_later g ln a b = amid_same (same_above (get_or new slot 0) (get_or old slot 0) n n (view_at (unit_at dag n).panorama slot) (inr (a, b)) (λ number e. (g.settled n ln).earlier slot number e) (omega arith))

    -- which it doesn't see any more
    pub amid_less : slot < length weights → is_after (get_or old slot 0) (view_at (unit_at dag n).panorama slot) ≡ true → is_after (get_or new slot 0) (view_at (unit_at dag n).panorama slot) ≡ false
        → weight_amid weights dag old new slot n ≡ weight_amid weights dag old new (slot + 1) n + get_or weights slot 0
    amid_less lt was is = one_fewer weights (sees slot) (sees (slot + 1)) slot (before ∙ was) (after ∙ is) others lt

    -- or sees now
    pub amid_more : slot < length weights → is_after (get_or old slot 0) (view_at (unit_at dag n).panorama slot) ≡ false → is_after (get_or new slot 0) (view_at (unit_at dag n).panorama slot) ≡ true
        → weight_amid weights dag old new (slot + 1) n ≡ weight_amid weights dag old new slot n + get_or weights slot 0
    amid_more lt was is = one_fewer weights (sees (slot + 1)) (sees slot) slot (after ∙ is) (before ∙ was) (λ v other. sym (others v other)) lt

  -- it is within the whole
  pub amid_most : (moved : ℕ) → weight_amid weights dag old new moved n ≤ sum weights
  amid_most moved = weight_most weights (sees moved)

-- what the kept latest units see has followed the first units of the validators before this one
pub record HasShifted (weights : List ℕ) (dag : UnitGraph) (tips : List (Option UnitNo)) (before : List ℕ) (start now : LevelBound) (slot : ℕ) : Type 0 where
  pub firsts : now.firsts ≡ start.firsts
  pub long : length now.support ≡ length start.support
  pub seen : (v : ℕ) (tip : UnitNo) → get_or tips v None ≡ Some tip → weight_amid weights dag before now.firsts slot tip.0 ≡ support_of now v

pub shifted_none : (weights : List ℕ) (dag : UnitGraph) (tips : List (Option UnitNo)) (before : List ℕ) (start : LevelBound) → ((v : ℕ) (tip : UnitNo) → get_or tips v None ≡ Some tip → weight_after weights dag before tip.0 ≡ support_of start v)
    → HasShifted weights dag tips before start start 0
shifted_none weights dag tips before start seen = record { firsts = refl; long = refl; seen = λ v tip e. amid_none weights dag before start.firsts tip.0 ∙ seen v tip e }

pub shifted_past : (weights : List ℕ) (dag : UnitGraph) (tips : List (Option UnitNo)) (before : List ℕ) (start now : LevelBound) (slot : ℕ) → HasShifted weights dag tips before start now slot → get_or before slot 0 ≡ get_or now.firsts slot 0
    → HasShifted weights dag tips before start now (slot + 1)
shifted_past weights dag tips before start now slot h same = record { firsts = h.firsts; long = h.long; seen = λ v tip e. sym (amid_stays weights dag before now.firsts tip.0 slot same) ∙ h.seen v tip e }
