-- Marks of validators, unit by unit.
use Rattle.std.proofs.Common.{◌≡◌, ◌≢◌, ℕ, ◌<◌, inl, inr, Bool, true, false, IsTrue, ◌↔◌, List, [], ◌∷◌, ◌++◌, set, Option, refl, sym, ap, subst, ◌∙◌, arith, eqb-true}
use Rattle.std.proofs.lemmas.List.{get_or-set_same, get_or-set_other, length-set}
use Rattle.std.proofs.lemmas.Bool.{cases_eq}
use Rattle.hw_types.specs.declared.unit.WireUnit.{WireUnit}
use Rattle.hw_types.specs.Graph.{Node}
use Rattle.hw_types.specs.Below.{Among}
use Rattle.hw_types.proofs.EntryLaws.{append_cases}
use Rattle.hw_types.proofs.UnionLaws.{from_left, from_right}
use Rattle.hw_types.proofs.WordsLaws.{never_both}
use Rattle.hw_dag.specs.declared.numbers.UnitNo.{UnitNo}
use Rattle.hw_dag.specs.Dag.{UnitGraph, unit_at, count_of, seq_of}
use Rattle.hw_dag.specs.Admission.{IsGraph}
use Rattle.hw_dag.specs.Lanes.{IsLaneAt}
use Rattle.hw_dag.proofs.LaneLaws.{never_higher, on_lane_by_number}
use Rattle.hw_meeting.specs.declared.mark.Mark.{Mark}
use Rattle.hw_meeting.specs.declared.mark.Mark.TheVariants as mark
use Rattle.hw_meeting.specs.Lanes.{IsOnLaneOf, IsOnTip, IsMark, marked, tip_at, mark_at, AreMarks}

-- ---- one unit

module _ (dag : UnitGraph) (g : IsGraph dag) (tip : ℕ) (lt : tip < count_of dag) (unit : WireUnit) where
  -- a unit with a greater number isn't on the lane
  pub too_high : seq_of (unit_at dag tip) < unit.seq → IsOnLaneOf dag tip unit → ⊥
  too_high high on =
      let seq : seq_of (unit_at dag on.number) ≡ unit.seq = ap (λ (u : WireUnit). u.seq) on.is in
      never_both _ on.on_lane (never_higher dag g on.number tip on.known lt (omega arith))

  -- the lane's unit of its number is the only one that it can be
  pub only_found : (found : ℕ) → IsLaneAt dag tip unit.seq found → IsOnLaneOf dag tip unit → (unit_at dag found).signed.unit ≡ unit
  only_found found at on =
      let seq : unit.seq ≡ seq_of (unit_at dag on.number) = sym (ap (λ (u : WireUnit). u.seq) on.is) in
      let here : IsLaneAt dag tip (seq_of (unit_at dag on.number)) found = subst (λ n. IsLaneAt dag tip n found) seq at in
      let same : found ≡ on.number = eqb-true found on.number (on_lane_by_number dag g on.number tip found on.known lt here ∙ on.on_lane) in
      ap (λ n. (unit_at dag n).signed.unit) same ∙ on.is

  pub found_is : (found : ℕ) → IsLaneAt dag tip unit.seq found → (unit_at dag found).signed.unit ≡ unit → IsOnLaneOf dag tip unit
  found_is found at is = record { number = found; known = at.known; on_lane = at.on_lane; is = is }

-- ---- one unit more

one_of : {A : Type 0} (y x : A) → Among y (x ∷ []) → x ≡ y
one_of y x m = elim m [ inl e ↦ e | inr none ↦ absurd none ]

module _ (IsSo : WireUnit → Type 0) (v : ℕ) (units : List Node) (x : Node) where
  more : Among x (units ++ x ∷ [])
  more = from_right x units (x ∷ []) (inl refl)

  -- by its creator
  pub one_more : (m : Mark) (b : Bool) → x.unit.creator ≡ v → (IsTrue b ↔ IsSo x.unit) → IsMark IsSo v units m → IsMark IsSo v (units ++ x ∷ []) (marked m b)
  one_more mark.Unseen true made so none = (
    record { unit = x; among = more; creator_is = made },
    λ y k e. elim (append_cases y units (x ∷ []) k) [ inl old ↦ absurd (none y old e) | inr new ↦ subst (λ (z : Node). IsSo z.unit) (one_of y x new) (so.0 refl) ],
  )
  one_more mark.Unseen false made so none = record { unit = x; among = more; creator_is = made; other = λ h. absurd (let e : false ≡ true = so.1 h in cc) }
  one_more mark.Whole true made so whole = (
    record { unit = whole.0.unit; among = from_left whole.0.unit units (x ∷ []) whole.0.among; creator_is = whole.0.creator_is },
    λ y k e. elim (append_cases y units (x ∷ []) k) [ inl old ↦ whole.1 y old e | inr new ↦ subst (λ (z : Node). IsSo z.unit) (one_of y x new) (so.0 refl) ],
  )
  one_more mark.Whole false made so whole = record { unit = x; among = more; creator_is = made; other = λ h. absurd (let e : false ≡ true = so.1 h in cc) }
  one_more mark.Broken b made so broken = record { unit = broken.unit; among = from_left broken.unit units (x ∷ []) broken.among; creator_is = broken.creator_is; other = broken.other }

  old_one : x.unit.creator ≢ v → (y : Node) → Among y (units ++ x ∷ []) → y.unit.creator ≡ v → Among y units
  old_one apart y k e = elim (append_cases y units (x ∷ []) k) [ inl old ↦ old | inr new ↦ absurd (apart (ap (λ (z : Node). z.unit.creator) (one_of y x new) ∙ e)) ]

  -- by another one
  pub no_more : (m : Mark) → x.unit.creator ≢ v → IsMark IsSo v units m → IsMark IsSo v (units ++ x ∷ []) m
  no_more mark.Unseen apart none = λ y k e. none y (old_one apart y k e) e
  no_more mark.Whole apart whole = (
    record { unit = whole.0.unit; among = from_left whole.0.unit units (x ∷ []) whole.0.among; creator_is = whole.0.creator_is },
    λ y k e. whole.1 y (old_one apart y k e) e,
  )
  no_more mark.Broken apart broken = record { unit = broken.unit; among = from_left broken.unit units (x ∷ []) broken.among; creator_is = broken.creator_is; other = broken.other }

-- the table with one unit more
pub marks_more : (dag : UnitGraph) (tips : List (Option UnitNo)) (units : List Node) (marks : List Mark) (x : Node) (b : Bool) → x.unit.creator < dag.validators
    → (IsTrue b ↔ IsOnTip dag (tip_at tips x.unit.creator) x.unit) → AreMarks dag tips units marks
    → AreMarks dag tips (units ++ x ∷ []) (set marks x.unit.creator (marked (mark_at marks x.unit.creator) b))
marks_more dag tips units marks x b lt so are = record {
  size = length-set marks x.unit.creator _ ∙ are.size;
  each = λ v below. elim (cases_eq x.unit.creator v) [
    | inl same ↦
        subst (λ w. IsMark (IsOnTip dag (tip_at tips w)) w (units ++ x ∷ []) (mark_at (set marks x.unit.creator (marked (mark_at marks x.unit.creator) b)) w)) same
        (rw (get_or-set_same marks x.unit.creator (marked (mark_at marks x.unit.creator) b) mark.Unseen (omega (arith, are.size)))
        (one_more (IsOnTip dag (tip_at tips x.unit.creator)) x.unit.creator units x (mark_at marks x.unit.creator) b refl so (are.each x.unit.creator lt)))
    | inr apart ↦
        rw (get_or-set_other marks x.unit.creator v (marked (mark_at marks x.unit.creator) b) mark.Unseen (λ e. apart (sym e)))
        (no_more (IsOnTip dag (tip_at tips v)) v units x (mark_at marks v) apart (are.each v below))
  ];
}
