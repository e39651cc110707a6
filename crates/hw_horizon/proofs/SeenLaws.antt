-- What latest units see, less those who fall.
use Rattle.std.proofs.Common.{◌≡◌, ℕ, ◌+◌, ◌-◌, ◌^◌, ◌<◌, inl, inr, Bool, true, false, List, length, set, get_or, Some, None, refl, sym, ap, subst, ◌∙◌, arith}
use Rattle.std.specs.Prelude.{is_some}
use Rattle.std.proofs.lemmas.Bool.{cases_eq, lt-leb}
use Rattle.hw_types.specs.Votes.{weight_of}
use Rattle.hw_dag.specs.declared.numbers.UnitNo.{UnitNo}
use Rattle.hw_dag.specs.declared.numbers.View.{View}
use Rattle.hw_dag.specs.declared.numbers.View.TheVariants as view
use Rattle.hw_dag.specs.Dag.{UnitGraph, unit_at, count_of, view_at}
use Rattle.hw_dag.specs.Admission.{IsGraph}
use Rattle.hw_horizon.specs.Tables.{Starts, entry}
use Rattle.hw_horizon.specs.Firsts.{is_after, sees_after, weight_after, does_see, AreSeen}
use Rattle.hw_horizon.specs.Bounds.{LevelBound, AskedBounds, AreBounds, AreTips, AreWide, IsExact, AreExact, tip_in}
use Rattle.hw_horizon.proofs.FirstLaws.{correct_inside}
use Rattle.hw_horizon.proofs.FollowLaws.{put_other, put_same}
use Rattle.hw_horizon.proofs.RoundLaws.{put_same as put_same_entry}
use Rattle.hw_horizon.proofs.StrikeLaws.{other_entry}
use Rattle.hw_horizon.proofs.WeightLaws.{one_fewer}

-- nobody's unit has the greatest number
none_seen : (n : ℕ) (w : View) → ((number : UnitNo) → w ≡ view.Correct number → number.0 < n) → n < 2 ^ 32 → is_after (2 ^ 32 - 1) w ≡ false
none_seen n view.Absent earlier lt = refl
none_seen n view.Faulty earlier lt = refl
none_seen n (view.Correct number) earlier lt = let less = earlier number refl in lt-leb (2 ^ 32 - 1) number.0 (omega arith)

-- one falls: who sees it sees so much less, and who doesn't as much
module _ (weights : List ℕ) (dag : UnitGraph) (g : IsGraph dag) (firsts numbers : List ℕ) (at : ℕ) (put : numbers ≡ set firsts at (2 ^ 32 - 1)) (lf : at < length firsts) (lw : at < length weights) (n : ℕ) (ln : n < count_of dag) where
  unseen : sees_after dag numbers n at ≡ false
  unseen =
      let few = g.bounded in
      ap (λ (k : ℕ). is_after k (view_at (unit_at dag n).panorama at)) (put_same firsts numbers at (2 ^ 32 - 1) put lf)
      ∙ none_seen n (view_at (unit_at dag n).panorama at) (λ number e. (g.settled n ln).earlier at number e) (omega arith)

  others : (v : ℕ) → (v ≡ at → ⊥) → sees_after dag numbers n v ≡ sees_after dag firsts n v
  others v other = ap (λ (k : ℕ). is_after k (view_at (unit_at dag n).panorama v)) (put_other firsts numbers at v (2 ^ 32 - 1) put other)

  pub sees_less : sees_after dag firsts n at ≡ true → weight_after weights dag firsts n ≡ weight_after weights dag numbers n + get_or weights at 0
  sees_less was = one_fewer weights (sees_after dag firsts n) (sees_after dag numbers n) at was unseen (λ v other. sym (others v other)) lw

  pub sees_as_much : sees_after dag firsts n at ≡ false → weight_after weights dag firsts n ≡ weight_after weights dag numbers n
  sees_as_much never = ap (weight_of weights) (λ i v. stays v i)
    where
      stays : (v : ℕ) → sees_after dag firsts n v ≡ sees_after dag numbers n v
      stays v = elim (cases_eq v at) [
        | inl same ↦ ap (sees_after dag firsts n) same ∙ never ∙ sym unseen ∙ ap (sees_after dag numbers n) (sym same)
        | inr other ↦ sym (others v other)
      ]

-- who sees somebody has a latest unit
pub seer : (dag : UnitGraph) (slot : View) (v first : ℕ) → does_see dag slot v first ≡ true → (tip : UnitNo) × (slot ≡ view.Correct tip)
seer dag view.Absent v first h = absurd cc
seer dag view.Faulty v first h = absurd cc
seer dag (view.Correct tip) v first h = (tip, refl)

-- and that unit sees it
pub slot_sees : (dag : UnitGraph) (slot : View) (tip : UnitNo) (firsts : List ℕ) (v first : ℕ) (b : Bool) → slot ≡ view.Correct tip → first ≡ get_or firsts v 0 → b ≡ does_see dag slot v first → sees_after dag firsts tip.0 v ≡ b
slot_sees dag slot tip firsts v first b es ef eb =
    ap (λ (k : ℕ). is_after k (view_at (unit_at dag tip.0).panorama v)) (sym ef) ∙ ap (λ (w : View). does_see dag w v first) (sym es) ∙ sym eb

-- what holds of those present holds of them without one
pub fewer_seen : (weights : List ℕ) (dag : UnitGraph) (panorama : List View) (present after : Starts) (at : ℕ) (firsts seen : List ℕ) → after ≡ set present at None → at < length present → AreSeen weights dag panorama present firsts seen
    → AreSeen weights dag panorama after firsts seen
fewer_seen weights dag panorama present after at firsts seen put lt are = record {
  long = are.long;
  each = λ v tip there slot. elim (cases_eq v at) [
    | inl same ↦ absurd (let gone : is_some (entry after v) ≡ false = ap is_some (ap (entry after) same ∙ put_same_entry present after at None put lt) in let bad : false ≡ true = sym gone ∙ there in cc)
    | inr other ↦ are.each v tip (ap is_some (sym (other_entry present after at v None put other)) ∙ there) slot
  ];
}

-- what is kept of the same first units is what the latest units see
pub seen_now : (weights : List ℕ) (dag : UnitGraph) (panorama : List View) (present : Starts) (bound : LevelBound) (firsts seen : List ℕ) → IsExact weights dag panorama bound → seen ≡ bound.support → bound.firsts ≡ firsts
    → AreSeen weights dag panorama present firsts seen
seen_now weights dag panorama present bound firsts seen exact es ef =
    subst (λ (ns : List ℕ). AreSeen weights dag panorama present firsts ns) (sym es) (subst (λ (ns : List ℕ). AreSeen weights dag panorama present ns bound.support) ef (record {
      long = exact.long;
      each = λ v tip there slot. exact.each v tip slot;
    }))

-- the bounds of this panorama say it of each level
pub exact_levels : (weights : List ℕ) (dag : UnitGraph) (panorama : List View) (kept : AskedBounds) (block : UnitNo) → AreWide dag.validators kept → AreBounds weights dag kept → AreTips panorama kept → kept.block ≡ Some block → AreExact weights dag panorama kept
exact_levels weights dag panorama kept block wide are tips asked j lj = record {
  long = wide.support j lj;
  each = λ v tip slot. (are block asked v tip (tips v (correct_inside panorama v tip slot) ∙ ap tip_in slot)).support j lj;
}
