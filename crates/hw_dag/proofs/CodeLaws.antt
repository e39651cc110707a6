-- Codes of slots are in the order of the views that they stand for.
use Rattle.std.proofs.Common.{◌≡◌, ℕ, zero, suc, ◌+◌, ◌<◌, ◌≤◌, ◌&&◌, ◌↔◌, Bool, true, false, List, get_or, refl, sym, subst, ◌∙◌, arith, eqb, eqb-true, eq-eqb, below_more}
use Rattle.std.specs.Prelude.{◌-◌, ◌^◌, nat_le, IsTrue, if◌then◌else◌}
use Rattle.std.proofs.lemmas.Bool.{le-leb, leb-true}
use Rattle.hw_types.proofs.StableLaws.{and_parts, and_whole}
use Rattle.hw_dag.specs.declared.numbers.UnitNo.{UnitNo}
use Rattle.hw_dag.specs.declared.numbers.View.{View}
use Rattle.hw_dag.specs.declared.numbers.View.TheVariants as view
use Rattle.hw_dag.specs.Slots.{view_of_code, HasCode, IsUpTo}
use Rattle.hw_dag.specs.Dag.{UnitGraph, count_of}
use Rattle.hw_dag.specs.Admission.{IsGraph}

-- the codes of two slots that see something
units_in_order : (m n : ℕ) → suc m < 2 ^ 32 → suc n < 2 ^ 32 → (b c : Bool) → eqb m (2 ^ 32 - 2) ≡ b → eqb n (2 ^ 32 - 2) ≡ c
    → (nat_le (suc m) (suc n) ≡ true) ↔ IsUpTo (if b then view.Faulty else view.Correct (record { 0 = m })) (if c then view.Faulty else view.Correct (record { 0 = n }))
units_in_order m n lm ln true true d e = (λ t. tt, λ u. le-leb (suc m) (suc n) (let low = eqb-true m (2 ^ 32 - 2) d in let high = eqb-true n (2 ^ 32 - 2) e in omega arith))
units_in_order m n lm ln true false d e = (
  λ t.
      let le = leb-true (suc m) (suc n) t in
      let low = eqb-true m (2 ^ 32 - 2) d in
      let top : n ≡ 2 ^ 32 - 2 = omega arith in
      absurd (let clash : false ≡ true = sym e ∙ eq-eqb n (2 ^ 32 - 2) top in cc),
  λ u. absurd u,
)
units_in_order m n lm ln false true d e = (λ t. tt, λ u. le-leb (suc m) (suc n) (let high = eqb-true n (2 ^ 32 - 2) e in omega arith))
units_in_order m n lm ln false false d e = (λ t. (let le = leb-true (suc m) (suc n) t in omega arith), λ u. le-leb (suc m) (suc n) (let le : m ≤ n = u in omega arith))

-- where nothing is seen after all
seen_after : (m : ℕ) → (b : Bool) → eqb m (2 ^ 32 - 2) ≡ b → IsUpTo (if b then view.Faulty else view.Correct (record { 0 = m })) view.Absent → ⊥
seen_after m true e u = u
seen_after m false e u = u

pub codes_in_order : (a b : ℕ) → a < 2 ^ 32 → b < 2 ^ 32 → (nat_le a b ≡ true) ↔ IsUpTo (view_of_code a) (view_of_code b)
codes_in_order zero b la lb = (λ t. tt, λ u. le-leb zero b (omega arith))
codes_in_order (suc m) zero la lb = (λ t. absurd (let le = leb-true (suc m) zero t in omega arith), λ u. absurd (seen_after m (eqb m (2 ^ 32 - 2)) refl u))
codes_in_order (suc m) (suc n) la lb = units_in_order m n la lb (eqb m (2 ^ 32 - 2)) (eqb n (2 ^ 32 - 2)) refl refl

-- one slot more is compared
pub within_more : (low high : List View) (n a b : ℕ) (before : Bool) → a < 2 ^ 32 → b < 2 ^ 32 → view_of_code a ≡ get_or low n view.Absent → view_of_code b ≡ get_or high n view.Absent
    → IsTrue before ↔ ((v : ℕ) → v < n → IsUpTo (get_or low v view.Absent) (get_or high v view.Absent))
    → IsTrue (before && nat_le a b) ↔ ((v : ℕ) → v < n + 1 → IsUpTo (get_or low v view.Absent) (get_or high v view.Absent))
within_more low high n a b before la lb ea eb so_far = (
  λ t.
      let parts = and_parts before (nat_le a b) t in
      below_more _ _ (so_far.0 parts.0)
      (subst (λ (w : View). IsUpTo (get_or low n view.Absent) w) eb (subst (λ (w : View). IsUpTo w (view_of_code b)) ea ((codes_in_order a b la lb).0 parts.1))),
  λ all. and_whole before (nat_le a b) (so_far.1 (λ v lt. all v (omega arith)))
      ((codes_in_order a b la lb).1 (subst (λ (w : View). IsUpTo (view_of_code a) w) (sym eb) (subst (λ (w : View). IsUpTo w (get_or high n view.Absent)) (sym ea) (all n (omega arith))))),
)

-- a view whose unit is in a graph has a code
pub known_code : (dag : UnitGraph) → IsGraph dag → (w : View) → ((number : UnitNo) → w ≡ view.Correct number → number.0 < count_of dag) → HasCode w
known_code dag g w known = λ number e. let lt = known number e in let small = g.bounded in omega arith
