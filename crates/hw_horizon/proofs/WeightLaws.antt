-- Weights that are added up one by one.
use Rattle.std.proofs.Common.{◌≡◌, ℕ, zero, suc, ◌+◌, ◌-◌, ◌≤◌, ◌<◌, Bool, true, false, cond, List, [], length, get_or, refl, sym, ap, subst, ◌∙◌, arith}
use Rattle.std.specs.Prelude.{sum, sum_by}
use Rattle.std.specs.List.{range_with_len}
use Rattle.std.proofs.lemmas.List.Sums.{sum_by-cons}
use Rattle.hw_types.specs.Votes.{weight_of}
use Rattle.hw_safety.proofs.WeightLaws.{weight_most}

-- one more number
range_sum : (f : ℕ → ℕ) (a n : ℕ) → sum_by f (range_with_len a (n + 1)) ≡ sum_by f (range_with_len a n) + f (a + n)
range_sum f a zero = let e : a + 0 ≡ a = omega arith in rw e (let h = sum_by-cons f a [] in omega arith)
range_sum f a (suc n) =
    let e : suc n + 1 ≡ suc (n + 1) = omega arith in
    let i : a + suc n ≡ a + 1 + n = omega arith in
    rw (e, i) (let h = sum_by-cons f a (range_with_len (a + 1) (n + 1)) in let k = sum_by-cons f a (range_with_len (a + 1) n) in let rest = range_sum f (a + 1) n in omega arith)

-- fewer numbers
range_less : (f : ℕ → ℕ) (n m : ℕ) → sum_by f (range_with_len 0 n) ≤ sum_by f (range_with_len 0 (n + m))
range_less f n zero = let e : n + 0 ≡ n = omega arith in rw e (omega arith)
range_less f n (suc m) = let e : n + suc m ≡ n + m + 1 = omega arith in rw e (let rest = range_less f n m in let more = range_sum f 0 (n + m) in omega arith)

module _ (weights : List ℕ) (test : ℕ → Bool) where
  abbrev pub so_far : ℕ → ℕ
  so_far n = sum_by (λ v. cond (test v) (get_or weights v 0) 0) (range_with_len 0 n)

  -- a validator more, that passes or not
  pub one_more : (i : ℕ) (b : Bool) → test i ≡ b → so_far (i + 1) ≡ so_far i + cond b (get_or weights i 0) 0
  one_more i b e =
      let more = range_sum (λ v. cond (test v) (get_or weights v 0) 0) 0 i in
      let z : 0 + i ≡ i = omega arith in
      let k : cond (test (0 + i)) (get_or weights (0 + i) 0) 0 ≡ cond b (get_or weights i 0) 0 = rw z (ap (λ c. cond c (get_or weights i 0) 0) e) in
      omega arith

  -- the sum so far is within the whole
  pub so_far_most : (i : ℕ) → i ≤ length weights → so_far i ≤ sum weights
  so_far_most i le =
      let d : (k : ℕ) × (i + k ≡ length weights) = (length weights - i, omega arith) in
      let less = range_less (λ v. cond (test v) (get_or weights v 0) 0) i d.0 in
      let whole : so_far (i + d.0) ≡ so_far (length weights) = ap (λ (n : ℕ). so_far n) d.1 in
      let most = weight_most weights test in
      omega arith

-- one validator fewer passes
module _ (weights : List ℕ) (p q : ℕ → Bool) (at : ℕ) (was : p at ≡ true) (now : q at ≡ false) (others : (v : ℕ) → (v ≡ at → ⊥) → p v ≡ q v) where
  before : (i : ℕ) → i ≤ at → so_far weights p i ≡ so_far weights q i
  before zero le = refl
  before (suc i) le =
      let e : suc i ≡ i + 1 = omega arith in
      let a = one_more weights p i (q i) (others i (λ same. omega arith)) in
      let b = one_more weights q i (q i) refl in
      let rest = before i (omega arith) in
      ap (λ (k : ℕ). so_far weights p k) e ∙ a ∙ ap (λ (k : ℕ). k + cond (q i) (get_or weights i 0) 0) rest ∙ sym b ∙ ap (λ (k : ℕ). so_far weights q k) (sym e)

  after : (d : ℕ) → so_far weights p (at + 1 + d) ≡ so_far weights q (at + 1 + d) + get_or weights at 0
  after zero =
      let e : at + 1 + zero ≡ at + 1 = omega arith in
      let a = one_more weights p at true was in
      let b = one_more weights q at false now in
      let rest = before at (omega arith) in
      subst (λ (k : ℕ). so_far weights p k ≡ so_far weights q k + get_or weights at 0) (sym e) (omega arith)
  after (suc d) =
      let e : at + 1 + suc d ≡ at + 1 + d + 1 = omega arith in
      let a = one_more weights p (at + 1 + d) (q (at + 1 + d)) (others (at + 1 + d) (λ same. omega arith)) in
      let b = one_more weights q (at + 1 + d) (q (at + 1 + d)) refl in
      let rest = after d in
      subst (λ (k : ℕ). so_far weights p k ≡ so_far weights q k + get_or weights at 0) (sym e) (omega arith)

  pub one_fewer : at < length weights → weight_of weights p ≡ weight_of weights q + get_or weights at 0
  one_fewer lt =
      let d : (k : ℕ) × (at + 1 + k ≡ length weights) = (length weights - (at + 1), omega arith) in
      subst (λ (n : ℕ). so_far weights p n ≡ so_far weights q n + get_or weights at 0) d.1 (after d.0)
