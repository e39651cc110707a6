-- Laws of the weight of endorsers.
use Rattle.std.proofs.Common.{◌≡◌, ℕ, zero, suc, ◌+◌, ◌<◌, ◌≤◌, Bool, true, false, cond, not, ◌||◌, ◌&&◌, eqb, List, [], ◌∷◌, length, get_or, sum, sum_by, refl, ap, ◌∙◌, subst, inl, inr, arith, eq-eqb, if◌then◌else◌}
use Rattle.std.specs.List.{range_with_len, slice_index}
use Rattle.std.proofs.lemmas.Bool.{cases_eq, ne_eqb}
use Rattle.std.proofs.lemmas.List.Sums.{sum_by-cons, get_or-le-sum_by}
use Rattle.hw_types.specs.Votes.{weight_of}
use Rattle.hw_types.proofs.SummitLaws.{weight_le}

pub or_false : (b : Bool) → b || false ≡ b
or_false true = refl
or_false false = refl

sum_from : (xs : List ℕ) (a : ℕ) (g : ℕ → ℕ) → ((i : ℕ) → g (a + i) ≡ get_or xs i 0) → sum_by g (range_with_len a (length xs)) ≡ sum_by (λ x. x) xs
sum_from [] a g same = refl
sum_from (x ∷ xs) a g same =
    let rest = sum_from xs (a + 1) g (λ i. let e : a + 1 + i ≡ a + suc i = omega arith in ap g e ∙ same (suc i)) in
    let first : g a ≡ x = (let e : a ≡ a + 0 = omega arith in ap g e ∙ same 0) in
    omega (arith, sum_by-cons g a (range_with_len (a + 1) (length xs)), sum_by-cons (λ (y : ℕ). y) x xs)

-- no more than all
pub weight_most : (weights : List ℕ) (p : ℕ → Bool) → weight_of weights p ≤ sum weights
weight_most weights p =
    let all = sum_from weights 0 (λ v. slice_index weights v) (λ i. let e : 0 + i ≡ i = omega arith in ap (λ v. slice_index weights v) e) in
    let le = weight_le weights p (λ v. true) (λ v h. refl) in
    omega (arith, le, all)

-- one validator's weight
pub weight_one : (weights : List ℕ) (e : ℕ) → e < length weights → slice_index weights e ≤ sum weights
weight_one weights e within = get_or-le-sum_by (λ x. x) weights e 0 within

-- a test that one more passes
more : (ℕ → Bool) → ℕ → ℕ → Bool
more p e v = p v || eqb e v

part : List ℕ → (ℕ → Bool) → ℕ → ℕ
part weights p v = cond (p v) (slice_index weights v) 0

part_other : (weights : List ℕ) (p : ℕ → Bool) (e v : ℕ) → (e ≡ v → ⊥) → part weights (more p e) v ≡ part weights p v
unfolding part more
part_other weights p e v apart = ap (λ (b : Bool). cond (p v || b) (slice_index weights v) 0) (ne_eqb e v apart) ∙ ap (λ (b : Bool). cond b (slice_index weights v) 0) (or_false (p v))

part_own : (weights : List ℕ) (p : ℕ → Bool) (e : ℕ) → part weights (more p e) e ≡ part weights p e + (if not (p e) then slice_index weights e else 0)
unfolding part more
part_own weights p e = ap (λ (b : Bool). cond (p e || b) (slice_index weights e) 0) (eq-eqb e e refl) ∙ go (p e) (slice_index weights e) where
  go : (b : Bool) (w : ℕ) → cond (b || true) w 0 ≡ cond b w 0 + (if not b then w else 0)
  go true w = omega arith
  go false w = omega arith

-- behind the validator nothing changes
behind : (weights : List ℕ) (p : ℕ → Bool) (e a n : ℕ) → e < a → sum_by (part weights (more p e)) (range_with_len a n) ≡ sum_by (part weights p) (range_with_len a n)
behind weights p e a zero past = refl
behind weights p e a (suc n) past =
    let rest = behind weights p e (a + 1) n (omega arith) in
    let first = part_other weights p e a (λ same. absurd (omega (arith, same))) in
    omega (arith, sum_by-cons (part weights (more p e)) a (range_with_len (a + 1) n), sum_by-cons (part weights p) a (range_with_len (a + 1) n))

one_more : (weights : List ℕ) (p : ℕ → Bool) (e a n : ℕ) → a ≤ e → e < a + n
    → sum_by (part weights (more p e)) (range_with_len a n) ≡ sum_by (part weights p) (range_with_len a n) + (if not (p e) then slice_index weights e else 0)
one_more weights p e a zero low high = absurd (omega arith)
one_more weights p e a (suc n) low high =
    let here = sum_by-cons (part weights (more p e)) a (range_with_len (a + 1) n) in
    let there = sum_by-cons (part weights p) a (range_with_len (a + 1) n) in
    elim (cases_eq e a) [
      | inl same ↦
          let rest = behind weights p e (a + 1) n (omega arith) in
          let P : ℕ → Type 0 = λ x. part weights (more p e) x ≡ part weights p x + (if not (p e) then slice_index weights e else 0) in
          let first = subst P same (part_own weights p e) in
          omega (arith, here, there, rest, first)
      | inr apart ↦
          let rest = one_more weights p e (a + 1) n (omega arith) (omega arith) in
          let first = part_other weights p e a apart in
          omega (arith, here, there, rest, first)
    ]

-- the weight with one endorser more
pub weight_more : (weights : List ℕ) (p : ℕ → Bool) (b : Bool) (e : ℕ) → e < length weights
    → weight_of weights (λ v. p v || (b && eqb e v)) ≡ weight_of weights p + (if b && not (p e) then slice_index weights e else 0)
unfolding part more
weight_more weights p true e within = one_more weights p e 0 (length weights) (omega arith) (omega arith)
weight_more weights p false e within = ap (weight_of weights) (λ i v. or_false (p v) i) ∙ omega arith

-- nobody weighs nothing
pub weight_none : (weights : List ℕ) (vs : List ℕ) → sum_by (λ v. 0) vs ≡ 0
weight_none weights [] = refl
weight_none weights (v ∷ vs) = let rest = weight_none weights vs in omega (arith, sum_by-cons (λ (w : ℕ). 0) v vs)
