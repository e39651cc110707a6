-- The culprits stand in rising order, and weigh what each of them weighs.
use Rattle.std.proofs.Common.{◌≡◌, ℕ, zero, suc, ◌+◌, ◌<◌, inl, inr, Bool, true, false, cond, List, [], ◌∷◌, length, refl, sym, ap, subst, ◌∙◌, arith, eqb-true, eq-eqb}
use Rattle.std.specs.Prelude.{filter, ◌==◌, sum_by, slice_index}
use Rattle.std.specs.List.{list_any, range_with_len}
use Rattle.std.proofs.lemmas.List.Sums.{sum_by-cons}
use Rattle.hw_types.specs.Below.{Among}
use Rattle.hw_types.specs.Settled.{validators}
use Rattle.hw_types.specs.Culprits.{shown_in_either, equivocations_of, culprits_of}
use Rattle.hw_types.proofs.ClosureLaws.{Among-filter, filter-Among}
use Rattle.hw_types.proofs.PastLaws.{some_of, any_of}
use Rattle.hw_types.proofs.StableLaws.{both_ways}
use Rattle.hw_types.proofs.WordsLaws.{range_below}
use Rattle.hw_safety.specs.Verdicts.{culprit_weight}
use Rattle.hw_safety.specs.VerdictLaws.{CulpritsRise, CulpritsWeigh}
use Rattle.hw_types.proofs.OrderedLaws.{IsOrdered, adjacent_of, ordered_filter}

range_rises : (a n : ℕ) → IsOrdered (λ v w. v < w) (range_with_len a n)
range_rises a zero = tt
range_rises a (suc n) = (λ v m. let low = (range_below (a + 1) n v m).0 in omega arith, range_rises (a + 1) n)

pub rise : CulpritsRise
unfolding culprits_of
rise s left right =
    adjacent_of (λ v w. v < w) (culprits_of s left right)
    (ordered_filter (λ v w. v < w) (λ v. list_any (λ x. true) (equivocations_of (shown_in_either s left right) v)) (validators s.config) (range_rises 0 (length s.config.weights)))

-- ---- sums

sum_alike : (f g : ℕ → ℕ) (xs : List ℕ) → ((v : ℕ) → Among v xs → f v ≡ g v) → sum_by f xs ≡ sum_by g xs
sum_alike f g [] same = refl
sum_alike f g (x ∷ xs) same =
    let here = same x (inl refl) in
    let there = sum_alike f g xs (λ v m. same v (inr m)) in
    let left = sum_by-cons f x xs in
    let right = sum_by-cons g x xs in
    omega arith

sum_filter : (t : ℕ → Bool) (f : ℕ → ℕ) (xs : List ℕ) → sum_by (λ v. cond (t v) (f v) 0) xs ≡ sum_by f (filter t xs)
sum_filter t f [] = refl
sum_filter t f (x ∷ xs) = sum_by-cons (λ v. cond (t v) (f v) 0) x xs ∙ go (t x) (sum_filter t f xs)
  where
    go : (b : Bool) → sum_by (λ v. cond (t v) (f v) 0) xs ≡ sum_by f (filter t xs) → cond b (f x) 0 + sum_by (λ v. cond (t v) (f v) 0) xs ≡ sum_by f (cond b (x ∷ filter t xs) (filter t xs))
    go true rest = ap (λ n. f x + n) rest ∙ sym (sum_by-cons f x (filter t xs))
    go false rest = let none : 0 + sum_by (λ v. cond (t v) (f v) 0) xs ≡ sum_by (λ v. cond (t v) (f v) 0) xs = omega arith in none ∙ rest

-- who is among those that pass is who passes
kept_same : (t : ℕ → Bool) (xs : List ℕ) (v : ℕ) → Among v xs → list_any (λ w. w == v) (filter t xs) ≡ t v
kept_same t xs v m = both_ways (list_any (λ w. w == v) (filter t xs)) (t v)
    (λ h. let w = some_of (λ w. w == v) (filter t xs) h in subst (λ z. t z ≡ true) (eqb-true w.0 v w.2) (Among-filter t w.0 xs w.1).1)
    (λ h. any_of (λ w. w == v) v (filter t xs) (filter-Among t v xs m h) (eq-eqb v v refl))

pub weigh : CulpritsWeigh
unfolding culprit_weight culprits_of
weigh s left right =
    let t : ℕ → Bool = λ v. list_any (λ x. true) (equivocations_of (shown_in_either s left right) v) in
    let all = validators s.config in
    sum_alike (λ v. cond (list_any (λ w. w == v) (filter t all)) (slice_index s.config.weights v) 0) (λ v. cond (t v) (slice_index s.config.weights v) 0) all
    (λ v m. ap (λ b. cond b (slice_index s.config.weights v) 0) (kept_same t all v m))
    ∙ sum_filter t (λ v. slice_index s.config.weights v) all
