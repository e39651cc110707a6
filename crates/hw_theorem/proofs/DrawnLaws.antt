-- The first place at which weights add up to more than a number.
use Rattle.std.proofs.Common.{◌≡◌, ℕ, zero, suc, ◌+◌, ◌-◌, ◌≤◌, ◌<◌, Bool, true, false, cond, nat_lt, List, [], ◌∷◌, take, sum, refl, subst, arith}
use Rattle.std.proofs.lemmas.Bool.{lt-ltb}
use Rattle.std.proofs.lemmas.Bool.Decides.{nat_tests}
use Rattle.std.proofs.lemmas.List.Sums.{sum_by-cons}
use Rattle.hw_types.specs.Rounds.{first_above}
use Rattle.hw_theorem.specs.Drawn.{IsFirstAbove, FirstIsFound}

-- the first weight, and those behind it
sum_take : (w : ℕ) (ws : List ℕ) (k : ℕ) → sum (take (suc k) (w ∷ ws)) ≡ w + sum (take k ws)
sum_take w ws k = sum_by-cons (λ x. x) w (take k ws)

found : (ws : List ℕ) (n : ℕ) → n < sum ws → IsFirstAbove ws n (first_above ws n)
found [] n lt = absurd (omega (arith, lt))
found (w ∷ ws) n lt = go (nat_lt n w) refl (found ws (n - w))
  where
    go : (b : Bool) → nat_lt n w ≡ b → (n - w < sum ws → IsFirstAbove ws (n - w) (first_above ws (n - w))) → IsFirstAbove (w ∷ ws) n (cond b 0 (1 + first_above ws (n - w)))
    go true e rest =
        let less : n < w = grind (arith, nat_tests) in
        record { before = omega arith; above = omega (arith, less, sum_take w ws 0) }
    go false e rest =
        let first : w ≤ n = grind (arith, nat_tests) in
        let r = rest (omega (arith, lt, first, sum_by-cons (λ x. x) w ws)) in
        let k = first_above ws (n - w) in
        let next : suc k ≡ 1 + k = omega arith in
        subst (IsFirstAbove (w ∷ ws) n) next (record { before = omega (arith, r.before, first, sum_take w ws k); above = omega (arith, r.above, first, sum_take w ws (suc k)) })

only : (ws : List ℕ) (n place : ℕ) → IsFirstAbove ws n place → first_above ws n ≡ place
only [] n place is = absurd (omega (arith, is.above))
only (w ∷ ws) n zero is =
    let least : n < w = omega (arith, is.above, sum_take w ws 0) in
    rw (lt-ltb n w least) refl
only (w ∷ ws) n (suc k) is =
    let first : w ≤ n = omega (arith, is.before, sum_take w ws k) in
    let passed : nat_lt n w ≡ false = grind (arith, nat_tests) in
    let rest = only ws (n - w) k (record { before = omega (arith, is.before, sum_take w ws k); above = omega (arith, is.above, sum_take w ws (suc k)) }) in
    rw (passed, rest) (omega arith)

pub first_is_found : FirstIsFound
first_is_found ws n place lt = (λ e. subst (IsFirstAbove ws n) e (found ws n lt), λ is. only ws n place is)
