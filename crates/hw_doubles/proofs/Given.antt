-- The moments that a clock gave.
use Rattle.std.proofs.Common.{◌≡◌, ℕ, suc, zero, ◌+◌, ◌-◌, ◌<◌, ◌≤◌, ◌^◌, ◌==◌, min, cond, List, [], ◌∷◌, length, get_or, Bool, true, false, Option, Some, None, refl, ap, arith}
use Rattle.std.proofs.lemmas.Bool.{eqb-true, eqb-false}
use Rattle.hw_io.specs.Moments.{GivesMoment}
use Rattle.hw_doubles.specs.SetMoments.{moment_at, first_moments, moments_given}

-- behind the last one it is the last one
pub moment_last : (moments : List ℕ) (call n d : ℕ) → length moments ≡ suc n → n ≤ call → moment_at moments call ≡ get_or moments n d
moment_last [] call n d count behind = absurd (omega (arith, count))
moment_last (m ∷ []) call zero d count behind = refl
moment_last (m ∷ []) call (suc n) d count behind = absurd (omega (arith, count))
moment_last (m ∷ k ∷ rest) call zero d count behind = absurd (omega (arith, count))
moment_last (m ∷ k ∷ rest) zero (suc n) d count behind = absurd (omega (arith, behind))
moment_last (m ∷ k ∷ rest) (suc call) (suc n) d count behind = moment_last (k ∷ rest) call n d (omega (arith, count)) (omega (arith, behind))

pub moment_found : (moments : List ℕ) (call n d : ℕ) → length moments ≡ suc n → call < n → moment_at moments call ≡ get_or moments call d
moment_found [] call n d count before = absurd (omega (arith, count))
moment_found (m ∷ []) call n d count before = absurd (omega (arith, count, before))
moment_found (m ∷ k ∷ rest) zero n d count before = refl
moment_found (m ∷ k ∷ rest) (suc call) zero d count before = absurd (omega (arith, before))
moment_found (m ∷ k ∷ rest) (suc call) (suc n) d count before = moment_found (k ∷ rest) call n d (omega (arith, count)) (omega (arith, before))

-- the last value of the count of calls
abbrev last : ℕ
last = 2 ^ 64 - 1

abbrev told : Bool → List ℕ → Option (List ℕ)
told at_end moments = cond at_end None (Some moments)

pub gives_next : (moments : List ℕ) (calls : ℕ) → GivesMoment (moments_given (record { moments = moments; calls = calls })) (moments_given (record { moments = moments; calls = min (calls + 1) (2 ^ 64 - 1) })) (moment_at moments calls)
gives_next moments calls = go (calls == last) refl (min (calls + 1) last == last) refl where
  go : (was : Bool) → (calls == last) ≡ was → (is : Bool) → (min (calls + 1) last == last) ≡ is
      → GivesMoment (told was (first_moments moments calls)) (told is (first_moments moments (min (calls + 1) last))) (moment_at moments calls)
  go true p true q = tt
  go false p true q = tt
  go true p false q = absurd (eqb-false (min (calls + 1) last) last q (omega (arith, eqb-true calls last p)))
  go false p false q =
      let next : min (calls + 1) last ≡ suc calls = omega (arith, eqb-false calls last p, eqb-false (min (calls + 1) last) last q) in
      ap (first_moments moments) next
