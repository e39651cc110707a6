-- Reading field by field, of bytes of which a front is held.
use Rattle.std.proofs.Common.{◌≡◌, ℕ, ◌+◌, ◌<◌, ◌≤◌, List, ◌++◌, length, take, drop, Result, Ok, ap, inl, inr, [], min, arith, length-append}
use Rattle.std.proofs.lemmas.Bool.{le-ltb, cases_lt}
use Rattle.std.proofs.lemmas.List.{take-append-le, drop-append-le, append-nil, take_all}
use Rattle.std.proofs.Math.Nat.{min-eq_left, min-eq_right}
use Rattle.std.proofs.Math.Seq.{take-length}
use Rattle.hw_log.specs.declared.error.LogError.{LogError}
use Rattle.hw_log.specs.Log.{rest_at, bytes_at, ◌>>=◌}
use Rattle.hw_log.specs.Causes.{Fails}

-- what fails first fails as a whole
pub fails_bind : {A B : Type 0} (e : LogError) (x : Result A LogError) (f : A → Result B LogError) → Fails e x → Fails e (x >>= f)
fails_bind e x f (inl outside) = inl outside
fails_bind e x f (inr said) = inr (ap (λ r. r >>= f) said)

-- the next n bytes are held
pub bytes_held : (n : ℕ) (torn : LogError) (place : ℕ) (held more : List ℕ) → n ≤ length held → bytes_at n torn (rest_at place (held ++ more)) ≡ Ok (take n held, rest_at (place + n) (drop n held ++ more))
bytes_held n torn place held more within =
    let enough : n ≤ length (held ++ more) = omega (arith, length-append held more) in
    rw (le-ltb (length (held ++ more)) n enough, take-append-le n held more within, drop-append-le n held more within)

-- The first n bytes, or as many as there are, are among those that are held, if no more follow where fewer than n are held.
pub front_held : (n : ℕ) (held more : List ℕ) → (length held < n → more ≡ []) → take (min (length held) n) held ≡ take n (held ++ more)
front_held n held more last =
    elim (cases_lt (length held) n) [
      | inl short ↦ rw (last short, append-nil held, min-eq_left {n = length held} {m = n} (omega arith), take-length held, take_all n held (omega arith))
      | inr enough ↦ rw (take-append-le n held more enough, min-eq_right {n = n} {m = length held} enough)
    ]
