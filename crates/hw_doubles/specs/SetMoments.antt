-- The moments that a clock is handed beforehand.
use Rattle.std.specs.Prelude.{ℕ, zero, suc, ◌==◌, ◌-◌, ◌^◌, if◌then◌else◌, List, [], ◌∷◌, ◌++◌, Option, Some, None}

-- the moments that a clock was handed, and how many calls it answered, counted up to the last value of a `u64`
pub record SetMoments : Type 0 where
  pub moments : List ℕ
  pub calls : ℕ

-- the moment of the call of that number, from 0: behind the end of the list its last one, and 0 where there is none
abbrev pub moment_at : List ℕ → ℕ → ℕ
moment_at [] call = 0
moment_at (m ∷ []) call = m
moment_at (m ∷ n ∷ rest) zero = m
moment_at (m ∷ n ∷ rest) (suc call) = moment_at (n ∷ rest) call

-- the moments of the first calls
abbrev pub first_moments : List ℕ → ℕ → List ℕ
first_moments moments zero = []
first_moments moments (suc calls) = first_moments moments calls ++ moment_at moments calls ∷ []

-- all moments given, which are told until their count is at its last value
abbrev pub moments_given : SetMoments → Option (List ℕ)
moments_given clock = if clock.calls == 2 ^ 64 - 1 then None else Some (first_moments clock.moments clock.calls)
