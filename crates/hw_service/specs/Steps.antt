-- Steps of a run, one after the other.
-- Source: ours.
use Rattle.std.specs.Prelude.{◌≡◌, ℕ, ◌+◌, ◌<◌, Bool, false, ◌||◌, List, [], ◌∷◌, length, Result, Ok, Err}
use Rattle.hw_service.specs.declared.fault.ServiceFault.{ServiceFault}

-- A step by its number: the states before and after it. Then whether a call of the door failed in it, or why the run
-- ends with it.
abbrev pub Step : Type 0 → Type 1
Step S = ℕ → S → S → Result Bool ServiceFault → Type 0

-- the state after each step, and whether a call of the door failed in it
abbrev pub Taken : Type 0 → Type 0
Taken S = List (S × Bool)

-- a call of the door failed in one of them
abbrev pub any_failed : {S : Type 0} → Taken S → Bool
any_failed [] = false
any_failed (t ∷ ts) = t.1 || any_failed ts

-- Each step was taken where the one before left, from this number on, and none ended the run.
unfoldable pub AreTaken : {S : Type 0} → Step S → ℕ → S → Taken S → S → Type 0
AreTaken step number first [] last = last ≡ first
AreTaken step number first (t ∷ ts) last = step number first t.0 (Ok t.1) × AreTaken step (number + 1) t.0 ts last

-- all of this number of steps
pub record TakesAll {S : Type 0} (step : Step S) (number count : ℕ) (first last : S) (failed : Bool) : Type 0 where
  pub taken : Taken S
  pub count_is : length taken ≡ count
  pub each : AreTaken step number first taken last
  pub failed_is : failed ≡ any_failed taken

-- fewer steps, and then one that ended the run
pub record TakesUntil {S : Type 0} (step : Step S) (number count : ℕ) (first last : S) (e : ServiceFault) : Type 0 where
  pub taken : Taken S
  pub fewer : length taken < count
  pub before : S
  pub each : AreTaken step number first taken before
  pub ends : step (number + length taken) before last (Err e)

-- a count of steps, numbered from this one on
abbrev pub Takes : {S : Type 0} → Step S → ℕ → ℕ → S → S → Result Bool ServiceFault → Type 0
Takes step number count first last (Ok failed) = TakesAll step number count first last failed
Takes step number count first last (Err e) = TakesUntil step number count first last e
