-- The validator that is drawn to lead a round, without the search for it: the statements.
use Rattle.std.specs.Prelude.{◌≡◌, ◌↔◌, ◌≤◌, ◌<◌, ℕ, suc, List, sum, take}
use Rattle.hw_types.specs.Rounds.{first_above}

-- the weights in front of this place add up to no more than the number, and with its own weight they add up to more
pub record IsFirstAbove (weights : List ℕ) (number place : ℕ) : Type 0 where
  pub before : sum (take place weights) ≤ number
  pub above : number < sum (take (suc place) weights)

-- Where all weights add up to more, there is one such place, and it is the one that is found.
abbrev pub FirstIsFound : Type 0
FirstIsFound = (weights : List ℕ) (number place : ℕ) → number < sum weights → (first_above weights number ≡ place) ↔ IsFirstAbove weights number place
