-- What a consumer took.
use Rattle.std.specs.Prelude.{ℕ, ◌+◌, List, [], ◌∷◌, ◌++◌, Result, Ok, Err}

-- the pairs of a height and a value that were taken, in order, and how many calls of `finish` succeeded
pub record Consumed : Type 0 where
  pub pairs : List (ℕ × List ℕ)
  pub finishes : ℕ

-- after a call of `take`: the pair goes last where it succeeded, and nothing was taken where it didn't
abbrev pub after_take : {T E : Type 0} → ℕ → List ℕ → Result T E → Consumed → Consumed
after_take height value (Ok x) consumed = record consumed { pairs = consumed.pairs ++ (height, value) ∷ [] }
after_take height value (Err e) consumed = consumed

-- after a call of `finish`
abbrev pub after_finish : {T E : Type 0} → Result T E → Consumed → Consumed
after_finish (Ok x) consumed = record consumed { finishes = consumed.finishes + 1 }
after_finish (Err e) consumed = consumed
