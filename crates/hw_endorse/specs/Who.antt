-- Validators, of whom the last one stands apart.
use Rattle.std.specs.Prelude.{ℕ, List, [], ◌∷◌, ◌++◌, Option, Some, None}

-- validators, and for how many more there is room
pub record SomeWho : Type 0 where
  pub items : List ℕ
  pub room : ℕ

-- validators, and one that may stand last
abbrev pub with_last : List ℕ → Option ℕ → List ℕ
with_last earlier None = earlier
with_last earlier (Some last) = earlier ++ last ∷ []

-- where one stands last, there is room for as many as among the others, and else for that one
abbrev pub room_for : Option ℕ → ℕ → ℕ
room_for None room = 1
room_for (Some last) room = room
