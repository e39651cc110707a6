-- What was lent to a run.
use Rattle.std.specs.Prelude.{ℕ, List, [], ◌∷◌}
use Rattle.std.specs.Borrow.{MutBor}

-- the names of these four references: they are the same where the same values are lent
abbrev pub loans : {F S C D : Type 0} → MutBor F → MutBor S → MutBor C → MutBor D → List ℕ
loans files out clock door = files.ghost_name ∷ out.ghost_name ∷ clock.ghost_name ∷ door.ghost_name ∷ []
