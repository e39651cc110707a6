-- The moments that a clock gives.
use Rattle.std.specs.Prelude.{◌≡◌, ℕ, List, [], ◌∷◌, ◌++◌, Option, Some, None}

-- one more moment was given, where the clock still tells them
abbrev pub GivesMoment : Option (List ℕ) → Option (List ℕ) → ℕ → Type 0
GivesMoment old None moment = Unit {0}
GivesMoment None (Some new) moment = ⊥
GivesMoment (Some old) (Some new) moment = new ≡ old ++ moment ∷ []
