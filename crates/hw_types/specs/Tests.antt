-- Tests in order, of which the first that is broken answers.
-- Source: ours.
use Rattle.std.specs.Prelude.{Bool, List, [], ◌∷◌, Option, Some, None, if◌then◌else◌}

-- names with their tests, each true where what it names is broken
abbrev pub Tests : Type 0 → Type 0
Tests A = List (A × Bool)

-- the name of the first test that is true
abbrev pub first_broken : {A : Type 0} → Tests A → Option A
first_broken [] = None
first_broken (t ∷ ts) = if t.1 then Some t.0 else first_broken ts
