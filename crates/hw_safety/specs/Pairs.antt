-- Whether a validator equivocated, and the least number that shows it.
use Rattle.std.specs.Prelude.{ℕ, Bool, true, min, List, Option, Some, None}
use Rattle.std.specs.List.{list_any}
use Rattle.hw_types.specs.Graph.{Node}
use Rattle.hw_types.specs.Culprits.{equivocations_of}

-- the validator has two different units of one number
abbrev pub is_culprit : List Node → ℕ → Bool
is_culprit xs v = list_any (λ x. true) (equivocations_of xs v)

-- the lesser number, or the one that there is
abbrev pub lower_of : Option ℕ → ℕ → ℕ
lower_of None n = n
lower_of (Some m) n = min m n
