-- Decimal numbers.
-- Source: ours.
use Rattle.std.specs.Prelude.{ℕ, ◌+◌, ◌-◌, ◌*◌, nat_le, nat_lt, Bool, false, not, ◌&&◌, ◌||◌, ◌==◌, List, [], ◌∷◌, length, fold, Option, Some, None, if◌then◌else◌}
use Rattle.std.specs.List.{list_all}

-- a decimal digit
abbrev pub is_digit : ℕ → Bool
is_digit c = nat_le 48 c && nat_le c 57

-- decimal digits, and no zero before another one
abbrev pub is_number : List ℕ → Bool
is_number [] = false
is_number (c ∷ cs) = is_digit c && list_all is_digit cs && (not (c == 48) || (length cs == 0))

-- the number with one more digit
abbrev pub with_digit : ℕ → ℕ → ℕ
with_digit n c = n * 10 + (c - 48)

-- what digits stand for
abbrev pub value_of : List ℕ → ℕ
value_of digits = fold with_digit 0 digits

-- the number that a word is, below the limit
unfoldable pub number_below : ℕ → List ℕ → Option ℕ
number_below limit w = if is_number w && nat_lt (value_of w) limit then Some (value_of w) else None
