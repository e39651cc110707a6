-- Which numbers wait for which need.
use Rattle.std.specs.Prelude.{◌≡◌, ℕ, Bool, nat_eq, List, [], ◌++◌, map, filter}
use Rattle.std.specs.List.{list_any}
use Rattle.std.specs.Map.{lookup}
use Rattle.std.specs.Option.{option_map_or}
use Rattle.std.specs.declared.vec.Vec.{Vec}
use Rattle.std.specs.declared.alloc.Global.{Global}
use Rattle.hw_types.specs.declared.unit.Need.{Need}
use Rattle.hw_park.specs.declared.key.NeedKey.{NeedKey}
use Rattle.hw_park.specs.Keys.{key_of, ties}
use Rattle.hw_types.specs.Settled.{need_eq}

-- the numbers that wait for the need
abbrev pub numbers_at : List (NeedKey × Vec ℕ Global) → Need → List ℕ
numbers_at waits n = option_map_or (λ v. v.items) (lookup (ties (key_of n)) waits) []

-- the number is among these
abbrev pub has_number : List ℕ → ℕ → Bool
has_number numbers k = list_any (nat_eq k) numbers

-- for each need the same numbers wait
abbrev pub SameNumbers : List (NeedKey × Vec ℕ Global) → List (NeedKey × Vec ℕ Global) → Type 0
SameNumbers old new = (n : Need) → numbers_at new n ≡ numbers_at old n

-- the number, as often as the need stands among these
abbrev pub numbers_more : List Need → Need → ℕ → List ℕ
numbers_more needs n k = map (λ _. k) (filter (need_eq n) needs)

-- the number waits for these needs too, and goes last
abbrev pub HasRegistered : List (NeedKey × Vec ℕ Global) → List (NeedKey × Vec ℕ Global) → List Need → ℕ → Type 0
HasRegistered old new needs k = (n : Need) → numbers_at new n ≡ numbers_at old n ++ numbers_more needs n k
