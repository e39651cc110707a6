-- Units of one name that differ.
use Rattle.std.specs.Prelude.{◌≡◌, ◌&&◌, ◌||◌, not, List, [], ◌∷◌, find, Option, Some, None, is_some, if◌then◌else◌}
use Rattle.std.specs.Option.{option_map, option_or}
use Rattle.std.specs.Map.{lookup}
use Rattle.hw_types.specs.declared.unit.Digest.{Digest}
use Rattle.hw_types.specs.declared.unit.WireUnit.{WireUnit}
use Rattle.hw_types.specs.Graph.{digest_eq}
use Rattle.hw_types.specs.Same.{unit_eq}
use Rattle.hw_audit.specs.Held.{HeldUnit}

-- the first of these units that has the name of this one and is another unit
abbrev pub other_of_name : List HeldUnit → HeldUnit → Option WireUnit
other_of_name left u = option_map (λ (v : HeldUnit). v.signed.unit) (find (λ (v : HeldUnit). digest_eq v.name u.name && not (unit_eq v.signed.unit u.signed.unit)) left)

-- two units, one of each journal
pub record UnitPair : Type 0 where
  pub left : WireUnit
  pub right : WireUnit

-- the unit with the left one, where there is one
abbrev pub clash_with : Option WireUnit → WireUnit → Option UnitPair
clash_with left u = option_map (λ (v : WireUnit). record { left = v; right = u }) left

-- the first of the right units of whose name there is another left unit, with the first such
abbrev pub first_clash : List HeldUnit → List HeldUnit → Option UnitPair
first_clash left [] = None
first_clash left (u ∷ us) = option_or (clash_with (other_of_name left u) u.signed.unit) (first_clash left us)

-- ---- units by name

-- the first unit of a name, and the first of that name that is another unit
pub record KnownUnits : Type 0 where
  pub first : WireUnit
  pub other : Option WireUnit

-- what is known of a name, with one unit more of it
abbrev pub known_with : Option KnownUnits → WireUnit → KnownUnits
known_with None u = record { first = u; other = None }
known_with (Some k) u = record { first = k.first; other = if is_some k.other || unit_eq k.first u then k.other else Some u }

-- what is known of a name once these units are read too
abbrev pub known_after : Digest → Option KnownUnits → List HeldUnit → Option KnownUnits
known_after d known [] = known
known_after d known (h ∷ hs) = known_after d (if digest_eq h.name d then Some (known_with known h.signed.unit) else known) hs

-- the unit of that name that isn't this one
abbrev pub unlike : Option KnownUnits → WireUnit → Option WireUnit
unlike None u = None
unlike (Some k) u = if unit_eq k.first u then k.other else Some k.first

-- the table has for each name what these units say of it
abbrev pub AreKnown : List (Digest × KnownUnits) → List HeldUnit → Type 0
AreKnown entries units = (d : Digest) → lookup (digest_eq d) entries ≡ known_after d None units
