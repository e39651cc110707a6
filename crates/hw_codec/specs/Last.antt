-- What a log of version 2 keeps of the unit that a validator's next one is told against.
-- Source: ours.
use Rattle.std.specs.Prelude.{ℕ, Bool, ◌&&◌, List, length, ◌==◌, slice_get, get_or, Option, Some, None, if◌then◌else◌}
use Rattle.std.specs.Option.{option_flatten}
use Rattle.hw_types.specs.declared.unit.Digest.{Digest}
use Rattle.hw_types.specs.declared.unit.Obs.{Obs}
use Rattle.hw_types.specs.declared.unit.Obs.TheVariants.{Absent, Correct}
use Rattle.hw_types.specs.declared.unit.WireUnit.{WireUnit}
use Rattle.hw_types.specs.Graph.{digest_eq}
use Rattle.hw_types.specs.Same.{obs_eq}
use Rattle.hw_types.specs.Spelling.{digest_of}

-- what is kept of a unit: its instance, its name and its panorama
pub record LastUnit : Type 0 where
  pub instance : Digest
  pub name : Digest
  pub panorama : List Obs

-- what is kept of this unit
abbrev pub last_of : WireUnit → LastUnit
last_of u = record { instance = u.instance; name = digest_of u; panorama = u.panorama }

-- what is kept for this validator; there is none for one without a unit, nor for a number that is no validator's
abbrev pub last_by : List (Option LastUnit) → ℕ → Option LastUnit
last_by lasts validator = option_flatten (slice_get lasts validator)

-- The unit goes on from the last one: it is of the same instance, has as many observations, and observes its creator by
-- the last one's name.
abbrev pub goes_on : LastUnit → WireUnit → Bool
goes_on last u =
    digest_eq u.instance last.instance && (length u.panorama == length last.panorama) && obs_eq (get_or u.panorama u.creator Absent) (Correct last.name)

-- it, if the unit goes on from it
abbrev pub gone_on : Option LastUnit → WireUnit → Option LastUnit
gone_on None u = None
gone_on (Some last) u = if goes_on last u then Some last else None

-- What the unit is told against, where the compact form is due: its creator's last one, from which it goes on.
abbrev pub due : List (Option LastUnit) → WireUnit → Option LastUnit
due lasts u = gone_on (last_by lasts u.creator) u
