-- The last unit of each validator, as the next units are made over them.
-- Source: ours.
use Rattle.std.specs.Prelude.{ℕ, ◌+◌, max, List, [], ◌∷◌, map, slice_index_or, slice_set, Option, Some, None}
use Rattle.hw_types.specs.declared.unit.Digest.{Digest}
use Rattle.hw_types.specs.declared.unit.Obs.{Obs}
use Rattle.hw_types.specs.declared.unit.Obs.TheVariants.{Absent, Correct}
use Rattle.hw_types.specs.declared.unit.WireUnit.{WireUnit}
use Rattle.hw_types.specs.Spelling.{digest_of}
use Rattle.hw_cluster.specs.declared.lanes.LastUnit.{LastUnit}

-- the instance, and the last unit of each validator
pub record LanesState : Type 0 where
  pub instance : Digest
  pub last : List (Option LastUnit)

-- the number of the unit behind this one
abbrev pub seq_behind : Option LastUnit → ℕ
seq_behind None = 0
seq_behind (Some x) = x.seq + 1

-- the greatest number that a next unit has
abbrev pub highest : List (Option LastUnit) → ℕ
highest [] = 0
highest (x ∷ xs) = max (seq_behind x) (highest xs)

-- what is observed of a validator whose last unit this is
abbrev pub observed : Option LastUnit → Obs
observed None = Absent
observed (Some x) = Correct x.name

-- the validator's next unit
abbrev pub unit_over : LanesState → ℕ → ℕ → Option (List ℕ) → WireUnit
unit_over lanes v time value = record {
  instance = lanes.instance;
  creator = v;
  seq = seq_behind (slice_index_or lanes.last v None);
  time = time;
  exponent = 4;
  panorama = map observed lanes.last;
  value = value;
  endorsed = [];
}

-- the unit is the last one of its creator
abbrev pub with_unit : LanesState → WireUnit → LanesState
with_unit lanes u = record lanes { last = slice_set lanes.last u.creator (Some (record { name = digest_of u; seq = u.seq })) }
