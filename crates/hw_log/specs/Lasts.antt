-- The last unit of each validator, as a log goes on.
use Rattle.std.specs.Prelude.{◌≡◌, ◌⊎◌, ℕ, ◌==◌, nat_lt, if◌then◌else◌, List, [], length, set, replicate, Option, Some, None, Result}
use Rattle.std.specs.Option.{option_map}
use Rattle.hw_types.specs.declared.answers.CodecError.{CodecError}
use Rattle.hw_types.specs.declared.unit.Digest.{Digest}
use Rattle.hw_types.specs.declared.unit.Vertex.{Vertex}
use Rattle.hw_types.specs.declared.unit.Vertex.TheVariants as vertex
use Rattle.hw_types.specs.Spelling.{vertex_bytes}
use Rattle.hw_types.specs.Reading.{vertex_of}
use Rattle.hw_codec.specs.Last.{LastUnit, last_of}
use Rattle.hw_codec.specs.Compact.{bytes_after, vertex_after}

-- a version of logs
abbrev pub IsVersion : ℕ → Type 0
IsVersion version = (version ≡ 1) ⊎ (version ≡ 2)

-- The version of a log, and for each validator its last unit so far, where it has one. Units inside evidence are none.
pub record LastUnits : Type 0 where
  pub version : ℕ
  pub units : List (Option LastUnit)

-- in front of the first entry: none has one, and version 1 keeps none
abbrev pub no_lasts : ℕ → ℕ → LastUnits
no_lasts version validators = record { version = version; units = if version == 1 then [] else replicate validators None }

-- a unit that becomes its creator's last one
pub record NotedUnit : Type 0 where
  pub creator : ℕ
  pub last : LastUnit

-- the unit that becomes its creator's last one with this vertex, if any
abbrev pub noted_in : LastUnits → Vertex → Option NotedUnit
noted_in lasts (vertex.Unit s) = if nat_lt s.unit.creator (length lasts.units) then Some (record { creator = s.unit.creator; last = last_of s.unit }) else None
noted_in lasts (vertex.Evidence e) = None
noted_in lasts (vertex.Endorsement e) = None

-- the name of the unit that becomes its creator's last one, if any
abbrev pub noted_name : Option NotedUnit → Option Digest
noted_name noted = option_map (λ (kept : NotedUnit). kept.last.name) noted

-- with that unit
abbrev pub with_noted : LastUnits → Option NotedUnit → LastUnits
with_noted lasts (Some kept) = record lasts { units = set lasts.units kept.creator (Some kept.last) }
with_noted lasts None = lasts

-- behind an entry with this vertex
abbrev pub lasts_after : LastUnits → Vertex → LastUnits
lasts_after lasts v = with_noted lasts (noted_in lasts v)

-- the one byte string of a vertex in a log: in version 1 the full form, in version 2 the compact one where it is due
abbrev pub vertex_bytes_in : LastUnits → Vertex → List ℕ
vertex_bytes_in lasts v = if lasts.version == 1 then vertex_bytes v else bytes_after lasts.units v

-- the vertex that all of the bytes are in a log, or the first error
abbrev pub vertex_in : LastUnits → List ℕ → Result Vertex CodecError
vertex_in lasts bytes = if lasts.version == 1 then vertex_of bytes else vertex_after lasts.units bytes
