-- Units that seem to follow in a log of version 2.
use Rattle.std.specs.Prelude.{◌≡◌, ◌≢◌, ℕ, List, length, map, All, Ok}
use Rattle.hw_types.specs.declared.unit.WireUnit.{WireUnit}
use Rattle.hw_types.specs.declared.unit.Vertex.TheVariants as vertex
use Rattle.hw_types.specs.Spelling.{Fits, unit_bytes, digest_of}
use Rattle.hw_codec.specs.Ranges.{VertexInRange}
use Rattle.hw_lanes.specs.declared.pieces.Part.{Part}
use Rattle.hw_lanes.specs.Pieces.{IsWithin, part_of}
use Rattle.hw_log.specs.Lasts.{LastUnits, vertex_in}
use Rattle.hw_log.specs.Spelled.{SpellsIn}
use Rattle.hw_log.specs.declared.following.ReadUnit.{ReadUnit}
use Rattle.hw_log.specs.declared.following.NextUnit.{NextUnit}

-- the unit itself
abbrev pub unit_of : ReadUnit → WireUnit
unit_of read = read.signed.unit

-- behind these last units the bytes spell the vertex of the unit
pub record IsRead (lasts : LastUnits) (read : ReadUnit) : Type 0 where
  pub range : VertexInRange (vertex.Unit read.signed)
  pub spelled : SpellsIn lasts read.bytes (vertex.Unit read.signed)

-- the same of a unit under its name
pub record Follows (lasts : LastUnits) (next : NextUnit) : Type 0 where
  pub read : IsRead lasts next.read
  pub name : next.name ≡ digest_of (unit_of next.read)

-- behind these last units the unit under its name is what these bytes are read as
pub record IsFirst (lasts : LastUnits) (bytes : List ℕ) (next : NextUnit) : Type 0 where
  pub read : vertex_in lasts bytes ≡ Ok (vertex.Unit next.read.signed)
  pub fits : Fits (unit_of next.read)
  pub name : next.name ≡ digest_of (unit_of next.read)

-- the unit is by another validator
abbrev pub IsByOther : ℕ → NextUnit → Type 0
IsByOther validator next = (unit_of next.read).creator ≢ validator

-- each part of the bytes is the spelling of one of these units, in their order
pub record AreSpelled (bytes : List ℕ) (parts : List Part) (units : List ReadUnit) : Type 0 where
  pub within : All (IsWithin (length bytes)) parts
  pub spelled : map (part_of bytes) parts ≡ map (λ (read : ReadUnit). unit_bytes (unit_of read)) units
