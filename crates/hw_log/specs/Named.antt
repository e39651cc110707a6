-- Entries with the names of their units.
use Rattle.std.specs.Prelude.{◌≡◌, ℕ, List, length, Option, Some, None, box_value}
use Rattle.hw_types.specs.declared.unit.Digest.{Digest}
use Rattle.hw_types.specs.declared.unit.Vertex.{Vertex}
use Rattle.hw_types.specs.declared.unit.Vertex.TheVariants as vertex
use Rattle.sha2.specs.Sha256.{sha256}
use Rattle.hw_types.specs.Spelling.{digest_of}
use Rattle.hw_lanes.specs.declared.pieces.Part.{Part}
use Rattle.hw_lanes.specs.Pieces.{IsWithin, part_of}
use Rattle.hw_log.specs.declared.entry.LogEntry.{LogEntry}
use Rattle.hw_log.specs.declared.entry.NamedEntry.{NamedEntry}

-- the vertex is a unit of this name
abbrev pub IsNameOf : Vertex → Digest → Type 0
IsNameOf (vertex.Unit s) name = name ≡ digest_of s.unit
IsNameOf (vertex.Evidence e) name = ⊥
IsNameOf (vertex.Endorsement e) name = ⊥

-- the digest of this part of the bytes is the name of the vertex, which is a unit
abbrev pub NamesUnit : Vertex → List ℕ → Part → Type 0
NamesUnit v bytes part = IsWithin (length bytes) part × IsNameOf v (record { 0 = sha256 (part_of bytes part) })

-- the entry without the name
abbrev pub unnamed : NamedEntry → LogEntry
unnamed named = record { at = named.at; verdict = named.verdict; vertex = box_value named.vertex }

-- the entry without the name, if there is one
abbrev pub entry_in : Option NamedEntry → Option LogEntry
entry_in (Some named) = Some (unnamed named)
entry_in None = None
