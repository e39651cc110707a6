-- What a log's bytes spell.
use Rattle.std.specs.Prelude.{◌≡◌, ℕ, ◌≤◌, Bool, List, length, map, Option, Some, None, Ok}
use Rattle.std.specs.List.{All}
use Rattle.hw_types.specs.declared.config.Config.{Config}
use Rattle.hw_types.specs.declared.unit.Vertex.{Vertex}
use Rattle.hw_types.specs.Spelling.{VertexFits, IsSpelling}
use Rattle.hw_codec.specs.Ranges.{DigestInRange, ObsInRange, VertexInRange}
use Rattle.hw_codec.specs.Last.{LastUnit, last_by}
use Rattle.hw_log.specs.declared.entry.LogEntry.{LogEntry}
use Rattle.hw_log.specs.Lasts.{LastUnits, vertex_bytes_in}
use Rattle.hw_log.specs.Log.{log_of}

-- the bytes spell the vertex behind these last units
abbrev pub SpellsIn : LastUnits → List ℕ → Vertex → Type 0
SpellsIn lasts = IsSpelling VertexFits (vertex_bytes_in lasts)

-- what is kept of a unit is within the ranges of its types, and within the limit of panoramas
pub record LastInRange (last : LastUnit) : Type 0 where
  pub instance : DigestInRange last.instance
  pub name : DigestInRange last.name
  pub panorama : All ObsInRange last.panorama
  pub size : length last.panorama ≤ 1024

-- that of each validator is
abbrev pub LastsInRange : List (Option LastUnit) → Type 0
LastsInRange lasts = (validator : ℕ) (last : LastUnit) → last_by lasts validator ≡ Some last → LastInRange last

-- an entry's vertex is within the ranges of its types and the limits of its format
abbrev pub EntryFits : LogEntry → Type 0
EntryFits e = VertexInRange e.vertex × VertexFits e.vertex

-- an entry without its place
abbrev pub told_of : LogEntry → Bool × Vertex
told_of e = (e.verdict, e.vertex)

-- The bytes say this configuration, these entries but for their places, and no error.
pub record SaysSame (config : Config) (entries : List LogEntry) (bytes : List ℕ) : Type 0 where
  pub given : List LogEntry
  pub says : log_of bytes ≡ Ok (config, record { given = given; fault = None })
  pub same : map told_of given ≡ map told_of entries
