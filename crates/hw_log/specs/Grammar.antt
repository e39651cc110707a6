-- The grammar of logs: what bytes write, or the first error behind what they write.
-- Source: ours.
use Rattle.std.specs.Prelude.{◌≡◌, ◌≤◌, ◌<◌, ◌⊎◌, ℕ, ◌+◌, ◌^◌, Bool, if◌then◌else◌, List, [], ◌∷◌, ◌++◌, length, codes, Option, Some, None, Result, Ok, Err}
use Rattle.std.specs.List.{All}
use Rattle.hw_types.specs.declared.config.Config.{Config}
use Rattle.hw_types.specs.Limits.{config_fault, most_bytes}
use Rattle.hw_types.specs.Spelling.{u32_bytes, ConfigFits}
use Rattle.hw_types.specs.Reading.{config_of, IsFirstError}
use Rattle.hw_codec.specs.Ranges.{ConfigInRange}
use Rattle.hw_log.specs.Lasts.{LastUnits, IsVersion, no_lasts, lasts_after, vertex_in}
use Rattle.hw_log.specs.declared.entry.LogEntry.{LogEntry}
use Rattle.hw_log.specs.declared.error.LogError.{LogError}
use Rattle.hw_log.specs.declared.error.LogError.TheVariants.{BadMagic, Version, Torn, TooLong, BadConfig, ConfigFault, BadEvent, BadVerdict, BadVertex}
use Rattle.hw_log.specs.Log.{Entries, header_bytes, entry_bytes, log_bytes, lasts_behind}
use Rattle.hw_log.specs.Spelled.{EntryFits}

-- ---- a log

-- the configuration has a spelling
abbrev pub IsSpelled : Config → Type 0
IsSpelled config = ConfigInRange config × ConfigFits config

-- each entry's place is that of its first byte, where they stand from this place on
abbrev pub ArePlaced : LastUnits → ℕ → List LogEntry → Type 0
ArePlaced lasts place [] = Unit {0}
ArePlaced lasts place (e ∷ entries) = (e.at ≡ place) × ArePlaced (lasts_after lasts e.vertex) (place + length (entry_bytes lasts e.verdict e.vertex)) entries

-- The bytes write a log: HWLG, the version, the length and the spelling of a configuration that keeps all limits, and then each
-- entry: 1, the verdict, the length and the spelling of its vertex behind the last units.
pub record Writes (bytes : List ℕ) (version : ℕ) (config : Config) (entries : List LogEntry) : Type 0 where
  pub known : IsVersion version
  pub spelled : IsSpelled config
  pub limits : config_fault config ≡ None
  pub fit : All EntryFits entries
  pub places : ArePlaced (no_lasts version (length config.weights)) (length (header_bytes version config)) entries
  pub bytes_are : bytes ≡ log_bytes version config entries

-- ---- the errors of a header

-- the bytes begin with HWLG, a version and four bytes for the length n, and this stands behind
abbrev pub HasFront : List ℕ → ℕ → List ℕ → Type 0
HasFront bytes n behind = (version : ℕ) × IsVersion version × (bytes ≡ codes "HWLG" ++ version ∷ (u32_bytes n ++ behind))

-- they end inside the version, the length or the configuration, which begins at this place
abbrev pub IsTornHeader : List ℕ → ℕ → Type 0
IsTornHeader bytes at =
    (at ≡ 4) × (bytes ≡ codes "HWLG")
    ⊎ ((at ≡ 5) × ((version : ℕ) × (behind : List ℕ) × IsVersion version × (bytes ≡ codes "HWLG" ++ version ∷ behind) × (length behind < 4))
    ⊎ (at ≡ 9) × ((n : ℕ) × (behind : List ℕ) × HasFront bytes n behind × (n ≤ most_bytes) × (length behind < n)))

-- the bytes begin with no header, and this is the first error
abbrev pub IsWrongHeader : List ℕ → LogError → Type 0
IsWrongHeader bytes BadMagic = ¬ ((behind : List ℕ) × (bytes ≡ codes "HWLG" ++ behind))
IsWrongHeader bytes (Version version) = (behind : List ℕ) × (bytes ≡ codes "HWLG" ++ version ∷ behind) × ¬ IsVersion version
IsWrongHeader bytes (Torn at) = IsTornHeader bytes at
IsWrongHeader bytes (TooLong at) = (at ≡ 5) × ((n : ℕ) × (behind : List ℕ) × HasFront bytes n behind × (most_bytes < n) × (n < 2 ^ 32))
IsWrongHeader bytes (BadConfig c) = (text : List ℕ) × (behind : List ℕ) × HasFront bytes (length text) (text ++ behind) × (length text ≤ most_bytes) × IsFirstError (config_of text) c
IsWrongHeader bytes (ConfigFault f) = (version : ℕ) × (config : Config) × (behind : List ℕ) × IsVersion version × (bytes ≡ header_bytes version config ++ behind) × IsSpelled config × (config_fault config ≡ Some f)
IsWrongHeader bytes e = ⊥

-- ---- the errors of an entry

-- the bytes begin with 1, a verdict and four bytes for the length n, and this stands behind
abbrev pub HasHead : List ℕ → ℕ → List ℕ → Type 0
HasHead bytes n behind = (verdict : Bool) × (bytes ≡ 1 ∷ (if verdict then 1 else 0) ∷ (u32_bytes n ++ behind))

-- they end inside the six bytes before the vertex, or inside the vertex
abbrev pub IsTornEntry : List ℕ → Type 0
IsTornEntry bytes = (0 < length bytes) × (length bytes < 6) ⊎ ((n : ℕ) × (behind : List ℕ) × HasHead bytes n behind × (n ≤ most_bytes) × (length behind < n))

-- behind these last units the bytes, which stand at this place, begin with no entry, and this is the first error
abbrev pub IsWrongEntry : LastUnits → ℕ → List ℕ → LogError → Type 0
IsWrongEntry lasts place bytes (BadEvent at) = (at ≡ place) × ((event : ℕ) × (behind : List ℕ) × (bytes ≡ event ∷ behind) × ¬ (event ≡ 1) × (6 ≤ length bytes))
IsWrongEntry lasts place bytes (BadVerdict at) = (at ≡ place) × ((verdict : ℕ) × (behind : List ℕ) × (bytes ≡ 1 ∷ verdict ∷ behind) × (1 < verdict) × (6 ≤ length bytes))
IsWrongEntry lasts place bytes (TooLong at) = (at ≡ place) × ((n : ℕ) × (behind : List ℕ) × HasHead bytes n behind × (most_bytes < n) × (n < 2 ^ 32))
IsWrongEntry lasts place bytes (Torn at) = (at ≡ place) × IsTornEntry bytes
IsWrongEntry lasts place bytes (BadVertex at c) = (at ≡ place) × ((text : List ℕ) × (behind : List ℕ) × HasHead bytes (length text) (text ++ behind) × (length text ≤ most_bytes) × IsFirstError (vertex_in lasts text) c)
IsWrongEntry lasts place bytes e = ⊥

-- ---- all bytes

-- the bytes write a log with these entries, or there is an error behind these
abbrev pub SaysTo : List ℕ → ℕ → Config → List LogEntry → Option LogError → Type 0
SaysTo bytes version config entries None = Writes bytes version config entries
SaysTo bytes version config entries (Some e) =
    (front : List ℕ) × (behind : List ℕ) × (bytes ≡ front ++ behind) × Writes front version config entries
    × IsWrongEntry (lasts_behind (no_lasts version (length config.weights)) entries) (length front) behind e

-- A configuration and entries, up to the end or the first error; or the error of the header.
abbrev pub Says : List ℕ → Result (Config × Entries) LogError → Type 0
Says bytes (Ok (config, said)) = (version : ℕ) × SaysTo bytes version config said.given said.fault
Says bytes (Err e) = IsWrongHeader bytes e
