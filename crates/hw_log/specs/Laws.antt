-- What is proved of the grammar.
-- Source: ours.
use Rattle.std.specs.Prelude.{◌≡◌, ◌↔◌, ℕ, List, [], ◌∷◌, ◌++◌, length, codes, Some, None, Result}
use Rattle.hw_types.specs.declared.answers.CodecError.TheVariants.{BadTag}
use Rattle.hw_types.specs.declared.config.Config.{Config}
use Rattle.hw_types.specs.declared.config.Leaders.TheVariants.{Table}
use Rattle.hw_types.specs.declared.config.ConfigFault.TheVariants.{Parked}
use Rattle.hw_types.specs.Limits.{config_fault}
use Rattle.hw_codec.specs.Ranges.{AreBytes}
use Rattle.hw_log.specs.Lasts.{IsVersion}
use Rattle.hw_log.specs.declared.entry.LogEntry.{LogEntry}
use Rattle.hw_log.specs.declared.error.LogError.{LogError}
use Rattle.hw_log.specs.declared.error.LogError.TheVariants.{BadMagic, Version, Torn, TooLong, BadConfig, ConfigFault, BadEvent, BadVerdict, BadVertex}
use Rattle.hw_log.specs.Log.{Entries, log_of, header_bytes}
use Rattle.hw_log.specs.Grammar.{IsSpelled, Writes, IsWrongHeader, SaysTo, Says}

-- the reader's steps give exactly what the bytes say
abbrev pub ThatSaidIsRead : Type 0
ThatSaidIsRead = (bytes : List ℕ) (said : Result (Config × Entries) LogError) → AreBytes bytes → (log_of bytes ≡ said) ↔ Says bytes said

-- no bytes say two things
abbrev pub ThatOneIsSaid : Type 0
ThatOneIsSaid = (bytes : List ℕ) (a b : Result (Config × Entries) LogError) → Says bytes a → Says bytes b → a ≡ b

-- all bytes say something
abbrev pub ThatAllIsSaid : Type 0
ThatAllIsSaid = (bytes : List ℕ) → AreBytes bytes → (said : Result (Config × Entries) LogError) × Says bytes said

-- a header alone is a log without entries, and one more byte behind it is a torn entry
abbrev pub ThatLogsAreThere : Type 0
ThatLogsAreThere =
    (version : ℕ) (config : Config) → IsVersion version → IsSpelled config → config_fault config ≡ None
    → Writes (header_bytes version config) version config [] × SaysTo (header_bytes version config ++ 1 ∷ []) version config [] (Some (Torn (length (header_bytes version config))))

-- ---- a member for each error

-- one validator, that leads all rounds, and so many places for units that wait
abbrev pub lone : ℕ → Config
lone parked = record { weights = 1 ∷ []; ftt = 0; levels = 1; min_exponent = 2; max_exponent = 2; leaders = Table (0 ∷ []); max_records = 1; max_parked = parked; end = None }

-- with one place it is spelled and keeps all limits, so its header is a log
abbrev pub ThatOneKeepsLimits : Type 0
ThatOneKeepsLimits = IsSpelled (lone 1) × (config_fault (lone 1) ≡ None)

-- A text that isn't HWLG, one of version 3, ends inside each field, a configuration of 1,048,577 bytes, one of version 3 and
-- one without a place for units that wait.
abbrev pub ThatErrorsAreThere : Type 0
ThatErrorsAreThere =
    IsWrongHeader (codes "HWL") BadMagic
    × IsWrongHeader (codes "HWLG" ++ 3 ∷ []) (Version 3)
    × IsWrongHeader (codes "HWLG") (Torn 4)
    × IsWrongHeader (codes "HWLG" ++ 1 ∷ []) (Torn 5)
    × IsWrongHeader (codes "HWLG" ++ 1 ∷ 0 ∷ 0 ∷ 0 ∷ 1 ∷ []) (Torn 9)
    × IsWrongHeader (codes "HWLG" ++ 1 ∷ 0 ∷ 16 ∷ 0 ∷ 1 ∷ []) (TooLong 5)
    × IsWrongHeader (codes "HWLG" ++ 1 ∷ 0 ∷ 0 ∷ 0 ∷ 1 ∷ 3 ∷ []) (BadConfig (BadTag 0))
    × IsWrongHeader (header_bytes 1 (lone 0)) (ConfigFault Parked)

-- behind a log these bytes begin with no entry, and this is the first error, at its place
abbrev pub StopsBehind : List ℕ → ℕ → Config → List LogEntry → List ℕ → (ℕ → LogError) → Type 0
StopsBehind bytes version config entries behind e = SaysTo (bytes ++ behind) version config entries (Some (e (length bytes)))

-- Behind any log: the event 2, the verdict 2, a vertex of 1,048,577 bytes, an end before the vertex and inside it, and a vertex
-- of kind 0.
abbrev pub ThatEntryErrorsAreThere : Type 0
ThatEntryErrorsAreThere =
    (bytes : List ℕ) (version : ℕ) (config : Config) (entries : List LogEntry) → Writes bytes version config entries
    → StopsBehind bytes version config entries (2 ∷ 0 ∷ 0 ∷ 0 ∷ 0 ∷ 0 ∷ []) BadEvent
    × StopsBehind bytes version config entries (1 ∷ 2 ∷ 0 ∷ 0 ∷ 0 ∷ 0 ∷ []) BadVerdict
    × StopsBehind bytes version config entries (1 ∷ 0 ∷ 0 ∷ 16 ∷ 0 ∷ 1 ∷ []) TooLong
    × StopsBehind bytes version config entries (1 ∷ []) Torn
    × StopsBehind bytes version config entries (1 ∷ 0 ∷ 0 ∷ 0 ∷ 0 ∷ 1 ∷ []) Torn
    × StopsBehind bytes version config entries (1 ∷ 0 ∷ 0 ∷ 0 ∷ 0 ∷ 1 ∷ 0 ∷ []) (λ place. BadVertex place (BadTag 0))
