-- The entries of a log, spelled anew one after the other.
-- Source: ours.
use Rattle.std.specs.Prelude.{◌≡◌, ℕ, List, ◌++◌, length, All, Option, Some, None, Result, Ok, Err}
use Rattle.hw_types.specs.declared.config.Config.{Config}
use Rattle.hw_log.specs.declared.entry.LogEntry.{LogEntry}
use Rattle.hw_log.specs.declared.error.LogError.{LogError}
use Rattle.hw_log.specs.Lasts.{LastUnits}
use Rattle.hw_log.specs.Log.{log_of, entries_bytes, lasts_behind}
use Rattle.hw_log.specs.Causes.{Fails}
use Rattle.hw_log.specs.Reader.{Reading, StandsBehind}
use Rattle.hw_log.specs.Spelled.{EntryFits, SaysSame}
use Rattle.hw_log.specs.Rewritten.{migrated_of}

-- these entries, each within the limits of its format, are spelled behind this text and these last units
pub record AreSpelled (given : List LogEntry) (first : LastUnits) (front text : List ℕ) (count : ℕ) : Type 0 where
  pub count_is : count ≡ length given
  pub text_is : text ≡ front ++ entries_bytes first given
  pub fit : All EntryFits given

-- the reader stands behind the entries that are spelled
pub record StandsBehindSpelled (bytes : List ℕ) (reader : Reading) (unread : List ℕ) (first lasts : LastUnits) (front text : List ℕ) (count : ℕ) : Type 0 where
  pub given : List LogEntry
  pub stands : StandsBehind bytes given reader unread
  pub spelled : AreSpelled given first front text count
  pub lasts_are : lasts ≡ lasts_behind first given

-- the log of these bytes says the entries that are spelled, and no error
pub record HasSpelled (bytes : List ℕ) (config : Config) (first : LastUnits) (front text : List ℕ) (count : ℕ) : Type 0 where
  pub given : List LogEntry
  pub says : log_of bytes ≡ Ok (config, record { given = given; fault = None })
  pub spelled : AreSpelled given first front text count

-- all entries are spelled, or the answer is the log's error
abbrev pub Spells : List ℕ → Config → LastUnits → List ℕ → List ℕ → Result ℕ LogError → Type 0
Spells bytes config first front text (Ok count) = HasSpelled bytes config first front text count
Spells bytes config first front text (Err e) = Fails e (migrated_of bytes)

-- The log of these bytes has no error, and the new bytes say the same configuration and entries.
pub record SaysAnew (bytes new : List ℕ) : Type 0 where
  pub config : Config
  pub given : List LogEntry
  pub says : log_of bytes ≡ Ok (config, record { given = given; fault = None })
  pub same : SaysSame config given new

-- both files are there, and the bytes of the one say what those of the other do
abbrev pub HoldsAnew : Option (List ℕ) → Option (List ℕ) → Type 0
HoldsAnew (Some bytes) (Some new) = SaysAnew bytes new
HoldsAnew log new = ⊥
