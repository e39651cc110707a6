-- A replay on its way: what it has taken, and the entries of its log that are still to come.
-- Source: ours.
use Rattle.std.specs.Prelude.{◌≡◌, ℕ, Bool, true, false, List, [], ◌∷◌, Option, Some, None, Result, Ok, Err, if◌then◌else◌}
use Rattle.hw_types.specs.declared.config.Config.{Config}
use Rattle.hw_log.specs.declared.entry.LogEntry.{LogEntry}
use Rattle.hw_log.specs.declared.error.LogError.{LogError}
use Rattle.hw_log.specs.Log.{Entries, entries_of, log_of}
use Rattle.hw_log.specs.Reader.{left_of, behind_given}
use Rattle.hw_replay.specs.declared.fault.StartFault.{StartFault}
use Rattle.hw_replay.specs.declared.replay.Replay.{Replay}
use Rattle.hw_replay.specs.Taken.{Taken, nothing_taken, entry_taken, entries_taken, or_fault}
use Rattle.hw_replay.specs.Replay.{is_wanted, taken_in, Stops}

-- what was taken so far, and the entries that are still to come
pub record Midway : Type 0 where
  pub taken : Taken
  pub entries : Entries

-- the two together
abbrev pub midway : Taken → Entries → Midway
midway taken entries = record { taken = taken; entries = entries }

-- a replay, where so much of the file is unread
abbrev pub midway_in : Replay → List ℕ → Midway
midway_in r unread = midway (taken_in r) (entries_of (left_of r.reader unread))

-- Behind the header of a log nothing is taken, and all of its entries are to come. No replay begins where a log has no header, or is of
-- another configuration than the wanted one.
abbrev pub said_begun : Option Config → Result (Config × Entries) LogError → Option Midway
said_begun wanted (Err e) = None
said_begun wanted (Ok said) = if is_wanted wanted said.0 then Some (midway (nothing_taken said.0) said.1) else None

-- the same of a file, if it is there
abbrev pub file_begun : Option Config → Option (List ℕ) → Option Midway
file_begun wanted (Some bytes) = said_begun wanted (log_of bytes)
file_begun wanted None = None

-- From the one to the other the first of the entries were read. They left what was taken, and the others are still to come.
pub record HasRead (first now : Midway) : Type 0 where
  pub read : List LogEntry
  pub split : first.entries ≡ behind_given read now.entries
  pub left : entries_taken first.taken read ≡ Ok now.taken

-- a replay that began so came to this; one that didn't begin came to nothing
abbrev pub ComesTo : Option Midway → Midway → Type 0
ComesTo (Some first) now = HasRead first now
ComesTo None now = ⊥

-- the next entry was taken, and the others are still to come
pub record TakesNext (old new : Midway) : Type 0 where
  pub entry : LogEntry
  pub next : old.entries ≡ behind_given (entry ∷ []) new.entries
  pub took : entry_taken old.taken entry ≡ Ok new.taken

-- what the first of these entries leaves, or the log's error where there is none
abbrev pub first_taken : Taken → List LogEntry → Option LogError → Result Taken StartFault
first_taken t [] error = or_fault t error
first_taken t (e ∷ es) error = entry_taken t e

-- what the next entry leaves
abbrev pub next_taken : Midway → Result Taken StartFault
next_taken now = first_taken now.taken now.entries.given now.entries.fault

-- So it is where an entry was taken. At the end there is none. At a stop it is the next entry that stops it, or the log's
-- error in its place, unless it is the outside.
abbrev pub LeadsNext : Midway → Midway → Result Bool StartFault → Type 0
LeadsNext old new (Ok true) = TakesNext old new
LeadsNext old new (Ok false) = Unit {0}
LeadsNext old new (Err e) = Stops e (next_taken old)
