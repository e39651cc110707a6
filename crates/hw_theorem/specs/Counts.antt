-- What a replay counts, in words of the answers to its deliveries: the statements.
use Rattle.std.specs.Prelude.{◌≡◌, ℕ, Bool, true, false, List, [], ◌∷◌, ◌++◌, length, filter, Option, Some, None, Result, Ok, Err, ◌↔◌}
use Rattle.std.specs.List.{list_any}
use Rattle.hw_types.specs.declared.config.Config.{Config}
use Rattle.hw_types.specs.declared.answers.Receipt.{Receipt}
use Rattle.hw_types.specs.declared.answers.Receipt.TheVariants as receipt
use Rattle.hw_types.specs.declared.answers.Cause.{Cause}
use Rattle.hw_types.specs.declared.answers.Cause.TheVariants as cause
use Rattle.hw_types.specs.Journal.{answer, journal_of, answers_from}
use Rattle.hw_types.specs.Real.{CoreState, setting_of}
use Rattle.hw_log.specs.declared.entry.LogEntry.{LogEntry}
use Rattle.hw_log.specs.declared.error.LogError.{LogError}
use Rattle.hw_log.specs.Log.{Entries, log_of}
use Rattle.hw_replay.specs.declared.fault.StartFault.{StartFault}
use Rattle.hw_replay.specs.declared.fault.StartFault.TheVariants as fault
use Rattle.hw_replay.specs.Taken.{Taken, nothing_taken, stop_of, entries_taken}
use Rattle.hw_replay.specs.Replay.{is_wanted, replay_of}
use Rattle.hw_replay.specs.Laws.{deliveries_of}

-- the delivery was refused
abbrev pub is_refused : Result Receipt Cause → Bool
is_refused (Err c) = true
is_refused (Ok r) = false

-- it came again
abbrev pub is_again : Result Receipt Cause → Bool
is_again (Ok receipt.Repeat) = true
is_again other = false

-- it was refused by a limit or a clash, so that a replay stops
abbrev pub is_stop : Result Receipt Cause → Bool
is_stop (Err cause.RecordsFull) = true
is_stop (Err cause.ParkFull) = true
is_stop (Err (cause.Clash d)) = true
is_stop other = false

-- how many of these pass
abbrev pub count : {A : Type 0} → (A → Bool) → List A → ℕ
count test xs = length (filter test xs)

-- the answers to the entries of a log, one after the other
abbrev pub answers_of : Config → List LogEntry → List (Result Receipt Cause)
answers_of config entries = answers_from (setting_of config) [] (deliveries_of entries)

-- the node to which the entries were delivered
abbrev pub node_of : Config → List LogEntry → CoreState
node_of config entries = record { config = config; journal = journal_of (setting_of config) (deliveries_of entries); asked = None }

-- what entries leave that nothing stops: the node to which they were delivered, and the counts of refusals and of repeats
abbrev pub tally_of : Config → List LogEntry → Taken
tally_of config entries = record { core = node_of config entries; refused = count is_refused (answers_of config entries); repeats = count is_again (answers_of config entries) }

-- Entries are taken exactly where no answer stops them, and then that is what they leave.
abbrev pub EntriesAreTaken : Type 0
EntriesAreTaken = (config : Config) (entries : List LogEntry) (t : Taken)
    → (entries_taken (nothing_taken config) entries ≡ Ok t) ↔ ((list_any is_stop (answers_of config entries) ≡ false) × (t ≡ tally_of config entries))

-- the first entry whose answer stops, and the fault that it is
pub record StopsAt (config : Config) (entries : List LogEntry) (f : StartFault) : Type 0 where
  pub before : List LogEntry
  pub entry : LogEntry
  pub after : List LogEntry
  pub split : entries ≡ before ++ entry ∷ after
  pub none_before : list_any is_stop (answers_of config before) ≡ false
  pub cause : Cause
  pub answer_is : answer (setting_of config) (journal_of (setting_of config) (deliveries_of before)) entry.vertex entry.verdict ≡ Err cause
  pub fault_is : stop_of (node_of config before) entry.at entry.vertex cause ≡ Some f

-- They stop exactly at the first entry whose answer stops them.
abbrev pub EntriesStop : Type 0
EntriesStop = (config : Config) (entries : List LogEntry) (f : StartFault) → (entries_taken (nothing_taken config) entries ≡ Err f) ↔ StopsAt config entries f

-- ---- a whole log

-- the log says this, to its end, is of the wanted configuration, no answer stops, and that is what was taken
pub record IsAnswered (wanted : Option Config) (bytes : List ℕ) (t : Taken) : Type 0 where
  pub config : Config
  pub entries : List LogEntry
  pub log : log_of bytes ≡ Ok (config, record { given = entries; fault = None })
  pub is_wanted : is_wanted wanted config ≡ true
  pub goes_on : list_any is_stop (answers_of config entries) ≡ false
  pub taken_is : t ≡ tally_of config entries

-- A replay leaves exactly that.
abbrev pub ReplayIsAnswered : Type 0
ReplayIsAnswered = (wanted : Option Config) (bytes : List ℕ) (t : Taken) → (replay_of wanted bytes ≡ Ok t) ↔ IsAnswered wanted bytes t

-- why a replay of these bytes stops: its log has no header, or is of another configuration, or an answer stops it, or, where none
-- does, the error behind the entries
pub data StopsFor (wanted : Option Config) (bytes : List ℕ) : StartFault → Type 0 where
  no_log : (e : LogError) → log_of bytes ≡ Err e → StopsFor wanted bytes (fault.Log e)
  other_config : (config : Config) (entries : Entries) → log_of bytes ≡ Ok (config, entries) → is_wanted wanted config ≡ false → StopsFor wanted bytes fault.OtherConfig
  at_entry : (config : Config) (entries : Entries) (f : StartFault) → log_of bytes ≡ Ok (config, entries) → is_wanted wanted config ≡ true → StopsAt config entries.given f → StopsFor wanted bytes f
  behind : (config : Config) (entries : Entries) (e : LogError) → log_of bytes ≡ Ok (config, entries) → is_wanted wanted config ≡ true → list_any is_stop (answers_of config entries.given) ≡ false
      → entries.fault ≡ Some e → StopsFor wanted bytes (fault.Log e)

-- It stops exactly for these.
abbrev pub ReplayStops : Type 0
ReplayStops = (wanted : Option Config) (bytes : List ℕ) (f : StartFault) → (replay_of wanted bytes ≡ Err f) ↔ StopsFor wanted bytes f
