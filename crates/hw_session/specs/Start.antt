-- How a node starts.
-- Source: ours.
use Rattle.std.specs.Prelude.{◌≡◌, ℕ, List, Option, Some, None, Result, Ok, Err, MatchResult}
use Rattle.hw_types.specs.declared.config.Config.{Config}
use Rattle.hw_io.specs.declared.outside.IoFault.{IoFault}
use Rattle.hw_io.specs.declared.outside.IoFault.TheVariants as io
use Rattle.hw_io.specs.Faults.{Rose, FailsAbout}
use Rattle.hw_io.specs.Files.{SameFiles, Appended}
use Rattle.hw_log.specs.declared.error.LogError.TheVariants as log
use Rattle.hw_log.specs.Log.{header_bytes}
use Rattle.hw_replay.specs.declared.fault.StartFault.{StartFault}
use Rattle.hw_replay.specs.declared.fault.StartFault.TheVariants as fault
use Rattle.hw_replay.specs.Replay.{replay_of, IsOutside, Stops}
use Rattle.hw_replay.specs.Taken.{Taken}
use Rattle.hw_replay.specs.Ends.{lasts_of_file}
use Rattle.hw_session.specs.Node.{NodeState, new_node}

-- what a node took of its log
abbrev pub taken_of : NodeState → Taken
taken_of n = record { core = n.core; refused = n.refused; repeats = n.repeats }

-- The node is the one that the log's bytes leave, goes on in the log's version, and has met nothing since.
pub record GoesOn (config : Config) (keys : List (List ℕ)) (name bytes : List ℕ) (n : NodeState) : Type 0 where
  pub taken : replay_of (Some config) bytes ≡ Ok (taken_of n)
  pub lasts : lasts_of_file (Some bytes) ≡ Some n.lasts
  pub config_is : n.core.config ≡ config
  pub keys_are : n.keys ≡ keys
  pub log_is : n.log ≡ name
  pub limited : n.limited ≡ 0
  pub clash : n.clash ≡ None

-- the log wasn't made: a call of the files failed, or memory ran out
abbrev pub IsUnmade : StartFault → Type 0
IsUnmade (fault.Log log.ReadFault) = Unit {0}
IsUnmade (fault.Log log.WriteFault) = Unit {0}
IsUnmade fault.OutOfMemory = Unit {0}
IsUnmade e = ⊥

-- the header wasn't appended, or memory ran out
abbrev pub IsUnwritten : StartFault → Type 0
IsUnwritten (fault.Log log.WriteFault) = Unit {0}
IsUnwritten fault.OutOfMemory = Unit {0}
IsUnwritten e = ⊥

-- A node goes on from a log that is there, or stops where that says so.
abbrev pub StartsThere : Config → List (List ℕ) → List ℕ → Option (List ℕ) → Result NodeState StartFault → Type 0
StartsThere config keys name (Some bytes) result = MatchResult result (GoesOn config keys name bytes) (λ e. Stops e (replay_of (Some config) bytes))
StartsThere config keys name None result = MatchResult result (λ _. ⊥) IsOutside

-- So it does, and where there is no log it begins a new one.
abbrev pub Starts : Config → List (List ℕ) → List ℕ → Option (List ℕ) → Result NodeState StartFault → Type 0
Starts config keys name (Some bytes) result = StartsThere config keys name (Some bytes) result
Starts config keys name None result = MatchResult result (λ n. n ≡ new_node config keys name) IsUnmade

-- A log that is there stays as it is. A new one has a header of version 2, or after a fault a first part of it.
abbrev pub StartsLog : Config → List ℕ → (List ℕ → Option (List ℕ)) → (List ℕ → Option (List ℕ)) → Option (List ℕ) → Result NodeState StartFault → Type 0
StartsLog config name old new (Some bytes) result = SameFiles old new
StartsLog config name old new None result = Appended old new name (header_bytes 2 config) result

-- ---- causes

-- what a failed look for the log is answered as
abbrev pub fault_of_read : IoFault → StartFault
fault_of_read io.Failed = fault.Log log.ReadFault
fault_of_read io.OutOfMemory = fault.OutOfMemory

-- a failed append raises the append count, and no other fault changes it
abbrev pub IsAppendedCounted : ℕ → ℕ → StartFault → Type 0
IsAppendedCounted before now (fault.Log log.WriteFault) = Rose before now
IsAppendedCounted before now e = now ≡ before

-- nor does an answer without one
abbrev pub HasAppendedCause : {T : Type 0} → ℕ → ℕ → Result T StartFault → Type 0
HasAppendedCause before now (Ok n) = now ≡ before
HasAppendedCause before now (Err e) = IsAppendedCounted before now e

-- a failed read raises the read count and a failed append the append count, and no other fault changes one
abbrev pub IsStartCounted : ℕ → ℕ → ℕ → ℕ → StartFault → Type 0
IsStartCounted reads reads_now appends appends_now (fault.Log log.ReadFault) = Rose reads reads_now × (appends_now ≡ appends)
IsStartCounted reads reads_now appends appends_now (fault.Log log.WriteFault) = (reads_now ≡ reads) × Rose appends appends_now
IsStartCounted reads reads_now appends appends_now e = (reads_now ≡ reads) × (appends_now ≡ appends)

-- an answer without a fault changes no count
abbrev pub HasStartCause : {T : Type 0} → ℕ → ℕ → ℕ → ℕ → Result T StartFault → Type 0
HasStartCause reads reads_now appends appends_now (Ok n) = (reads_now ≡ reads) × (appends_now ≡ appends)
HasStartCause reads reads_now appends appends_now (Err e) = IsStartCounted reads reads_now appends appends_now e

-- a failed read was one of the log
abbrev pub IsReadOfLog : List ℕ → (List ℕ → ℕ) → (List ℕ → ℕ) → StartFault → Type 0
IsReadOfLog name before now (fault.Log log.ReadFault) = FailsAbout (Some name) before now
IsReadOfLog name before now e = Unit {0}
