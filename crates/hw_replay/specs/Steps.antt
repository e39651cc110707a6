-- The steps of a replay.
use Rattle.std.specs.Prelude.{◌≡◌, ℕ, ◌+◌, ◌≤◌, ◌^◌, ◌⊎◌, true, Option, Result, Err}
use Rattle.hw_types.specs.declared.config.Config.{Config}
use Rattle.hw_types.specs.declared.answers.Receipt.{Receipt}
use Rattle.hw_types.specs.declared.answers.Receipt.TheVariants as receipt
use Rattle.hw_log.specs.Reader.{Reading, ahead_of, PlacesFit}
use Rattle.hw_replay.specs.declared.fault.StartFault.{StartFault}
use Rattle.hw_replay.specs.declared.fault.StartFault.TheVariants as fault
use Rattle.hw_replay.specs.declared.replay.Replay.{Replay}
use Rattle.hw_replay.specs.Taken.{Taken, nothing_taken}
use Rattle.hw_replay.specs.Replay.{is_wanted, taken_in}

-- The places of the file can be counted, and so can as many refusals and repeats as there may still be entries.
pub record HasRoom (r : Replay) (allowance : ℕ) : Type 0 where
  pub places : PlacesFit r.reader allowance
  pub counts : r.refused + r.repeats + ahead_of r.reader allowance ≤ 2 ^ 62

-- it stands behind the header, with a node that has received nothing, and the configuration is wanted
pub record IsBegun (r : Replay) (reader : Reading) (wanted : Option Config) : Type 0 where
  pub reader_is : r.reader ≡ reader
  pub empty : taken_in r ≡ nothing_taken reader.config
  pub is_wanted : is_wanted wanted reader.config ≡ true

-- it is want of memory, or what the definition stops with
abbrev pub IsStop : StartFault → Result Taken StartFault → Type 0
IsStop e said = (e ≡ fault.OutOfMemory) ⊎ (said ≡ Err e)

-- it is of one entry, and no error of the log
abbrev pub IsOfEntry : StartFault → Type 0
IsOfEntry (fault.Log e) = ⊥
IsOfEntry fault.OtherConfig = ⊥
IsOfEntry (fault.Clash known other) = Unit {0}
IsOfEntry (fault.RecordsFull at) = Unit {0}
IsOfEntry (fault.ParkFull at) = Unit {0}
IsOfEntry fault.OutOfMemory = Unit {0}

-- one for an entry that came again
abbrev pub repeats_in : Receipt → ℕ
repeats_in receipt.Repeat = 1
repeats_in (receipt.Admitted n) = 0
repeats_in (receipt.Parked n) = 0
repeats_in (receipt.Dropped r) = 0
