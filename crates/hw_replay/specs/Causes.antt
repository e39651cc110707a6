-- When a replay stops by which fault.
use Rattle.std.specs.Prelude.{◌≡◌, ℕ, ◌≤◌, List, Option, Result, Ok, Err, IfErr}
use Rattle.hw_io.specs.Faults.{Rose, FailsAbout}
use Rattle.hw_types.specs.declared.answers.CodecError.TheVariants as codec
use Rattle.hw_log.specs.declared.error.LogError.TheVariants as log
use Rattle.hw_replay.specs.declared.fault.StartFault.{StartFault}
use Rattle.hw_replay.specs.declared.fault.StartFault.TheVariants as fault

-- a failed read raises the count, and no other fault changes it
abbrev pub IsFaultCounted : ℕ → ℕ → StartFault → Type 0
IsFaultCounted before now (fault.Log log.ReadFault) = Rose before now
IsFaultCounted before now e = now ≡ before

-- nor does an answer without one
abbrev pub IsReadCounted : {T : Type 0} → ℕ → ℕ → Result T StartFault → Type 0
IsReadCounted before now (Ok x) = now ≡ before
IsReadCounted before now (Err e) = IsFaultCounted before now e

-- a failed read of this file is counted for it, and no other fault changes a count
abbrev pub IsFaultAbout : Option (List ℕ) → (List ℕ → ℕ) → (List ℕ → ℕ) → StartFault → Type 0
IsFaultAbout name before now (fault.Log log.ReadFault) = FailsAbout name before now
IsFaultAbout name before now e = now ≡ before

-- nor does an answer without one
abbrev pub IsReplayAbout : {T : Type 0} → Option (List ℕ) → (List ℕ → ℕ) → (List ℕ → ℕ) → Result T StartFault → Type 0
IsReplayAbout name before now (Ok x) = now ≡ before
IsReplayAbout name before now (Err e) = IsFaultAbout name before now e

-- no append failed, and want of memory stands in no error of the log
abbrev pub IsOfReplay : StartFault → Type 0
IsOfReplay (fault.Log log.WriteFault) = ⊥
IsOfReplay (fault.Log log.OutOfMemory) = ⊥
IsOfReplay (fault.Log (log.BadConfig codec.OutOfMemory)) = ⊥
IsOfReplay (fault.Log (log.BadVertex at codec.OutOfMemory)) = ⊥
IsOfReplay e = Unit {0}

-- the read count didn't fall, and it rose where a read failed and nowhere else
pub record HasReplayCause {T : Type 0} (before now : ℕ) (result : Result T StartFault) : Type 0 where
  pub later : before ≤ now
  pub counted : IsReadCounted before now result
  pub error : IfErr result IsOfReplay
