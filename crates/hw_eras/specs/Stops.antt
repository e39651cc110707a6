-- When a run over logs of eras stops by what.
-- Source: ours.
use Rattle.std.specs.Prelude.{◌≡◌, ℕ, ◌≤◌, ◌⊎◌, List, Option, Result, Ok, Err, IfErr}
use Rattle.hw_io.specs.Faults.{subject_of}
use Rattle.hw_types.specs.Below.{Among}
use Rattle.hw_replay.specs.Replay.{IsOutside}
use Rattle.hw_replay.specs.Causes.{IsFaultCounted, IsFaultAbout, IsOfReplay}
use Rattle.hw_eras.specs.Logs.{LogStop, NoEra, Stopped}
use Rattle.hw_eras.specs.declared.stop.EraFault.{EraFault}
use Rattle.hw_eras.specs.declared.stop.EraFault.TheVariants as stop

-- it is what the definitions stop with, if it isn't of the outside: a failed read, or want of memory
abbrev pub StopsSo : {T : Type 0} → EraFault → Result T LogStop → Type 0
StopsSo (stop.NoEra log) said = said ≡ Err (NoEra log.now)
StopsSo (stop.Stopped log e) said = IsOutside e ⊎ (said ≡ Err (Stopped log.now e))
StopsSo stop.OutOfMemory said = Unit {0}

-- what is answered is what the definitions say, or they stop so
abbrev pub Says : {T : Type 0} → Result T LogStop → Result T EraFault → Type 0
Says said (Ok x) = said ≡ Ok x
Says said (Err e) = StopsSo e said

-- ---- causes

-- the log is one of these
abbrev pub IsOfLogs : List (List ℕ) → EraFault → Type 0
IsOfLogs logs (stop.NoEra log) = Among log.now logs
IsOfLogs logs (stop.Stopped log e) = Among log.now logs
IsOfLogs logs stop.OutOfMemory = Unit {0}

-- no append failed, and want of memory stands in no error of a log
abbrev pub IsOfEras : EraFault → Type 0
IsOfEras (stop.NoEra log) = Unit {0}
IsOfEras (stop.Stopped log e) = IsOfReplay e
IsOfEras stop.OutOfMemory = Unit {0}

-- a failed read raises the count, and nothing else changes it
abbrev pub IsReadCounted : {T : Type 0} → ℕ → ℕ → Result T EraFault → Type 0
IsReadCounted before now (Ok x) = now ≡ before
IsReadCounted before now (Err (stop.NoEra log)) = now ≡ before
IsReadCounted before now (Err (stop.Stopped log e)) = IsFaultCounted before now e
IsReadCounted before now (Err stop.OutOfMemory) = now ≡ before

-- the read count didn't fall, and it rose where a read failed and nowhere else
pub record HasEraCause {T : Type 0} (before now : ℕ) (result : Result T EraFault) : Type 0 where
  pub later : before ≤ now
  pub counted : IsReadCounted before now result
  pub error : IfErr result IsOfEras

-- a failed read of this log is counted for it, where it is there, and nothing else changes a count
abbrev pub IsEraAbout : {T : Type 0} → (List ℕ → Option (List ℕ)) → (List ℕ → ℕ) → (List ℕ → ℕ) → Result T EraFault → Type 0
IsEraAbout held before now (Ok x) = now ≡ before
IsEraAbout held before now (Err (stop.NoEra log)) = now ≡ before
IsEraAbout held before now (Err (stop.Stopped log e)) = IsFaultAbout (subject_of (held log.now) log.now) before now e
IsEraAbout held before now (Err stop.OutOfMemory) = now ≡ before
