-- Which counts of the outside rise in a run, by its answer.
use Rattle.std.specs.Prelude.{◌≡◌, ℕ, zero, suc, Bool, true, false, List, Option, Result, Err}
use Rattle.hw_io.specs.Faults.{Rose, FailsAbout, raised}
use Rattle.hw_service.specs.declared.fault.ServiceFault.{ServiceFault}
use Rattle.hw_service.specs.declared.fault.ServiceFault.TheVariants as fault

-- a failed read raises the read count, and nothing else changes it
abbrev pub IsReadCounted : {T : Type 0} → ℕ → ℕ → Result T ServiceFault → Type 0
IsReadCounted before now (Err fault.Read) = Rose before now
IsReadCounted before now _ = now ≡ before

-- a failed append raises the append count, and nothing else changes it
abbrev pub IsAppendCounted : {T : Type 0} → ℕ → ℕ → Result T ServiceFault → Type 0
IsAppendCounted before now (Err fault.Append) = Rose before now
IsAppendCounted before now _ = now ≡ before

-- a failed write raises the count of the output, and nothing else changes it
abbrev pub IsWriteCounted : {T : Type 0} → ℕ → ℕ → Result T ServiceFault → Type 0
IsWriteCounted before now (Err fault.Write) = Rose before now
IsWriteCounted before now _ = now ≡ before

-- a failed read of this file is counted for it, and nothing else is counted for a file
abbrev pub IsReadAbout : {T : Type 0} → Option (List ℕ) → (List ℕ → ℕ) → (List ℕ → ℕ) → Result T ServiceFault → Type 0
IsReadAbout name before now (Err fault.Read) = FailsAbout name before now
IsReadAbout name before now _ = now ≡ before

-- the count of the door rose exactly when a call of it failed in a session
abbrev pub IsDoorCounted : Bool → ℕ → ℕ → Type 0
IsDoorCounted true before now = Rose before now
IsDoorCounted false before now = now ≡ before

-- raised this number of times
unfoldable pub raised_by : ℕ → ℕ → ℕ
raised_by zero count = count
raised_by (suc more) count = raised (raised_by more count)
