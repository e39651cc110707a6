-- Why no log was written anew.
use Rattle.std.specs.Prelude.{◌≡◌, ◌⊎◌, ℕ, ◌≤◌, List, Option, Some, None, IsSome, Result, Ok, Err}
use Rattle.hw_io.specs.Faults.{Rose, FailsOrLacks}
use Rattle.hw_log.specs.declared.error.LogError.{LogError}
use Rattle.hw_log.specs.declared.error.LogError.TheVariants as log
use Rattle.hw_log.specs.declared.fault.RewriteFault.{RewriteFault}
use Rattle.hw_log.specs.declared.fault.RewriteFault.TheVariants as fault
use Rattle.hw_log.specs.declared.rewritten.Rewritten.{Rewritten}

-- it says nothing of the files: a failed read, or want of memory
abbrev pub IsUnread : RewriteFault → Type 0
IsUnread (fault.Log log.ReadFault) = Unit {0}
IsUnread (fault.Log log.OutOfMemory) = Unit {0}
IsUnread e = ⊥

-- or a failed append
abbrev pub IsOutside : RewriteFault → Type 0
IsOutside (fault.Log log.WriteFault) = Unit {0}
IsOutside e = IsUnread e

-- the new file is there, or whether it is can't be told
abbrev pub IsAbsentFault : RewriteFault → Type 0
IsAbsentFault fault.Exists = Unit {0}
IsAbsentFault e = IsUnread e

-- an append failed, or there was no memory for it
abbrev pub IsPutFault : RewriteFault → Type 0
IsPutFault (fault.Log log.WriteFault) = Unit {0}
IsPutFault (fault.Log log.OutOfMemory) = Unit {0}
IsPutFault e = ⊥

-- this is why: the new file is there, or the log is and this is its error
abbrev pub IsWhy : (List ℕ → Result Rewritten LogError) → Option (List ℕ) → Option (List ℕ) → RewriteFault → Type 0
IsWhy rewritten_of file new fault.Exists = IsSome new
IsWhy rewritten_of file new (fault.Log e) = (bytes : List ℕ) × (file ≡ Some bytes) × (rewritten_of bytes ≡ Err e)

-- a failed read raises the count, and nothing else changes it
abbrev pub IsReadCounted : {T : Type 0} → ℕ → ℕ → Result T RewriteFault → Type 0
IsReadCounted before now (Ok x) = now ≡ before
IsReadCounted before now (Err (fault.Log log.ReadFault)) = Rose before now
IsReadCounted before now (Err e) = now ≡ before

-- a failed append does, and nothing else changes its count
abbrev pub IsAppendCounted : {T : Type 0} → ℕ → ℕ → Result T RewriteFault → Type 0
IsAppendCounted before now (Ok x) = now ≡ before
IsAppendCounted before now (Err (fault.Log log.WriteFault)) = Rose before now
IsAppendCounted before now (Err e) = now ≡ before

-- the counts didn't fall, and each rose where the answer says so and nowhere else
pub record HasRewriteCause {T : Type 0} (reads_before reads appends_before appends : ℕ) (result : Result T RewriteFault) : Type 0 where
  pub later_reads : reads_before ≤ reads
  pub reads_counted : IsReadCounted reads_before reads result
  pub later_appends : appends_before ≤ appends
  pub appends_counted : IsAppendCounted appends_before appends result

-- A failed read is counted for the new file, or, where that one isn't there, for the log, unless there is no log. No other fault changes a count.
abbrev pub IsFaultAbout : Option (List ℕ) → Option (List ℕ) → List ℕ → List ℕ → (List ℕ → ℕ) → (List ℕ → ℕ) → RewriteFault → Type 0
IsFaultAbout file target old new before now (fault.Log log.ReadFault) = ((target ≡ None) × FailsOrLacks file old before now) ⊎ Rose (before new) (now new)
IsFaultAbout file target old new before now e = now ≡ before

-- nor does an answer without one
abbrev pub IsReadAbout : {T : Type 0} → Option (List ℕ) → Option (List ℕ) → List ℕ → List ℕ → (List ℕ → ℕ) → (List ℕ → ℕ) → Result T RewriteFault → Type 0
IsReadAbout file target old new before now (Ok x) = now ≡ before
IsReadAbout file target old new before now (Err e) = IsFaultAbout file target old new before now e
