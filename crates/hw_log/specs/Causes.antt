-- When the calls answer which error.
use Rattle.std.specs.Prelude.{◌≡◌, ◌≢◌, ℕ, ◌≤◌, ◌⊎◌, List, IsTrue, Option, Some, Result, Ok, Err, IfErr}
use Rattle.hw_io.specs.declared.outside.IoFault.{IoFault}
use Rattle.hw_io.specs.declared.outside.IoFault.TheVariants as io
use Rattle.hw_io.specs.declared.outside.Files.{Ghosts as Files}
use Rattle.hw_io.specs.Faults.{Rose, FailsAbout}
use Rattle.hw_io.specs.Files.{Appended}
use Rattle.hw_types.specs.declared.answers.CodecError.TheVariants as codec
use Rattle.hw_log.specs.declared.error.LogError.{LogError}
use Rattle.hw_log.specs.declared.error.LogError.TheVariants.{BadConfig, BadVertex, ReadFault, WriteFault, OutOfMemory}

-- the error that a failed read is
abbrev pub error_of_read : IoFault → LogError
error_of_read io.Failed = ReadFault
error_of_read io.OutOfMemory = OutOfMemory

-- the error that a failed append is
abbrev pub error_of_append : IoFault → LogError
error_of_append io.Failed = WriteFault
error_of_append io.OutOfMemory = OutOfMemory

-- it says nothing of the log's bytes: a failed read, or want of memory
abbrev pub IsOutside : LogError → Type 0
IsOutside ReadFault = Unit {0}
IsOutside OutOfMemory = Unit {0}
IsOutside e = ⊥

-- the error is that of the log's bytes, if it isn't one of the outside
abbrev pub Fails : {T : Type 0} → LogError → Result T LogError → Type 0
Fails e said = IsOutside e ⊎ (said ≡ Err e)

-- What a call answers, seen by view, is what the log says.
abbrev pub Gives : {X Y : Type 0} → (X → Y) → Result X LogError → Result Y LogError → Type 0
Gives view (Ok x) said = said ≡ Ok (view x)
Gives view (Err e) said = Fails e said

-- a failed read raises the count, and nothing else changes it
abbrev pub IsReadCounted : {T : Type 0} → ℕ → ℕ → Result T LogError → Type 0
IsReadCounted before now (Ok x) = now ≡ before
IsReadCounted before now (Err ReadFault) = Rose before now
IsReadCounted before now (Err e) = now ≡ before

-- no append failed, and no error of content holds want of memory
abbrev pub IsOfReading : LogError → Type 0
IsOfReading WriteFault = ⊥
IsOfReading (BadConfig codec.OutOfMemory) = ⊥
IsOfReading (BadVertex at codec.OutOfMemory) = ⊥
IsOfReading e = Unit {0}

-- it is one of content, or want of memory
abbrev pub IsOfBytes : LogError → Type 0
IsOfBytes ReadFault = ⊥
IsOfBytes e = IsOfReading e

-- the read count didn't fall, and it rose where the answer is `ReadFault` and nowhere else
pub record HasReadCause {T : Type 0} (before now : ℕ) (result : Result T LogError) : Type 0 where
  pub later : before ≤ now
  pub failed : IsReadCounted before now result
  pub error : IfErr result IsOfReading

-- a failed read of this file is counted for it, and without one no count changes
abbrev pub IsReadAbout : {T : Type 0} → Option (List ℕ) → (List ℕ → ℕ) → (List ℕ → ℕ) → Result T LogError → Type 0
IsReadAbout name before now (Ok x) = now ≡ before
IsReadAbout name before now (Err ReadFault) = FailsAbout name before now
IsReadAbout name before now (Err e) = now ≡ before

-- a failed append raises the count and nothing else changes it, and there is no other error but want of memory
abbrev pub IsAppendCounted : {T : Type 0} → Result T LogError → ℕ → ℕ → Type 0
IsAppendCounted (Ok x) before now = now ≡ before
IsAppendCounted (Err WriteFault) before now = Rose before now
IsAppendCounted (Err OutOfMemory) before now = now ≡ before
IsAppendCounted (Err e) before now = ⊥

-- the append count didn't fall, and it rose where the answer is `WriteFault` and nowhere else
pub record HasAppendCause {T : Type 0} (before now : ℕ) (result : Result T LogError) : Type 0 where
  pub later : before ≤ now
  pub failed : IsAppendCounted result before now

-- A call that appends to this log and nothing else: the log's file holds the bytes behind what it held, a failed append is
-- counted, and what is read of another file stays.
pub record AppendsLog {F T : Type 0} (tells : Files F) (old new : F) (name bytes : List ℕ) (result : Result T LogError) : Type 0 where
  pub bytes_are : IsTrue tells.tells → Appended (tells.held old) (tells.held new) name bytes result
  pub cause : HasAppendCause (tells.append_faults old) (tells.append_faults new) result
  pub begun : tells.begun new ≡ tells.begun old
  pub unread : IsTrue tells.tells → tells.begun old ≢ Some name → tells.unread new ≡ tells.unread old
  pub allowance : tells.allowance new ≡ tells.allowance old
  pub reads : tells.read_faults new ≡ tells.read_faults old
  pub about : tells.faults_about new ≡ tells.faults_about old
