-- When a run up to its text has which fault.
use Rattle.std.specs.Prelude.{◌≡◌, ℕ, ◌≤◌, ◌⊎◌, List, Option, Some, None, Result, Ok, Err}
use Rattle.hw_io.specs.Faults.{Rose, FailsOrLacks}
use Rattle.hw_commands.specs.declared.ended.Ended.{Ended}
use Rattle.hw_commands.specs.Commands.{Word, Request, Replay, Explain, Audit, Script, Mend, Migrate, Certify, Check, Gen, Sim, Eras, EraAudit}
use Rattle.hw_commands.specs.Texts.{usage_line}
use Rattle.hw_commands.specs.declared.ended.RunFault.{RunFault}
use Rattle.hw_commands.specs.declared.ended.RunFault.TheVariants.{Read, Append, OutOfMemory}

-- a failed read raises the count, and nothing else changes it; there is no failed append
abbrev pub IsReadCounted : {T : Type 0} → ℕ → ℕ → Result T RunFault → Type 0
IsReadCounted before now (Ok x) = now ≡ before
IsReadCounted before now (Err Read) = Rose before now
IsReadCounted before now (Err Append) = ⊥
IsReadCounted before now (Err OutOfMemory) = now ≡ before

-- the read count didn't fall, and it rose where a read failed and nowhere else
pub record HasReadFault {T : Type 0} (before now : ℕ) (result : Result T RunFault) : Type 0 where
  pub later : before ≤ now
  pub counted : IsReadCounted before now result

-- of a run that may append too: a failed read raises the count, and nothing else changes it
abbrev pub IsRunReadCounted : {T : Type 0} → ℕ → ℕ → Result T RunFault → Type 0
IsRunReadCounted before now (Ok x) = now ≡ before
IsRunReadCounted before now (Err Read) = Rose before now
IsRunReadCounted before now (Err Append) = now ≡ before
IsRunReadCounted before now (Err OutOfMemory) = now ≡ before

-- a failed append raises its count, and nothing else changes it
abbrev pub IsAppendCounted : {T : Type 0} → ℕ → ℕ → Result T RunFault → Type 0
IsAppendCounted before now (Ok x) = now ≡ before
IsAppendCounted before now (Err Read) = now ≡ before
IsAppendCounted before now (Err Append) = Rose before now
IsAppendCounted before now (Err OutOfMemory) = now ≡ before

-- the counts didn't fall, and each rose where the answer says so and nowhere else
pub record HasRunFault {T : Type 0} (reads_before reads appends_before appends : ℕ) (result : Result T RunFault) : Type 0 where
  pub later : reads_before ≤ reads
  pub counted : IsRunReadCounted reads_before reads result
  pub later_appends : appends_before ≤ appends
  pub appends_counted : IsAppendCounted appends_before appends result

-- a failed read is counted for this file, unless it isn't there, and where the answer has no fault no count changes
abbrev pub IsReadOf : {T : Type 0} → Option (List ℕ) → Word → (List ℕ → ℕ) → (List ℕ → ℕ) → Result T RunFault → Type 0
IsReadOf file name before now (Ok x) = now ≡ before
IsReadOf file name before now (Err Read) = FailsOrLacks file name before now
IsReadOf file name before now (Err fault) = Unit {0}

-- a command that reads logs does all, or ends by a fault of one: its bytes, a limit that it meets, or a clash
abbrev pub IsReadEnd : ℕ → Type 0
IsReadEnd status = (status ≡ 0) ⊎ (status ≡ 2) ⊎ (status ≡ 8) ⊎ (status ≡ 9)

-- an audit of two logs ends so too, or by a conflict
abbrev pub IsAuditEnd : ℕ → Type 0
IsAuditEnd status = (status ≡ 3) ⊎ IsReadEnd status

-- a certificate is made, or there is no answer for the block, or the log is read so
abbrev pub IsCertifyEnd : ℕ → Type 0
IsCertifyEnd status = (status ≡ 10) ⊎ IsReadEnd status

-- a certificate shows its block, or shows nothing, or its files are read so, or a log is audited so
abbrev pub IsCheckEnd : ℕ → Type 0
IsCheckEnd status = (status ≡ 10) ⊎ IsAuditEnd status

-- words outside the grammar end with the usage line, and commands as they do
abbrev pub IsEndOf : Option Request → Ended → Type 0
IsEndOf None ended = ended ≡ record { status = 1; text = usage_line }
IsEndOf (Some (Replay log)) ended = IsReadEnd ended.status
IsEndOf (Some (Explain log)) ended = IsReadEnd ended.status
IsEndOf (Some (Audit left right)) ended = IsAuditEnd ended.status
IsEndOf (Some (Script file)) ended = IsReadEnd ended.status
IsEndOf (Some (Mend log new)) ended = IsReadEnd ended.status
IsEndOf (Some (Migrate log new)) ended = IsReadEnd ended.status
IsEndOf (Some (Certify log block new)) ended = IsCertifyEnd ended.status
IsEndOf (Some (Check file keys log)) ended = IsCheckEnd ended.status
IsEndOf (Some (Gen number rounds)) ended = ended.status ≡ 0
IsEndOf (Some (Sim number nodes steps)) ended = ended.status ≡ 0
IsEndOf (Some (Eras logs)) ended = IsReadEnd ended.status
IsEndOf (Some (EraAudit left right)) ended = IsAuditEnd ended.status
