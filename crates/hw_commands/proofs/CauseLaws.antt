-- One part of a run after another: what becomes of the count of reads that failed, and of the files.
use Rattle.std.proofs.Common.{◌≡◌, ℕ, ◌≤◌, List, Option, Result, Ok, Err, IfErr, subst, ◌∙◌}
use Rattle.hw_io.specs.Faults.{subject_of, FailsOrLacks}
use Rattle.hw_io.proofs.About.{fails-or-lacks}
use Rattle.hw_log.specs.declared.error.LogError.TheVariants as log
use Rattle.hw_replay.specs.declared.fault.StartFault.{StartFault}
use Rattle.hw_replay.specs.declared.fault.StartFault.TheVariants as start
use Rattle.hw_replay.specs.Causes.{IsFaultAbout, IsReplayAbout}
use Rattle.hw_io.specs.Files.{SameFiles}
use Rattle.hw_commands.specs.declared.ended.Ended.{Ended}
use Rattle.hw_commands.specs.declared.ended.RunFault.{RunFault}
use Rattle.hw_commands.specs.declared.ended.RunFault.TheVariants.{Read, Append, OutOfMemory}
use Rattle.hw_commands.specs.Commands.{Word}
use Rattle.hw_commands.specs.Faults.{HasReadFault}
use Rattle.hw_commands.specs.Program.{Held, Part}
use Rattle.hw_commands.specs.Due.{IsDue, FailsDue}

-- a part before it left the count
pub fault_then : (before mid now : ℕ) (r : Result Ended RunFault) → mid ≡ before → HasReadFault mid now r → HasReadFault before now r
fault_then before mid now r same fault = subst (λ (n : ℕ). HasReadFault n now r) same fault

-- no read failed
pub no_fault : (before now : ℕ) (r : Result Ended RunFault) → before ≤ now → now ≡ before → IfErr r (λ f. f ≡ OutOfMemory) → HasReadFault before now r
no_fault before now (Ok e) later same none = record { later = later; counted = same }
no_fault before now (Err OutOfMemory) later same none = record { later = later; counted = same }
no_fault before now (Err Read) later same none = absurd cc
no_fault before now (Err Append) later same none = absurd cc

-- files that stay, and stay again
pub files_then : (old mid new : List ℕ → Option (List ℕ)) → SameFiles old mid → SameFiles mid new → SameFiles old new
files_then old mid new first second = λ name. second name ∙ first name

-- ---- counts for a file

-- a failed read of the log that stopped a replay was counted for it, or it isn't there
pub read_about : (file : Option (List ℕ)) (name : List ℕ) (before now : List ℕ → ℕ) (fault : StartFault) (r : Result Ended RunFault) → IsReplayAbout {T = Unit {0}} (subject_of file name) before now (Err fault)
    → IfErr r (λ f. f ≡ Read → fault ≡ start.Log log.ReadFault) → IfErr r (λ f. f ≡ Read → FailsOrLacks file name before now)
read_about file name before now fault (Ok e) about read = tt
read_about file name before now fault (Err f) about read = λ is. fails-or-lacks file name before now (subst (IsFaultAbout (subject_of file name) before now) (read is) about)

-- and the log is due
pub stopped_about : (said : Held → Part Ended) (held : Held) (name : Word) (before now : Word → ℕ) (fault : StartFault) (r : Result Ended RunFault) → IsDue said held name → IsFaultAbout (subject_of (held name) name) before now fault
    → IfErr r (λ f. f ≡ Read → fault ≡ start.Log log.ReadFault) → IfErr r (λ f. f ≡ Read → FailsDue said held before now)
stopped_about said held name before now fault (Ok e) due about read = tt
stopped_about said held name before now fault (Err f) due about read = λ is. (name, due, fails-or-lacks (held name) name before now (subst (IsFaultAbout (subject_of (held name) name) before now) (read is) about))

-- no read failed
pub no_read : (P : Type 0) (r : Result Ended RunFault) → IfErr r (λ f. f ≡ OutOfMemory) → IfErr r (λ f. f ≡ Read → P)
no_read P (Ok e) none = tt
no_read P (Err OutOfMemory) none = λ is. absurd cc
no_read P (Err Read) none = λ is. absurd (let e = none in cc)
no_read P (Err Append) none = λ is. absurd cc
