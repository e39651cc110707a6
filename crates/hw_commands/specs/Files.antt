-- What a run leaves of the files.
-- Source: ours.
use Rattle.std.specs.Prelude.{◌≡◌, ◌≢◌, ◌⊎◌, ℕ, List, Option, Some, None, Result, Ok, Err}
use Rattle.hw_io.specs.Files.{SameFiles}
use Rattle.hw_log.specs.declared.error.LogError.{LogError}
use Rattle.hw_log.specs.declared.rewritten.Rewritten.{Rewritten}
use Rattle.hw_log.specs.Rewritten.{mended_of, migrated_of, HasRewritten, IsCutShort}
use Rattle.hw_log.specs.Migrated.{HoldsAnew}
use Rattle.hw_commands.specs.declared.ended.Ended.{Ended}
use Rattle.hw_commands.specs.declared.ended.RunFault.{RunFault}
use Rattle.hw_commands.specs.declared.ended.RunFault.TheVariants.{Read, Append, OutOfMemory}
use Rattle.hw_commands.specs.Commands.{Word, Request, Replay, Explain, Audit, Script, Mend, Migrate, Certify, Check, Gen, Sim, Eras, EraAudit}
use Rattle.hw_commands.specs.Program.{Held}
use Rattle.hw_commands.specs.Certified.{IsCertified}

-- the status with which a run up to its text ends
abbrev pub status_of : Result Ended RunFault → ℕ
status_of (Ok ended) = ended.status
status_of (Err Read) = 4
status_of (Err Append) = 5
status_of (Err OutOfMemory) = 7

-- With status 0 the log was there, the new file wasn't, and it holds the whole log written anew. With 2 and 4 no file
-- changes. With each other status the new file is as it was. Or it wasn't there, and holds a part of the log written
-- anew, from the first byte on. Whatever the status, the other files stay.
pub record IsRewrite (rewritten_of : List ℕ → Result Rewritten LogError) (log new : Word) (status : ℕ) (before now : Held) : Type 0 where
  pub done : status ≡ 0 → (count : ℕ) × HasRewritten rewritten_of (before log) (before new) (now new) count
  pub unwritten : (status ≡ 2) ⊎ (status ≡ 4) → SameFiles before now
  pub cut : IsCutShort rewritten_of (before log) (before new) (now new)
  pub others : (name : List ℕ) → name ≢ new → now name ≡ before name

-- What a run of each command that ends with this status leaves: those that only read leave all files.
abbrev pub FilesAfter : Option Request → ℕ → Held → Held → Type 0
FilesAfter None status before now = SameFiles before now
FilesAfter (Some (Replay log)) status before now = SameFiles before now
FilesAfter (Some (Explain log)) status before now = SameFiles before now
FilesAfter (Some (Audit left right)) status before now = SameFiles before now
FilesAfter (Some (Script file)) status before now = SameFiles before now
FilesAfter (Some (Mend log new)) status before now = IsRewrite mended_of log new status before now
FilesAfter (Some (Migrate log new)) status before now = IsRewrite migrated_of log new status before now × (status ≡ 0 → HoldsAnew (before log) (now new))
FilesAfter (Some (Certify log block new)) status before now = IsCertified log block new status before now
FilesAfter (Some (Check file keys log)) status before now = SameFiles before now
FilesAfter (Some (Gen number rounds)) status before now = SameFiles before now
FilesAfter (Some (Sim number nodes steps)) status before now = SameFiles before now
FilesAfter (Some (Eras logs)) status before now = SameFiles before now
FilesAfter (Some (EraAudit left right)) status before now = SameFiles before now

-- the log is there and may be written anew, and the new file isn't there
pub record MayBeWritten (rewritten_of : List ℕ → Result Rewritten LogError) (held : Held) (log new : Word) : Type 0 where
  pub bytes : List ℕ
  pub there : held log ≡ Some bytes
  pub rewritten : Rewritten
  pub says : rewritten_of bytes ≡ Ok rewritten
  pub absent : held new ≡ None

-- what is asked for is to write a log anew for which that is allowed
abbrev pub IsAllowed : Option Request → Held → Type 0
IsAllowed None held = ⊥
IsAllowed (Some (Replay log)) held = ⊥
IsAllowed (Some (Explain log)) held = ⊥
IsAllowed (Some (Audit left right)) held = ⊥
IsAllowed (Some (Script file)) held = ⊥
IsAllowed (Some (Mend log new)) held = MayBeWritten mended_of held log new
IsAllowed (Some (Migrate log new)) held = MayBeWritten migrated_of held log new
IsAllowed (Some (Certify log block new)) held = ⊥
IsAllowed (Some (Check file keys log)) held = ⊥
IsAllowed (Some (Gen number rounds)) held = ⊥
IsAllowed (Some (Sim number nodes steps)) held = ⊥
IsAllowed (Some (Eras logs)) held = ⊥
IsAllowed (Some (EraAudit left right)) held = ⊥
