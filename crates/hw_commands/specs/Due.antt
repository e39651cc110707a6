-- Which file a read that failed was about.
-- Source: ours.
use Rattle.std.specs.Prelude.{◌≡◌, ◌≢◌, ◌⊎◌, ℕ, List, [], bytes_eq, Option, Some, None, if◌then◌else◌}
use Rattle.hw_io.specs.Faults.{Rose, FailsOrLacks}
use Rattle.hw_commands.specs.declared.ended.Ended.{Ended}
use Rattle.hw_commands.specs.Commands.{Word, Request, Mend, Migrate, Certify}
use Rattle.hw_commands.specs.Program.{Held, Part, ended, mend_said, migrate_said, certify_said, request_said}

-- the files, with this one under the name, or none there
abbrev pub with_file : Held → Word → Option (List ℕ) → Held
with_file held name file = λ other. if bytes_eq other name then file else held other

-- A file is due where a run reads it. Were it missing, the run would end with a read fault. Were the
-- file empty, the run would not.
pub record IsDue (said : Held → Part Ended) (held : Held) (name : Word) : Type 0 where
  pub missing : (ended (said (with_file held name None))).status ≡ 4
  pub empty : (ended (said (with_file held name (Some [])))).status ≢ 4

-- a call about a file that is due failed, and was counted for it, or such a file isn't there
abbrev pub FailsDue : (Held → Part Ended) → Held → (List ℕ → ℕ) → (List ℕ → ℕ) → Type 0
FailsDue said held before now = (name : Word) × IsDue said held name × FailsOrLacks (held name) name before now

-- The call that failed was about a file that is due, or tested whether the file that is to be new is there. Or a file
-- that is due isn't there.
abbrev pub FailsOf : Held → Option Request → (List ℕ → ℕ) → (List ℕ → ℕ) → Type 0
FailsOf held (Some (Mend log new)) before now = Rose (before new) (now new) ⊎ FailsDue (λ h. mend_said h log new) held before now
FailsOf held (Some (Migrate log new)) before now = Rose (before new) (now new) ⊎ FailsDue (λ h. migrate_said h log new) held before now
FailsOf held (Some (Certify log block new)) before now = Rose (before new) (now new) ⊎ FailsDue (λ h. certify_said h log block new) held before now
FailsOf held request before now = FailsDue (λ h. request_said h request) held before now
