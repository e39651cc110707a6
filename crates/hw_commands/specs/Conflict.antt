-- Two logs that report conflicting final blocks.
use Rattle.std.specs.Prelude.{◌≡◌, ℕ, ◌<◌, false, List, Some, None, Ok}
use Rattle.hw_types.specs.declared.unit.Digest.{Digest}
use Rattle.hw_types.specs.declared.answers.Culprit.{Culprit}
use Rattle.hw_types.specs.Real.{CoreState, setting_of}
use Rattle.hw_core.specs.Decided.{decided_in}
use Rattle.hw_safety.specs.declared.verdict.Verdict.TheVariants as verdict
use Rattle.hw_safety.specs.Verdicts.{journals_clash, AreInConflict}
use Rattle.hw_audit.specs.Text.{audit_text}
use Rattle.hw_replay.specs.Taken.{Taken}
use Rattle.hw_commands.specs.declared.ended.Ended.{Ended}
use Rattle.hw_commands.specs.Commands.{Word, Audit, EraAudit, request_of}
use Rattle.hw_commands.specs.Eras.{IsEraConflictOf}
use Rattle.hw_commands.specs.Program.{Held, ended, log_replayed, audited_against}

-- The log of this name is in conflict with a node. The two decided different blocks at this height and at none below
-- it. The culprits are all who equivocated, in rising order, each with two signed units. They weigh more than the
-- threshold. The text is that of this verdict.
pub record IsConflictWith (held : Held) (left : CoreState) (right : Word) (text : List ℕ) : Type 0 where
  pub second : Taken
  pub second_is : log_replayed held (Some left.config) right ≡ Ok second
  pub one_config : left.config ≡ second.core.config
  pub no_clash : journals_clash (setting_of left.config) left.journal second.core.journal ≡ false
  pub height : ℕ
  pub left_block : Digest
  pub right_block : Digest
  pub culprits : List Culprit
  pub weight : ℕ
  pub conflict : AreInConflict (setting_of left.config) left.journal second.core.journal (decided_in left) (decided_in second.core) (record { height = height; left_block = left_block; right_block = right_block; culprits = culprits; weight = weight })
  pub exceeds : left.config.ftt < weight
  pub told : text ≡ audit_text left.config.ftt (verdict.Conflict height left_block right_block culprits weight)

-- the same of two logs
pub record IsConflictOf (held : Held) (left right : Word) (text : List ℕ) : Type 0 where
  pub first : Taken
  pub first_is : log_replayed held None left ≡ Ok first
  pub conflict : IsConflictWith held first.core right text

-- the same of the two logs that the words name
pub record ReportsConflict (words : List Word) (held : Held) (text : List ℕ) : Type 0 where
  pub left : Word
  pub right : Word
  pub asked : request_of words ≡ Some (Audit left right)
  pub conflict : IsConflictOf held left right text

-- the eras of two nodes that the words name by their logs are in conflict
pub record ReportsEraConflict (words : List Word) (held : Held) (text : List ℕ) : Type 0 where
  pub left : List Word
  pub right : List Word
  pub asked : request_of words ≡ Some (EraAudit left right)
  pub conflict : IsEraConflictOf held left right text

-- a log's audit against a node ends as the definitions say; in a conflict the culprits weigh more than the threshold
pub record IsAudited (held : Held) (left : CoreState) (right : Word) (e : Ended) : Type 0 where
  pub said : e ≡ ended (audited_against held left right)
  pub conflict : e.status ≡ 3 → IsConflictWith held left right e.text
