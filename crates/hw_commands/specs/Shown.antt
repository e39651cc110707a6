-- What the check of a certificate shows.
-- Source: Highway; the files are ours.
use Rattle.std.specs.Prelude.{◌≡◌, ◌⊎◌, ℕ, ◌<◌, false, List, length, Option, Some, None, Ok, IsTrue}
use Rattle.std.specs.List.{All}
use Rattle.hw_types.specs.declared.unit.Digest.{Digest}
use Rattle.hw_types.specs.declared.answers.Culprit.{Culprit}
use Rattle.hw_types.specs.Real.{CoreState, setting_of}
use Rattle.hw_core.specs.Decided.{decided_in}
use Rattle.hw_keys.specs.Signed.{verdict_of}
use Rattle.hw_safety.specs.declared.verdict.Verdict.TheVariants as verdict
use Rattle.hw_safety.specs.Verdicts.{journals_clash, AreInConflict}
use Rattle.hw_audit.specs.Text.{audit_text}
use Rattle.hw_replay.specs.Taken.{Taken}
use Rattle.hw_replay.specs.Replay.{replay_of}
use Rattle.hw_light.specs.declared.certificate.Certificate.{Certificate}
use Rattle.hw_light.specs.Reading.{certificate_of}
use Rattle.hw_light.specs.Checked.{IsCertified}
use Rattle.hw_light.specs.Keys.{keys_of}
use Rattle.hw_commands.specs.Commands.{Word, Request, Check, request_of}
use Rattle.hw_commands.specs.Program.{Held}

-- a check that had a yes ends so: all was done, or a log is in conflict with the certificate, or a clash
abbrev pub IsShown : ℕ → Type 0
IsShown status = (status ≡ 0) ⊎ (status ≡ 3) ⊎ (status ≡ 9)

-- The one file holds this certificate, and the other file holds keys. By these the signatures of each vertex are right.
-- This is the node of its vertices. They alone make its block final, while the faulty weigh no more than the threshold.
pub record IsShownBy (held : Held) (file keys : Word) (certificate : Certificate) (core : CoreState) : Type 0 where
  pub bytes : List ℕ
  pub there : held file ≡ Some bytes
  pub reads : certificate_of bytes ≡ Ok certificate
  pub text : List ℕ
  pub keys_there : held keys ≡ Some text
  pub given : List (List ℕ)
  pub keys_are : keys_of (length certificate.config.weights) text ≡ Ok given
  pub certified : IsCertified certificate core
  pub signed : All (λ v. IsTrue (verdict_of given v)) certificate.vertices

-- there is such a certificate
pub record ShowsCertificate (held : Held) (file keys : Word) : Type 0 where
  pub certificate : Certificate
  pub core : CoreState
  pub shown : IsShownBy held file keys certificate core

-- the node that the log leaves, if one is named and it leaves one, is of the certificate's configuration
abbrev pub IsAlike : Held → Certificate → Option Word → Type 0
IsAlike held c None = Unit {0}
IsAlike held c (Some log) = (bytes : List ℕ) (t : Taken) → held log ≡ Some bytes → replay_of (Some c.config) bytes ≡ Ok t → t.core.config ≡ c.config

-- the same of the certificate in the file, if there is one
abbrev pub IsAlikeIn : Held → Word → Option Word → Type 0
IsAlikeIn held file log = (bytes : List ℕ) (c : Certificate) → held file ≡ Some bytes → certificate_of bytes ≡ Ok c → IsAlike held c log

-- where a certificate is checked
abbrev pub IfChecks : (Word → Word → Type 0) → Option Request → Type 0
IfChecks P (Some (Check file keys log)) = P file keys
IfChecks P request = Unit {0}

-- The words ask for a check against a log. The log's node and the certificate's, of one configuration, are in conflict.
-- The two decided different blocks at this height and at none below it. The culprits are all who equivocated, in rising
-- order, each with two signed units. They weigh more than the threshold. The text is that of this verdict.
pub record ContradictsCertificate (words : List Word) (held : Held) (text : List ℕ) : Type 0 where
  pub file : Word
  pub keys : Word
  pub log : Word
  pub asked : request_of words ≡ Some (Check file keys (Some log))
  pub certificate : Certificate
  pub core : CoreState
  pub shown : IsShownBy held file keys certificate core
  pub bytes : List ℕ
  pub there : held log ≡ Some bytes
  pub first : Taken
  pub first_is : replay_of (Some certificate.config) bytes ≡ Ok first
  pub one_config : first.core.config ≡ core.config
  pub no_clash : journals_clash (setting_of core.config) first.core.journal core.journal ≡ false
  pub height : ℕ
  pub left_block : Digest
  pub right_block : Digest
  pub culprits : List Culprit
  pub weight : ℕ
  pub conflict : AreInConflict (setting_of core.config) first.core.journal core.journal (decided_in first.core) (decided_in core) (record { height = height; left_block = left_block; right_block = right_block; culprits = culprits; weight = weight })
  pub exceeds : core.config.ftt < weight
  pub told : text ≡ audit_text core.config.ftt (verdict.Conflict height left_block right_block culprits weight)

-- ---- what can be answered

-- the one file holds a certificate, and the other keys for its validators
pub record CanBeChecked (held : Held) (file keys : Word) (certificate : Certificate) : Type 0 where
  pub bytes : List ℕ
  pub there : held file ≡ Some bytes
  pub reads : certificate_of bytes ≡ Ok certificate
  pub text : List ℕ
  pub keys_there : held keys ≡ Some text
  pub given : List (List ℕ)
  pub keys_are : keys_of (length certificate.config.weights) text ≡ Ok given

-- the log, if one is named, is there, of the certificate's configuration, and its replay meets no limit and no clash
abbrev pub CanBeReplayed : Held → Certificate → Option Word → Type 0
CanBeReplayed held c None = Unit {0}
CanBeReplayed held c (Some log) = (bytes : List ℕ) × (t : Taken) × (held log ≡ Some bytes) × (replay_of (Some c.config) bytes ≡ Ok t)
