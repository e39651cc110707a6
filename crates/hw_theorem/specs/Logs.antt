-- Logs, and what two of them say of each other: the statements.
use Rattle.std.specs.Prelude.{◌≡◌, ℕ, ◌<◌, false, List, map, sum_by, slice_index}
use Rattle.std.specs.List.{list_any}
use Rattle.hw_types.specs.declared.unit.Digest.{Digest}
use Rattle.hw_types.specs.declared.unit.Vertex.{Vertex}
use Rattle.hw_types.specs.declared.config.Config.{Config}
use Rattle.hw_types.specs.declared.answers.Decision.{Decision}
use Rattle.hw_types.specs.declared.answers.Culprit.{Culprit}
use Rattle.hw_types.specs.Journal.{journal_of}
use Rattle.hw_types.specs.Real.{setting_of}
use Rattle.hw_types.specs.Decisions.{AreDecisions}
use Rattle.hw_safety.specs.Verdicts.{journals_clash, AreInAgreement, DifferAt}
use Rattle.hw_log.specs.declared.entry.LogEntry.{LogEntry}
use Rattle.hw_log.specs.Grammar.{Writes}
use Rattle.hw_replay.specs.Laws.{deliveries_of}
use Rattle.hw_theorem.specs.Counts.{is_stop, answers_of}
use Rattle.hw_theorem.specs.Equivocators.{AreEquivocators}

-- the journal to which the entries of a log lead, delivered in order
abbrev pub accepted_of : Config → List LogEntry → List Vertex
accepted_of config entries = journal_of (setting_of config) (deliveries_of entries)

-- the bytes write a log with this configuration and these entries, and no entry meets a limit or clashes
pub record Gives (bytes : List ℕ) (config : Config) (entries : List LogEntry) : Type 0 where
  pub version : ℕ
  pub writes : Writes bytes version config entries
  pub goes_on : list_any is_stop (answers_of config entries) ≡ false

-- two logs of one configuration, whose journals have no two different units of one digest, and what they decide
pub record AreComparable (left right : List ℕ) : Type 0 where
  pub config : Config
  pub left_entries : List LogEntry
  pub right_entries : List LogEntry
  pub left_gives : Gives left config left_entries
  pub right_gives : Gives right config right_entries
  pub no_clash : journals_clash (setting_of config) (accepted_of config left_entries) (accepted_of config right_entries) ≡ false
  pub left_decided : List Decision
  pub right_decided : List Decision
  pub left_decides : AreDecisions (setting_of config) (accepted_of config left_entries) left_decided
  pub right_decides : AreDecisions (setting_of config) (accepted_of config right_entries) right_decided

-- one of the two decided chains begins the other, and the shorter one has so many blocks
pub record AreAgreeingLogs (left right : List ℕ) (common : ℕ) : Type 0 where
  pub logs : AreComparable left right
  pub agree : AreInAgreement logs.left_decided logs.right_decided common

-- The decided chains are the same below the height, and have these two different blocks there. The culprits are exactly the validators
-- that equivocated. They have this weight, which is above the threshold.
pub record AreConflictingLogs (left right : List ℕ) (height : ℕ) (left_block right_block : Digest) (culprits : List Culprit) (weight ftt : ℕ) : Type 0 where
  pub logs : AreComparable left right
  pub part : DifferAt logs.left_decided logs.right_decided height left_block right_block
  pub culprits_are : AreEquivocators (setting_of logs.config) (accepted_of logs.config logs.left_entries) (accepted_of logs.config logs.right_entries) culprits
  pub weight_is : weight ≡ sum_by (λ v. slice_index logs.config.weights v) (map (λ (c : Culprit). c.validator) culprits)
  pub threshold_is : ftt ≡ logs.config.ftt
  pub exceeds : ftt < weight
