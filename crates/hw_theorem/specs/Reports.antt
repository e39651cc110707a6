-- What `replay`, `explain` and `audit` say of logs, in words of the logs: the statements.
use Rattle.std.specs.Prelude.{◌≡◌, ℕ, ◌⊎◌, true, List, [], ◌∷◌, ◌++◌, flat_map, codes, Option, Some}
use Rattle.std.specs.List.{All}
use Rattle.std.specs.Io.KnownBytes.{Appends}
use Rattle.hw_types.specs.declared.unit.Digest.{Digest}
use Rattle.hw_types.specs.declared.config.Config.{Config}
use Rattle.hw_types.specs.declared.answers.Decision.{Decision}
use Rattle.hw_types.specs.declared.answers.Culprit.{Culprit}
use Rattle.hw_types.specs.Real.{setting_of}
use Rattle.hw_types.specs.Decisions.{AreDecisions}
use Rattle.hw_types.specs.Summit.{Committees}
use Rattle.hw_codec.specs.Ranges.{AreBytes}
use Rattle.hw_log.specs.declared.entry.LogEntry.{LogEntry}
use Rattle.hw_explain.specs.Report.{report_with}
use Rattle.hw_explain.specs.Greatest.{IsGreatestOf, explained_with}
use Rattle.hw_audit.specs.Text.{agree_line, conflict_line, culprit_line, weight_line}
use Rattle.hw_commands.specs.Commands.{Word, is_word}
use Rattle.hw_commands.specs.Run.{IsDone}
use Rattle.hw_commands.specs.Program.{Held, run_of}
use Rattle.hw_theorem.specs.Counts.{is_refused, is_again, count, answers_of}
use Rattle.hw_theorem.specs.Logs.{accepted_of, Gives, AreComparable, AreAgreeingLogs, AreConflictingLogs}

-- ---- a log

-- what a log decides: these blocks, in the order in which they were decided
pub record Decides (bytes : List ℕ) : Type 0 where
  pub config : Config
  pub entries : List LogEntry
  pub gives : Gives bytes config entries
  pub decided : List Decision
  pub decides : AreDecisions (setting_of config) (accepted_of config entries) decided

-- the report on a log: on the journal to which its entries lead, with what it decides, and with how many deliveries were refused and how
-- many came again
abbrev pub IsReport : List ℕ → List ℕ → Type 0
IsReport bytes text = (d : Decides bytes) × (text ≡ report_with (setting_of d.config) (accepted_of d.config d.entries) d.decided (count is_refused (answers_of d.config d.entries)) (count is_again (answers_of d.config d.entries)))

-- each decided block of a log with the greatest summit that it had when it was decided
abbrev pub IsExplanation : List ℕ → List ℕ → Type 0
IsExplanation bytes text = (d : Decides bytes) × (summits : Decision → Committees) × All (λ r. IsGreatestOf (setting_of d.config) (accepted_of d.config d.entries) r (summits r)) d.decided
    × (text ≡ explained_with (setting_of d.config) (accepted_of d.config d.entries) d.decided summits)

-- ---- two logs

-- two logs agree on so many blocks
abbrev pub TellsAgreement : List ℕ → List ℕ → List ℕ → Type 0
TellsAgreement left right text = (common : ℕ) × AreAgreeingLogs left right common × (text ≡ agree_line common)

-- Two logs conflict: where they part, each culprit with the two units that show it, and the weight of the culprits above the threshold.
pub record TellsConflict (left right text : List ℕ) : Type 0 where
  pub height : ℕ
  pub left_block : Digest
  pub right_block : Digest
  pub culprits : List Culprit
  pub weight : ℕ
  pub ftt : ℕ
  pub logs : AreConflictingLogs left right height left_block right_block culprits weight ftt
  pub text_is : text ≡ conflict_line height left_block right_block ++ flat_map culprit_line culprits ++ weight_line weight ftt

-- the one with status 0, or the other with status 3
abbrev pub TellsAudit : List ℕ → List ℕ → ℕ → List ℕ → Type 0
TellsAudit left right status text = (status ≡ 0) × TellsAgreement left right text ⊎ (status ≡ 3) × TellsConflict left right text

-- ---- a run

-- the words that ask for the report on a log, for its explanation, and for the audit of two
abbrev pub asks_replay : Word → List Word
asks_replay log = codes "replay" ∷ log ∷ []

abbrev pub asks_explain : Word → List Word
asks_explain log = codes "explain" ∷ log ∷ []

abbrev pub asks_audit : Word → Word → List Word
asks_audit left right = codes "audit" ∷ left ∷ right ∷ []

-- a file is there whose bytes are so
abbrev pub HasFile : Held → Word → (List ℕ → Type 0) → Type 0
HasFile held name IsSo = (bytes : List ℕ) × (held name ≡ Some bytes) × IsSo bytes

-- what is written of logs with this status, by the words; behind a report stand the lines of the consumers that were dropped
pub record SaysOfLogs (words : List Word) (held : Held) (status : ℕ) (old new : Option (List ℕ)) : Type 0 where
  pub replay : (log : Word) → words ≡ asks_replay log → (text dropped : List ℕ) × (status ≡ 0) × HasFile held log (λ bytes. IsReport bytes text) × Appends old new (text ++ dropped)
  pub explain : (log : Word) → words ≡ asks_explain log → (text : List ℕ) × (status ≡ 0) × HasFile held log (λ bytes. IsExplanation bytes text) × Appends old new text
  pub audit : (left right : Word) → words ≡ asks_audit left right → (text : List ℕ) × HasFile held left (λ l. HasFile held right (λ r. TellsAudit l r status text)) × Appends old new text

-- the bytes write a log that can be replayed
abbrev pub IsWholeLog : List ℕ → Type 0
IsWholeLog bytes = (config : Config) × (entries : List LogEntry) × Gives bytes config entries

-- the words name a log that is there and can be replayed, or two that can be compared
pub data CanBeReported (words : List Word) (held : Held) : Type 0 where
  replay : (log : Word) → words ≡ asks_replay log → is_word log ≡ true → HasFile held log IsWholeLog → CanBeReported words held
  explain : (log : Word) → words ≡ asks_explain log → is_word log ≡ true → HasFile held log IsWholeLog → CanBeReported words held
  audit : (left right : Word) → words ≡ asks_audit left right → is_word left ≡ true → is_word right ≡ true → HasFile held left (λ l. HasFile held right (AreComparable l)) → CanBeReported words held

-- ---- the laws

-- the numbers that each file holds are bytes
abbrev pub HoldBytes : Held → Type 0
HoldBytes held = (name : Word) (bytes : List ℕ) → held name ≡ Some bytes → AreBytes bytes

-- A run of `replay` that ends with status 0 says the report.
abbrev pub ReplayIsSaid : Type 0
ReplayIsSaid = (held : Held) (log : Word) → HoldBytes held → (let e = run_of (asks_replay log) held in
    IsDone e.status → (e.status ≡ 0) × HasFile held log (λ bytes. IsReport bytes e.text))

-- One of `explain` says the explanation.
abbrev pub ExplainIsSaid : Type 0
ExplainIsSaid = (held : Held) (log : Word) → HoldBytes held → (let e = run_of (asks_explain log) held in
    IsDone e.status → (e.status ≡ 0) × HasFile held log (λ bytes. IsExplanation bytes e.text))

-- One of `audit` that ends with status 0 or 3 says the agreement or the conflict.
abbrev pub AuditIsSaid : Type 0
AuditIsSaid = (held : Held) (left right : Word) → HoldBytes held → (let e = run_of (asks_audit left right) held in
    IsDone e.status → HasFile held left (λ l. HasFile held right (λ r. TellsAudit l r e.status e.text)))

-- Where a log can be replayed, or two can be compared, the status is 0 or 3.
abbrev pub LogsAreReported : Type 0
LogsAreReported = (words : List Word) (held : Held) → CanBeReported words held → IsDone (run_of words held).status
