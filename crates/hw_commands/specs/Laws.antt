-- What follows of a run: the statements.
use Rattle.std.specs.Prelude.{◌≡◌, ◌⊎◌, ◌↔◌, ℕ, false, List, Option, Some, None, Ok}
use Rattle.hw_types.specs.declared.unit.Digest.{Digest}
use Rattle.hw_types.specs.declared.unit.Vertex.{Vertex}
use Rattle.hw_types.specs.declared.answers.Decision.{Decision}
use Rattle.hw_types.specs.Journal.{Setting}
use Rattle.hw_types.specs.Decisions.{AreDecisions}
use Rattle.hw_types.specs.Real.{CoreState, setting_of}
use Rattle.hw_safety.specs.Chain.{Begins}
use Rattle.hw_safety.specs.Decided.{decisions_of}
use Rattle.hw_safety.specs.declared.verdict.Verdict.{Verdict}
use Rattle.hw_safety.specs.Verdicts.{journals_clash, chain_of, IsVerdict}
use Rattle.hw_audit.specs.First.{ShowsFirstClash}
use Rattle.hw_replay.specs.Taken.{Taken}
use Rattle.hw_eras.specs.declared.verdict.EraVerdict.{EraVerdict}
use Rattle.hw_eras.specs.declared.audits.EraAudit.{EraAudit}
use Rattle.hw_eras.specs.Nodes.{first_config, AreNodeEras}
use Rattle.hw_eras.specs.Logs.{eras_of, nodes_of}
use Rattle.hw_eras.specs.EraAudit.{IsVerdictByEras}
use Rattle.hw_eras.specs.Audits.{TellsVerdict}
use Rattle.hw_light.specs.declared.certificate.Certificate.{Certificate}
use Rattle.hw_commands.specs.Commands.{Word, Audit, Certify, Check, request_of}
use Rattle.hw_log.specs.Migrated.{HoldsAnew}
use Rattle.hw_commands.specs.Shown.{IsShown, CanBeChecked, CanBeReplayed}
use Rattle.hw_commands.specs.Audited.{verdict_ended}
use Rattle.hw_commands.specs.Eras.{era_audit_ended}
use Rattle.hw_commands.specs.Program.{Held, done, log_replayed, replay_said, explain_said, audit_said, era_audit_said, run_of}

-- Let two logs of one configuration report conflicting final blocks: neither chain begins the other. Where no two units
-- clash, the run of their audit says so.
abbrev pub ConflictIsReported : Type 0
ConflictIsReported = (words : List Word) (held : Held) (left right : Word) (first second : Taken)
    → request_of words ≡ Some (Audit left right) → log_replayed held None left ≡ Ok first → log_replayed held (Some first.core.config) right ≡ Ok second
    → journals_clash (setting_of first.core.config) first.core.journal second.core.journal ≡ false
    → (Begins (chain_of (decisions_of (setting_of first.core.config) first.core.journal)) (chain_of (decisions_of (setting_of first.core.config) second.core.journal)) → ⊥)
    → (Begins (chain_of (decisions_of (setting_of first.core.config) second.core.journal)) (chain_of (decisions_of (setting_of first.core.config) first.core.journal)) → ⊥)
    → (run_of words held).status ≡ 3

-- An audit of two logs that can be replayed ends by the verdict on what their nodes accepted. The decided blocks are
-- any that the definition allows. A clash that is shown is the first one.
abbrev pub AuditIsTheVerdict : Type 0
AuditIsTheVerdict = (held : Held) (left right : Word) (first second : Taken) (dl dr : List Decision) (v : Verdict)
    → log_replayed held None left ≡ Ok first → log_replayed held (Some first.core.config) right ≡ Ok second
    → (let s = setting_of first.core.config in
    AreDecisions s first.core.journal dl → AreDecisions s second.core.journal dr
    → IsVerdict s first.core.journal second.core.journal dl dr v → ShowsFirstClash s first.core.journal second.core.journal v
    → audit_said held left right ≡ Ok (verdict_ended first.core.config.ftt v))

-- There is such a verdict on any two journals.
abbrev pub VerdictIsThere : Type 0
VerdictIsThere = (s : Setting) (left right : List Vertex) (dl dr : List Decision) → (v : Verdict) × IsVerdict s left right dl dr v × ShowsFirstClash s left right v

-- An audit of eras whose logs can be replayed ends by the verdict, era by era, on the nodes that they leave.
abbrev pub EraAuditIsTheVerdict : Type 0
EraAuditIsTheVerdict = (held : Held) (left right : List Word) (ls rs : List Taken) (v : EraVerdict) (told : EraAudit)
    → eras_of held None left ≡ Ok ls → eras_of held (first_config (nodes_of ls)) right ≡ Ok rs
    → IsVerdictByEras (nodes_of ls) (nodes_of rs) v → TellsVerdict (nodes_of ls) v told
    → era_audit_said held left right ≡ Ok (era_audit_ended (Ok told))

-- There is such a verdict, and its text, on the eras of any two nodes that begin with one configuration.
abbrev pub EraVerdictIsThere : Type 0
EraVerdictIsThere = (left right : List CoreState) → AreNodeEras left → AreNodeEras right → first_config left ≡ first_config right
    → (v : EraVerdict) × (told : EraAudit) × IsVerdictByEras left right v × TellsVerdict left v told

-- A log was written anew in version 2. The report on the new one is the report on the old one. What is explained of
-- each decided block is the same too.
abbrev pub ReadsTheSame : Type 0
ReadsTheSame = (before now : Held) (log new : Word) (text : List ℕ) → HoldsAnew (before log) (now new)
    → ((replay_said before log ≡ done text) ↔ (replay_said now new ≡ done text)) × ((explain_said before log ≡ done text) ↔ (explain_said now new ≡ done text))

-- A log that can be replayed is answered where it is asked for a certificate into a file that isn't there. A
-- certificate is written, or the line says that there is none.
abbrev pub LogIsAnswered : Type 0
LogIsAnswered = (words : List Word) (held : Held) (log : Word) (block : Digest) (new : Word) (t : Taken)
    → request_of words ≡ Some (Certify log block new) → held new ≡ None → log_replayed held None log ≡ Ok t
    → ((run_of words held).status ≡ 0) ⊎ ((run_of words held).status ≡ 10)

-- A certificate that can be checked is answered. It shows its block, and a log agrees with it, is in conflict with it,
-- or clashes with it. Or the line says why it shows nothing.
abbrev pub CheckIsAnswered : Type 0
CheckIsAnswered = (words : List Word) (held : Held) (file keys : Word) (log : Option Word) (c : Certificate)
    → request_of words ≡ Some (Check file keys log) → CanBeChecked held file keys c → CanBeReplayed held c log
    → IsShown (run_of words held).status ⊎ ((run_of words held).status ≡ 10)
