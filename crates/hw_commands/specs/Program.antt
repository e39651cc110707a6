-- How a run of the program ends and what it writes.
use Rattle.std.specs.Prelude.{ℕ, List, [], ◌∷◌, ◌++◌, length, codes, Option, Some, None, Result, Ok, Err}
use Rattle.hw_types.specs.declared.config.Config.{Config}
use Rattle.hw_types.specs.declared.config.ConfigFault.{ConfigFault}
use Rattle.hw_types.specs.declared.unit.Digest.{Digest}
use Rattle.hw_types.specs.Limits.{config_fault}
use Rattle.hw_types.specs.Real.{CoreState, setting_of}
use Rattle.hw_explain.specs.Report.{report_text}
use Rattle.hw_explain.specs.Explain.{explained_in}
use Rattle.hw_replay.specs.declared.fault.StartFault.{StartFault}
use Rattle.hw_replay.specs.declared.fault.StartFault.TheVariants as start
use Rattle.hw_replay.specs.Taken.{Taken}
use Rattle.hw_replay.specs.Replay.{replay_of}
use Rattle.hw_log.specs.declared.error.LogError.{LogError}
use Rattle.hw_text.specs.Text.{number_text}
use Rattle.hw_text.specs.Lines.{line_of}
use Rattle.hw_log.specs.declared.rewritten.Rewritten.{Rewritten}
use Rattle.hw_log.specs.Rewritten.{mended_of, migrated_of}
use Rattle.hw_cluster.specs.Worked.{gen_totals, sim_numbers}
use Rattle.hw_light.specs.declared.certificate.Certificate.{Certificate}
use Rattle.hw_light.specs.declared.error.CertError.{CertError}
use Rattle.hw_light.specs.declared.answers.Checked.{Checked}
use Rattle.hw_light.specs.declared.answers.Checked.TheVariants.{Yes, No}
use Rattle.hw_light.specs.declared.answers.CheckFault.TheVariants.{Config as BadLimit}
use Rattle.hw_light.specs.Reading.{certificate_of}
use Rattle.hw_light.specs.Asked.{told_of}
use Rattle.hw_light.specs.Texts.{error_text}
use Rattle.hw_light.specs.CheckedTexts.{verdicts_by, checked_of, checked_line}
use Rattle.hw_light.specs.Keys.{keys_of}
use Rattle.hw_commands.specs.declared.ended.Ended.{Ended}
use Rattle.hw_commands.specs.Texts.{usage_line, log_text, input_ended, read_fault_ended, stopped_ended}
use Rattle.hw_script.specs.Output.{output_of}
use Rattle.hw_eras.specs.Reports.{logs_reported}
use Rattle.hw_eras.specs.Audits.{logs_audited}
use Rattle.hw_commands.specs.Audited.{audit_ended}
use Rattle.hw_commands.specs.Scripted.{script_ended}
use Rattle.hw_commands.specs.CertificateEnds.{certify_ended, refused_ended}
use Rattle.hw_commands.specs.Workloads.{gen_line, sim_line}
use Rattle.hw_commands.specs.Eras.{eras_ended, era_audit_ended}
use Rattle.hw_commands.specs.Commands.{Word, Request, Replay, Explain, Audit, Script, Mend, Migrate, Certify, Check, Gen, Sim, Eras, EraAudit, request_of}

-- the bytes held under each name, where there is a file
abbrev pub Held : Type 0
Held = List ℕ → Option (List ℕ)

-- what a part of a run gives, or how the run ends there
abbrev pub Part : Type 0 → Type 0
Part A = Result A Ended

-- go on with what was given, or end
infixl 10 ◌>>=◌
abbrev pub ◌>>=◌ : {A B : Type 0} → Part A → (A → Part B) → Part B
(Ok x) >>= f = f x
(Err e) >>= f = Err e

-- a part that ends all the same
abbrev pub ended : Part Ended → Ended
ended (Ok e) = e
ended (Err e) = e

-- the whole text, with status 0
abbrev pub done : List ℕ → Part Ended
done text = Ok (record { status = 0; text = text })

-- ---- files

-- a file that is read; where there is none, a read fails
abbrev pub file_of : Held → Word → Part (List ℕ)
file_of held name = elim (held name) [ None ↦ Err read_fault_ended | Some bytes ↦ Ok bytes ]

-- a replay, or the line of what stopped it
abbrev pub or_stopped : Word → Result Taken StartFault → Part Taken
or_stopped name (Ok x) = Ok x
or_stopped name (Err fault) = Err (stopped_ended name fault)

-- the replay of a log, where this configuration is wanted
abbrev pub log_replayed : Held → Option Config → Word → Part Taken
log_replayed held wanted name = file_of held name >>= λ bytes. or_stopped name (replay_of wanted bytes)

-- ---- commands

-- the report on what a replay left
abbrev pub report_of : Taken → List ℕ
report_of t = report_text (setting_of t.core.config) t.core.journal t.refused t.repeats

-- the report on a log
abbrev pub replay_said : Held → Word → Part Ended
replay_said held log = log_replayed held None log >>= λ t. done (report_of t)

-- each decided block of a log with its summit
abbrev pub explain_said : Held → Word → Part Ended
explain_said held log = log_replayed held None log >>= λ t. done (explained_in t.core)

-- the audit of a log against a node of its configuration
abbrev pub audited_against : Held → CoreState → Word → Part Ended
audited_against held left right = log_replayed held (Some left.config) right >>= λ r. Ok (audit_ended (setting_of left.config) left.journal r.core.journal)

-- the audit of two logs, of which the left one is read first
abbrev pub audit_said : Held → Word → Word → Part Ended
audit_said held left right = log_replayed held None left >>= λ l. audited_against held l.core right

-- the output of a script
abbrev pub script_said : Held → Word → Part Ended
script_said held file = file_of held file >>= λ bytes. Ok (script_ended file (output_of bytes))

-- what was written anew, or the line of the log's error
abbrev pub or_unwritten : Word → Result Rewritten LogError → Part Rewritten
or_unwritten log (Ok r) = Ok r
or_unwritten log (Err e) = Err (input_ended log (log_text e))

-- a log written anew into a file that isn't there, which is tested first
abbrev pub rewrite_said : (List ℕ → Result Rewritten LogError) → List ℕ → Held → Word → Word → Part Ended
rewrite_said rewritten_of word held log new = elim (held new) [
  | None ↦ file_of held log >>= λ bytes. or_unwritten log (rewritten_of bytes) >>= λ r. done (line_of (word ∷ number_text r.count ∷ []))
  | Some there ↦ Err (input_ended new (codes "exists"))
]

-- a log without its torn end
abbrev pub mend_said : Held → Word → Word → Part Ended
mend_said = rewrite_said mended_of (codes "mended")

-- a log in version 2
abbrev pub migrate_said : Held → Word → Word → Part Ended
migrate_said = rewrite_said migrated_of (codes "migrated")

-- The line of the answer where the certificate of a block is asked of a log. It is written into a file that isn't
-- there, which is tested first.
abbrev pub certify_said : Held → Word → Digest → Word → Part Ended
certify_said held log block new = elim (held new) [
  | None ↦ log_replayed held None log >>= λ t. Ok (certify_ended (told_of t.core block))
  | Some there ↦ Err (input_ended new (codes "exists"))
]

-- a certificate, or the line of the first error in its bytes
abbrev pub or_misread : Word → Result Certificate CertError → Part Certificate
or_misread file (Ok c) = Ok c
or_misread file (Err e) = Err (input_ended file (error_text e))

-- the certificate in a file
abbrev pub certificate_said : Held → Word → Part Certificate
certificate_said held file = file_of held file >>= λ bytes. or_misread file (certificate_of bytes)

-- keys, or the line of the first place that is wrong
abbrev pub or_no_keys : Word → Result (List (List ℕ)) ℕ → Part (List (List ℕ))
or_no_keys name (Ok keys) = Ok keys
or_no_keys name (Err place) = Err (input_ended name (codes "keys at " ++ number_text place))

-- the keys in a file, one for each of so many validators
abbrev pub keys_said : Held → Word → ℕ → Part (List (List ℕ))
keys_said held name validators = file_of held name >>= λ bytes. or_no_keys name (keys_of validators bytes)

-- A replay of a log of the certificate's configuration, or the line of what stopped it. Where the configuration is
-- another one, the line names the certificate's file.
abbrev pub or_parted : Word → Word → Result Taken StartFault → Part Taken
or_parted file log (Ok t) = Ok t
or_parted file log (Err start.OtherConfig) = Err (input_ended file (codes "other config"))
or_parted file log (Err fault) = Err (stopped_ended log fault)

-- the audit of the log against the certificate's node
abbrev pub audited_with : Held → Word → Certificate → CoreState → Word → Part Ended
audited_with held file c core log =
    file_of held log >>= λ bytes. or_parted file log (replay_of (Some c.config) bytes) >>= λ t. Ok (audit_ended (setting_of c.config) t.core.journal core.journal)

-- what a yes says: the block and its height, or the audit of the log that is named
abbrev pub yes_said : Held → Word → Certificate → CoreState → Option Word → Part Ended
yes_said held file c core None = done (checked_line c.block (Yes core))
yes_said held file c core (Some log) = audited_with held file c core log

-- what an answer says
abbrev pub answer_said : Held → Word → Certificate → Option Word → Checked → Part Ended
answer_said held file c log (Yes core) = yes_said held file c core log
answer_said held file c log (No fault) = Err (refused_ended fault)

-- what is said of a certificate; no keys are read where its configuration breaks a limit
abbrev pub checked_said : Held → Word → Word → Option Word → Certificate → Option ConfigFault → Part Ended
checked_said held file keys log c None = keys_said held keys (length c.config.weights) >>= λ given. answer_said held file c log (checked_of c (verdicts_by given c.vertices))
checked_said held file keys log c (Some fault) = Err (refused_ended (BadLimit fault))

-- the check of a certificate by keys, and the audit of a log that is named, which is read only after a yes
abbrev pub check_said : Held → Word → Word → Option Word → Part Ended
check_said held file keys log = certificate_said held file >>= λ c. checked_said held file keys log c (config_fault c.config)

-- the line of a generated journal
abbrev pub gen_said : ℕ → ℕ → Part Ended
gen_said number rounds = done (gen_line rounds (gen_totals number rounds))

-- the line of a simulated run
abbrev pub sim_said : ℕ → ℕ → ℕ → Part Ended
sim_said number nodes steps = done (sim_line nodes steps (sim_numbers number nodes steps))

-- the reports on the eras of these logs
abbrev pub eras_said : Held → List Word → Part Ended
eras_said held logs = Ok (eras_ended (logs_reported held logs))

-- the audit of the eras of two nodes, which these logs leave
abbrev pub era_audit_said : Held → List Word → List Word → Part Ended
era_audit_said held left right = Ok (era_audit_ended (logs_audited held left right))

-- ---- the program

-- a request, by what the files hold; each command has its line
abbrev pub request_said : Held → Option Request → Part Ended
request_said held None = Err (record { status = 1; text = usage_line })
request_said held (Some (Replay log)) = replay_said held log
request_said held (Some (Explain log)) = explain_said held log
request_said held (Some (Audit left right)) = audit_said held left right
request_said held (Some (Script file)) = script_said held file
request_said held (Some (Mend log new)) = mend_said held log new
request_said held (Some (Migrate log new)) = migrate_said held log new
request_said held (Some (Certify log block new)) = certify_said held log block new
request_said held (Some (Check file keys log)) = check_said held file keys log
request_said held (Some (Gen number rounds)) = gen_said number rounds
request_said held (Some (Sim number nodes steps)) = sim_said number nodes steps
request_said held (Some (Eras logs)) = eras_said held logs
request_said held (Some (EraAudit left right)) = era_audit_said held left right

-- How a run ends and what it writes, by its words and what the files hold, where nothing of the outside fails and
-- memory is enough.
unfoldable pub run_of : List Word → Held → Ended
run_of words held = ended (request_said held (request_of words))
