-- How a run over the logs of eras ends.
-- Source: ours, over Highway's instances one after another.
use Rattle.std.specs.Prelude.{◌≡◌, ℕ, ◌<◌, ◌++◌, false, List, slice_get, codes, None, Some, Result, Ok, Err}
use Rattle.hw_types.specs.declared.unit.Digest.{Digest}
use Rattle.hw_types.specs.declared.answers.Culprit.{Culprit}
use Rattle.hw_types.specs.Real.{CoreState, setting_of}
use Rattle.hw_core.specs.Decided.{decided_in}
use Rattle.hw_safety.specs.declared.verdict.Verdict.TheVariants as verdict
use Rattle.hw_safety.specs.Verdicts.{journals_clash, AreInConflict}
use Rattle.hw_audit.specs.Text.{audit_text}
use Rattle.hw_replay.specs.Taken.{Taken}
use Rattle.hw_replay.specs.Replay.{IsOutside}
use Rattle.hw_eras.specs.Nodes.{first_config}
use Rattle.hw_eras.specs.EraAudit.{AreAgreed}
use Rattle.hw_eras.specs.declared.audits.EraAudit.{EraAudit}
use Rattle.hw_eras.specs.declared.stop.EraFault.{EraFault}
use Rattle.hw_eras.specs.declared.stop.EraFault.TheVariants as stop
use Rattle.hw_eras.specs.Logs.{Held, LogStop, NoEra, Stopped, eras_of, nodes_of}
use Rattle.hw_eras.specs.Reports.{era_line}
use Rattle.hw_commands.specs.declared.ended.Ended.{Ended}
use Rattle.hw_commands.specs.Texts.{input_ended, stopped_ended}

-- the era of a log isn't there, or its replay stopped
abbrev pub logs_stopped : LogStop → Ended
logs_stopped (NoEra log) = input_ended log (codes "no era")
logs_stopped (Stopped log fault) = stopped_ended log fault

-- the reports on eras, or what stopped their logs
abbrev pub eras_ended : Result (List ℕ) LogStop → Ended
eras_ended (Ok text) = record { status = 0; text = text }
eras_ended (Err s) = logs_stopped s

-- the audit of the eras of two nodes, or what stopped their logs
abbrev pub era_audit_ended : Result EraAudit LogStop → Ended
era_audit_ended (Ok e) = record { status = e.status; text = e.text }
era_audit_ended (Err s) = logs_stopped s

-- the same, by what a run over logs answers; out of memory and a failed read end it in another way
abbrev pub EndsBy : EraFault → Ended → Type 0
EndsBy (stop.NoEra log) e = e ≡ logs_stopped (NoEra log.now)
EndsBy (stop.Stopped log fault) e = (e ≡ logs_stopped (Stopped log.now fault)) × (IsOutside fault → ⊥)
EndsBy stop.OutOfMemory e = ⊥

-- The eras of two nodes, which these logs leave, are in conflict. They agree before this era. In it the two are of one
-- configuration, and decided different blocks at this height and at none below it. The culprits are all who equivocated
-- in it, in rising order, each with two signed units. They weigh more than the threshold of this era. The text is that
-- of this verdict, after the line of the era.
pub record IsEraConflictOf (held : Held) (left right : List (List ℕ)) (text : List ℕ) : Type 0 where
  pub lefts : List Taken
  pub lefts_are : eras_of held None left ≡ Ok lefts
  pub rights : List Taken
  pub rights_are : eras_of held (first_config (nodes_of lefts)) right ≡ Ok rights
  pub era : ℕ
  pub common : ℕ
  pub agreed : AreAgreed (nodes_of lefts) (nodes_of rights) era common
  pub first : CoreState
  pub first_is : slice_get (nodes_of lefts) era ≡ Some first
  pub second : CoreState
  pub second_is : slice_get (nodes_of rights) era ≡ Some second
  pub one_config : first.config ≡ second.config
  pub no_clash : journals_clash (setting_of first.config) first.journal second.journal ≡ false
  pub height : ℕ
  pub left_block : Digest
  pub right_block : Digest
  pub culprits : List Culprit
  pub weight : ℕ
  pub conflict : AreInConflict (setting_of first.config) first.journal second.journal (decided_in first) (decided_in second) (record { height = height; left_block = left_block; right_block = right_block; culprits = culprits; weight = weight })
  pub exceeds : first.config.ftt < weight
  pub told : text ≡ era_line era ++ audit_text first.config.ftt (verdict.Conflict height left_block right_block culprits weight)
