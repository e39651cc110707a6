-- How an audit ends.
use Rattle.std.specs.Prelude.{◌≡◌, ℕ, List, length, min, Option, Some, None}
use Rattle.hw_types.specs.declared.unit.Vertex.{Vertex}
use Rattle.hw_types.specs.Spelling.{unit_bytes}
use Rattle.hw_types.specs.Journal.{Setting}
use Rattle.hw_types.specs.Real.{CoreState, setting_of}
use Rattle.hw_safety.specs.Decided.{decisions_of}
use Rattle.hw_safety.specs.declared.verdict.Verdict.{Verdict}
use Rattle.hw_safety.specs.Verdicts.{chain_of}
use Rattle.hw_audit.specs.declared.chains.Parting.{Parting}
use Rattle.hw_audit.specs.Clashes.{UnitPair}
use Rattle.hw_audit.specs.First.{first_of, ShowsFirstClash}
use Rattle.hw_audit.specs.Chains.{parting_of}
use Rattle.hw_audit.specs.Text.{status_of as verdict_status, agree_line, audit_text}
use Rattle.hw_audit.specs.Told.{conflict_text}
use Rattle.hw_audit.specs.Audit.{IsVerdictOn, IsWeighty}
use Rattle.hw_commands.specs.declared.ended.Ended.{Ended}
use Rattle.hw_commands.specs.Texts.{clash_ended}

-- ---- by the definitions

-- the chains of decided blocks part there, or nowhere
abbrev pub chains_ended : Setting → List Vertex → List Vertex → Option Parting → Ended
chains_ended s left right None = record { status = 0; text = agree_line (min (length (decisions_of s left)) (length (decisions_of s right))) }
chains_ended s left right (Some p) = record { status = 3; text = conflict_text s left right p }

-- two units clash, or it ends in this way
abbrev pub clash_or : Option UnitPair → Ended → Ended
clash_or None e = e
clash_or (Some p) e = clash_ended (unit_bytes p.left) (unit_bytes p.right)

-- What two journals say of each other. A clash comes first. Otherwise the chains of decided blocks decide.
unfoldable pub audit_ended : Setting → List Vertex → List Vertex → Ended
audit_ended s left right = clash_or (first_of s left right) (chains_ended s left right (parting_of (chain_of (decisions_of s left)) (chain_of (decisions_of s right))))

-- ---- by a verdict

-- the status of a verdict
abbrev pub status_of : Verdict → ℕ
status_of v = verdict_status v

-- a verdict, with this threshold
abbrev pub verdict_ended : ℕ → Verdict → Ended
verdict_ended ftt v = record { status = status_of v; text = audit_text ftt v }

-- the two nodes are of one configuration, and it ends by the verdict on them
pub record TellsVerdict (left right : CoreState) (e : Ended) : Type 0 where
  pub one_config : left.config ≡ right.config
  pub told : Verdict
  pub is_verdict : IsVerdictOn left right told
  pub shows_first : ShowsFirstClash (setting_of left.config) left.journal right.journal told
  pub weighty : IsWeighty left.config.ftt told
  pub ended : e ≡ verdict_ended left.config.ftt told
