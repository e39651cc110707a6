-- The audit of two nodes' eras, as a text.
use Rattle.std.specs.Prelude.{◌≡◌, ◌⊎◌, ℕ, ◌+◌, List, [], ◌∷◌, ◌++◌, length, min, slice_get, Option, Some, None, Result, Ok, Err}
use Rattle.std.specs.Option.{option_map}
use Rattle.hw_types.specs.declared.unit.Vertex.{Vertex}
use Rattle.hw_types.specs.Spelling.{unit_bytes}
use Rattle.hw_types.specs.Journal.{Setting}
use Rattle.hw_types.specs.Real.{CoreState, setting_of}
use Rattle.hw_safety.specs.Decided.{decisions_of}
use Rattle.hw_safety.specs.declared.verdict.Verdict.{Verdict}
use Rattle.hw_safety.specs.Verdicts.{chain_of}
use Rattle.hw_audit.specs.declared.chains.Parting.{Parting}
use Rattle.hw_audit.specs.Clashes.{UnitPair}
use Rattle.hw_audit.specs.First.{first_of}
use Rattle.hw_audit.specs.Chains.{parting_of}
use Rattle.hw_audit.specs.Text.{status_of as verdict_status, agree_line, clash_lines, audit_text}
use Rattle.hw_audit.specs.Told.{conflict_text}
use Rattle.hw_eras.specs.declared.verdict.EraVerdict.{EraVerdict}
use Rattle.hw_eras.specs.declared.verdict.EraVerdict.TheVariants as eras
use Rattle.hw_eras.specs.Nodes.{first_config, AreNodeEras}
use Rattle.hw_eras.specs.EraAudit.{IsVerdictOnEras, IsVerdictByEras, IsAccounted}
use Rattle.hw_replay.specs.Taken.{Taken}
use Rattle.hw_eras.specs.Logs.{Held, LogStop, ◌>>=◌, eras_of, nodes_of}
use Rattle.hw_eras.specs.Reports.{era_line}
use Rattle.hw_eras.specs.declared.audits.EraAudit.{EraAudit}

-- ---- by the definitions

-- so many blocks of the eras that both nodes have are agreed on
abbrev pub agreed : ℕ → EraAudit
agreed common = record { status = 0; text = agree_line common }

-- in how many blocks the chains of two journals agree, or where they part
abbrev pub chains_said : Setting → List Vertex → List Vertex → Option Parting → Result ℕ EraAudit
chains_said s left right None = Ok (min (length (decisions_of s left)) (length (decisions_of s right)))
chains_said s left right (Some p) = Err (record { status = 3; text = conflict_text s left right p })

-- two units clash, or the chains decide
abbrev pub clash_or : Option UnitPair → Result ℕ EraAudit → Result ℕ EraAudit
clash_or None said = said
clash_or (Some p) said = Err (record { status = 9; text = clash_lines (unit_bytes p.left) (unit_bytes p.right) })

-- In how many blocks two journals agree, or what is told where they don't: a clash comes before all else.
unfoldable pub era_said : Setting → List Vertex → List Vertex → Result ℕ EraAudit
era_said s left right = clash_or (first_of s left right) (chains_said s left right (parting_of (chain_of (decisions_of s left)) (chain_of (decisions_of s right))))

-- what is told of an era, behind the line that names it
abbrev pub in_era : ℕ → EraAudit → EraAudit
in_era era e = record { status = e.status; text = era_line era ++ e.text }

-- the same of an era, and where it agrees, what follows
abbrev pub told_or : ℕ → Result ℕ EraAudit → (ℕ → EraAudit) → EraAudit
told_or era (Err told) follows = in_era era told
told_or era (Ok here) follows = follows here

-- The first era that both nodes have and in which they don't agree is told; where there is none, in how many blocks of all of them together they
-- agree. These are the eras from this number on, where so many blocks of those before are agreed on.
unfoldable pub eras_audited : ℕ → ℕ → List CoreState → List CoreState → EraAudit
eras_audited era common [] rs = agreed common
eras_audited era common (l ∷ ls) [] = agreed common
eras_audited era common (l ∷ ls) (r ∷ rs) = told_or era (era_said (setting_of l.config) l.journal r.journal) (λ here. eras_audited (era + 1) (common + here) ls rs)

-- the same of nodes of which these logs leave the right one, whose first log is of the left one's first configuration
abbrev pub audited_against : Held → List Taken → List (List ℕ) → Result EraAudit LogStop
audited_against held ls right = eras_of held (first_config (nodes_of ls)) right >>= λ rs. Ok (eras_audited 0 0 (nodes_of ls) (nodes_of rs))

-- What the eras of these logs say of each other. The left logs are all read first.
abbrev pub logs_audited : Held → List (List ℕ) → List (List ℕ) → Result EraAudit LogStop
logs_audited held left right = eras_of held None left >>= λ ls. audited_against held ls right

-- ---- by the verdict

-- the status of the verdict on one era
abbrev pub status_of : Verdict → ℕ
status_of v = verdict_status v

-- the threshold of an era
abbrev pub threshold_in : List CoreState → ℕ → Option ℕ
threshold_in cores era = option_map (λ (c : CoreState). c.config.ftt) (slice_get cores era)

-- it tells this verdict on the eras, of which these are the left ones
abbrev pub TellsVerdict : List CoreState → EraVerdict → EraAudit → Type 0
TellsVerdict left (eras.Agree common) e = e ≡ agreed common
TellsVerdict left (eras.At era v) e = (ftt : ℕ) × (threshold_in left era ≡ Some ftt) × (e ≡ in_era era (record { status = status_of v; text = audit_text ftt v }))

-- It tells the verdict on the eras of two nodes: where they agree, the one chain over all eras begins the other, and where they are in conflict, the
-- culprits weigh more than the threshold of that era.
pub record IsAudit (left right : List CoreState) (e : EraAudit) : Type 0 where
  pub left_eras : AreNodeEras left
  pub right_eras : AreNodeEras right
  pub said : EraVerdict
  pub is_verdict : IsVerdictOnEras left right said
  pub by_eras : IsVerdictByEras left right said
  pub accounted : IsAccounted left right said
  pub told : TellsVerdict left said e

-- the same, where this is the left node, and logs leave the right one
pub record IsAuditAgainst (held : Held) (left : Result (List Taken) LogStop) (right : List (List ℕ)) (e : EraAudit) : Type 0 where
  pub lefts : List Taken
  pub left_is : left ≡ Ok lefts
  pub rights : List Taken
  pub right_is : eras_of held (first_config (nodes_of lefts)) right ≡ Ok rights
  pub audit : IsAudit (nodes_of lefts) (nodes_of rights) e

-- the same of the nodes that these logs leave
abbrev pub IsAuditOfLogs : Held → List (List ℕ) → List (List ℕ) → EraAudit → Type 0
IsAuditOfLogs held left right e = IsAuditAgainst held (eras_of held None left) right e

-- the eras agree, or are in conflict, or two units clash
abbrev pub IsAuditEnd : ℕ → Type 0
IsAuditEnd status = (status ≡ 0) ⊎ (status ≡ 3) ⊎ (status ≡ 9)
