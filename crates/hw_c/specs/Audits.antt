-- What an audit answers.
-- Source: ours.
use Rattle.std.specs.Prelude.{◌≡◌, ◌≢◌, ℕ, length, Result, Ok, Err}
use Rattle.hw_types.specs.Real.{CoreState, setting_of}
use Rattle.hw_safety.specs.declared.verdict.Verdict.{Verdict}
use Rattle.hw_safety.specs.declared.verdict.Verdict.TheVariants as verdict
use Rattle.hw_audit.specs.Audit.{IsVerdictOn, IsWeighty}
use Rattle.hw_audit.specs.First.{ShowsFirstClash}
use Rattle.hw_audit.specs.Text.{audit_text}
use Rattle.hw_c.specs.declared.codes.Fault.{Fault}
use Rattle.hw_c.specs.declared.codes.Fault.TheVariants as fault
use Rattle.hw_c.specs.declared.audits.Audited.{Audited}
use Rattle.hw_c.specs.declared.put.WithBytes.{WithBytes}
use Rattle.hw_c.specs.Calls.{IsWant}
use Rattle.hw_c.specs.Told.{zeros}

-- Kind 0: they agree on this number of blocks. Kind 1: they decided two blocks at this height, and the culprits have
-- this weight. Kind 2: two units clash.
abbrev pub audited_of : Verdict → ℕ → Audited
audited_of (verdict.Agree common) count = record { kind = 0; length = count; height = common; culprits = 0; weight = 0; left = zeros; right = zeros }
audited_of (verdict.Conflict height left right culprits weight) count = record { kind = 1; length = count; height = height; culprits = length culprits; weight = weight; left = left.0; right = right.0 }
audited_of (verdict.Clash left right) count = record { kind = 2; length = count; height = 0; culprits = 0; weight = 0; left = zeros; right = zeros }

-- The verdict on two nodes of one configuration, field by field and as text. The fault `OtherInstance` says that the
-- configurations differ.
abbrev pub IsAudit : CoreState → CoreState → Result (WithBytes Audited) Fault → Type 0
IsAudit left right (Ok a) =
    (v : Verdict) × IsVerdictOn left right v × IsWeighty left.config.ftt v × ShowsFirstClash (setting_of left.config) left.journal right.journal v
    × (a.bytes ≡ audit_text left.config.ftt v) × (a.value ≡ audited_of v (length a.bytes))
IsAudit left right (Err fault.OtherInstance) = left.config ≢ right.config
IsAudit left right (Err f) = IsWant f
