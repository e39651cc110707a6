-- The audit of two nodes.
use Rattle.std.specs.Prelude.{ℕ, ◌<◌}
use Rattle.hw_types.specs.Real.{CoreState, setting_of}
use Rattle.hw_core.specs.Decided.{decided_in}
use Rattle.hw_safety.specs.declared.verdict.Verdict.{Verdict}
use Rattle.hw_safety.specs.declared.verdict.Verdict.TheVariants as verdict
use Rattle.hw_safety.specs.Verdicts.{IsVerdict}

-- the verdict on what two nodes of one configuration accepted and decided
abbrev pub IsVerdictOn : CoreState → CoreState → Verdict → Type 0
IsVerdictOn left right v = IsVerdict (setting_of left.config) left.journal right.journal (decided_in left) (decided_in right) v

-- in a conflict the culprits weigh more than the threshold
abbrev pub IsWeighty : ℕ → Verdict → Type 0
IsWeighty ftt (verdict.Conflict height left right culprits weight) = ftt < weight
IsWeighty ftt (verdict.Agree common) = Unit {0}
IsWeighty ftt (verdict.Clash left right) = Unit {0}
