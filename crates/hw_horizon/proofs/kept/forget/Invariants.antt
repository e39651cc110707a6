use Rattle.std.proofs.Common.{◌≡◌, ℕ, ◌<◌, None, get_or}
use Rattle.hw_horizon.proofs.kept.forget.Given as goal

abbrev pub invariant-loop-walk : goal.invariant-loop-walk
invariant-loop-walk l = (k : ℕ) → k < l.walk-index → get_or l.walks k None ≡ None
