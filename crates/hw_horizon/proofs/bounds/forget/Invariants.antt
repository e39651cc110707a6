use Rattle.std.proofs.Common.{◌≡◌, ℕ, ◌<◌, None, get_or}
use Rattle.hw_horizon.proofs.bounds.forget.Given as goal

abbrev pub invariant-loop-tip : goal.invariant-loop-tip
invariant-loop-tip l = (k : ℕ) → k < l.tip-index → get_or l.tips k None ≡ None
