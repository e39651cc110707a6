use Rattle.std.proofs.Common.{◌≡◌, ℕ, ◌<◌, ◌^◌, ◌-◌, get_or}
use Rattle.hw_horizon.proofs.firsts.Firsts.clear.Given as goal

abbrev pub invariant-loop-number : goal.invariant-loop-number
invariant-loop-number l = (k : ℕ) → k < l.number-index → get_or l.number-items k 0 ≡ 2 ^ 32 - 1
