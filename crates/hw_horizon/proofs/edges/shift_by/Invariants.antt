use Rattle.std.proofs.Common.{◌≡◌}
use Rattle.hw_horizon.proofs.edges.shift_by.Given as goal

abbrev pub invariant-loop-v : goal.invariant-loop-v
invariant-loop-v l = l.edges ≡ l.fn.edges
