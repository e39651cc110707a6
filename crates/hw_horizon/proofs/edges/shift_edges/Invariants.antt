use Rattle.std.proofs.Common.{◌≡◌}
use Rattle.hw_horizon.proofs.edges.shift_edges.Given as goal

abbrev pub invariant-loop-slot : goal.invariant-loop-slot
invariant-loop-slot l = l.edges ≡ l.fn.edges
