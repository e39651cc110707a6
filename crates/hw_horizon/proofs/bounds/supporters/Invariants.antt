use Rattle.std.proofs.Common.{◌≡◌, nat_le, cond, get_or}
use Rattle.std.specs.Prelude.{sum_by}
use Rattle.std.specs.List.{range_with_len}
use Rattle.hw_horizon.specs.Bounds.{support_of}
use Rattle.hw_horizon.proofs.bounds.supporters.Given as goal

abbrev pub invariant-loop-slot : goal.invariant-loop-slot
invariant-loop-slot l = l.total ≡ sum_by (λ v. cond (nat_le l.fn.quorum (support_of l.bound v)) (get_or l.weights v 0) 0) (range_with_len 0 l.slot)
