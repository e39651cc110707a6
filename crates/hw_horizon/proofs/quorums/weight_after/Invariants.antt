use Rattle.std.proofs.Common.{◌≡◌, cond, get_or}
use Rattle.std.specs.Prelude.{sum_by}
use Rattle.std.specs.List.{range_with_len}
use Rattle.hw_horizon.specs.Firsts.{sees_after}
use Rattle.hw_horizon.proofs.quorums.weight_after.Given as goal

abbrev pub invariant-loop-v : goal.invariant-loop-v
invariant-loop-v l = l.total ≡ sum_by (λ v. cond (sees_after l.dag l.firsts l.fn.no.0 v) (get_or l.weights v 0) 0) (range_with_len 0 l.v)
