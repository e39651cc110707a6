use Rattle.std.proofs.Common.{◌≡◌, cond, get_or}
use Rattle.std.specs.Prelude.{sum_by}
use Rattle.std.specs.List.{range_with_len}
use Rattle.hw_horizon.specs.Tables.{is_member}
use Rattle.hw_horizon.proofs.rounds.members_weight.Given as goal

abbrev pub invariant-loop-v : goal.invariant-loop-v
invariant-loop-v l = l.total ≡ sum_by (λ v. cond (is_member l.present v) (get_or l.weights v 0) 0) (range_with_len 0 l.v)
