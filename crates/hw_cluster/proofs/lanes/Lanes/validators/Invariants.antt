use Rattle.std.proofs.Common.{◌≡◌}
use Rattle.std.specs.List.{range_with_len}
use Rattle.hw_cluster.proofs.lanes.Lanes.validators.Given as goal

-- the validators so far
abbrev pub invariant-loop-validator : goal.invariant-loop-validator
invariant-loop-validator l = l.validators.items ≡ range_with_len 0 l.validator
