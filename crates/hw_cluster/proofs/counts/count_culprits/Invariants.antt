use Rattle.std.proofs.Common.{◌≡◌, ◌≤◌, take, length}
use Rattle.std.specs.Prelude.{filter}
use Rattle.std.specs.List.{range_with_len}
use Rattle.hw_cluster.specs.Counts.{equivocates_in}
use Rattle.hw_cluster.proofs.counts.count_culprits.Given as goal

-- so many of the validators so far
abbrev pub invariant-loop-validator : goal.invariant-loop-validator
invariant-loop-validator l = (l.count ≡ length (filter (equivocates_in l.sent) (take l.validator (range_with_len 0 (length l.config.weights))))) × (l.count ≤ l.validator)
