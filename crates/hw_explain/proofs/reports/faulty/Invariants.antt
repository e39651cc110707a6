use Rattle.std.proofs.Common.{◌≡◌}
use Rattle.std.specs.Prelude.{filter}
use Rattle.std.specs.List.{range_with_len}
use Rattle.hw_types.specs.Settled.{is_faulty}
use Rattle.hw_types.specs.Real.{received_in, settled_in}
use Rattle.hw_explain.proofs.reports.faulty.Given as goal

abbrev pub invariant-loop-validator : goal.invariant-loop-validator
invariant-loop-validator l = l.faulty.items ≡ filter (is_faulty (received_in l.core) (settled_in l.core)) (range_with_len 0 l.validator)
