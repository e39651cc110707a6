use Rattle.std.proofs.Common.{◌≡◌}
use Rattle.std.specs.Prelude.{filter}
use Rattle.std.specs.List.{range_with_len}
use Rattle.hw_dag.specs.Dag.{graph}
use Rattle.hw_agree.specs.Converge.{part, is_torn}
use Rattle.hw_meeting.proofs.torn.torn_for.Given as goal

abbrev pub invariant-loop-validator : goal.invariant-loop-validator
invariant-loop-validator l = l.torn ≡ filter (λ v. is_torn (graph l.dag) (part l.mine v) (part l.theirs v)) (range_with_len 0 l.validator)
