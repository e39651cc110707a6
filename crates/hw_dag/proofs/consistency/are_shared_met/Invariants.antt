-- Of the validators so far, what shared units observe is met.
use Rattle.std.proofs.Common.{ℕ, ◌<◌}
use Rattle.hw_dag.specs.Views.{IsColumnMet}
use Rattle.hw_dag.proofs.consistency.are_shared_met.Given as goal

abbrev pub invariant-loop-validator : goal.invariant-loop-validator
invariant-loop-validator l = (of : ℕ) → of < l.validator → IsColumnMet l.dag l.known l.panorama of
