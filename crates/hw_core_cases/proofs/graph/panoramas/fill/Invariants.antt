-- There is a slot for each validator.
use Rattle.std.proofs.Common.{◌≡◌, length}
use Rattle.hw_core_cases.proofs.graph.panoramas.fill.Given as goal

abbrev pub invariant-loop-validator : goal.invariant-loop-validator
invariant-loop-validator l = length l.panorama ≡ l.dag.validators
