-- There is a slot for each validator.
use Rattle.std.proofs.Common.{◌≡◌, length}
use Rattle.hw_core_cases.proofs.graph.random.panorama.Given as goal

abbrev pub invariant-loop : goal.invariant-loop
invariant-loop l = length l.panorama ≡ l.dag.validators
