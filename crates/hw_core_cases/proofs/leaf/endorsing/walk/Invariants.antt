use Rattle.std.proofs.Common.{◌≡◌, length}
use Rattle.hw_core_cases.proofs.leaf.endorsing.walk.Given as goal

abbrev pub invariant-loop-word : goal.invariant-loop-word
invariant-loop-word l = length l.endorsements.weights ≡ l.validators
