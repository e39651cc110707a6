use Rattle.std.proofs.Common.{◌≡◌, length}
use Rattle.hw_core_cases.proofs.leaf.endorsing.count.Given as goal

abbrev pub invariant-loop-endorser : goal.invariant-loop-endorser
invariant-loop-endorser l = length l.endorsements.weights ≡ l.validators
