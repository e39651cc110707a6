use Rattle.std.proofs.Common.{ℕ, ◌<◌}
use Rattle.hw_keys.specs.Keys.{StandsAt}
use Rattle.hw_keys.proofs.text.first_fault.Given as goal

abbrev pub invariant-loop-place : goal.invariant-loop-place
invariant-loop-place l = (k : ℕ) → k < l.place → StandsAt l.validators l.text k
