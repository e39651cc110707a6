use Rattle.hw_needs.specs.Forks.{IsLeastAbove}
use Rattle.hw_needs.proofs.forks.least_above.Given as goal

abbrev pub invariant-loop-number : goal.invariant-loop-number
invariant-loop-number l = IsLeastAbove l.dag l.number l.creator l.seq l.bound l.least
