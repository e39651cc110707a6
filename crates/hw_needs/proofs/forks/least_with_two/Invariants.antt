use Rattle.hw_needs.specs.Forks.{AreNoted}
use Rattle.hw_needs.proofs.forks.least_with_two.Given as goal

abbrev pub invariant-loop-no : goal.invariant-loop-no
invariant-loop-no l = AreNoted l.dag l.no l.creator l.noted.numbers.keys l.noted.least
