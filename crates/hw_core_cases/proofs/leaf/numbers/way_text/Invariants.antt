use Rattle.std.proofs.Common.{◌≤◌}
use Rattle.hw_core_cases.proofs.leaf.numbers.way_text.Given as goal

abbrev pub invariant-loop-at : goal.invariant-loop-at
invariant-loop-at l = Unit {0}

abbrev pub decreases-loop-at : goal.decreases-loop-at
decreases-loop-at l = l.at
