use Rattle.std.proofs.Common.{◌≡◌, ◌≤◌, ◌++◌, length}
use Rattle.hw_types.specs.Settled.{unit_needs}
use Rattle.hw_core.specs.Missing.{is_met_in, unmet}
use Rattle.hw_core.proofs.UnmetLaws.{marks_below}
use Rattle.hw_core.proofs.unmet.unmet_marks.Given as goal

-- so many are missing of the units and of the marks so far, and the place isn't among them
abbrev pub invariant-loop-validator : goal.invariant-loop-validator
invariant-loop-validator l = (length (unmet (is_met_in l.state) (unit_needs l.panorama ++ marks_below l.panorama l.validator)) ≡ l.count) × (l.count ≤ l.place)
