use Rattle.std.proofs.Common.{arith}
use Rattle.hw_horizon.proofs.follow.looked_at.Goals as goal

pub returns-then-low-eq-NO_UNIT-clause-kept : goal.returns-then-low-eq-NO_UNIT-clause-kept
returns-then-low-eq-NO_UNIT-clause-kept c = λ v lt out. (omega arith, out)
