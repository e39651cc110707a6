use Rattle.hw_horizon.proofs.BoundLaws as bounds
use Rattle.hw_horizon.proofs.laws.bounds_rule_out.Goals as goal

pub returns-clause-none : goal.returns-clause-none
returns-clause-none c = bounds.bounds_rule_out

pub returns-clause-stay : goal.returns-clause-stay
returns-clause-stay c = bounds.bounds_stay
