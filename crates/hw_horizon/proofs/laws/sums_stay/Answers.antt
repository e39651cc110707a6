use Rattle.hw_horizon.proofs.BoundLaws as bounds
use Rattle.hw_horizon.proofs.laws.sums_stay.Goals as goal

pub returns : goal.returns
returns c = bounds.sums_stay
