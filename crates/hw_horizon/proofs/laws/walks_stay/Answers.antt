use Rattle.hw_horizon.proofs.WalkLaws as walks
use Rattle.hw_horizon.proofs.laws.walks_stay.Goals as goal

pub returns : goal.returns
returns c = walks.walks_stay
