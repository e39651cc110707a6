use Rattle.hw_horizon.proofs.LesserLaws as lesser
use Rattle.hw_horizon.proofs.laws.lesser_summits.Goals as goal

pub returns : goal.returns
returns c = lesser.lesser_summits
