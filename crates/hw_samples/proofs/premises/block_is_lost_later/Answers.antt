use Rattle.hw_samples.proofs.SafetyCases.{block_is_lost_later}
use Rattle.hw_samples.proofs.premises.block_is_lost_later.Goals as goal

pub returns : goal.returns
returns c = block_is_lost_later
