use Rattle.hw_samples.proofs.SafetyCases.{blocks_conflict}
use Rattle.hw_samples.proofs.premises.blocks_conflict.Goals as goal

pub returns : goal.returns
returns c = blocks_conflict
