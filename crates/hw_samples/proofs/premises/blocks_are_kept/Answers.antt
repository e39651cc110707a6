use Rattle.hw_samples.proofs.SafetyCases.{blocks_are_kept}
use Rattle.hw_samples.proofs.premises.blocks_are_kept.Goals as goal

pub returns : goal.returns
returns c = blocks_are_kept
