use Rattle.hw_samples.proofs.JournalSamples.{steps_after_a_block}
use Rattle.hw_samples.proofs.journals.steps_after_a_block.Goals as goal

pub returns : goal.returns
returns c = steps_after_a_block
