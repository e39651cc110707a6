use Rattle.hw_samples.proofs.JournalSamples.{no_block_after_the_last}
use Rattle.hw_samples.proofs.journals.no_block_after_the_last.Goals as goal

pub returns : goal.returns
returns c = no_block_after_the_last
