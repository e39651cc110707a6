use Rattle.hw_samples.proofs.JournalSamples.{fork_above_the_threshold}
use Rattle.hw_samples.proofs.journals.fork_above_the_threshold.Goals as goal

pub returns : goal.returns
returns c = fork_above_the_threshold
