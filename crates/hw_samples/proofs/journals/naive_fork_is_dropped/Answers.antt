use Rattle.hw_samples.proofs.JournalSamples.{naive_fork_is_dropped}
use Rattle.hw_samples.proofs.journals.naive_fork_is_dropped.Goals as goal

pub returns : goal.returns
returns c = naive_fork_is_dropped
