use Rattle.hw_samples.proofs.JournalSamples.{journals_in_conflict}
use Rattle.hw_samples.proofs.journals.journals_in_conflict.Goals as goal

pub returns : goal.returns
returns c = journals_in_conflict
