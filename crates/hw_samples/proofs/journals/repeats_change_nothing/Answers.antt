use Rattle.hw_samples.proofs.JournalSamples.{repeats_change_nothing}
use Rattle.hw_samples.proofs.journals.repeats_change_nothing.Goals as goal

pub returns : goal.returns
returns c = repeats_change_nothing
