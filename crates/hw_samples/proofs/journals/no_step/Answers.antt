use Rattle.hw_samples.proofs.JournalSamples.{no_step}
use Rattle.hw_samples.proofs.journals.no_step.Goals as goal

pub returns : goal.returns
returns c = no_step
