use Rattle.hw_samples.proofs.JournalSamples.{steps_at_the_end}
use Rattle.hw_samples.proofs.journals.steps_at_the_end.Goals as goal

pub returns : goal.returns
returns c = steps_at_the_end
