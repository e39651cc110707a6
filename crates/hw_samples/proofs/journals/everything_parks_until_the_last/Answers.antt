use Rattle.hw_samples.proofs.JournalSamples.{everything_parks_until_the_last}
use Rattle.hw_samples.proofs.journals.everything_parks_until_the_last.Goals as goal

pub returns : goal.returns
returns c = everything_parks_until_the_last
