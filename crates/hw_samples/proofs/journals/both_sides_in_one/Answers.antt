use Rattle.hw_samples.proofs.JournalSamples.{both_sides_in_one}
use Rattle.hw_samples.proofs.journals.both_sides_in_one.Goals as goal

pub returns : goal.returns
returns c = both_sides_in_one
