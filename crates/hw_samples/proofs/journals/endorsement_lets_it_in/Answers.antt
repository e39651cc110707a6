use Rattle.hw_samples.proofs.JournalSamples.{endorsement_lets_it_in}
use Rattle.hw_samples.proofs.journals.endorsement_lets_it_in.Goals as goal

pub returns : goal.returns
returns c = endorsement_lets_it_in
