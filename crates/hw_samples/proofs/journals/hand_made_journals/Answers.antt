use Rattle.hw_samples.proofs.HandMadeJournals.{hand_made_journals}
use Rattle.hw_samples.proofs.journals.hand_made_journals.Goals as goal

pub returns : goal.returns
returns c = hand_made_journals
