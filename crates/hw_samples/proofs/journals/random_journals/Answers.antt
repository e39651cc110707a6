use Rattle.hw_samples.proofs.RandomJournals.{random_journals}
use Rattle.hw_samples.proofs.journals.random_journals.Goals as goal

pub returns : goal.returns
returns c = random_journals
