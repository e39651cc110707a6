use Rattle.hw_samples.proofs.RandomDecisions.{random_decisions}
use Rattle.hw_samples.proofs.journals.random_decisions.Goals as goal

pub returns : goal.returns
returns c = random_decisions
