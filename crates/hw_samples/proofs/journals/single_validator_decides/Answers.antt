use Rattle.hw_samples.proofs.JournalSamples.{single_validator_decides}
use Rattle.hw_samples.proofs.journals.single_validator_decides.Goals as goal

pub returns : goal.returns
returns c = single_validator_decides
