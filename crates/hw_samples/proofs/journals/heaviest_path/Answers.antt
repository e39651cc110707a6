use Rattle.hw_samples.proofs.JournalSamples.{heaviest_path}
use Rattle.hw_samples.proofs.journals.heaviest_path.Goals as goal

pub returns : goal.returns
returns c = heaviest_path
