use Rattle.hw_samples.proofs.JournalSamples.{limits_refuse}
use Rattle.hw_samples.proofs.journals.limits_refuse.Goals as goal

pub returns : goal.returns
returns c = limits_refuse
