use Rattle.hw_samples.proofs.JournalSamples.{one_witness_is_not_enough}
use Rattle.hw_samples.proofs.journals.one_witness_is_not_enough.Goals as goal

pub returns : goal.returns
returns c = one_witness_is_not_enough
