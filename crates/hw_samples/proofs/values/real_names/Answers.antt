use Rattle.hw_samples.proofs.ValueSamples.{real_names}
use Rattle.hw_samples.proofs.values.real_names.Goals as goal

pub returns : goal.returns
returns c = real_names
