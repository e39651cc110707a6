use Rattle.hw_samples.proofs.ValueSamples.{unit_is_spelled}
use Rattle.hw_samples.proofs.values.unit_is_spelled.Goals as goal

pub returns : goal.returns
returns c = unit_is_spelled
