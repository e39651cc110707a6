use Rattle.hw_samples.proofs.ValueSamples.{config_is_spelled}
use Rattle.hw_samples.proofs.values.config_is_spelled.Goals as goal

pub returns : goal.returns
returns c = config_is_spelled
