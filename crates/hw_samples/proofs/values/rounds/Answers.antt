use Rattle.hw_samples.proofs.ValueSamples.{rounds}
use Rattle.hw_samples.proofs.values.rounds.Goals as goal

pub returns : goal.returns
returns c = rounds
