use Rattle.hw_samples.proofs.ValueSamples.{quorums}
use Rattle.hw_samples.proofs.values.quorums.Goals as goal

pub returns : goal.returns
returns c = quorums
