use Rattle.hw_samples.proofs.ValueSamples.{four_units_by_their_digests}
use Rattle.hw_samples.proofs.values.four_units_by_their_digests.Goals as goal

pub returns : goal.returns
returns c = four_units_by_their_digests
