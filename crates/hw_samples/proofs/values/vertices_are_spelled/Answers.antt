use Rattle.hw_samples.proofs.ValueSamples.{vertices_are_spelled}
use Rattle.hw_samples.proofs.values.vertices_are_spelled.Goals as goal

pub returns : goal.returns
returns c = vertices_are_spelled
