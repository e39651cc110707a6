use Rattle.hw_samples.proofs.ValueSamples.{frames_are_spelled}
use Rattle.hw_samples.proofs.values.frames_are_spelled.Goals as goal

pub returns : goal.returns
returns c = frames_are_spelled
