use Rattle.hw_samples.proofs.GraphCases.{steps_end}
use Rattle.hw_samples.proofs.premises.steps_end.Goals as goal

pub returns : goal.returns
returns c = steps_end
