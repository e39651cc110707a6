use Rattle.hw_samples.proofs.GraphCases.{lanes_fork}
use Rattle.hw_samples.proofs.premises.lanes_fork.Goals as goal

pub returns : goal.returns
returns c = lanes_fork
