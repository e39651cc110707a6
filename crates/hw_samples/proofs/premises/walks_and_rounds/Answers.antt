use Rattle.hw_samples.proofs.GraphCases.{walks_and_rounds}
use Rattle.hw_samples.proofs.premises.walks_and_rounds.Goals as goal

pub returns : goal.returns
returns c = walks_and_rounds
