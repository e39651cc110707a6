use Rattle.hw_samples.proofs.SummitCases.{quorums_stay}
use Rattle.hw_samples.proofs.premises.quorums_stay.Goals as goal

pub returns : goal.returns
returns c = quorums_stay
