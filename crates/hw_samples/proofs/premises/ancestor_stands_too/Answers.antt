use Rattle.hw_samples.proofs.SummitCases.{ancestor_stands_too}
use Rattle.hw_samples.proofs.premises.ancestor_stands_too.Goals as goal

pub returns : goal.returns
returns c = ancestor_stands_too
