use Rattle.hw_samples.proofs.SummitCases.{standing_is_kept_here}
use Rattle.hw_samples.proofs.premises.standing_is_kept_here.Goals as goal

pub returns : goal.returns
returns c = standing_is_kept_here
