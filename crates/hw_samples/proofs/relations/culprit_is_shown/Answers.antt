use Rattle.hw_samples.proofs.ShownMembers.{culprit_is_shown}
use Rattle.hw_samples.proofs.relations.culprit_is_shown.Goals as goal

pub returns : goal.returns
returns c = culprit_is_shown
