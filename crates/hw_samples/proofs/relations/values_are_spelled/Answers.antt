use Rattle.hw_samples.proofs.ShownMembers.{values_are_spelled}
use Rattle.hw_samples.proofs.relations.values_are_spelled.Goals as goal

pub returns : goal.returns
returns c = values_are_spelled
