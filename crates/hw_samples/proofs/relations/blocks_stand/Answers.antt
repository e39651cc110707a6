use Rattle.hw_samples.proofs.SummitMembers.{blocks_stand}
use Rattle.hw_samples.proofs.relations.blocks_stand.Goals as goal

pub returns : goal.returns
returns c = blocks_stand
