use Rattle.hw_samples.proofs.LightMembers.{yes_meets_another}
use Rattle.hw_samples.proofs.node_members.a_yes_meets_another_block.Goals as goal

pub returns : goal.returns
returns c = yes_meets_another
