use Rattle.hw_samples.proofs.HonestMembers.{first_is_faulty}
use Rattle.hw_samples.proofs.node_members.the_first_is_faulty.Goals as goal

pub returns : goal.returns
returns c = first_is_faulty
