use Rattle.hw_samples.proofs.EraNodeMembers.{era_nodes_are_there}
use Rattle.hw_samples.proofs.node_members.era_nodes_are_there.Goals as goal

pub returns : goal.returns
returns c = era_nodes_are_there
