use Rattle.hw_samples.proofs.ClusterMembers.{cluster_is_reached}
use Rattle.hw_samples.proofs.node_members.a_cluster_is_reached.Goals as goal

pub returns : goal.returns
returns c = cluster_is_reached
