use Rattle.hw_cluster.proofs.TogetherLaws.{decide_one_chain}
use Rattle.hw_cluster.proofs.laws.nodes_agree.Goals as goal

pub returns : goal.returns
returns c = decide_one_chain
