use Rattle.hw_cluster.proofs.TogetherLaws.{never_equivocate, nodes_never_faulty}
use Rattle.hw_cluster.proofs.laws.nodes_never_equivocate.Goals as goal

pub returns-clause-apart : goal.returns-clause-apart
returns-clause-apart c = never_equivocate

pub returns-clause-faulty : goal.returns-clause-faulty
returns-clause-faulty c = nodes_never_faulty
