use Rattle.hw_dag.proofs.LawfulLaws.{graph_is_lawful}
use Rattle.hw_dag.proofs.laws.graph_is_lawful.Goals as goal

pub returns : goal.returns
returns c = graph_is_lawful
