use Rattle.hw_samples.proofs.GraphMembers.{graphs_are_lawful}
use Rattle.hw_samples.proofs.relations.graphs_are_lawful.Goals as goal

pub returns : goal.returns
returns c = graphs_are_lawful
