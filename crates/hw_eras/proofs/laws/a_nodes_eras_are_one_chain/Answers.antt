use Rattle.hw_eras.proofs.EndedLaws.{ended_names}
use Rattle.hw_eras.proofs.NodeLaws.{nodes_eras, nodes_chain, next_stays}
use Rattle.hw_eras.proofs.laws.a_nodes_eras_are_one_chain.Goals as goal

pub returns-clause-eras : goal.returns-clause-eras
returns-clause-eras c = nodes_eras

pub returns-clause-chain : goal.returns-clause-chain
returns-clause-chain c = nodes_chain

pub returns-clause-ended : goal.returns-clause-ended
returns-clause-ended c = ended_names

pub returns-clause-stays : goal.returns-clause-stays
returns-clause-stays c = next_stays
