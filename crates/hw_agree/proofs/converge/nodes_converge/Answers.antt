use Rattle.hw_agree.proofs.ConvergeLaws.{converge, states}
use Rattle.hw_agree.proofs.converge.nodes_converge.Goals as goal

pub returns-clause-converge : goal.returns-clause-converge
returns-clause-converge c = converge

pub returns-clause-states : goal.returns-clause-states
returns-clause-states c = states
