use Rattle.hw_meeting_node.proofs.ConvergeLaws.{converge, states}
use Rattle.hw_meeting_node.proofs.laws.meetings_converge.Goals as goal

pub returns-clause-converge : goal.returns-clause-converge
returns-clause-converge c = converge

pub returns-clause-states : goal.returns-clause-states
returns-clause-states c = states
