use Rattle.std.proofs.Common.{subst}
use Rattle.hw_types.specs.Lawful.{IsLawful}
use Rattle.hw_dag.specs.Dag.{graph}
use Rattle.hw_admit.specs.State.{NodeState, is_faulty_in}
use Rattle.hw_admit.proofs.StateLaws.{state_lawful}
use Rattle.hw_admit.proofs.state.State.dag.Goals as goal

pub returns-clause-lawful : goal.returns-clause-lawful
returns-clause-lawful c = subst (λ (s : NodeState). IsLawful s.config.weights (is_faulty_in s.marked (graph s.dag)) (graph s.dag)) c.self.view_is (state_lawful _ c.self.invariant.0 c.recall_graph.ensures)
