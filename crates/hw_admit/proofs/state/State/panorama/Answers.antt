use Rattle.std.proofs.Common.{◌≡◌, true, subst}
use Rattle.hw_types.specs.Graph.{is_consistent}
use Rattle.hw_dag.specs.Dag.{graph, observations}
use Rattle.hw_admit.specs.State.{NodeState}
use Rattle.hw_admit.proofs.StateLaws.{state_consistent}
use Rattle.hw_admit.proofs.state.State.panorama.Goals as goal

pub returns-clause-consistent : goal.returns-clause-consistent
returns-clause-consistent c = subst (λ (s : NodeState). is_consistent (graph s.dag) (observations s.dag s.panorama) ≡ true) c.self.view_is (state_consistent _ c.self.invariant.0 c.recall_graph.ensures)
