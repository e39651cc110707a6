-- What follows from the state after a delivery.
use Rattle.std.specs.Prelude.{◌≡◌, ℕ, ◌+◌, ◌≤◌, length, Option}
use Rattle.hw_types.specs.Votes.{weight_of}
use Rattle.hw_dag.specs.declared.numbers.UnitNo.{UnitNo}
use Rattle.hw_dag.specs.Dag.{graph, observations}
use Rattle.hw_dag.specs.Admission.{IsGraph}
use Rattle.hw_admit.specs.State.{NodeState, is_faulty_in, observed_in}
use Rattle.hw_horizon.specs.DetectorLaws.{DecidesOn}
use Rattle.hw_core.specs.Keeps.{IsChoice}
use Rattle.hw_core.specs.Decided.{DecidedState, IsToldOf}

-- The fork choice is that of the state, and the blocks that stand now are decided; the journal is so long.
pub record HasFollowed (s : NodeState) (at : ℕ) (d done : DecidedState) (fork : Option UnitNo) : Type 0 where
  pub choice : IsChoice s fork
  pub is_graph : IsGraph s.dag
  pub observed : observations s.dag s.panorama ≡ observed_in s.config s.marked (graph s.dag)
  pub decides : DecidesOn s.config s.dag s.panorama (weight_of s.config.weights (is_faulty_in s.marked (graph s.dag))) at d.detector.found done.detector.found
  pub told : IsToldOf done s
  pub spare : length done.detector.found + done.detector.spare ≡ length d.detector.found + d.detector.spare
  pub more : d.room ≤ done.room
