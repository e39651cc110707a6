-- The decided blocks of a node.
use Rattle.std.specs.Prelude.{◌≡◌, ℕ, ◌+◌, ◌≤◌, List, length}
use Rattle.hw_types.specs.declared.unit.Vertex.{Vertex}
use Rattle.hw_types.specs.declared.answers.Decision.{Decision}
use Rattle.hw_types.specs.Journal.{Setting}
use Rattle.hw_types.specs.Decisions.{AreDecisions}
use Rattle.hw_types.specs.Real.{CoreState, setting_of}
use Rattle.hw_safety.specs.Decided.{decisions_of}
use Rattle.hw_dag.specs.Dag.{graph}
use Rattle.hw_admit.specs.State.{NodeState}
use Rattle.hw_horizon.specs.Detected.{DetectorState, IsTrueOf, decisions_of as found_in}

-- the decided blocks of the journal, by moment and then by height
abbrev pub decided_in : CoreState → List Decision
decided_in c = decisions_of (setting_of c.config) c.journal

-- what a detector has found, its records, and how many records there is room for
pub record DecidedState : Type 0 where
  pub detector : DetectorState
  pub decisions : List Decision
  pub room : ℕ

-- the records are those of what the detector found in the state's graph
pub record IsToldOf (d : DecidedState) (state : NodeState) : Type 0 where
  pub config : d.detector.config ≡ state.config
  pub true_of : IsTrueOf d.detector state.dag
  pub listed : d.decisions ≡ found_in state.dag d.detector.found

-- there is room for so many records
pub record HasRoomFor (d : DecidedState) (count : ℕ) : Type 0 where
  pub found : count ≤ length d.detector.found + d.detector.spare
  pub listed : count ≤ d.room

-- there is more room, or as much, and nothing else changed
pub record HasOnlyRoom (d later : DecidedState) : Type 0 where
  pub detector : later.detector ≡ record d.detector { spare = later.detector.spare }
  pub decisions : later.decisions ≡ d.decisions
  pub spare : d.detector.spare ≤ later.detector.spare
  pub room : d.room ≤ later.room

-- the records are the decided blocks of the journal, and there is room for one for each unit that is settled or waits
pub record IsDecided (s : Setting) (journal : List Vertex) (state : NodeState) (waiting : ℕ) (d : DecidedState) : Type 0 where
  pub told : IsToldOf d state
  pub are : AreDecisions s journal (found_in state.dag d.detector.found)
  pub room : HasRoomFor d (length (graph state.dag) + waiting)
