-- The step over a node's state is that of its journal: the statement.
-- Source: ours.
use Rattle.std.specs.Prelude.{◌≡◌, ℕ, List}
use Rattle.hw_types.specs.Real.{CoreState, setting_of, received_in, settled_in, panorama_in}
use Rattle.hw_types.specs.Step.{step}
use Rattle.hw_dag.specs.Dag.{graph, observations}
use Rattle.hw_admit.specs.State.{NodeState}
use Rattle.hw_validator.specs.Step.{step_of}

-- The state is that of what was received: its settled units, what it observes, and the endorsements that it was told.
pub record IsStateOf (core : CoreState) (st : NodeState) : Type 0 where
  pub config : st.config ≡ core.config
  pub settled : graph st.dag ≡ settled_in core
  pub panorama : observations st.dag st.panorama ≡ panorama_in core
  pub endorsements : st.pairs ≡ (received_in core).endorsements

-- The step over such a state is that of the definitions after the journal.
abbrev pub StepIsOfJournal : Type 0
StepIsOfJournal = (core : CoreState) (st : NodeState) (me now : ℕ) (value : List ℕ) → IsStateOf core st → step_of st me now value ≡ step (setting_of core.config) (received_in core) me now value
