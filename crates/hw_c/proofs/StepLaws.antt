-- What a node's state plans is what its journal plans.
use Rattle.std.proofs.Common.{◌≡◌, ℕ, List}
use Rattle.hw_types.specs.Real.{CoreState, setting_of, received_in, settled_in, panorama_in}
use Rattle.hw_types.specs.Step.{step}
use Rattle.hw_dag.specs.Dag.{graph, observations}
use Rattle.hw_admit.specs.State.{NodeState}
use Rattle.hw_validator.specs.Step.{step_of}
use Rattle.hw_validator.proofs.JournalLaws.{step_is as of_journal}

-- a state of this node plans the step of the definitions
pub step_is : (core : CoreState) (st : NodeState) (config : st.config ≡ core.config) (settled : graph st.dag ≡ settled_in core) (panorama : observations st.dag st.panorama ≡ panorama_in core)
    (pairs : st.pairs ≡ (received_in core).endorsements) (me now : ℕ) (value : List ℕ) → step_of st me now value ≡ step (setting_of core.config) (received_in core) me now value
step_is core st config settled panorama pairs me now value = of_journal core st me now value (record { config = config; settled = settled; panorama = panorama; endorsements = pairs })
