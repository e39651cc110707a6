-- What a node's state plans is what its journal plans.
use Rattle.std.proofs.Common.{◌≡◌, ℕ, List, Option, ap, ◌∙◌}
use Rattle.hw_types.specs.declared.answers.Plan.{Plan}
use Rattle.hw_types.specs.Real.{CoreState, setting_of, received_in, settled_in, panorama_in}
use Rattle.hw_types.specs.Step.{step}
use Rattle.hw_dag.specs.Dag.{graph, observations}
use Rattle.hw_admit.specs.State.{NodeState}
use Rattle.hw_validator.specs.Step.{step_of}
use Rattle.hw_validator.proofs.JournalLaws.{step_is}
use Rattle.hw_honest.specs.Cluster.{value_at}
use Rattle.hw_cluster.specs.Nodes.{plan_in}

module _ (core : CoreState) (st : NodeState) (config : st.config ≡ core.config) (settled : graph st.dag ≡ settled_in core) (panorama : observations st.dag st.panorama ≡ panorama_in core)
    (pairs : st.pairs ≡ (received_in core).endorsements) (me now : ℕ) (value : List ℕ) where
  -- the step of the state is the plan of the node, where the value is that of its block
  pub plan_is : value ≡ value_at (setting_of core.config) me now → (o : Option Plan) → o ≡ step_of st me now value → o ≡ plan_in core me now
  plan_is v o e =
      e
      ∙ step_is core st me now value (record { config = config; settled = settled; panorama = panorama; endorsements = pairs })
      ∙ ap (λ (x : List ℕ). step (setting_of core.config) (received_in core) me now x) v
