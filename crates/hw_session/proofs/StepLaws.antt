-- What a node's state plans is what its journal plans.
use Rattle.std.proofs.Common.{◌≡◌, ℕ, ◌<◌, ◌≤◌, ◌^◌, List, length, Option, Some, sym, subst, ◌∙◌}
use Rattle.hw_types.specs.declared.answers.Plan.{Plan}
use Rattle.hw_types.specs.Real.{setting_of, received_in, settled_in, panorama_in}
use Rattle.hw_dag.specs.Dag.{graph, observations}
use Rattle.hw_admit.specs.State.{NodeState}
use Rattle.hw_types.specs.Spelling.{Fits}
use Rattle.hw_honest.specs.Plans.{IsPlanned}
use Rattle.hw_honest.proofs.NewLaws.{plan_fits}
use Rattle.hw_validator.specs.Step.{step_of}
use Rattle.hw_validator.proofs.JournalLaws.{step_is}
use Rattle.hw_session.specs.Node.{NodeState as Session, IsKept}
use Rattle.hw_session.specs.Make.{planned_by}

-- a state of the core by which a node is seen plans the step of the definitions
pub planned_is : (n m : Session) (same : m ≡ n) (st : NodeState) (config : st.config ≡ m.core.config) (settled : graph st.dag ≡ settled_in m.core) (panorama : observations st.dag st.panorama ≡ panorama_in m.core)
    (pairs : st.pairs ≡ (received_in m.core).endorsements) (me now : ℕ) (value : List ℕ) (o : Option Plan) → o ≡ step_of st me now value → planned_by n me now value ≡ o
planned_is n m same st config settled panorama pairs me now value o e =
    subst (λ (k : Session). planned_by k me now value ≡ o) same (sym (e ∙ step_is m.core st me now value (record { config = config; settled = settled; panorama = panorama; endorsements = pairs })))

-- a step of a node is planned by its journal
pub node_plans : (n : Session) (me now : ℕ) (value : List ℕ) (p : Plan) → IsKept n → me < length n.core.config.weights → planned_by n me now value ≡ Some p → IsPlanned (setting_of n.core.config) n.core.journal me now value p
node_plans n me now value p kept validator is = record { sound = kept.lawful; validator = validator; is = is }

-- and its unit keeps the limits of its format
pub node_plan_fits : (n : Session) (me now : ℕ) (value : List ℕ) (p : Plan) → IsKept n → me < length n.core.config.weights → now < 2 ^ 63 → length value ≤ 4096 → planned_by n me now value ≡ Some p → Fits p.unit
node_plan_fits n me now value p kept validator early short is =
    plan_fits (setting_of n.core.config) n.core.journal me now value p (node_plans n me now value p kept validator is) kept.reached.fit early short
