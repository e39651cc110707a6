-- What an action answers and leaves, by what its nodes were given.
use Rattle.std.proofs.Common.{◌≡◌, ℕ, zero, suc, ◌<◌, Bool, true, false, cond, List, [], ◌∷◌, ◌++◌, length, get_or, Option, Some, None, Result, Ok, Err, OnOk, OnErr, refl, sym, ap, subst, ◌∙◌, arith}
use Rattle.std.specs.Prelude.{slice_get}
use Rattle.std.proofs.lemmas.List.{length-map}
use Rattle.hw_types.specs.declared.unit.Vertex.{Vertex}
use Rattle.hw_types.specs.declared.config.Config.{Config}
use Rattle.hw_types.specs.declared.answers.Plan.{Plan}
use Rattle.hw_types.specs.declared.answers.Receipt.{Receipt}
use Rattle.hw_types.specs.declared.answers.Cause.{Cause}
use Rattle.hw_types.specs.Journal.{Setting}
use Rattle.hw_types.specs.Limits.{config_fault}
use Rattle.hw_types.specs.Real.{CoreState, setting_of}
use Rattle.hw_honest.specs.declared.cluster.Action.{Action}
use Rattle.hw_honest.specs.declared.cluster.Action.TheVariants.{Step, Deliver, Forge}
use Rattle.hw_honest.specs.declared.cluster.Acted.{Acted}
use Rattle.hw_honest.specs.declared.cluster.Acted.TheVariants.{Idle, NotSent, NotAllowed, Forged}
use Rattle.hw_honest.specs.Cluster.{Cluster, with_sent, answer_at, after_delivery, plan_at, signed, is_admitted, after_own, is_foreign, heard, outcome, acted, after}
use Rattle.hw_cluster.specs.Nodes.{ClusterState, nodes_in, CanAct, acted_in, left_by, nodes_of, state_of, HaveConfig, AllFit, IsSound, AreNodes, plan_in}
use Rattle.hw_cluster.proofs.NodesLaws.{core_is, core_journal, journal_fit, sound_after}

-- the vertex of a number
pub sent_there : (sent : List Vertex) (k : ℕ) (v : Vertex) → k < length sent → v ≡ get_or sent k v → Some v ≡ slice_get sent k
sent_there [] k v lt e = absurd (omega arith)
sent_there (w ∷ ws) zero v lt e = ap Some e
sent_there (w ∷ ws) (suc k) v lt e = sent_there ws k v (omega arith) e

module _ (config : Config) (cores : List CoreState) (sent : List Vertex) where
  abbrev s : Setting
  s = setting_of config

  abbrev c : Cluster
  c = nodes_of cores sent

  abbrev state : ClusterState
  state = state_of config cores sent

  abbrev with_cluster : Cluster → ClusterState
  with_cluster k = record { config = config; cluster = k }

  -- there are as many nodes as cores
  pub many : nodes_in state ≡ length cores
  many = length-map cores (λ (k : CoreState). k.journal)

  -- ---- a node's own unit

  module _ (node : ℕ) (v : Vertex) (answer : Result Receipt Cause) (f : answer ≡ answer_at s c node v) (later : List CoreState) (given : nodes_of later sent ≡ after_delivery s c node v) where
    own_with : (b : Bool) → nodes_of later (cond b (sent ++ v ∷ []) sent) ≡ cond b (with_sent (after_delivery s c node v) v) (after_delivery s c node v)
    own_with true = ap (λ (k : Cluster). with_sent k v) given
    own_with false = given

    pub own_sent : (b : Bool) (more : List Vertex) → b ≡ is_admitted answer → more ≡ cond b (sent ++ v ∷ []) sent → nodes_of later more ≡ after_own s c node v
    own_sent b more e m = ap (nodes_of later) m ∙ own_with b ∙ ap (λ t. cond t (with_sent (after_delivery s c node v) v) (after_delivery s c node v)) (e ∙ ap is_admitted f)

  -- ---- a step

  module _ (have : HaveConfig config cores) (node : ℕ) (lt : node < length cores) (core : CoreState) (is : core ≡ get_or cores node core) (now : ℕ) where
    planned : plan_in core node now ≡ plan_at s c node now
    planned = ap (λ (k : CoreState). plan_in k node now) (core_is config cores sent have node lt core is)

    abbrev answer_by : Option Plan → Acted
    answer_by o = elim o as (λ z. Acted) [ None ↦ Idle | Some p ↦ outcome p.kind (answer_at s c node (signed p.unit)) ]

    abbrev left_with : Option Plan → Cluster
    left_with o = elim o as (λ z. Cluster) [ None ↦ c | Some p ↦ after_own s c node (signed p.unit) ]

    step_acted : (o : Option Plan) → o ≡ plan_in core node now → answer_by o ≡ acted_in state (Step node now)
    unfolding acted
    step_acted o e = ap answer_by (e ∙ planned)

    step_left : (o : Option Plan) → o ≡ plan_in core node now → with_cluster (left_with o) ≡ left_by state (Step node now)
    unfolding after
    step_left o e = ap (λ (k : Option Plan). with_cluster (left_with k)) (e ∙ planned)

    pub idle_acted : None ≡ plan_in core node now → Idle ≡ acted_in state (Step node now)
    idle_acted e = step_acted None e

    pub idle_left : None ≡ plan_in core node now → state ≡ left_by state (Step node now)
    idle_left e = step_left None e

    pub made_acted : (p : Plan) → Some p ≡ plan_in core node now → (answer : Acted) → answer ≡ outcome p.kind (answer_at s c node (signed p.unit)) → answer ≡ acted_in state (Step node now)
    made_acted p e answer f = f ∙ step_acted (Some p) e

    pub made_left : (p : Plan) → Some p ≡ plan_in core node now → (later : List CoreState) (more : List Vertex) → nodes_of later more ≡ after_own s c node (signed p.unit) → state_of config later more ≡ left_by state (Step node now)
    made_left p e later more f = ap with_cluster f ∙ step_left (Some p) e

  -- what a step asks of its node
  module _ (nodes : AreNodes config cores sent) (node : ℕ) (can : node < nodes_in state) where
    pub inside : node < length cores
    inside = (let e = many in omega arith)

    pub lawful : config_fault config ≡ None
    lawful = nodes.sound.reached.run.config

    pub validator : node < length config.weights
    validator = (let few = nodes.sound.reached.run.validators in omega arith)

    pub node_fit : (core : CoreState) → core ≡ get_or cores node core → AllFit core.journal
    node_fit core is = subst AllFit (core_journal config cores sent nodes.have node inside core is) (journal_fit state nodes.sound node)

  -- ---- a delivery

  module _ (node k : ℕ) where
    abbrev heard_by : Option Vertex → Acted
    heard_by o = elim o as (λ z. Acted) [ None ↦ NotSent | Some v ↦ heard (answer_at s c node v) ]

    abbrev passed_with : Option Vertex → Cluster
    passed_with o = elim o as (λ z. Cluster) [ None ↦ c | Some v ↦ after_delivery s c node v ]

    pass_acted : (o : Option Vertex) → o ≡ slice_get sent k → heard_by o ≡ acted_in state (Deliver node k)
    unfolding acted
    pass_acted o e = ap heard_by e

    pass_left : (o : Option Vertex) → o ≡ slice_get sent k → with_cluster (passed_with o) ≡ left_by state (Deliver node k)
    unfolding after
    pass_left o e = ap (λ (v : Option Vertex). with_cluster (passed_with v)) e

    pub not_sent_acted : None ≡ slice_get sent k → NotSent ≡ acted_in state (Deliver node k)
    not_sent_acted e = pass_acted None e

    pub not_sent_left : None ≡ slice_get sent k → state ≡ left_by state (Deliver node k)
    not_sent_left e = pass_left None e

    pub heard_acted : (v : Vertex) → Some v ≡ slice_get sent k → (answer : Result Receipt Cause) → answer ≡ answer_at s c node v → heard answer ≡ acted_in state (Deliver node k)
    heard_acted v e answer f = ap heard f ∙ pass_acted (Some v) e

    pub heard_left : (v : Vertex) → Some v ≡ slice_get sent k → (later : List CoreState) → nodes_of later sent ≡ after_delivery s c node v → state_of config later sent ≡ left_by state (Deliver node k)
    heard_left v e later given = ap with_cluster given ∙ pass_left (Some v) e

  -- ---- a forged vertex

  module _ (v : Vertex) where
    forge_by : (n : ℕ) → n ≡ nodes_in state → cond (is_foreign n v) Forged NotAllowed ≡ acted_in state (Forge v)
    unfolding acted
    forge_by n e = ap (λ m. cond (is_foreign m v) Forged NotAllowed) e

    sent_by : (n : ℕ) → n ≡ nodes_in state → state_of config cores (cond (is_foreign n v) (sent ++ v ∷ []) sent) ≡ left_by state (Forge v)
    unfolding after
    sent_by n e = ap (λ m. state_of config cores (cond (is_foreign m v) (sent ++ v ∷ []) sent)) e ∙ either (is_foreign (nodes_in state) v)
      where
        either : (b : Bool) → state_of config cores (cond b (sent ++ v ∷ []) sent) ≡ with_cluster (cond b (with_sent c v) c)
        either true = refl
        either false = refl

    pub forge_acted : (answer : Acted) → answer ≡ cond (is_foreign (length cores) v) Forged NotAllowed → answer ≡ acted_in state (Forge v)
    forge_acted answer e = e ∙ forge_by (length cores) (sym many)

    pub forge_left : (more : List Vertex) → more ≡ cond (is_foreign (length cores) v) (sent ++ v ∷ []) sent → state_of config cores more ≡ left_by state (Forge v)
    forge_left more e = ap (state_of config cores) e ∙ sent_by (length cores) (sym many)

-- what holds of a cluster holds after an action, whether it was done or not
pub sound_either : {A E : Type 0} (old new : ClusterState) (a : Action) (r : Result A E) → IsSound old → CanAct old a → OnOk r (new ≡ left_by old a) → OnErr r (new ≡ old) → IsSound new
sound_either old new a (Ok x) sound can left same = subst IsSound (sym left) (sound_after old sound a can)
sound_either old new a (Err x) sound can left same = subst IsSound (sym same) sound
