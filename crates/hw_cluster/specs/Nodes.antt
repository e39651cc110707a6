-- A cluster of nodes, as contracts see it.
-- Source: ours.
use Rattle.std.specs.Prelude.{◌≡◌, ℕ, ◌^◌, ◌<◌, ◌≤◌, List, length, map, Option, None}
use Rattle.hw_types.specs.declared.unit.Vertex.{Vertex}
use Rattle.hw_types.specs.declared.config.Config.{Config}
use Rattle.hw_types.specs.declared.answers.Plan.{Plan}
use Rattle.hw_types.specs.Below.{Among}
use Rattle.hw_types.specs.Spelling.{VertexFits}
use Rattle.hw_types.specs.Step.{step}
use Rattle.hw_types.specs.Real.{CoreState, setting_of, received_in}
use Rattle.hw_honest.specs.declared.cluster.Action.{Action}
use Rattle.hw_honest.specs.declared.cluster.Action.TheVariants.{Step, Deliver, Forge}
use Rattle.hw_honest.specs.declared.cluster.Acted.{Acted}
use Rattle.hw_honest.specs.Cluster.{Cluster, begun, journal_at, cluster_of, acted, after, value_at}
use Rattle.hw_honest.specs.Laws.{IsRun}

-- the configuration, the nodes' journals, and what was sent
pub record ClusterState : Type 0 where
  pub config : Config
  pub cluster : Cluster

-- so many nodes that received nothing
abbrev pub begun_with : Config → ℕ → ClusterState
begun_with config nodes = record { config = config; cluster = begun nodes }

-- how many nodes there are
abbrev pub nodes_in : ClusterState → ℕ
nodes_in c = length c.cluster.journals

-- one of the nodes
abbrev pub node_in : ClusterState → ℕ → CoreState
node_in c node = record { config = c.config; journal = journal_at c.cluster node; asked = None }

-- ---- actions

-- The node is there, the moment is below 2^63, and units keep the limits of their format.
abbrev pub CanAct : ClusterState → Action → Type 0
CanAct c (Step node now) = (node < nodes_in c) × (now < 2 ^ 63)
CanAct c (Deliver node sent) = node < nodes_in c
CanAct c (Forge v) = VertexFits v

-- what an action is answered
abbrev pub acted_in : ClusterState → Action → Acted
acted_in c a = acted (setting_of c.config) (nodes_in c) c.cluster a

-- what an action leaves
abbrev pub left_by : ClusterState → Action → ClusterState
left_by c a = record { config = c.config; cluster = after (setting_of c.config) (nodes_in c) c.cluster a }

-- actions made the cluster out of nodes that had received nothing
pub record IsReached (c : ClusterState) : Type 0 where
  pub actions : List Action
  pub run : IsRun (setting_of c.config) (nodes_in c) actions
  pub made : c.cluster ≡ cluster_of (setting_of c.config) (nodes_in c) actions

-- ---- what is kept

-- the cluster of these nodes
abbrev pub nodes_of : List CoreState → List Vertex → Cluster
nodes_of cores sent = record { journals = map (λ core. core.journal) cores; sent = sent }

-- each node has the configuration, and was asked nothing
abbrev pub HaveConfig : Config → List CoreState → Type 0
HaveConfig config cores = (core : CoreState) → Among core cores → (core.config ≡ config) × (core.asked ≡ None)

-- the same with their configuration
abbrev pub state_of : Config → List CoreState → List Vertex → ClusterState
state_of config cores sent = record { config = config; cluster = nodes_of cores sent }

-- each vertex keeps the limits of its format
abbrev pub AllFit : List Vertex → Type 0
AllFit vs = (v : Vertex) → Among v vs → VertexFits v

-- what holds of a cluster at every moment
pub record IsSound (c : ClusterState) : Type 0 where
  pub some : 1 ≤ nodes_in c
  pub fit : (journal : List Vertex) → Among journal c.cluster.journals → AllFit journal
  pub sent_fit : AllFit c.cluster.sent
  pub reached : IsReached c

-- nodes of the configuration, and what holds of them at every moment
pub record AreNodes (config : Config) (cores : List CoreState) (sent : List Vertex) : Type 0 where
  pub have : HaveConfig config cores
  pub sound : IsSound (state_of config cores sent)

-- what the node may make at this moment, by its journal
abbrev pub plan_in : CoreState → ℕ → ℕ → Option Plan
plan_in core node now = step (setting_of core.config) (received_in core) node now (value_at (setting_of core.config) node now)
