-- Whether a block has a summit for a node.
use Rattle.std.specs.Prelude.{◌≡◌, ℕ, ◌≤◌, length, sum}
use Rattle.hw_types.specs.declared.config.Config.{Config}
use Rattle.hw_types.specs.declared.unit.Digest.{Digest}
use Rattle.hw_types.specs.Graph.{Node}
use Rattle.hw_types.specs.Below.{Among}
use Rattle.hw_types.specs.Quorum.{IsQuorum}
use Rattle.hw_types.specs.Summit.{HasSummit, Stands}
use Rattle.hw_types.specs.Real.{CoreState, received_in, settled_in, panorama_in}
use Rattle.hw_dag.specs.Dag.{UnitGraph, graph, node_at, observations}
use Rattle.hw_dag.specs.Admission.{IsGraph}
use Rattle.hw_horizon.specs.Search.{Search}
use Rattle.hw_horizon.specs.Kept.{AreKept}
use Rattle.hw_admit.specs.State.{NodeState}
use Rattle.hw_core.specs.Order.{order_in}
use Rattle.hw_core.specs.Settle.{admitted_in}

-- the block is a settled unit, and has a summit at some level
pub record BlockStands (core : CoreState) (block : Digest) : Type 0 where
  pub unit : Node
  pub inside : Among unit (settled_in core)
  pub named : unit.digest ≡ block
  pub level : ℕ
  pub quorum : ℕ
  pub stands : Stands core.config (received_in core) unit level quorum

-- ---- in a state, by number

-- the state is that of the node
pub record IsStateOf (core : CoreState) (state : NodeState) : Type 0 where
  pub config : state.config ≡ core.config
  pub graph_is : IsGraph state.dag
  pub settled : graph state.dag ≡ settled_in core
  pub order : admitted_in state ≡ order_in core
  pub panorama : observations state.dag state.panorama ≡ panorama_in core

-- the unit of that number has a summit of some level, with its quorum
pub record HasLevelWithin (state : NodeState) (block top : ℕ) : Type 0 where
  pub level : ℕ
  pub quorum : ℕ
  pub low : 1 ≤ level
  pub high : level ≤ top
  pub is_quorum : IsQuorum (sum state.config.weights) state.config.ftt level quorum
  pub summit : HasSummit state.config.weights (graph state.dag) (observations state.dag state.panorama) (node_at state.dag block) level quorum

-- the search has room for each validator and level, and nothing that it keeps is wrong of any graph
pub record IsFresh (search : Search) (config : Config) : Type 0 where
  pub validators : search.validators ≡ length config.weights
  pub levels : search.levels ≡ config.levels
  pub walks : (dag : UnitGraph) → AreKept dag search.walks
