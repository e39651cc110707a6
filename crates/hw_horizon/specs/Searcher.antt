-- What a searcher is, and when what it keeps is true of a graph.
use Rattle.std.specs.Prelude.{◌≡◌, ℕ, List, length}
use Rattle.hw_types.specs.declared.config.Config.{Config}
use Rattle.hw_dag.specs.Dag.{UnitGraph}
use Rattle.hw_horizon.specs.Kept.{AreKept}
use Rattle.hw_horizon.specs.Search.{Search}
use Rattle.hw_horizon.specs.Bounds.{AskedBounds, AreBounds, AreWide}
use Rattle.hw_horizon.specs.Detected.{AreQuorums}

-- the quorum of each level of a configuration, and what is kept for its validators and levels
pub record IsSearcher (config : Config) (quorums : List ℕ) (horizons : Search) (bounds : AskedBounds) : Type 0 where
  pub quorums_are : AreQuorums config quorums
  pub validators_are : horizons.validators ≡ length config.weights
  pub levels_are : horizons.levels ≡ config.levels
  pub wide : AreWide (length config.weights) bounds

-- what is kept is true of the graph
pub record IsTrueIn (dag : UnitGraph) (config : Config) (horizons : Search) (bounds : AskedBounds) : Type 0 where
  pub walks_are : AreKept dag horizons.walks
  pub bounds_are : AreBounds config.weights dag bounds
