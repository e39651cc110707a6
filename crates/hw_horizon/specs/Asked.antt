-- What a search is asked.
use Rattle.std.specs.Prelude.{ℕ, ◌<◌, List}
use Rattle.hw_dag.specs.declared.numbers.View.{View}
use Rattle.hw_dag.specs.Dag.{UnitGraph, count_of, IsPanorama}
use Rattle.hw_dag.specs.Admission.{IsGraph}
use Rattle.hw_dag.specs.Lanes.{AreWeights}

-- a graph whose validators have these weights, a panorama of it, and a unit of it
pub record IsAsked (weights : List ℕ) (dag : UnitGraph) (panorama : List View) (block : ℕ) : Type 0 where
  pub graph_is : IsGraph dag
  pub weights_are : AreWeights weights dag
  pub panorama_is : IsPanorama dag panorama
  pub known : block < count_of dag
