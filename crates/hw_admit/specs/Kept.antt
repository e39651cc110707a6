-- A fork choice that is kept for its panorama.
use Rattle.std.specs.Prelude.{◌≡◌, ℕ, true, List, length, Option}
use Rattle.std.specs.Option.{option_map}
use Rattle.hw_types.specs.Votes.{fork_of}
use Rattle.hw_dag.specs.declared.numbers.UnitNo.{UnitNo}
use Rattle.hw_dag.specs.declared.numbers.View.{View}
use Rattle.hw_dag.specs.Dag.{UnitGraph, node_at, graph, observations, IsPanorama}
use Rattle.hw_dag.specs.Admission.{IsFork}
use Rattle.hw_admit.specs.declared.kept.CachedForkChoice.{CachedForkChoice}

-- a block of the graph that is the fork choice of a panorama of it
pub record IsChoice (weights : List ℕ) (dag : UnitGraph) (panorama : List View) (fork : Option UnitNo) : Type 0 where
  pub panorama_is : IsPanorama dag panorama
  pub fork_is : option_map (λ (no : UnitNo). node_at dag no.0) fork ≡ fork_of weights (graph dag) (observations dag panorama)
  pub block : IsFork dag (observations dag panorama) fork

-- the panorama has the graph's slots, and where the two belong together the fork choice is that of the panorama
pub record IsKept (weights : List ℕ) (dag : UnitGraph) (kept : CachedForkChoice) : Type 0 where
  pub length_is : length kept.panorama ≡ dag.validators
  pub choice : kept.is_known ≡ true → IsChoice weights dag kept.panorama kept.fork
