-- Naive forks by number.
use Rattle.std.specs.Prelude.{◌≡◌, ℕ, false, List}
use Rattle.hw_types.specs.declared.unit.Digest.{Digest}
use Rattle.hw_dag.specs.declared.numbers.View.{View}
use Rattle.hw_dag.specs.Dag.{UnitGraph}
use Rattle.hw_dag.specs.Lanes.{is_lane_below}
use Rattle.hw_naivety.specs.Tips.{IsNaive}
use Rattle.hw_naivety.specs.declared.fork.NaiveFork.{NaiveFork}

-- two naive units of the creator of which neither is on the other's lane
pub record IsNaiveFork (dag : UnitGraph) (panorama : List View) (endorsed : List Digest) (creator : ℕ) (fork : NaiveFork) : Type 0 where
  pub creator_is : fork.creator ≡ creator
  pub left : IsNaive dag panorama endorsed creator fork.left.0
  pub right : IsNaive dag panorama endorsed creator fork.right.0
  pub left_apart : is_lane_below dag fork.left.0 fork.right.0 ≡ false
  pub right_apart : is_lane_below dag fork.right.0 fork.left.0 ≡ false

-- it has no naive fork
abbrev pub IsForkless : UnitGraph → List View → List Digest → Type 0
IsForkless dag panorama endorsed = (creator : ℕ) (fork : NaiveFork) → IsNaiveFork dag panorama endorsed creator fork → ⊥
