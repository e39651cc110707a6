-- Look-ups along lanes and parents.
use Rattle.std.specs.Prelude.{◌≡◌, ℕ, ◌≤◌, ◌<◌, ◌^◌, Bool, true, List, length, Some, All, sum, nat_le}
use Rattle.hw_types.specs.Graph.{is_on_lane, is_below}
use Rattle.hw_types.specs.Votes.{is_block, unit_fork}
use Rattle.std.specs.Option.{option_map}
use Rattle.hw_dag.specs.declared.numbers.UnitNo.{UnitNo}
use Rattle.hw_dag.specs.declared.numbers.View.{View}
use Rattle.hw_dag.specs.declared.numbers.View.TheVariants as view
use Rattle.hw_dag.specs.Dag.{UnitGraph, unit_at, count_of, node_at, graph, creator_of, seq_of, view_at}
use Rattle.hw_dag.specs.Admission.{fork_given}

-- the one unit is on the lane of the other
abbrev pub is_lane_below : UnitGraph → ℕ → ℕ → Bool
is_lane_below dag low high = is_on_lane (graph dag) (node_at dag low) (node_at dag high)

-- each validator's units are on one lane, in the order of their numbers
abbrev pub AreOnOneLane : UnitGraph → Type 0
AreOnOneLane dag = (low high : ℕ) → low < count_of dag → high < count_of dag → creator_of (unit_at dag low) ≡ creator_of (unit_at dag high)
    → is_lane_below dag low high ≡ nat_le low high

-- the one unit is the other or below it
abbrev pub is_seen : UnitGraph → ℕ → ℕ → Bool
is_seen dag low high = is_below (graph dag) (node_at dag low) (node_at dag high)

-- an observed unit is the unit or has it below it
pub record IsBelow (dag : UnitGraph) (panorama : List View) (n : ℕ) : Type 0 where
  pub slot : ℕ
  pub cited : UnitNo
  pub observed : view_at panorama slot ≡ view.Correct cited
  pub seen : is_seen dag n cited.0 ≡ true

-- the unit of that number on the lane of another
pub record IsLaneAt (dag : UnitGraph) (start seq found : ℕ) : Type 0 where
  pub known : found < count_of dag
  pub earlier : found ≤ start
  pub on_lane : is_lane_below dag found start ≡ true
  pub seq_is : seq_of (unit_at dag found) ≡ seq

-- a block, or a chain of parents leads to it from a block
pub data IsAncestor (dag : UnitGraph) (low : ℕ) : ℕ → Type 0 where
  itself : IsAncestor dag low low
  further : (high : ℕ) (parent : UnitNo) → (unit_at dag high).parent ≡ Some parent → IsAncestor dag low parent.0 → IsAncestor dag low high

-- the ancestor of that height
pub record IsAncestorAt (dag : UnitGraph) (start height found : ℕ) : Type 0 where
  pub known : found < count_of dag
  pub earlier : found ≤ start
  pub block : is_block (node_at dag found) ≡ true
  pub ancestor : IsAncestor dag found start
  pub height_is : (unit_at dag found).height ≡ Some height

-- the votes and the parents in the graph are those of the definitions under these weights
abbrev pub VotesAre : List ℕ → UnitGraph → Type 0
VotesAre weights dag = (n : ℕ) → n < count_of dag → option_map (λ (no : UnitNo). node_at dag no.0) (fork_given (unit_at dag n)) ≡ unit_fork weights (graph dag) (node_at dag n)

-- the weights of a configuration within its limits that has the graph's validators, and the votes in the graph are those under them
pub record AreWeights (weights : List ℕ) (dag : UnitGraph) : Type 0 where
  pub length_is : length weights ≡ dag.validators
  pub positive : All (λ w. 0 < w) weights
  pub bounded : sum weights < 2 ^ 62
  pub votes : VotesAre weights dag
