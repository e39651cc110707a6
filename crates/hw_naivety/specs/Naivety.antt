-- Naive units, over a graph in numbers.
use Rattle.std.specs.Prelude.{◌≡◌, ℕ, ◌<◌, ◌≤◌, true, false, List}
use Rattle.std.specs.List.{list_all}
use Rattle.hw_types.specs.declared.unit.Digest.{Digest}
use Rattle.hw_types.specs.Graph.{Node, cites, past, are_comparable}
use Rattle.hw_types.specs.Below.{Among}
use Rattle.hw_types.specs.Rules.{has_digest, has_naive_fork, is_naive}
use Rattle.hw_dag.specs.declared.numbers.View.{View}
use Rattle.hw_dag.specs.Dag.{UnitGraph, count_of, node_at, graph, observations}
use Rattle.hw_naivety.specs.Tips.{TipTable, TipsAre, LanesAre}
use Rattle.hw_naivety.specs.declared.fork.NaiveFork.{NaiveFork}

-- the list of endorsed units has each one of the lists of the units that it cites
abbrev pub KeepsEndorsed : List Node → Node → Type 0
KeepsEndorsed units u = (w : Node) → Among w units → cites u.unit.panorama w ≡ true → list_all (has_digest u.unit.endorsed) w.unit.endorsed ≡ true

-- any two units of one creator that are naive for it are comparable
abbrev pub HasNoNaiveFork : List Node → Node → Type 0
HasNoNaiveFork units u = has_naive_fork (past units u.unit.panorama) u.unit.endorsed ≡ false

-- the unit has this panorama and this endorsed list
pub record HasSight (dag : UnitGraph) (panorama : List View) (endorsed : List Digest) (u : Node) : Type 0 where
  pub observes : observations dag panorama ≡ u.unit.panorama
  pub endorsed_is : endorsed ≡ u.unit.endorsed

-- x is a unit of the creator that is naive for u
pub record IsNaiveOf (units : List Node) (u : Node) (creator : ℕ) (x : Node) : Type 0 where
  pub below : Among x (past units u.unit.panorama)
  pub naive : is_naive (past units u.unit.panorama) u.unit.endorsed x ≡ true
  pub creator_is : x.unit.creator ≡ creator

-- two units of the least creator that has two naive units that aren't comparable
pub record IsLeastNaiveFork (dag : UnitGraph) (u : Node) (fork : NaiveFork) : Type 0 where
  pub left_known : fork.left.0 < count_of dag
  pub right_known : fork.right.0 < count_of dag
  pub left : IsNaiveOf (graph dag) u fork.creator (node_at dag fork.left.0)
  pub right : IsNaiveOf (graph dag) u fork.creator (node_at dag fork.right.0)
  pub apart : are_comparable (graph dag) (node_at dag fork.left.0) (node_at dag fork.right.0) ≡ false
  pub least : (v : ℕ) (x y : Node) → v < fork.creator → IsNaiveOf (graph dag) u v x → IsNaiveOf (graph dag) u v y → are_comparable (graph dag) x y ≡ true

-- what is kept: of how many units of the graph, the room for more, their tips, and what the noted units show of each validator
pub record NaiveTips : Type 0 where
  pub validators : ℕ
  pub spare : ℕ
  pub count : ℕ
  pub tips : TipTable
  pub lanes : List View

-- the first units of the graph were noted, each of which keeps the rules of endorsed lists and of naive forks
pub record IsNoted (tips : NaiveTips) (dag : UnitGraph) : Type 0 where
  pub validators_are : tips.validators ≡ dag.validators
  pub within : tips.count ≤ count_of dag
  pub endorsed : (n : ℕ) → n < tips.count → KeepsEndorsed (graph dag) (node_at dag n)
  pub forkless : (n : ℕ) → n < tips.count → HasNoNaiveFork (graph dag) (node_at dag n)
  pub tips_are : TipsAre dag tips.count tips.tips
  pub lanes_are : LanesAre dag tips.count tips.lanes
