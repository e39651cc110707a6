-- The laws of what is kept, and of which questions need be asked.
use Rattle.std.specs.Prelude.{◌≡◌, ℕ, ◌<◌, ◌≤◌, true, nat_le, List, length, Some}
use Rattle.hw_types.specs.declared.unit.Obs.{Obs}
use Rattle.hw_types.specs.Graph.{Node, is_consistent}
use Rattle.hw_types.specs.Votes.{weight_of}
use Rattle.hw_types.specs.Summit.{HasSummit}
use Rattle.hw_dag.specs.declared.numbers.UnitNo.{UnitNo}
use Rattle.hw_dag.specs.declared.numbers.View.{View}
use Rattle.hw_dag.specs.Dag.{UnitGraph, count_of, node_at, graph, observations, IsPanorama, GrowsTo}
use Rattle.hw_dag.specs.Lanes.{AreWeights}
use Rattle.hw_dag.specs.Admission.{IsGraph}
use Rattle.hw_horizon.specs.Kept.{AskedWalks, AreKept}
use Rattle.hw_horizon.specs.Bounds.{AskedBounds, bound_of, support_of, AreBounds, AreTips}
use Rattle.hw_horizon.specs.Firsts.{weight_after}

-- What is kept of a graph stays true while it grows.
abbrev pub WalksStay : Type 0
WalksStay = (dag later : UnitGraph) → IsGraph dag → IsGraph later → GrowsTo dag later → (kept : AskedWalks) → AreKept dag kept → AreKept later kept

-- A summit has in it one of each lesser level and quorum. So where the least quorum gives none of some level, no level from there on has one.
abbrev pub LesserSummits : Type 0
LesserSummits = (weights : List ℕ) (units : List Node) (panorama : List Obs) (block : Node) (level quorum lower less : ℕ) → lower ≤ level → less ≤ quorum
    → HasSummit weights units panorama block level quorum → HasSummit weights units panorama block lower less

-- Where those whose latest unit may see a quorum at some lesser level weigh less than one, there is no summit.
abbrev pub BoundsRuleOut : Type 0
BoundsRuleOut = (weights : List ℕ) (dag : UnitGraph) (panorama : List View) (kept : AskedBounds) (block : UnitNo) (j level quorum : ℕ) → IsGraph dag → AreWeights weights dag → IsPanorama dag panorama
    → is_consistent (graph dag) (observations dag panorama) ≡ true → AreBounds weights dag kept → AreTips panorama kept → kept.block ≡ Some block → block.0 < count_of dag → kept.least ≤ quorum
    → j < level → j < length kept.levels → weight_of weights (λ v. nat_le quorum (support_of (bound_of kept.levels j) v)) < quorum
    → HasSummit weights (graph dag) (observations dag panorama) (node_at dag block.0) level quorum → ⊥

-- What is kept of a graph to say so stays true while it grows.
abbrev pub BoundsStay : Type 0
BoundsStay = (weights : List ℕ) (dag later : UnitGraph) (kept : AskedBounds) → IsGraph dag → IsGraph later → GrowsTo dag later → AreBounds weights dag kept → AreBounds weights later kept

-- What a unit sees of a committee, by numbers of units, stays the same while the graph grows.
abbrev pub SumsStay : Type 0
SumsStay = (dag later : UnitGraph) → GrowsTo dag later → (weights firsts : List ℕ) (n : ℕ) → n < count_of dag → weight_after weights later firsts n ≡ weight_after weights dag firsts n
