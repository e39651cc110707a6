-- Laws of each graph.
use Rattle.std.specs.Prelude.{◌≡◌, ◌≢◌, ℕ, ◌<◌, true, false, ◌⊎◌, List, length, Option, None}
use Rattle.hw_types.specs.Graph.{Node, are_comparable}
use Rattle.hw_types.specs.Lawful.{IsLawful}
use Rattle.hw_dag.specs.declared.numbers.UnitNo.{UnitNo}
use Rattle.hw_dag.specs.declared.numbers.View.TheVariants as view
use Rattle.hw_dag.specs.Dag.{UnitGraph, unit_at, count_of, node_at, graph, creator_of, seq_of, view_at}
use Rattle.std.specs.Option.{option_map}
use Rattle.hw_types.specs.declared.config.Config.{Config}
use Rattle.hw_types.specs.declared.unit.Digest.{Digest}
use Rattle.hw_types.specs.Votes.{fork_of}
use Rattle.hw_types.specs.Rules.{local_rule, state_rule}
use Rattle.hw_dag.specs.Admission.{PreparedUnit, IsGraph, IsReady, KeepsRules, settled_from, with_unit}
use Rattle.hw_dag.specs.Lanes.{is_lane_below, is_seen, VotesAre}

-- Each graph is lawful, for any weights of its validators.
abbrev pub GraphIsLawful : Type 0
GraphIsLawful = (dag : UnitGraph) → IsGraph dag → (weights : List ℕ) → length weights ≡ dag.validators → IsLawful weights (λ v. true) (graph dag)

-- A unit below another of its creator is on its lane.
abbrev pub SeenIsOnLane : Type 0
SeenIsOnLane = (dag : UnitGraph) → IsGraph dag → (low high : ℕ) → low < count_of dag → high < count_of dag
    → creator_of (unit_at dag low) ≡ creator_of (unit_at dag high) → is_seen dag low high ≡ is_lane_below dag low high

-- Two units of one creator that aren't comparable give two different units of it with one sequence number.
abbrev pub ApartIsFork : Type 0
ApartIsFork = (dag : UnitGraph) → IsGraph dag → (m n : ℕ) → m < count_of dag → n < count_of dag
    → creator_of (unit_at dag m) ≡ creator_of (unit_at dag n) → are_comparable (graph dag) (node_at dag m) (node_at dag n) ≡ false
    → (i : ℕ) × (j : ℕ) × (i < count_of dag) × (j < count_of dag) × (i ≢ j) × (creator_of (unit_at dag i) ≡ creator_of (unit_at dag m))
    × (creator_of (unit_at dag j) ≡ creator_of (unit_at dag m)) × (seq_of (unit_at dag i) ≡ seq_of (unit_at dag j))

-- What a unit has strictly below it of a creator lies on the lane of its entry for that creator, or the entry is Faulty.
abbrev pub SeenByEntry : Type 0
SeenByEntry = (dag : UnitGraph) → IsGraph dag → (low high : ℕ) → low < count_of dag → high < count_of dag → low ≢ high → is_seen dag low high ≡ true
    → (view_at (unit_at dag high).panorama (creator_of (unit_at dag low)) ≡ view.Faulty)
    ⊎ ((no : UnitNo) × (view_at (unit_at dag high).panorama (creator_of (unit_at dag low)) ≡ view.Correct no) × (is_lane_below dag low no.0 ≡ true))

-- A unit that breaks neither a rule of the unit alone nor one over the units below it keeps what the graph asks.
abbrev pub RulesAreKept : Type 0
RulesAreKept = (config : Config) (instance : Digest) (dag : UnitGraph) (u : Node) → local_rule config instance u.unit ≡ None → state_rule config (graph dag) u ≡ None → KeepsRules (graph dag) u

-- Where the votes in a graph are those of the definitions, and a unit is given the fork choice of its panorama, they are so after its admission.
abbrev pub VotesStay : Type 0
VotesStay = (dag : UnitGraph) → IsGraph dag → (p : PreparedUnit) (fork : Option UnitNo) → IsReady dag p fork → (weights : List ℕ) → VotesAre weights dag
    → option_map (λ (number : UnitNo). node_at dag number.0) fork ≡ fork_of weights (graph dag) p.signed.unit.panorama → VotesAre weights (with_unit dag (settled_from dag p fork))
