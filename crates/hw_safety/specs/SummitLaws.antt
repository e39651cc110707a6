-- Laws of summits, standing and decisions: the statements.
use Rattle.std.specs.Prelude.{◌≡◌, ℕ, ◌≤◌, Bool, true, List, sum, ◌↔◌}
use Rattle.hw_types.specs.declared.unit.Obs.{Obs}
use Rattle.hw_types.specs.Graph.{Node, past, lane_of}
use Rattle.hw_types.specs.Below.{Among}
use Rattle.hw_types.specs.Votes.{weight_of, unit_fork, is_ancestor_within}
use Rattle.hw_types.specs.declared.unit.Vertex.{Vertex}
use Rattle.hw_types.specs.declared.config.Config.{Config}
use Rattle.hw_types.specs.Settled.{Received, settled_of, panorama_of, panorama_over}
use Rattle.hw_types.specs.Lawful.{IsLawful, keeps}
use Rattle.hw_types.specs.Journal.{Setting, received_of}
use Rattle.hw_types.specs.Quorum.{IsQuorum}
use Rattle.hw_types.specs.ByName.{IsRising}
use Rattle.hw_types.specs.laws.GraphLaws.{IsAcyclic}
use Rattle.hw_types.specs.Summit.{HasSummit, IsGreatest, Stands}
use Rattle.hw_safety.specs.Pruned.{Starts, seen_in, pruned_committees, has_summit}
use Rattle.hw_types.specs.Decisions.{received_at, StoodAt, AreDecisions}
use Rattle.hw_safety.specs.Decided.{stands, decisions_of, OneBlockEach}

-- Pruning decides whether a summit exists, and then finds the greatest.
abbrev pub PruningFinds : Type 0
PruningFinds = (weights : List ℕ) (units : List Node) (panorama : List Obs) (block : Node) (quorum level : ℕ)
    → (HasSummit weights units panorama block level quorum ↔ (has_summit weights units panorama block level quorum ≡ true))
    × (has_summit weights units panorama block level quorum ≡ true → IsGreatest weights units panorama block level quorum (pruned_committees weights units panorama block quorum))

-- In a lawful graph, the units of a lane that see a quorum are the last ones of the lane.
abbrev pub QuorumIsASuffix : Type 0
QuorumIsASuffix = (weights : List ℕ) (faulty : ℕ → Bool) (units : List Node) → IsLawful weights faulty units
    → (shares : List ℕ) (lower : Starts) (present : List ℕ) (quorum : ℕ) (u x y : Node)
    → Among u units → Among x (lane_of units u) → Among y (lane_of units u) → x.unit.seq ≤ y.unit.seq
    → quorum ≤ seen_in shares (past units x.unit.panorama) lower present → quorum ≤ seen_in shares (past units y.unit.panorama) lower present

-- So it is with what a journal settles.
abbrev pub SettledQuorumIsASuffix : Type 0
SettledQuorumIsASuffix = (s : Setting) (journal : List Vertex) (shares : List ℕ) (lower : Starts) (present : List ℕ) (quorum : ℕ) (u x y : Node)
    → (let units = settled_of s.config (received_of s journal) in
    Among u units → Among x (lane_of units u) → Among y (lane_of units u) → x.unit.seq ≤ y.unit.seq
    → quorum ≤ seen_in shares (past units x.unit.panorama) lower present → quorum ≤ seen_in shares (past units y.unit.panorama) lower present)

-- A block stands exactly where the test says so.
abbrev pub StandingIsATest : Type 0
StandingIsATest = (config : Config) (received : Received) (block : Node) (level quorum : ℕ) → Stands config received block level quorum ↔ (stands config received block level quorum ≡ true)

-- Where no unit is below itself, an ancestor of a block that has a summit has one too, with the same level and quorum.
abbrev pub AncestorsHaveSummits : Type 0
AncestorsHaveSummits = (weights : List ℕ) (units : List Node) → IsRising units → IsAcyclic units
    → (panorama : List Obs) (parents : ℕ) (a b : Node) (level quorum : ℕ) → Among b units
    → is_ancestor_within parents (unit_fork weights units) a b ≡ true
    → HasSummit weights units panorama b level quorum → HasSummit weights units panorama a level quorum

-- So an ancestor of a block that stands in a journal stands too.
abbrev pub AncestorsStand : Type 0
AncestorsStand = (s : Setting) (journal : List Vertex) (parents : ℕ) (a b : Node) (level quorum : ℕ) → Among b (settled_of s.config (received_of s journal))
    → is_ancestor_within parents (unit_fork s.config.weights (settled_of s.config (received_of s journal))) a b ≡ true
    → Stands s.config (received_of s journal) b level quorum → Stands s.config (received_of s journal) a level quorum

-- The decisions that are worked out are those of the definition, where no two blocks of one height stand at one moment.
abbrev pub DecisionsAreFound : Type 0
DecisionsAreFound = (s : Setting) (journal : List Vertex) → OneBlockEach s journal → AreDecisions s journal (decisions_of s journal)

-- By accountable safety, where the faulty of a lawful graph weigh no more than the threshold, a block that has a summit is the fork choice or an ancestor of it,
abbrev pub SummitsAreKept : Type 0
SummitsAreKept = (config : Config) (faulty : ℕ → Bool) (units : List Node) → IsLawful config.weights faulty units → weight_of config.weights faulty ≤ config.ftt
    → (block : Node) (level quorum : ℕ) → 1 ≤ level → IsQuorum (sum config.weights) config.ftt level quorum
    → HasSummit config.weights units (panorama_over config faulty units) block level quorum → keeps config.weights units (panorama_over config faulty units) block ≡ true

-- and so is a block that stands at a moment of a journal while few are faulty.
abbrev pub StandingIsKept : Type 0
StandingIsKept = (s : Setting) (journal : List Vertex) (block : Node) (level quorum at : ℕ) → StoodAt s journal block level quorum at
    → keeps s.config.weights (settled_of s.config (received_at s journal at)) (panorama_of s.config (received_at s journal at)) block ≡ true

-- And so the decisions that are worked out are those of the definition.
abbrev pub SafetyDecides : Type 0
SafetyDecides = (s : Setting) (journal : List Vertex) → AreDecisions s journal (decisions_of s journal)
