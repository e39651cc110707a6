-- Laws of decided blocks by number: the statements.
use Rattle.std.specs.Prelude.{◌≡◌, ℕ, ◌+◌, ◌<◌, ◌≤◌, ◌↔◌, true, List, [], ◌∷◌, ◌++◌, length, Any, Option, Some}
use Rattle.hw_types.specs.declared.config.Config.{Config}
use Rattle.hw_types.specs.declared.unit.Vertex.{Vertex}
use Rattle.hw_types.specs.declared.answers.Decision.{Decision}
use Rattle.hw_types.specs.Graph.{Node}
use Rattle.hw_types.specs.ByName.{IsRising}
use Rattle.hw_types.specs.Below.{Among}
use Rattle.hw_types.specs.laws.GraphLaws.{IsAcyclic}
use Rattle.hw_types.specs.Votes.{is_block, height_of}
use Rattle.hw_types.specs.Settled.{settled_of, panorama_of, faulty_weight}
use Rattle.hw_types.specs.Summit.{Stands}
use Rattle.hw_types.specs.Journal.{Setting, received_of}
use Rattle.hw_types.specs.Decisions.{AreDecisions}
use Rattle.hw_safety.specs.Chain.{IsOnFork, AreOnFork}
use Rattle.hw_safety.specs.Records.{IsRecordAt, AreNewRecords}
use Rattle.hw_dag.specs.declared.numbers.UnitNo.{UnitNo}
use Rattle.hw_dag.specs.declared.numbers.View.{View}
use Rattle.hw_dag.specs.Dag.{UnitGraph, unit_at, count_of, node_at, graph, observations, GrowsTo}
use Rattle.hw_dag.specs.Admission.{IsGraph}
use Rattle.hw_dag.specs.Lanes.{IsAncestorAt, AreWeights}
use Rattle.hw_horizon.specs.declared.found.Found.{Found}
use Rattle.hw_horizon.specs.declared.found.Outcome.{Outcome}
use Rattle.hw_horizon.specs.declared.found.Outcome.TheVariants as outcome
use Rattle.hw_horizon.specs.Detected.{decision_of, decisions_of, IsSearched, IsFoundAt, AreFound, IsOver, HasRun, DetectorState, IsTrueOf}

-- The ancestor of the fork choice that has a height is the block of that height on the way to it.
abbrev pub AncestorIsOnFork : Type 0
AncestorIsOnFork = (config : Config) (dag : UnitGraph) (panorama : List View) (fork : UnitNo) (height block : ℕ) → IsSearched config dag panorama (Some fork) → IsAncestorAt dag fork.0 height block
    → IsOnFork config.weights (graph dag) (observations dag panorama) height (node_at dag block)

-- The height that the graph keeps of a block is the height of the definition.
abbrev pub HeightIsKept : Type 0
HeightIsKept = (weights : List ℕ) (dag : UnitGraph) (n height : ℕ) → IsGraph dag → AreWeights weights dag → n < count_of dag → is_block (node_at dag n) ≡ true → (unit_at dag n).height ≡ Some height
    → height_of weights (graph dag) (node_at dag n) ≡ height

-- A graph is one that a search may go along.
abbrev pub GraphIsSearched : Type 0
GraphIsSearched = (weights : List ℕ) (dag : UnitGraph) → IsGraph dag → AreWeights weights dag → IsRising (graph dag) × IsAcyclic (graph dag)

-- What is found at a height is its record.
abbrev pub FoundIsRecord : Type 0
FoundIsRecord = (config : Config) (dag : UnitGraph) (panorama : List View) (fork : UnitNo) (at height : ℕ) (f : Found) → IsSearched config dag panorama (Some fork) → IsFoundAt config dag panorama fork at height f
    → IsRecordAt config (graph dag) (observations dag panorama) at height (decision_of dag f)

-- A search up the numbers, from the first height without a record on, finds the new records.
abbrev pub SearchByNumberFinds : Type 0
SearchByNumberFinds = (config : Config) (dag : UnitGraph) (panorama : List View) (fork : Option UnitNo) (known : List Decision) (at : ℕ) (fs : List Found) → IsSearched config dag panorama fork
    → AreOnFork config.weights (graph dag) (observations dag panorama) known → AreFound config dag panorama fork at (length known) fs → IsOver config dag panorama fork (length known + length fs)
    → AreNewRecords config (graph dag) (observations dag panorama) known at (decisions_of dag fs)

-- ---- a run, and the journal

-- The graph, the panorama, the faulty weight and the moment are those of the journal.
pub record IsMoment (s : Setting) (journal : List Vertex) (dag : UnitGraph) (panorama : List View) (faulty at : ℕ) : Type 0 where
  pub settled : graph dag ≡ settled_of s.config (received_of s journal)
  pub observed : observations dag panorama ≡ panorama_of s.config (received_of s journal)
  pub weight : faulty ≡ faulty_weight s.config (received_of s journal)
  pub long : at ≡ length journal

-- Where the blocks found before were the decided blocks of a journal, those found now are the decided blocks of it with one vertex more.
abbrev pub DecidesOn : Config → UnitGraph → List View → ℕ → ℕ → List Found → List Found → Type 0
DecidesOn config dag panorama faulty at before after = (s : Setting) (journal : List Vertex) (v : Vertex) → s.config ≡ config → IsMoment s (journal ++ v ∷ []) dag panorama faulty at
    → AreDecisions s journal (decisions_of dag before) → AreDecisions s (journal ++ v ∷ []) (decisions_of dag after)

-- the faulty weigh no more than the threshold, and each block that stands has a record
pub record NoneStandsAnew (s : Setting) (journal : List Vertex) (known : List Decision) : Type 0 where
  pub few : faulty_weight s.config (received_of s journal) ≤ s.config.ftt
  pub has_record : (block : Node) (level quorum : ℕ) → Stands s.config (received_of s journal) block level quorum → Any (λ (d : Decision). d.block ≡ block.digest) known

-- A run over the state after one vertex more decides what is to be decided.
abbrev pub RunDecides : Type 0
RunDecides = (config : Config) (dag : UnitGraph) (panorama : List View) (fork : Option UnitNo) (faulty at : ℕ) (before after : List Found) → IsSearched config dag panorama fork
    → HasRun config dag panorama fork faulty at before after → DecidesOn config dag panorama faulty at before after

-- It answers that there was nothing exactly where no block stands that had no record.
abbrev pub IsNothingNew : Config → UnitGraph → List View → ℕ → ℕ → List Found → Outcome → Type 0
IsNothingNew config dag panorama faulty at before answer = (s : Setting) (journal : List Vertex) (v : Vertex) → s.config ≡ config → IsMoment s (journal ++ v ∷ []) dag panorama faulty at
    → AreDecisions s journal (decisions_of dag before) → ((answer ≡ outcome.Nothing) ↔ NoneStandsAnew s (journal ++ v ∷ []) (decisions_of dag before))

-- ---- while the graph grows

-- What was found means the same in a graph that has grown.
abbrev pub FoundStays : Type 0
FoundStays = (dag later : UnitGraph) (fs : List Found) → GrowsTo dag later → ((f : Found) → Among f fs → f.block.0 < count_of dag) → decisions_of later fs ≡ decisions_of dag fs

-- What a detector keeps stays true.
abbrev pub DetectorStays : Type 0
DetectorStays = (d : DetectorState) (dag later : UnitGraph) → IsGraph dag → IsGraph later → GrowsTo dag later → IsTrueOf d dag → IsTrueOf d later
