-- Decided blocks by number, and what a detector of them keeps.
use Rattle.std.specs.Prelude.{◌≡◌, ℕ, ◌+◌, ◌<◌, ◌≤◌, List, ◌++◌, length, map, sum, ◌⊎◌, Option, Some, None, IfSome, slice_index_or}
use Rattle.std.specs.Option.{option_map}
use Rattle.hw_types.specs.declared.config.Config.{Config}
use Rattle.hw_types.specs.declared.answers.Decision.{Decision}
use Rattle.hw_types.specs.Below.{Among}
use Rattle.hw_types.specs.Quorum.{IsQuorum}
use Rattle.hw_types.specs.Summit.{HasSummit}
use Rattle.hw_types.specs.Votes.{fork_of}
use Rattle.hw_safety.specs.Chain.{EachNumbered}
use Rattle.hw_dag.specs.declared.numbers.UnitNo.{UnitNo}
use Rattle.hw_dag.specs.declared.numbers.View.{View}
use Rattle.hw_dag.specs.Dag.{UnitGraph, unit_at, count_of, node_at, graph, observations, IsPanorama}
use Rattle.hw_dag.specs.Admission.{IsGraph}
use Rattle.hw_dag.specs.Lanes.{IsAncestorAt, AreWeights}
use Rattle.hw_horizon.specs.Kept.{AskedWalks, AreKept}
use Rattle.hw_horizon.specs.Bounds.{AskedBounds, AreBounds}
use Rattle.hw_horizon.specs.declared.found.Found.{Found}
use Rattle.hw_horizon.specs.declared.found.Outcome.{Outcome}
use Rattle.hw_horizon.specs.declared.found.Outcome.TheVariants as outcome

-- the record of a block that was found
abbrev pub decision_of : UnitGraph → Found → Decision
decision_of dag f = record { block = (unit_at dag f.block.0).digest; height = f.height; level = f.level; quorum = f.quorum; at = f.at }

-- the records of all that was found
abbrev pub decisions_of : UnitGraph → List Found → List Decision
decisions_of dag fs = map (decision_of dag) fs

-- ---- what a search goes along

-- a graph with the votes of a configuration, a panorama of it, and the panorama's fork choice by number
pub record IsSearched (config : Config) (dag : UnitGraph) (panorama : List View) (fork : Option UnitNo) : Type 0 where
  pub graph_is : IsGraph dag
  pub weights_are : AreWeights config.weights dag
  pub panorama_is : IsPanorama dag panorama
  pub known : IfSome fork (λ (no : UnitNo). no.0 < count_of dag)
  pub fork_is : option_map (λ (no : UnitNo). node_at dag no.0) fork ≡ fork_of config.weights (graph dag) (observations dag panorama)

-- there is a summit of the level for the block of this number
abbrev pub HasSummitAt : Config → UnitGraph → List View → ℕ → ℕ → ℕ → Type 0
HasSummitAt config dag panorama block level quorum = HasSummit config.weights (graph dag) (observations dag panorama) (node_at dag block) level quorum

-- at this level, and at no lesser one, there is a summit with the level's quorum
pub record IsLeastLevel (config : Config) (dag : UnitGraph) (panorama : List View) (block level quorum : ℕ) : Type 0 where
  pub low : 1 ≤ level
  pub high : level ≤ config.levels
  pub is_quorum : IsQuorum (sum config.weights) config.ftt level quorum
  pub summit : HasSummitAt config dag panorama block level quorum
  pub least : (lower needed : ℕ) → 1 ≤ lower → lower < level → IsQuorum (sum config.weights) config.ftt lower needed → HasSummitAt config dag panorama block lower needed → ⊥

-- at no level is there one
abbrev pub HasNoLevel : Config → UnitGraph → List View → ℕ → Type 0
HasNoLevel config dag panorama block = (level quorum : ℕ) → 1 ≤ level → level ≤ config.levels → IsQuorum (sum config.weights) config.ftt level quorum → HasSummitAt config dag panorama block level quorum → ⊥

-- the block of this height on the way to the fork choice, found at its least level
pub record IsFoundAt (config : Config) (dag : UnitGraph) (panorama : List View) (fork : UnitNo) (at height : ℕ) (f : Found) : Type 0 where
  pub ancestor : IsAncestorAt dag fork.0 height f.block.0
  pub height_is : f.height ≡ height
  pub stands : IsLeastLevel config dag panorama f.block.0 f.level f.quorum
  pub moment : f.at ≡ at

-- the block of this height on the way to the fork choice has no summit at any level
pub record StandsNot (config : Config) (dag : UnitGraph) (panorama : List View) (fork : UnitNo) (height : ℕ) : Type 0 where
  pub block : ℕ
  pub ancestor : IsAncestorAt dag fork.0 height block
  pub none : HasNoLevel config dag panorama block

-- what was found, one block for each height from this one on
abbrev pub AreFoundFrom : Config → UnitGraph → List View → UnitNo → ℕ → ℕ → List Found → Type 0
AreFoundFrom config dag panorama fork at height fs = EachNumbered (IsFoundAt config dag panorama fork at) height fs

-- where there is no fork choice nothing is found
abbrev pub AreFound : Config → UnitGraph → List View → Option UnitNo → ℕ → ℕ → List Found → Type 0
AreFound config dag panorama None at height fs = length fs ≡ 0
AreFound config dag panorama (Some fork) at height fs = AreFoundFrom config dag panorama fork at height fs

-- the search went up to this height: there is no fork choice, or it is lower, or its ancestor there doesn't stand
abbrev pub IsOver : Config → UnitGraph → List View → Option UnitNo → ℕ → Type 0
IsOver config dag panorama None height = Unit {0}
IsOver config dag panorama (Some fork) height = ((tall : ℕ) × ((unit_at dag fork.0).height ≡ Some tall) × (tall < height)) ⊎ StandsNot config dag panorama fork height

-- The search goes on from the first height that nothing was found of, and puts what it finds last.
pub record HasSearched (config : Config) (dag : UnitGraph) (panorama : List View) (fork : Option UnitNo) (at : ℕ) (before after : List Found) : Type 0 where
  pub fresh : List Found
  pub behind : after ≡ before ++ fresh
  pub found : AreFound config dag panorama fork at (length before) fresh
  pub over : IsOver config dag panorama fork (length after)

-- ---- a detector

-- its configuration, the room for more blocks, the blocks found, in order, and what its search keeps
pub record DetectorState : Type 0 where
  pub config : Config
  pub spare : ℕ
  pub found : List Found
  pub walks : AskedWalks
  pub bounds : AskedBounds

-- the quorum of each level from 1 on
pub record AreQuorums (config : Config) (quorums : List ℕ) : Type 0 where
  pub some : 1 ≤ length quorums
  pub length_is : length quorums ≡ config.levels
  pub each : (k : ℕ) → k < length quorums → IsQuorum (sum config.weights) config.ftt (k + 1) (slice_index_or quorums k 0)

-- what it keeps is true of the graph
pub record IsTrueOf (d : DetectorState) (dag : UnitGraph) : Type 0 where
  pub walks : AreKept dag d.walks
  pub bounds : AreBounds d.config.weights dag d.bounds
  pub known : (f : Found) → Among f d.found → f.block.0 < count_of dag
  pub few : length d.found ≤ count_of dag

-- What a run adds: nothing where the faulty weigh more than the threshold, and else what the search finds.
pub record HasRun (config : Config) (dag : UnitGraph) (panorama : List View) (fork : Option UnitNo) (faulty at : ℕ) (before after : List Found) : Type 0 where
  pub exceeded : config.ftt < faulty → after ≡ before
  pub few : faulty ≤ config.ftt → HasSearched config dag panorama fork at before after

-- what it answers, where so many blocks were added
abbrev pub IsOutcome : ℕ → ℕ → ℕ → Outcome → Type 0
IsOutcome ftt faulty added outcome.Nothing = (faulty ≤ ftt) × (added ≡ 0)
IsOutcome ftt faulty added (outcome.Decided count) = (faulty ≤ ftt) × (0 < count) × (added ≡ count)
IsOutcome ftt faulty added (outcome.Exceeded weight) = (ftt < faulty) × (weight ≡ faulty) × (added ≡ 0)
