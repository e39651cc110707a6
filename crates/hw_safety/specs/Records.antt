-- What one more vertex adds to the decided blocks.
use Rattle.std.specs.Prelude.{◌≡◌, ℕ, ◌<◌, ◌≤◌, true, List, [], length, sum, Any, Some, None}
use Rattle.std.specs.List.{AllAdjacentBelow}
use Rattle.hw_types.specs.declared.unit.Obs.{Obs}
use Rattle.hw_types.specs.declared.config.Config.{Config}
use Rattle.hw_types.specs.declared.answers.Decision.{Decision}
use Rattle.hw_types.specs.Graph.{Node}
use Rattle.hw_types.specs.Below.{Among}
use Rattle.hw_types.specs.Votes.{height_of, fork_of}
use Rattle.hw_types.specs.Quorum.{IsQuorum}
use Rattle.hw_types.specs.Summit.{HasSummit}
use Rattle.hw_types.specs.Lawful.{keeps}
use Rattle.hw_safety.specs.Chain.{EachNumbered, IsOnFork}

-- the block stands at this level, with this quorum, where these are the settled units and the panorama
pub record StandsOver (config : Config) (units : List Node) (panorama : List Obs) (block : Node) (level quorum : ℕ) : Type 0 where
  pub low : 1 ≤ level
  pub high : level ≤ config.levels
  pub is_quorum : IsQuorum (sum config.weights) config.ftt level quorum
  pub summit : HasSummit config.weights units panorama block level quorum

-- a record of the block: it stands, at no lesser level, and this is the moment
pub record IsRecordOf (config : Config) (units : List Node) (panorama : List Obs) (at : ℕ) (block : Node) (d : Decision) : Type 0 where
  pub named : d.block ≡ block.digest
  pub height_is : d.height ≡ height_of config.weights units block
  pub stands : StandsOver config units panorama block d.level d.quorum
  pub least_level : (level quorum : ℕ) → StandsOver config units panorama block level quorum → d.level ≤ level
  pub moment : d.at ≡ at

-- the block has no record among these
abbrev pub HasNoRecord : List Decision → Node → Type 0
HasNoRecord known block = (d : Decision) → Among d known → d.block ≡ block.digest → ⊥

-- a record of a block that is the fork choice or an ancestor of it, and had none
pub record IsNewRecord (config : Config) (units : List Node) (panorama : List Obs) (known : List Decision) (at : ℕ) (d : Decision) : Type 0 where
  pub block : Node
  pub inside : Among block units
  pub kept : keeps config.weights units panorama block ≡ true
  pub unknown : HasNoRecord known block
  pub record_is : IsRecordOf config units panorama at block d

-- By rising height, a record of each block that stands, is the fork choice or an ancestor of it, and had none.
pub record AreNewRecords (config : Config) (units : List Node) (panorama : List Obs) (known : List Decision) (at : ℕ) (fresh : List Decision) : Type 0 where
  pub each : (d : Decision) → Among d fresh → IsNewRecord config units panorama known at d
  pub rising : AllAdjacentBelow (λ (d : Decision) (e : Decision). d.height < e.height) fresh (length fresh)
  pub complete : (block : Node) (level quorum : ℕ) → Among block units → keeps config.weights units panorama block ≡ true → HasNoRecord known block
      → StandsOver config units panorama block level quorum → Any (λ (d : Decision). d.block ≡ block.digest) fresh

-- What a detector adds at a moment: nothing where the faulty weigh more than the threshold, and else the new records.
pub record AddsRecords (config : Config) (units : List Node) (panorama : List Obs) (faulty : ℕ) (known : List Decision) (at : ℕ) (fresh : List Decision) : Type 0 where
  pub exceeded : config.ftt < faulty → fresh ≡ []
  pub few : faulty ≤ config.ftt → AreNewRecords config units panorama known at fresh

-- ---- how a search along the fork choice finds them

-- a record of the block that has this height on the way to the fork choice
pub record IsRecordAt (config : Config) (units : List Node) (panorama : List Obs) (at height : ℕ) (d : Decision) : Type 0 where
  pub block : Node
  pub on_fork : IsOnFork config.weights units panorama height block
  pub record_is : IsRecordOf config units panorama at block d

-- records of blocks on the way to the fork choice, one for each height from this one on
abbrev pub AreRecordsFrom : Config → List Node → List Obs → ℕ → ℕ → List Decision → Type 0
AreRecordsFrom config units panorama at height ds = EachNumbered (IsRecordAt config units panorama at) height ds

-- no block of that height on the way to the fork choice stands
abbrev pub NoneStandsAt : Config → List Node → List Obs → ℕ → Type 0
NoneStandsAt config units panorama height = (block : Node) (level quorum : ℕ) → IsOnFork config.weights units panorama height block → StandsOver config units panorama block level quorum → ⊥

-- where a search along the fork choice may end
pub record MayEnd (config : Config) (units : List Node) (panorama : List Obs) : Type 0 where
  -- at a block that doesn't stand
  pub at_block : (height : ℕ) (block : Node) → IsOnFork config.weights units panorama height block
      → ((level quorum : ℕ) → StandsOver config units panorama block level quorum → ⊥) → NoneStandsAt config units panorama height
  -- above the fork choice, or where there is none
  pub above : (fork : Node) (height : ℕ) → fork_of config.weights units panorama ≡ Some fork → height_of config.weights units fork < height → NoneStandsAt config units panorama height
  pub no_fork : (height : ℕ) → fork_of config.weights units panorama ≡ None → NoneStandsAt config units panorama height
