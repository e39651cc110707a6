-- The eras of a node, as contracts see them: its configuration and its journal in each.
-- Source: ours.
use Rattle.std.specs.Prelude.{◌≡◌, ℕ, ◌-◌, ◌≤◌, Bool, true, List, [], ◌∷◌, ◌++◌, length, map, slice_get, slice_set, Option, Some, Ok}
use Rattle.std.specs.Option.{option_map}
use Rattle.hw_types.specs.declared.unit.Vertex.{Vertex}
use Rattle.hw_types.specs.declared.config.Config.{Config}
use Rattle.hw_types.specs.declared.answers.Decision.{Decision}
use Rattle.hw_types.specs.declared.answers.Receipt.{Receipt}
use Rattle.hw_types.specs.Below.{Among}
use Rattle.hw_types.specs.Spelling.{digest_of, instance_of}
use Rattle.hw_types.specs.Real.{CoreState, setting_of, answer_in, after_in}
use Rattle.hw_types.specs.declared.unit.Digest.{Digest}
use Rattle.hw_types.specs.Graph.{Node}
use Rattle.hw_core.specs.Decided.{decided_in}
use Rattle.hw_core.specs.Deliver.{IsRefusal}
use Rattle.hw_core.specs.Promises.{begun}
use Rattle.hw_eras.specs.declared.answers.EraCause.{EraCause}
use Rattle.hw_eras.specs.declared.answers.EraCause.TheVariants as era_cause
use Rattle.hw_eras.specs.Eras.{Naming, Era, journal_in, last_block, config_after}

-- ---- the era of one node

-- names by SHA-256, as a node has them
abbrev pub real : Naming
real = record { instance = instance_of; name = digest_of }

-- what came in an era, and what was decided in it, as its node has them
abbrev pub era_of : CoreState → Era
era_of c = record { deliveries = map (λ v. (v, true)) c.journal; decisions = decided_in c }

-- the vertices of the journal, delivered again, make it again
abbrev pub IsMadeAgain : CoreState → Type 0
IsMadeAgain c = journal_in (setting_of c.config) (era_of c) ≡ c.journal

-- the configuration after the era of this node, once its last block is decided
abbrev pub next_of : CoreState → Option Config
next_of c = config_after (setting_of c.config) (era_of c)

-- the era has no end, or no block of that height is decided in it
abbrev pub IsUnended : CoreState → Type 0
IsUnended c = (end : ℕ) (d : Decision) → c.config.end ≡ Some end → Among d (decided_in c) → d.height ≡ end → ⊥

-- this is the name of the era's last block
abbrev pub IsLastBlock : CoreState → Digest → Type 0
IsLastBlock c block = (b : Node) × (last_block (setting_of c.config) (era_of c) ≡ Some b) × (b.digest ≡ block)

-- ---- the eras of a node

-- The nodes of eras, one after the other, from the one with this configuration on: each next one has the configuration that the
-- last block of the one before named.
abbrev pub AreErasFrom : Option Config → List CoreState → Type 0
AreErasFrom next [] = Unit {0}
AreErasFrom next (c ∷ cs) = (next ≡ Some c.config) × IsMadeAgain c × AreErasFrom (next_of c) cs

-- the configuration of era 0
abbrev pub first_config : List CoreState → Option Config
first_config cores = option_map (λ (c : CoreState). c.config) (slice_get cores 0)

-- the node of the last era
abbrev pub last_core : List CoreState → Option CoreState
last_core cores = slice_get cores (length cores - 1)

-- the nodes of one to 64 eras
pub record AreNodeEras (cores : List CoreState) : Type 0 where
  pub some : 1 ≤ length cores
  pub few : length cores ≤ 64
  pub eras : AreErasFrom (first_config cores) cores

-- ---- what calls do

-- the era's node took the vertex with this receipt, and the other eras are as they were
pub record HasDelivered (before after : List CoreState) (era : ℕ) (v : Vertex) (verdict : Bool) (receipt : Receipt) : Type 0 where
  pub core : CoreState
  pub its : slice_get before era ≡ Some core
  pub answer : answer_in core v verdict ≡ Ok receipt
  pub left : after ≡ slice_set before era (after_in core v verdict)

-- the cause is that there is no such era, or that of its node
abbrev pub IsEraRefusal : List CoreState → ℕ → Vertex → Bool → EraCause → Type 0
IsEraRefusal cores era v verdict era_cause.UnknownEra = length cores ≤ era
IsEraRefusal cores era v verdict (era_cause.Core cause) = (core : CoreState) × (slice_get cores era ≡ Some core) × IsRefusal cause (answer_in core v verdict)

-- the last era has no end, or no block of that height is decided in it
abbrev pub IsLastUnended : List CoreState → Type 0
IsLastUnended cores = (core : CoreState) → last_core cores ≡ Some core → IsUnended core

-- the last era has a last block, and 64 eras are there
abbrev pub IsFull : List CoreState → Type 0
IsFull cores = (IsLastUnended cores → ⊥) × (length cores ≡ 64)

-- the next era is there, of this number: the last block of the last era named its configuration, and nothing came in it
pub record HasOpened (before after : List CoreState) (number : ℕ) : Type 0 where
  pub core : CoreState
  pub last : last_core before ≡ Some core
  pub config : Config
  pub named : next_of core ≡ Some config
  pub number_is : number ≡ length before
  pub left : after ≡ before ++ begun config ∷ []
