-- What an audit reads of two nodes.
use Rattle.std.specs.Prelude.{◌≡◌, ℕ, List, ◌++◌, length}
use Rattle.hw_types.specs.declared.unit.Digest.{Digest}
use Rattle.hw_types.specs.declared.unit.Vertex.{Vertex}
use Rattle.hw_types.specs.declared.config.Config.{Config}
use Rattle.hw_types.specs.declared.answers.Decision.{Decision}
use Rattle.hw_types.specs.Graph.{Node}
use Rattle.hw_types.specs.Settled.{settled_of}
use Rattle.hw_types.specs.Journal.{received_of}
use Rattle.hw_types.specs.Real.{setting_of}
use Rattle.hw_safety.specs.declared.verdict.Verdict.{Verdict}
use Rattle.hw_safety.specs.declared.verdict.Verdict.TheVariants as verdict
use Rattle.hw_safety.specs.Verdicts.{chain_of, IsVerdict}
use Rattle.hw_audit.specs.declared.culprits.Blamed.{Blamed}
use Rattle.hw_audit.specs.Held.{HeldUnit, held_units}
use Rattle.hw_audit.specs.Shown.{ShowsFirst}
use Rattle.hw_audit.specs.First.{ShowsFirstClash}

-- the units of a journal, with those that it settles
abbrev pub units_of : Config → List Vertex → List HeldUnit
units_of config journal = held_units (settled_of config (received_of (setting_of config) journal)) journal

-- the weights, the units of both journals, the left ones first, how many those are, and the two chains
pub record ReadPair : Type 0 where
  pub weights : List ℕ
  pub units : List HeldUnit
  pub middle : ℕ
  pub left_chain : List Digest
  pub right_chain : List Digest

-- this is read of two nodes of the configuration, with these journals and decisions
pub record IsRead (config : Config) (left right : List Vertex) (dl dr : List Decision) (read : ReadPair) : Type 0 where
  pub weights_are : read.weights ≡ config.weights
  pub units_are : read.units ≡ units_of config left ++ units_of config right
  pub middle_is : read.middle ≡ length (units_of config left)
  pub left_is : read.left_chain ≡ chain_of dl
  pub right_is : read.right_chain ≡ chain_of dr

-- a conflict at this height, which blames all who equivocated
pub record IsConflict (units : List HeldUnit) (nodes : List Node) (weights : List ℕ) (height : ℕ) (left right : Digest) (v : Verdict) : Type 0 where
  pub blamed : Blamed
  pub shows : ShowsFirst units nodes weights (length weights) blamed
  pub is : v ≡ verdict.Conflict height left right blamed.culprits blamed.weight

-- the verdict on two journals and their decisions, and a clash is the first one
pub record IsAnswer (config : Config) (left right : List Vertex) (dl dr : List Decision) (v : Verdict) : Type 0 where
  pub is_verdict : IsVerdict (setting_of config) left right dl dr v
  pub shows_first : ShowsFirstClash (setting_of config) left right v
