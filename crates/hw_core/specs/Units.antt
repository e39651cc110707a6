-- A unit that is delivered.
use Rattle.std.specs.Prelude.{◌≡◌, ◌≢◌, ℕ, ◌+◌, ◌≤◌, false, nat_le, List, [], ◌∷◌, ◌++◌, length, None, Ok}
use Rattle.hw_types.specs.declared.answers.Receipt.{Receipt}
use Rattle.hw_types.specs.declared.answers.Receipt.TheVariants as receipt_of
use Rattle.hw_types.specs.declared.answers.Rule.{Rule}
use Rattle.hw_types.specs.declared.unit.Digest.{Digest}
use Rattle.hw_types.specs.declared.unit.SignedUnit.{SignedUnit}
use Rattle.hw_types.specs.declared.unit.Vertex.{Vertex}
use Rattle.hw_types.specs.declared.unit.Vertex.TheVariants as vertex
use Rattle.hw_types.specs.declared.config.Config.{Config}
use Rattle.hw_types.specs.Graph.{Node}
use Rattle.hw_types.specs.Below.{Among}
use Rattle.hw_types.specs.Rules.{local_rule}
use Rattle.hw_types.specs.Spelling.{digest_of, instance_of}
use Rattle.hw_types.specs.laws.StateLaws.{units_in}
use Rattle.hw_types.specs.Journal.{refusal, is_repeat}
use Rattle.hw_types.specs.Real.{setting_of}
use Rattle.hw_dag.specs.Dag.{GrowsTo, graph}
use Rattle.hw_dag.specs.Admission.{PreparedUnit}
use Rattle.hw_admit.specs.State.{NodeState}
use Rattle.hw_park.specs.Parked.{Parked}
use Rattle.hw_core.specs.Settle.{HasMoreRoom}
use Rattle.hw_core.specs.Keeps.{IsNode, AreRules}
use Rattle.hw_core.specs.Deliver.{answer_to, IsTaken}

-- The unit passes all tests but that of the park, and this is its name.
pub record IsNewUnit (config : Config) (journal : List Vertex) (unit : SignedUnit) (name : Digest) : Type 0 where
  pub name_is : name ≡ digest_of unit.unit
  pub local : local_rule config (instance_of config) unit.unit ≡ None
  pub fresh : (x : Node) → Among x (units_in (setting_of config) journal) → x.digest ≢ name
  pub not_refused : refusal (setting_of config) journal (vertex.Unit unit) ≡ None
  pub not_repeat : is_repeat (setting_of config) journal (vertex.Unit unit) ≡ false
  pub room : nat_le config.max_records (length journal) ≡ false

-- The new unit has its place, and this is the answer: it settled with those that it freed, or was dropped, or waits. Where it
-- didn't settle, of the state at most the room changed.
pub record IsPlaced (s : NodeState) (waiting : ℕ) (journal : List Vertex) (unit : SignedUnit) (later : NodeState) (after : Parked PreparedUnit) (rules : List (Digest × Rule)) (receipt : Receipt) : Type 0 where
  pub node : IsNode (journal ++ vertex.Unit unit ∷ []) after later
  pub rules_are : AreRules (setting_of s.config) (journal ++ vertex.Unit unit ∷ []) rules
  pub config : later.config ≡ s.config
  pub grows : GrowsTo s.dag later.dag
  pub still : ((n : ℕ) → receipt ≢ receipt_of.Admitted n) → HasMoreRoom s later
  pub room : length (graph later.dag) + length after.waiting ≤ length (graph s.dag) + (waiting + 1)
  pub taken : IsTaken s.config journal (vertex.Unit unit)
  pub answer : answer_to s.config journal (vertex.Unit unit) ≡ Ok receipt
