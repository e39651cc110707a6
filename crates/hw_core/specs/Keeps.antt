-- What a node keeps beside its journal, and how it stands to the journal.
use Rattle.std.specs.Prelude.{◌≡◌, ◌≢◌, ℕ, ◌<◌, ◌≤◌, List, [], ◌∷◌, ◌++◌, length, Option, Some, None, IfSome, map, filter_map, slice_get}
use Rattle.std.specs.Option.{option_map}
use Rattle.std.specs.Map.{keys_of, lookup}
use Rattle.hw_types.specs.declared.unit.Digest.{Digest}
use Rattle.hw_types.specs.declared.unit.SignedUnit.{SignedUnit}
use Rattle.hw_types.specs.declared.unit.Vertex.{Vertex}
use Rattle.hw_types.specs.declared.unit.Vertex.TheVariants as vertex
use Rattle.hw_types.specs.declared.answers.Rule.{Rule}
use Rattle.hw_types.specs.Graph.{Node, digest_eq}
use Rattle.hw_types.specs.Below.{Among}
use Rattle.hw_types.specs.Spelling.{instance_of, VertexFits}
use Rattle.hw_safety.specs.Safety.{HasPairs}
use Rattle.hw_types.specs.Rules.{state_rule}
use Rattle.hw_types.specs.Settled.{Received, has_evidence, settled_of, parked_of, dropped_of}
use Rattle.hw_types.specs.laws.StateLaws.{HasSame, NamesApart, units_in, candidates}
use Rattle.hw_types.specs.Journal.{Setting, named, received_of}
use Rattle.hw_types.specs.Real.{setting_of}
use Rattle.hw_types.specs.Votes.{fork_of}
use Rattle.hw_dag.specs.declared.numbers.UnitNo.{UnitNo}
use Rattle.hw_dag.specs.Dag.{graph, count_of, node_at, observations}
use Rattle.hw_dag.specs.Admission.{PreparedUnit}
use Rattle.hw_admit.specs.State.{NodeState, is_marked}
use Rattle.hw_park.specs.Parked.{Waiting, Parked}
use Rattle.hw_core.specs.Order.{settling_order}
use Rattle.hw_core.specs.Readers.{signed_unit}
use Rattle.hw_core.specs.Settle.{CanSettle, IsPart, IsOnce, admitted_in, waiting_nodes, rule_in}
use Rattle.hw_core.specs.Deliver.{HasCome}
use Rattle.hw_core.specs.Decided.{DecidedState, IsDecided}
use Rattle.hw_core.specs.Shown.{ShownState, IsShown}

-- the state knows of evidence and endorsements what was received
pub record KnowsOf (received : Received) (state : NodeState) : Type 0 where
  pub evidence : (v : ℕ) → is_marked state.marked v ≡ has_evidence received.with_evidence v
  pub endorsements : state.pairs ≡ received.endorsements

-- The settled units are those of the journal, in the order in which they settled, and its parked units wait for what they miss, in the
-- order of the journal.
pub record IsOf (s : Setting) (journal : List Vertex) (state : NodeState) (waiting : List (Waiting PreparedUnit)) : Type 0 where
  pub config : state.config ≡ s.config
  pub settled : graph state.dag ≡ settled_of s.config (received_of s journal)
  pub knows : KnowsOf (received_of s journal) state
  pub can : CanSettle state waiting
  pub parked : HasSame (waiting_nodes waiting) (parked_of s.config (received_of s journal))
  pub order : IsPart (waiting_nodes waiting) (units_in s journal)
  pub once : IsOnce (units_in s journal)
  pub in_order : admitted_in state ≡ settling_order s journal

-- The state knows what one vertex more says, and all that may settle now waits.
pub record HasTaken (s : Setting) (journal : List Vertex) (v : Vertex) (state : NodeState) (waiting : List (Waiting PreparedUnit)) : Type 0 where
  pub config : state.config ≡ s.config
  pub settled : graph state.dag ≡ settled_of s.config (received_of s journal)
  pub knows : KnowsOf (received_of s (journal ++ v ∷ [])) state
  pub waits : HasSame (waiting_nodes waiting) (candidates s journal v)
  pub order : IsPart (waiting_nodes waiting) (units_in s (journal ++ v ∷ []))
  pub once : IsOnce (units_in s (journal ++ v ∷ []))
  pub in_order : admitted_in state ≡ settling_order s journal

-- A journal within its bound that deliveries made, whose names are apart, with what is kept beside it.
pub record IsNode (journal : List Vertex) (park : Parked PreparedUnit) (state : NodeState) : Type 0 where
  pub bounded : length journal ≤ state.config.max_records
  pub limit : park.limit ≡ state.config.max_parked
  pub apart : NamesApart (units_in (setting_of state.config) journal)
  pub come : HasCome state.config journal
  pub is_of : IsOf (setting_of state.config) journal state park.waiting

-- The table has the place of each unit of the journal by its name, and no other name. Its names stand in the journal's order.
pub record IsTable (s : Setting) (journal : List Vertex) (names : List (Digest × ℕ)) : Type 0 where
  pub known : (d : Digest) (n : ℕ) → lookup (digest_eq d) names ≡ Some n → (u : SignedUnit) × (slice_get journal n ≡ Some (vertex.Unit u)) × (s.name u.unit ≡ d) × Among (named s u.unit) (units_in s journal)
  pub unknown : (d : Digest) → lookup (digest_eq d) names ≡ None → (x : Node) → Among x (units_in s journal) → x.digest ≢ d
  pub placed : (n : ℕ) (u : SignedUnit) → slice_get journal n ≡ Some (vertex.Unit u) → lookup (digest_eq (s.name u.unit)) names ≡ Some n
  pub ordered : keys_of names ≡ map (λ u. s.name u.unit) (filter_map signed_unit journal)

-- The table has the rule of each dropped unit of the journal by its name, and no other name.
pub record AreRules (s : Setting) (journal : List Vertex) (rules : List (Digest × Rule)) : Type 0 where
  pub known : (d : Digest) (rule : Rule) → rule_in rules d ≡ Some rule
      → (x : Node) × Among x (dropped_of s.config (received_of s journal)) × (x.digest ≡ d) × (state_rule s.config (settled_of s.config (received_of s journal)) x ≡ Some rule)
  pub all : (x : Node) → Among x (dropped_of s.config (received_of s journal)) → (rule : Rule) × (rule_in rules x.digest ≡ Some rule)

-- the number is that of the fork choice of the state's panorama
pub record IsChoice (state : NodeState) (fork : Option UnitNo) : Type 0 where
  pub choice : option_map (λ (no : UnitNo). node_at state.dag no.0) fork ≡ fork_of state.config.weights (graph state.dag) (observations state.dag state.panorama)
  pub known : IfSome fork (λ no. no.0 < count_of state.dag)

-- what a node finds by name: the place of each unit of its journal, and the rule that each dropped unit breaks, with room for so many
pub record NamedTables : Type 0 where
  pub names : List (Digest × ℕ)
  pub rules : List (Digest × Rule)
  pub room : ℕ

-- what a node works out of its state: its fork choice, its decisions, and the summit that was asked for last
pub record WorkedOut : Type 0 where
  pub fork : Option UnitNo
  pub decided : DecidedState
  pub shown : ShownState

-- What a node keeps stands to its journal as the definitions say, and there is room for the rule of each unit that waits.
pub record IsKept (instance : Digest) (journal : List Vertex) (park : Parked PreparedUnit) (state : NodeState) (tables : NamedTables) (worked : WorkedOut) : Type 0 where
  pub instance_is : instance ≡ instance_of state.config
  pub table : IsTable (setting_of state.config) journal tables.names
  pub rules_are : AreRules (setting_of state.config) journal tables.rules
  pub places : length park.waiting ≤ tables.room
  pub fit : (v : Vertex) → Among v journal → VertexFits v
  pub pairs : HasPairs (setting_of state.config) journal
  pub node : IsNode journal park state
  pub fork_is : IsChoice state worked.fork
  pub decided_is : IsDecided (setting_of state.config) journal state (length park.waiting) worked.decided
  pub shown_is : IsShown (record { config = state.config; journal = journal; asked = worked.shown.asked }) state worked.shown
