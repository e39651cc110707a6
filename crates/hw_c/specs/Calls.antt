-- What each call answers about a node, or about bytes.
-- Source: ours.
use Rattle.std.specs.Prelude.{◌≡◌, ℕ, ◌<◌, ◌≤◌, Bool, List, [], ◌++◌, length, map, take, drop, slice_get, Some, None, Result, Ok, Err}
use Rattle.hw_types.specs.declared.unit.WireUnit.{WireUnit}
use Rattle.hw_types.specs.declared.unit.Vertex.{Vertex}
use Rattle.hw_types.specs.declared.unit.Vertex.TheVariants as vertex
use Rattle.hw_types.specs.declared.config.Config.{Config}
use Rattle.hw_types.specs.declared.answers.Receipt.{Receipt}
use Rattle.hw_types.specs.declared.answers.Decision.{Decision}
use Rattle.hw_types.specs.Graph.{slot}
use Rattle.hw_types.specs.Limits.{config_fault}
use Rattle.hw_types.specs.Reading.{config_of, unit_of, vertex_of}
use Rattle.hw_types.specs.Real.{CoreState, answer_in, after_in, panorama_in, received_in}
use Rattle.hw_types.specs.Spelling.{SpellsVertex}
use Rattle.hw_codec.specs.Decoded.{IsErrorOf}
use Rattle.hw_core.specs.declared.place.Place.{Place}
use Rattle.hw_core.specs.Deliver.{IsRefusal}
use Rattle.hw_core.specs.Decided.{decided_in}
use Rattle.hw_core.specs.Readers.{IsPlace, unmet_in}
use Rattle.hw_c.specs.declared.codes.Fault.{Fault}
use Rattle.hw_c.specs.declared.codes.Fault.TheVariants as fault
use Rattle.hw_c.specs.declared.signed.Signed.{Signed}
use Rattle.hw_c.specs.declared.calls.Summary.{Summary}
use Rattle.hw_c.specs.declared.calls.Observed.{Observed}
use Rattle.hw_c.specs.declared.calls.Placed.{Placed}
use Rattle.hw_c.specs.declared.calls.Decided.{Decided}
use Rattle.hw_c.specs.declared.needs.Missing.{Missing}
use Rattle.hw_explain.specs.Report.{faulty_in}
use Rattle.hw_c.specs.Buffers.{copied}
use Rattle.hw_c.specs.Answers.{signed_of, summary_of, observed_of, placed_of, decided_of, missing_of}

-- the call ran out of memory; it answers no other fault
abbrev pub IsWant : Fault → Type 0
IsWant fault.OutOfMemory = Unit {0}
IsWant f = ⊥

-- ---- about bytes

-- A node of the configuration that the bytes spell, which has received nothing. Or why there is no node.
abbrev pub IsNodeOf : List ℕ → Result CoreState Fault → Type 0
IsNodeOf bytes (Ok core) = (config_of bytes ≡ Ok core.config) × (config_fault core.config ≡ None) × (core.journal ≡ []) × (core.asked ≡ None)
IsNodeOf bytes (Err (fault.Bytes e)) = IsErrorOf (config_of bytes) e
IsNodeOf bytes (Err (fault.Config limit)) = (config : Config) × (config_of bytes ≡ Ok config) × (config_fault config ≡ Some limit)
IsNodeOf bytes (Err f) = IsWant f

-- who signed the vertex that the bytes spell, and which units
abbrev pub IsSigned : List ℕ → Result Signed Fault → Type 0
IsSigned bytes (Ok signed) = (v : Vertex) × (vertex_of bytes ≡ Ok v) × (signed ≡ signed_of v)
IsSigned bytes (Err (fault.Bytes e)) = IsErrorOf (vertex_of bytes) e
IsSigned bytes (Err f) = IsWant f

-- the vertex of the unit that the bytes spell, with this signature
abbrev pub IsWithSignature : List ℕ → List ℕ → Result (List ℕ) Fault → Type 0
IsWithSignature unit signature (Ok bytes) = (u : WireUnit) × (unit_of unit ≡ Ok u) × SpellsVertex bytes (vertex.Unit (record { unit = u; signature = record { 0 = signature } }))
IsWithSignature unit signature (Err (fault.Bytes e)) = IsErrorOf (unit_of unit) e
IsWithSignature unit signature (Err f) = IsWant f

-- the vertex of this validator's endorsement of the unit of this digest, with this signature
abbrev pub IsEndorsement : ℕ → List ℕ → List ℕ → Result (List ℕ) Fault → Type 0
IsEndorsement endorser unit signature (Ok bytes) = SpellsVertex bytes (vertex.Endorsement (record { unit = record { 0 = unit }; endorser = endorser; signature = record { 0 = signature } }))
IsEndorsement endorser unit signature (Err f) = IsWant f

-- ---- about a node

-- The answer to a delivery of a vertex and the node after it, both as the definitions give them. After a refusal the
-- node is as it was.
abbrev pub IsVertexDelivery : CoreState → Vertex → Bool → Result Receipt Fault → CoreState → Type 0
IsVertexDelivery old v verdict (Ok receipt) new = (answer_in old v verdict ≡ Ok receipt) × (new ≡ after_in old v verdict)
IsVertexDelivery old v verdict (Err (fault.Refused cause)) new = IsRefusal cause (answer_in old v verdict) × (new ≡ old)
IsVertexDelivery old v verdict (Err f) new = ⊥

-- The answer to a delivery of bytes and the node after it. Both are as the definitions give them for the vertex that
-- the bytes spell. After a fault the node is as it was.
abbrev pub IsDelivery : CoreState → List ℕ → Bool → Result Receipt Fault → CoreState → Type 0
IsDelivery old bytes verdict (Ok receipt) new = (v : Vertex) × (vertex_of bytes ≡ Ok v) × (answer_in old v verdict ≡ Ok receipt) × (new ≡ after_in old v verdict)
IsDelivery old bytes verdict (Err (fault.Bytes e)) new = IsErrorOf (vertex_of bytes) e × (new ≡ old)
IsDelivery old bytes verdict (Err (fault.Refused cause)) new = (v : Vertex) × (vertex_of bytes ≡ Ok v) × IsRefusal cause (answer_in old v verdict) × (new ≡ old)
IsDelivery old bytes verdict (Err f) new = ⊥

-- the spelling of the journal's entry of that place
abbrev pub IsEntry : CoreState → ℕ → Result (List ℕ) Fault → Type 0
IsEntry c place (Ok bytes) = (v : Vertex) × (slice_get c.journal place ≡ Some v) × SpellsVertex bytes v
IsEntry c place (Err fault.Nothing) = length c.journal ≤ place
IsEntry c place (Err f) = IsWant f

-- the counts of the node, its faulty weight and its fork choice
abbrev pub IsSummary : CoreState → Result Summary Fault → Type 0
IsSummary c (Ok summary) = summary ≡ summary_of c
IsSummary c (Err f) = ⊥

-- what the node observes of the validator
abbrev pub IsObserved : CoreState → ℕ → Result Observed Fault → Type 0
IsObserved c v (Ok observed) = (v < length c.config.weights) × (observed ≡ observed_of (slot (panorama_in c) v))
IsObserved c v (Err fault.OutOfRange) = length c.config.weights ≤ v
IsObserved c v (Err f) = ⊥

-- what became of the unit of this digest
abbrev pub IsPlaced : CoreState → List ℕ → Result Placed Fault → Type 0
IsPlaced c digest (Ok placed) = (place : Place) × IsPlace c (record { 0 = digest }) place × (placed ≡ placed_of place)
IsPlaced c digest (Err f) = ⊥

-- the decided block of that place
abbrev pub IsDecided : CoreState → ℕ → Result Decided Fault → Type 0
IsDecided c index (Ok decided) = (d : Decision) × (slice_get (decided_in c) index ≡ Some d) × (decided ≡ decided_of d)
IsDecided c index (Err fault.Nothing) = length (decided_in c) ≤ index
IsDecided c index (Err f) = ⊥

-- the first needs that parked units miss, as many as fit, and after them what was there before
abbrev pub IsUnmet : CoreState → List Missing → List Missing → Result ℕ Fault → Type 0
IsUnmet c old new (Ok count) = (count ≤ length old) × (new ≡ map missing_of (take (length old) (unmet_in c)) ++ drop count old)
IsUnmet c old new (Err f) = IsWant f × (new ≡ old)

-- The faulty validators, as many as fit, and after them what was there before. The count is that of all of them.
abbrev pub AreFaulty : CoreState → List ℕ → List ℕ → Result ℕ Fault → Type 0
AreFaulty c old new (Ok count) = (count ≡ length (faulty_in c.config (received_in c))) × (new ≡ copied (faulty_in c.config (received_in c)) old)
AreFaulty c old new (Err f) = IsWant f × (new ≡ old)
