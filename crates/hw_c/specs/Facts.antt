-- What a unit says, and what a node has worked out about it.
-- Source: ours.
use Rattle.std.specs.Prelude.{◌≡◌, ℕ, List, [], length, map, is_some, Option, Some, None, Result, Ok, Err, if◌then◌else◌}
use Rattle.std.specs.Option.{option_map}
use Rattle.hw_types.specs.declared.config.Config.{Config}
use Rattle.hw_types.specs.declared.unit.Digest.{Digest}
use Rattle.hw_types.specs.declared.unit.SignedUnit.{SignedUnit}
use Rattle.hw_types.specs.declared.unit.Vertex.{Vertex}
use Rattle.hw_types.specs.declared.unit.Vertex.TheVariants as vertex
use Rattle.hw_types.specs.declared.unit.WireUnit.{WireUnit}
use Rattle.hw_types.specs.Graph.{Node}
use Rattle.hw_types.specs.Reading.{vertex_of}
use Rattle.hw_types.specs.Real.{CoreState, settled_in}
use Rattle.hw_types.specs.Rounds.{round_id, leader_of}
use Rattle.hw_types.specs.Spelling.{digest_of}
use Rattle.hw_types.specs.Votes.{is_block, vote_of, unit_fork, height_of}
use Rattle.hw_codec.specs.Decoded.{IsErrorOf}
use Rattle.hw_core.specs.declared.place.Place.{Place}
use Rattle.hw_core.specs.declared.place.Place.TheVariants as place
use Rattle.hw_core.specs.Readers.{IsPlace, unit_in, node_in}
use Rattle.hw_c.specs.declared.codes.Fault.{Fault}
use Rattle.hw_c.specs.declared.codes.Fault.TheVariants as fault
use Rattle.hw_c.specs.declared.calls.Observed.{Observed}
use Rattle.hw_c.specs.declared.facts.UnitFacts.{UnitFacts}
use Rattle.hw_c.specs.declared.put.WithBytes.{WithBytes}
use Rattle.hw_c.specs.Answers.{flag, digest_bytes, observed_of}
use Rattle.hw_c.specs.Buffers.{copied}
use Rattle.hw_c.specs.Calls.{IsWant}
use Rattle.hw_c.specs.Told.{zeros}

-- the bytes of a unit's value: none where it has no value
abbrev pub value_bytes : WireUnit → List ℕ
value_bytes u = elim u.value [ None ↦ [] | Some value ↦ value ]

-- what a unit of this name says, with the round of its time and exponent, and the leader of that
abbrev pub said_of : Config → WireUnit → Digest → UnitFacts
said_of config u name = record {
  creator = u.creator;
  exponent = u.exponent;
  leader = leader_of config (round_id u.time u.exponent);
  place = 0;
  is_block = flag (is_some u.value);
  has_parent = 0;
  has_vote = 0;
  endorsed = length u.endorsed;
  seq = u.seq;
  time = u.time;
  round = round_id u.time u.exponent;
  height = 0;
  length = length (value_bytes u);
  digest = name.0;
  parent = zeros;
  vote = zeros;
}

-- the digest of a unit, where there is one
abbrev pub name_bytes : Option Node → List ℕ
name_bytes x = digest_bytes (option_map (λ (u : Node). u.digest) x)

-- the block that a settled block stands on
abbrev pub parent_in : CoreState → Node → Option Node
parent_in c x = if is_block x then unit_fork c.config.weights (settled_in c) x else None

-- the block that a settled unit votes for
abbrev pub vote_in : CoreState → Node → Option Node
vote_in c x = vote_of (unit_fork c.config.weights (settled_in c)) x

-- how many blocks are below a settled block on its chain; 0 for another unit
abbrev pub height_in : CoreState → Node → ℕ
height_in c x = if is_block x then height_of c.config.weights (settled_in c) x else 0

-- the digest is that of the unit's vote, or of its parent, where it has one
abbrev pub IsVoteOf : CoreState → Node → Digest → Type 0
IsVoteOf c x d = Some d ≡ option_map (λ (u : Node). u.digest) (vote_in c x)

abbrev pub IsParentOf : CoreState → Node → Option Digest → Type 0
IsParentOf c x d = d ≡ option_map (λ (u : Node). u.digest) (parent_in c x)

-- what the unit says, with its vote, and its parent and height where it is a block
abbrev pub settled_facts : CoreState → Node → UnitFacts → UnitFacts
settled_facts c x said = record said {
  place = 1;
  has_vote = flag (is_some (vote_in c x));
  vote = name_bytes (vote_in c x);
  has_parent = flag (is_some (parent_in c x));
  parent = name_bytes (parent_in c x);
  height = height_in c x;
}

-- what the journal's unit of this name is, by what became of it: 1 settled, 2 parked, 3 dropped
abbrev pub facts_in : CoreState → Digest → SignedUnit → Place → UnitFacts
facts_in c d u (place.Settled number) = settled_facts c (node_in c u) (said_of c.config u.unit d)
facts_in c d u (place.Parked missing) = record (said_of c.config u.unit d) { place = 2 }
facts_in c d u (place.Dropped rule) = record (said_of c.config u.unit d) { place = 3 }
facts_in c d u place.Unknown = said_of c.config u.unit d

-- what the unit observes of each validator: as many as fit, and after them what was there before
abbrev pub IsObservedBy : WireUnit → List Observed → List Observed → Type 0
IsObservedBy u old new = new ≡ copied (map observed_of u.panorama) old

-- The journal's unit of this digest: what it is, its value, and what it observes. After a fault nothing has changed.
abbrev pub IsUnitFacts : CoreState → List ℕ → List Observed → List Observed → Result (WithBytes UnitFacts) Fault → Type 0
IsUnitFacts c digest old new (Ok both) =
    (u : SignedUnit) × (became : Place) × (unit_in c (record { 0 = digest }) ≡ Some u) × IsPlace c (record { 0 = digest }) became
    × (both.value ≡ facts_in c (record { 0 = digest }) u became) × (both.bytes ≡ value_bytes u.unit) × IsObservedBy u.unit old new
IsUnitFacts c digest old new (Err fault.Nothing) = (unit_in c (record { 0 = digest }) ≡ None) × (new ≡ old)
IsUnitFacts c digest old new (Err f) = IsWant f × (new ≡ old)

-- The unit of the vertex that the bytes spell: what it says in this configuration, its value, and what it observes.
abbrev pub IsSpelledFacts : Config → List ℕ → List Observed → List Observed → Result (WithBytes UnitFacts) Fault → Type 0
IsSpelledFacts config bytes old new (Ok both) =
    (u : SignedUnit) × (vertex_of bytes ≡ Ok (vertex.Unit u))
    × (both.value ≡ said_of config u.unit (digest_of u.unit)) × (both.bytes ≡ value_bytes u.unit) × IsObservedBy u.unit old new
IsSpelledFacts config bytes old new (Err fault.Nothing) = (v : Vertex) × (vertex_of bytes ≡ Ok v) × ((u : SignedUnit) → v ≡ vertex.Unit u → ⊥) × (new ≡ old)
IsSpelledFacts config bytes old new (Err (fault.Bytes e)) = IsErrorOf (vertex_of bytes) e × (new ≡ old)
IsSpelledFacts config bytes old new (Err f) = IsWant f × (new ≡ old)
