-- What a node tells of its journal.
use Rattle.std.specs.Prelude.{◌≡◌, ℕ, ◌<◌, ◌==◌, nat_lt, true, List, [], length, map, find, filter, filter_map, slice_get, Option, Some, None, if◌then◌else◌}
use Rattle.std.specs.List.{flat_map}
use Rattle.std.specs.Option.{option_map}
use Rattle.hw_types.specs.declared.unit.Digest.{Digest}
use Rattle.hw_types.specs.declared.unit.Need.{Need}
use Rattle.hw_types.specs.declared.unit.SignedUnit.{SignedUnit}
use Rattle.hw_types.specs.declared.unit.Evidence.{Evidence}
use Rattle.hw_types.specs.declared.unit.Endorsement.{Endorsement}
use Rattle.hw_types.specs.declared.unit.Vertex.{Vertex}
use Rattle.hw_types.specs.declared.unit.Vertex.TheVariants as vertex
use Rattle.hw_types.specs.Graph.{Node, digest_eq, cites}
use Rattle.hw_types.specs.ByName.{by_name}
use Rattle.hw_types.specs.Below.{Among}
use Rattle.hw_types.specs.Rules.{state_rule}
use Rattle.hw_types.specs.Settled.{distinct, missing_of, fork_choice}
use Rattle.hw_types.specs.Spelling.{digest_of}
use Rattle.hw_types.specs.laws.StateLaws.{units_in}
use Rattle.hw_types.specs.Journal.{named}
use Rattle.hw_types.specs.Real.{CoreState, setting_of, received_in, settled_in, weight_in}
use Rattle.hw_core.specs.Order.{order_in}
use Rattle.hw_core.specs.declared.place.Place.{Place}
use Rattle.hw_core.specs.declared.place.Place.TheVariants as place

-- the unit of a vertex, as it was signed
abbrev pub signed_unit : Vertex → Option SignedUnit
signed_unit (vertex.Unit u) = Some u
signed_unit (vertex.Evidence e) = None
signed_unit (vertex.Endorsement e) = None

-- the names of the units of these vertices, in their order
abbrev pub names_of : List Vertex → List Digest
names_of journal = map (λ u. digest_of u.unit) (filter_map signed_unit journal)

-- the journal's unit of this name, as it was signed
unfoldable pub unit_in : CoreState → Digest → Option SignedUnit
unit_in c d = find (λ u. digest_eq d (digest_of u.unit)) (filter_map signed_unit c.journal)

-- a unit under its name
abbrev pub node_in : CoreState → SignedUnit → Node
node_in c u = named (setting_of c.config) u.unit

-- what a unit misses, in order
abbrev pub missed_by : CoreState → Option SignedUnit → List Need
missed_by c None = []
missed_by c (Some u) = missing_of c.config (received_in c) (settled_in c) (node_in c u)

-- what the journal's unit of this name misses, in order
abbrev pub missing_needs : CoreState → Digest → List Need
missing_needs c d = missed_by c (unit_in c d)

-- what the units of the journal miss, each need at its first place alone: those who miss something are parked, and were in the
-- order in which they stand there
unfoldable pub unmet_in : CoreState → List Need
unmet_in c = distinct (flat_map (λ x. missing_of c.config (received_in c) (settled_in c) x) (units_in (setting_of c.config) c.journal))

-- the evidence of a vertex
abbrev pub signed_evidence : Vertex → Option Evidence
signed_evidence (vertex.Unit u) = None
signed_evidence (vertex.Evidence e) = Some e
signed_evidence (vertex.Endorsement e) = None

-- the endorsement of a vertex
abbrev pub signed_endorsement : Vertex → Option Endorsement
signed_endorsement (vertex.Unit u) = None
signed_endorsement (vertex.Evidence e) = None
signed_endorsement (vertex.Endorsement e) = Some e

-- the journal's evidence against the validator
unfoldable pub evidence_of : CoreState → ℕ → Option Evidence
evidence_of c v = find (λ e. v == e.left.unit.creator) (filter_map signed_evidence c.journal)

-- the journal's endorsements of the unit of this name, in order
unfoldable pub endorsements_of : CoreState → Digest → List Endorsement
endorsements_of c d = filter (λ e. digest_eq d e.unit) (filter_map signed_endorsement c.journal)

-- An order in which the settled units may have come: each of them once, and behind those that it observes. Source: ours.
pub record IsOrder (c : CoreState) (order : List Node) : Type 0 where
  pub all : by_name order ≡ settled_in c
  pub once : length order ≡ length (settled_in c)
  pub earlier : (m n : ℕ) (x y : Node) → slice_get order m ≡ Some x → slice_get order n ≡ Some y → cites y.unit.panorama x ≡ true → m < n

-- the unit has that number in the order in which the settled units settled, which is such an order
abbrev pub IsNumber : CoreState → Node → ℕ → Type 0
IsNumber c x n = IsOrder c (order_in c) × (slice_get (order_in c) n ≡ Some x)

-- What became of the journal's unit of this name. A settled one has its number in the order in which the units settled.
abbrev pub IsPlace : CoreState → Digest → Place → Type 0
IsPlace c d place.Unknown = unit_in c d ≡ None
IsPlace c d (place.Settled number) = (u : SignedUnit) × (unit_in c d ≡ Some u) × Among (node_in c u) (settled_in c) × (number.0 < length (settled_in c)) × IsNumber c (node_in c u) number.0
IsPlace c d (place.Parked missing) = (0 < missing) × (length (missing_needs c d) ≡ missing)
IsPlace c d (place.Dropped rule) = (u : SignedUnit) × (unit_in c d ≡ Some u) × (missing_needs c d ≡ []) × (state_rule c.config (settled_in c) (node_in c u) ≡ Some rule)

-- the journal's unit of this name, if there is one, misses something
abbrev pub IsUnsettled : CoreState → Digest → Type 0
IsUnsettled c d = (u : SignedUnit) → unit_in c d ≡ Some u → 0 < length (missing_needs c d)

-- the name of the fork choice
abbrev pub fork_in : CoreState → Option Digest
fork_in c = option_map (λ (x : Node). x.digest) (fork_choice c.config (received_in c))

-- the faulty weight, where it exceeds the threshold
abbrev pub exceeded_in : CoreState → Option ℕ
exceeded_in c = if nat_lt c.config.ftt (weight_in c) then Some (weight_in c) else None
