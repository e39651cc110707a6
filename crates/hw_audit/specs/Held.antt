-- The units that are in a journal, as an audit reads them.
use Rattle.std.specs.Prelude.{Bool, true, ◌&&◌, List, [], ◌∷◌}
use Rattle.std.specs.List.{list_any, flat_map}
use Rattle.hw_types.specs.declared.unit.Digest.{Digest}
use Rattle.hw_types.specs.declared.unit.WireUnit.{WireUnit}
use Rattle.hw_types.specs.declared.unit.SignedUnit.{SignedUnit}
use Rattle.hw_types.specs.declared.unit.Vertex.{Vertex}
use Rattle.hw_types.specs.declared.unit.Vertex.TheVariants as vertex
use Rattle.hw_types.specs.Graph.{Node, digest_eq}
use Rattle.hw_types.specs.Same.{unit_eq}
use Rattle.hw_types.specs.Spelling.{digest_of}

-- a unit of a journal: its name, the unit as it was signed, and whether the journal shows it
pub record HeldUnit : Type 0 where
  pub name : Digest
  pub signed : SignedUnit
  pub is_shown : Bool

-- the unit as the definitions see it
abbrev pub node_held : HeldUnit → Node
node_held h = record { digest = h.name; unit = h.signed.unit }

-- this very unit is settled
unfoldable pub is_settled : List Node → WireUnit → Bool
is_settled settled u = list_any (λ (x : Node). digest_eq x.digest (digest_of u) && unit_eq x.unit u) settled

-- a signed unit under its name
abbrev pub held_as : Bool → SignedUnit → HeldUnit
held_as is_shown u = record { name = digest_of u.unit; signed = u; is_shown = is_shown }

-- the units of a vertex. A journal shows those that are settled, and those of its evidence
abbrev pub held_by : List Node → Vertex → List HeldUnit
held_by settled (vertex.Unit u) = held_as (is_settled settled u.unit) u ∷ []
held_by settled (vertex.Evidence e) = held_as true e.left ∷ held_as true e.right ∷ []
held_by settled (vertex.Endorsement e) = []

-- the units of a journal in its order, those of its evidence included
abbrev pub held_units : List Node → List Vertex → List HeldUnit
held_units settled journal = flat_map (held_by settled) journal
