-- A taker in memory: equality of vertices as a test, and the verdicts of a list.
-- Source: ours.
use Rattle.std.specs.Prelude.{Bool, false, ◌&&◌, not, ◌==◌, List, bytes_eq}
use Rattle.std.specs.List.{list_any}
use Rattle.hw_types.specs.declared.unit.Signature.{Signature}
use Rattle.hw_types.specs.declared.unit.SignedUnit.{SignedUnit}
use Rattle.hw_types.specs.declared.unit.Vertex.{Vertex}
use Rattle.hw_types.specs.declared.unit.Vertex.TheVariants as vertex
use Rattle.hw_types.specs.declared.answers.Cause.{Cause}
use Rattle.hw_types.specs.declared.answers.Cause.TheVariants as cause
use Rattle.hw_types.specs.Graph.{digest_eq}
use Rattle.hw_types.specs.Same.{unit_eq}
use Rattle.hw_meeting_node.specs.declared.taker.TakeFault.{TakeFault}
use Rattle.hw_meeting_node.specs.declared.taker.TakeFault.TheVariants as fault

-- the two signatures are equal
abbrev pub signature_eq : Signature → Signature → Bool
signature_eq x y = bytes_eq x.0 y.0

-- the two units are equal, with their signatures
abbrev pub signed_eq : SignedUnit → SignedUnit → Bool
signed_eq x y = signature_eq x.signature y.signature && unit_eq x.unit y.unit

-- the two vertices are equal, with their signatures
unfoldable pub vertex_eq : Vertex → Vertex → Bool
vertex_eq (vertex.Unit x) (vertex.Unit y) = signed_eq x y
vertex_eq (vertex.Evidence x) (vertex.Evidence y) = signed_eq x.left y.left && signed_eq x.right y.right
vertex_eq (vertex.Endorsement x) (vertex.Endorsement y) = digest_eq x.unit y.unit && (x.endorser == y.endorser) && signature_eq x.signature y.signature
vertex_eq _ _ = false

-- The verdict is false of the vertices of a list, and true of all others.
abbrev pub verdict_by : List Vertex → Vertex → Bool
verdict_by refused v = not (list_any (λ x. vertex_eq x v) refused)

-- why a vertex isn't taken that a core refuses by this cause
abbrev pub take_fault : Cause → TakeFault
take_fault cause.OutOfMemory = fault.OutOfMemory
take_fault why = fault.Refused why
