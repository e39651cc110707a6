use Rattle.std.proofs.Common.{◌≡◌, map, take}
use Rattle.hw_types.specs.declared.unit.Vertex.TheVariants as vertex
use Rattle.hw_core.specs.Readers.{endorsements_of}
use Rattle.hw_needs.proofs.vertices.endorsements.Given as goal

-- the first endorsements are in the list
abbrev pub invariant-loop-place : goal.invariant-loop-place
invariant-loop-place l = l.vertices ≡ map vertex.Endorsement (take l.place (endorsements_of l.core l.unit))
