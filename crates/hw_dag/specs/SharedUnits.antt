-- A signed unit in a vertex that several owners have together.
use Rattle.std.specs.Prelude.{◌≡◌}
use Rattle.hw_types.specs.declared.unit.SignedUnit.{SignedUnit}
use Rattle.hw_types.specs.declared.unit.Vertex.{Vertex}
use Rattle.hw_types.specs.declared.unit.Vertex.TheVariants as vertex
use Rattle.hw_dag.specs.Dag.{stand_in}

-- the unit of a vertex
abbrev pub unit_of : Vertex → SignedUnit
unit_of (vertex.Unit unit) = unit
unit_of (vertex.Evidence evidence) = evidence.left
unit_of (vertex.Endorsement endorsement) = stand_in.signed

-- the vertex is a unit
abbrev pub IsUnit : Vertex → Type 0
IsUnit v = v ≡ vertex.Unit (unit_of v)
