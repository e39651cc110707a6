-- An entry of the journal: a unit that others have too, or a vertex of its own.
use Rattle.hw_types.specs.declared.unit.Vertex.{Vertex}
use Rattle.hw_types.specs.declared.unit.Vertex.TheVariants as vertex
use Rattle.hw_core.specs.declared.entry.Held.{Held}
use Rattle.hw_core.specs.declared.entry.Held.TheVariants.{Unit, Other}

-- its vertex
abbrev pub vertex_of : Held → Vertex
vertex_of (Unit unit) = vertex.Unit unit
vertex_of (Other held) = held.value
