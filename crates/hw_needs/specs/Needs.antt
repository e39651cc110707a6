-- The vertices that a node has for a need.
-- Source: ours.
use Rattle.std.specs.Prelude.{ℕ, List, [], ◌∷◌, map, Option, Some, None}
use Rattle.std.specs.Option.{option_or, option_and_then}
use Rattle.hw_types.specs.declared.unit.Need.{Need}
use Rattle.hw_types.specs.declared.unit.Need.TheVariants as need
use Rattle.hw_types.specs.declared.unit.SignedUnit.{SignedUnit}
use Rattle.hw_types.specs.declared.unit.Evidence.{Evidence}
use Rattle.hw_types.specs.declared.unit.Vertex.{Vertex}
use Rattle.hw_types.specs.declared.unit.Vertex.TheVariants as vertex
use Rattle.hw_types.specs.Graph.{Node}
use Rattle.hw_types.specs.Culprits.{pair_of}
use Rattle.hw_types.specs.Real.{CoreState, settled_in}
use Rattle.hw_core.specs.Readers.{unit_in, evidence_of, endorsements_of}

-- the evidence of two units, where there are both
abbrev pub evidence_between : Option SignedUnit → Option SignedUnit → Option Evidence
evidence_between None right = None
evidence_between (Some left) None = None
evidence_between (Some left) (Some right) = Some (record { left = left; right = right })

-- the evidence of two units of the journal, each as it was signed there
abbrev pub evidence_of_pair : CoreState → Node × Node → Option Evidence
evidence_of_pair c pair = evidence_between (unit_in c pair.0.digest) (unit_in c pair.1.digest)

-- the evidence of two settled units of the validator: at the least sequence number at which it has two, the two of the least digests
abbrev pub settled_evidence : CoreState → ℕ → Option Evidence
settled_evidence c v = option_and_then (evidence_of_pair c) (pair_of (settled_in c) v)

-- the evidence against the validator: that of the journal, or else that of settled units
unfoldable pub evidence_against : CoreState → ℕ → Option Evidence
evidence_against c v = option_or (evidence_of c v) (settled_evidence c v)

-- the unit, as a list of vertices
abbrev pub unit_vertices : Option SignedUnit → List Vertex
unit_vertices None = []
unit_vertices (Some u) = vertex.Unit u ∷ []

-- the evidence, as a list of vertices
abbrev pub evidence_vertices : Option Evidence → List Vertex
evidence_vertices None = []
evidence_vertices (Some e) = vertex.Evidence e ∷ []

-- the vertices that a node has for a need: the unit, evidence against the validator, or all endorsements of the unit in their order
abbrev pub vertices_of : CoreState → Need → List Vertex
vertices_of c (need.Unit d) = unit_vertices (unit_in c d)
vertices_of c (need.Evidence v) = evidence_vertices (evidence_against c v)
vertices_of c (need.Endorsed d) = map vertex.Endorsement (endorsements_of c d)
