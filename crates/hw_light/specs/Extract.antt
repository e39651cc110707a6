-- The vertices that give a decided block a summit.
-- Source: Highway; the order of the vertices is ours.
use Rattle.std.specs.Prelude.{◌≡◌, true, false, Bool, ◌&&◌, ℕ, List, [], ◌∷◌, ◌++◌, length, filter}
use Rattle.std.specs.List.{list_any, flat_map}
use Rattle.hw_types.specs.declared.unit.Digest.{Digest}
use Rattle.hw_types.specs.declared.unit.Obs.{Obs}
use Rattle.hw_types.specs.declared.unit.Vertex.{Vertex}
use Rattle.hw_types.specs.declared.unit.Vertex.TheVariants as vertex
use Rattle.hw_types.specs.Graph.{Node, is_some_and, is_faulty_mark, slot, slots, latest, cites, is_below}
use Rattle.hw_types.specs.Below.{Among}
use Rattle.hw_types.specs.Rules.{has_digest}
use Rattle.hw_types.specs.Settled.{validators}
use Rattle.hw_types.specs.Summit.{Committees}
use Rattle.hw_types.specs.laws.StateLaws.{HasSame}
use Rattle.hw_types.specs.Real.{CoreState, settled_in}
use Rattle.hw_core.specs.Order.{order_in}
use Rattle.hw_core.specs.Readers.{unit_in}
use Rattle.hw_needs.specs.Needs.{evidence_against, unit_vertices, evidence_vertices}

-- ---- the units

-- the unit is at or below the latest unit of a member of the first committee
abbrev pub is_under : List Node → List Obs → Committees → Node → Bool
is_under units panorama c x = list_any (λ v. c.member 0 v && is_some_and (is_below units x) (latest units panorama v)) (slots panorama)

-- each of these comes after the settled units that it cites
abbrev pub ComeAfterCited : List Node → List Node → List Node → Type 0
ComeAfterCited settled before [] = Unit {0}
ComeAfterCited settled before (x ∷ xs) = ((y : Node) → Among y settled → cites x.unit.panorama y ≡ true → Among y before) × ComeAfterCited settled (before ++ x ∷ []) xs

-- the settled units of a node in the order in which they settled: each once, after all that it cites
pub record IsSettlingOrder (core : CoreState) (order : List Node) : Type 0 where
  pub is : order ≡ order_in core
  pub same : HasSame order (settled_in core)
  pub once : length order ≡ length (settled_in core)
  pub in_order : ComeAfterCited (settled_in core) [] order

-- ---- what they need, and they themselves

-- one of these units marks the validator as faulty
abbrev pub is_marked_by : List Node → ℕ → Bool
is_marked_by units v = list_any (λ x. is_faulty_mark (slot x.unit.panorama v)) units

-- one of these units has the digest in its endorsed list
abbrev pub is_listed_by : List Node → Digest → Bool
is_listed_by units d = list_any (λ x. has_digest x.unit.endorsed d) units

-- the vertex is an endorsement of a digest that passes
abbrev pub is_endorsement_of : (Digest → Bool) → Vertex → Bool
is_endorsement_of test (vertex.Unit u) = false
is_endorsement_of test (vertex.Evidence e) = false
is_endorsement_of test (vertex.Endorsement e) = test e.unit

-- the evidence against each validator that these units mark, in rising order
abbrev pub evidence_part : CoreState → List Node → List Vertex
evidence_part core units = flat_map (λ v. evidence_vertices (evidence_against core v)) (filter (is_marked_by units) (validators core.config))

-- the journal's endorsements of what these units list, in its order
abbrev pub endorsement_part : CoreState → List Node → List Vertex
endorsement_part core units = filter (is_endorsement_of (is_listed_by units)) core.journal

-- these units, in their order, each as it was signed in the journal
abbrev pub unit_part : CoreState → List Node → List Vertex
unit_part core units = flat_map (λ x. unit_vertices (unit_in core x.digest)) units

-- the vertices for these units: what they need of evidence and endorsements, and they themselves
abbrev pub vertices_for : CoreState → List Node → List Vertex
vertices_for core units = evidence_part core units ++ endorsement_part core units ++ unit_part core units
