-- What a node has for a peer that misses a unit, evidence or endorsements.
-- Source: ours.
use Rattle.std.specs.Prelude.{◌≡◌, ℕ, ◌≤◌, zero, suc, List, length, slice_get, Option, Some, None, Result, Ok, Err}
use Rattle.hw_types.specs.declared.unit.Need.{Need}
use Rattle.hw_types.specs.declared.unit.Need.TheVariants as need
use Rattle.hw_types.specs.declared.unit.Vertex.{Vertex}
use Rattle.hw_types.specs.Real.{CoreState}
use Rattle.hw_types.specs.Spelling.{SpellsVertex}
use Rattle.hw_needs.specs.Needs.{vertices_of}
use Rattle.hw_c.specs.declared.codes.Fault.{Fault}
use Rattle.hw_c.specs.declared.codes.Fault.TheVariants as fault
use Rattle.hw_c.specs.declared.needs.Missing.{Missing}
use Rattle.hw_c.specs.Calls.{IsWant}

-- the need of that kind: a unit, evidence, or endorsements
abbrev pub need_of_kind : ℕ → Missing → Option Need
need_of_kind zero m = Some (need.Unit (record { 0 = m.digest }))
need_of_kind (suc zero) m = Some (need.Evidence m.validator)
need_of_kind (suc (suc zero)) m = Some (need.Endorsed (record { 0 = m.digest }))
need_of_kind (suc (suc (suc kind))) m = None

-- the need that the fields name, where the kind is one of those
abbrev pub need_of : Missing → Option Need
need_of m = need_of_kind m.kind m

-- the spelling of the vertex of that place among those that the node has for the need
abbrev pub IsForNeed : CoreState → Missing → ℕ → Result (List ℕ) Fault → Type 0
IsForNeed c m place (Ok bytes) = (n : Need) × (need_of m ≡ Some n) × ((v : Vertex) × (slice_get (vertices_of c n) place ≡ Some v) × SpellsVertex bytes v)
IsForNeed c m place (Err fault.Nothing) = (n : Need) × (need_of m ≡ Some n) × (length (vertices_of c n) ≤ place)
IsForNeed c m place (Err fault.OutOfRange) = need_of m ≡ None
IsForNeed c m place (Err f) = IsWant f
