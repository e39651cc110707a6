-- The order in which a journal's units settle.
-- Source: ours.
use Rattle.std.specs.Prelude.{ℕ, zero, suc, Bool, ◌&&◌, not, List, [], ◌∷◌, ◌++◌, length, take, find, Some, None}
use Rattle.std.specs.List.{list_any}
use Rattle.hw_types.specs.declared.unit.Vertex.{Vertex}
use Rattle.hw_types.specs.declared.config.Config.{Config}
use Rattle.hw_types.specs.Graph.{Node, digest_eq}
use Rattle.hw_types.specs.ByName.{by_name}
use Rattle.hw_types.specs.Settled.{Received, settles}
use Rattle.hw_types.specs.Journal.{Setting, received_of}
use Rattle.hw_types.specs.laws.StateLaws.{units_in}
use Rattle.hw_types.specs.Real.{CoreState, setting_of}

-- the unit may settle next: it isn't among the settled ones, misses nothing over them, and breaks no rule
abbrev pub is_next : Config → Received → List Node → Node → Bool
is_next config received found x = not (list_any (λ y. digest_eq y.digest x.digest) found) && settles config received (by_name found) x

-- the settled units, and so many times the first unit that may settle next
unfoldable pub settle_more : ℕ → Config → Received → List Node → List Node → List Node
settle_more zero config received units found = found
settle_more (suc n) config received units found = elim (find (is_next config received found) units) as (λ z. List Node) [
  | Some x ↦ settle_more n config received units (found ++ x ∷ [])
  | None ↦ found
]

-- the units that settled by the first n vertices of the journal: behind each vertex, one by one, the longest received of those that
-- may settle next
unfoldable pub settled_by : Setting → List Vertex → ℕ → List Node
settled_by s journal zero = []
settled_by s journal (suc n) = settle_more (suc n) s.config (received_of s (take (suc n) journal)) (units_in s (take (suc n) journal)) (settled_by s journal n)

-- the settled units in the order in which they settled
abbrev pub settling_order : Setting → List Vertex → List Node
settling_order s journal = settled_by s journal (length journal)

-- the settled units of a node in the order in which they settled
abbrev pub order_in : CoreState → List Node
order_in c = settling_order (setting_of c.config) c.journal
