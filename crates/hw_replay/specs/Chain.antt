-- The decided chain, as consumers are told it.
-- Source: ours.
use Rattle.std.specs.Prelude.{ℕ, List, [], map, Option, Some, None}
use Rattle.hw_types.specs.Graph.{Node, find_node}
use Rattle.hw_types.specs.Real.{CoreState, setting_of, settled_in}
use Rattle.hw_safety.specs.Decided.{decisions_of}

-- a value, and nothing where there is none
abbrev pub value_bytes : Option (List ℕ) → List ℕ
value_bytes None = []
value_bytes (Some value) = value

-- the value of a block
abbrev pub value_in : Option Node → List ℕ
value_in None = []
value_in (Some block) = value_bytes block.unit.value

-- The decided blocks of a node in order, each as its height and its value.
unfoldable pub told_chain : CoreState → List (ℕ × List ℕ)
told_chain c = map (λ d. (d.height, value_in (find_node (settled_in c) d.block))) (decisions_of (setting_of c.config) c.journal)
