-- How the text of a node is gathered, vertex by vertex.
use Rattle.std.specs.Prelude.{◌≡◌, ℕ, ◌≤◌, List, [], ◌∷◌, ◌++◌, length, take, slice_get, Some, ◌⊎◌}
use Rattle.std.specs.List.{flat_map}
use Rattle.hw_types.specs.declared.unit.Vertex.{Vertex}
use Rattle.hw_types.specs.declared.answers.Decision.{Decision}
use Rattle.hw_types.specs.Real.{CoreState, setting_of}
use Rattle.hw_core.specs.Decided.{decided_in}
use Rattle.hw_explain.specs.declared.told.DecisionLines.{DecisionLines}
use Rattle.hw_explain.specs.Explain.{line_of_decision}

-- the line of a decision of the node, at its moment
abbrev pub line_in : CoreState → Decision → List ℕ
line_in c d = line_of_decision (setting_of c.config) c.journal d

-- the text has the lines of the first decisions of the node, this many
pub record HasLines (told : DecisionLines) (c : CoreState) (count : ℕ) : Type 0 where
  pub lines : told.text ≡ flat_map (line_in c) (take count (decided_in c))

-- the text has the lines of all decisions of the node
pub record HasTold (told : DecisionLines) (c : CoreState) : Type 0 where
  pub count : told.count ≡ length (decided_in c)
  pub lines : HasLines told c told.count

-- its lines are of the node as it is, or as it was before the last vertex
pub record IsBehind (told : DecisionLines) (c : CoreState) : Type 0 where
  pub before : CoreState
  pub told_before : HasTold told before
  pub grows : (c ≡ before) ⊎ ((v : Vertex) × (c ≡ record before { journal = before.journal ++ v ∷ [] }))

-- the decisions from this place on were made by the last vertex
abbrev pub AreNewFrom : CoreState → ℕ → Type 0
AreNewFrom c count = (index : ℕ) (d : Decision) → count ≤ index → slice_get (decided_in c) index ≡ Some d → d.at ≡ length c.journal
