-- How the lines of final blocks are gathered, vertex by vertex.
-- Source: ours.
use Rattle.std.specs.Prelude.{◌≡◌, ◌⊎◌, ℕ, List, [], ◌∷◌, ◌++◌, length, take}
use Rattle.std.specs.List.{flat_map}
use Rattle.hw_types.specs.declared.unit.Vertex.{Vertex}
use Rattle.hw_types.specs.declared.answers.Decision.{Decision}
use Rattle.hw_types.specs.Real.{CoreState, setting_of}
use Rattle.hw_core.specs.Decided.{decided_in}
use Rattle.hw_script_grammar.specs.declared.named.Named.{Named}
use Rattle.hw_script.specs.declared.finals.Finals.{Finals}
use Rattle.hw_script.specs.Shows.{line_at}

-- the line of a decision of the node, at its moment
abbrev pub line_in : List Named → CoreState → Decision → List ℕ
line_in names c d = line_at names (setting_of c.config) c.journal d

-- the text has the lines of the first decisions of the node, this many
abbrev pub HasLines : List Named → Finals → CoreState → ℕ → Type 0
HasLines names finals c count = finals.text ≡ flat_map (line_in names c) (take count (decided_in c))

-- the text has the lines of all decisions of the node
pub record HasTold (names : List Named) (finals : Finals) (c : CoreState) : Type 0 where
  pub count : finals.count ≡ length (decided_in c)
  pub lines : finals.text ≡ flat_map (line_in names c) (decided_in c)

-- its lines are of the node as it is, or as it was before the last vertex
pub record IsBehind (names : List Named) (finals : Finals) (c : CoreState) : Type 0 where
  pub before : CoreState
  pub told_before : HasTold names finals before
  pub grows : (c ≡ before) ⊎ ((v : Vertex) × (c ≡ record before { journal = before.journal ++ v ∷ [] }))
