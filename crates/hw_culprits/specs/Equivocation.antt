-- What the two units show by which a culprit is named: the statements.
-- Source: Highway.
use Rattle.std.specs.Prelude.{◌≡◌, ◌≢◌, ℕ, List, ◌++◌, Some}
use Rattle.std.specs.List.{All}
use Rattle.hw_types.specs.declared.unit.WireUnit.{WireUnit}
use Rattle.hw_types.specs.declared.unit.SignedUnit.{SignedUnit}
use Rattle.hw_types.specs.declared.unit.Vertex.{Vertex}
use Rattle.hw_types.specs.declared.answers.Culprit.{Culprit}
use Rattle.hw_types.specs.Graph.{Node}
use Rattle.hw_types.specs.Below.{Among}
use Rattle.hw_types.specs.Spelling.{signed_bytes}
use Rattle.hw_types.specs.Journal.{Setting}
use Rattle.hw_types.specs.Culprits.{pair_of, IsShown, AreCulprits}
use Rattle.hw_safety.specs.Verdicts.{held_in}

-- two different units of one number, both by the validator
pub record IsEquivocation (v : ℕ) (u w : WireUnit) : Type 0 where
  pub first_by : u.creator ≡ v
  pub second_by : w.creator ≡ v
  pub one_number : u.seq ≡ w.seq
  pub differ : u ≢ w

-- The two byte strings that a culprit comes with spell two signed units. Both stand in one of the journals, by
-- themselves or inside evidence, and they are an equivocation by it.
pub record ShowsEquivocation (left right : List Vertex) (c : Culprit) : Type 0 where
  pub first : SignedUnit
  pub second : SignedUnit
  pub first_bytes : c.first ≡ signed_bytes first
  pub second_bytes : c.second ≡ signed_bytes second
  pub first_held : Among first (held_in (left ++ right))
  pub second_held : Among second (held_in (left ++ right))
  pub equivocation : IsEquivocation c.validator first.unit second.unit

-- The pair that is found for a validator among units is an equivocation by it, and both are among them.
abbrev pub PairIsAnEquivocation : Type 0
PairIsAnEquivocation = (units : List Node) (v : ℕ) (x y : Node) → pair_of units v ≡ Some (x, y) → Among x units × Among y units × IsEquivocation v x.unit y.unit

-- So whoever gets a culprit can check it by its two byte strings,
abbrev pub CulpritShowsEquivocation : Type 0
CulpritShowsEquivocation = (s : Setting) (left right : List Vertex) (c : Culprit) → IsShown s left right c → ShowsEquivocation left right c

-- and each culprit of two journals has two such.
abbrev pub CulpritsShowEquivocations : Type 0
CulpritsShowEquivocations = (s : Setting) (left right : List Vertex) (culprits : List Culprit) → AreCulprits s left right culprits → All (ShowsEquivocation left right) culprits
