-- Who equivocated by two journals: the statements.
use Rattle.std.specs.Prelude.{◌≡◌, ℕ, ◌<◌, List, ◌++◌, length, map, flat_map, All, ◌↔◌}
use Rattle.std.specs.List.{AllAdjacentBelow}
use Rattle.hw_types.specs.declared.unit.SignedUnit.{SignedUnit}
use Rattle.hw_types.specs.declared.unit.Vertex.{Vertex}
use Rattle.hw_types.specs.declared.answers.Culprit.{Culprit}
use Rattle.hw_types.specs.Graph.{Node}
use Rattle.hw_types.specs.Below.{Among}
use Rattle.hw_types.specs.Spelling.{signed_bytes}
use Rattle.hw_types.specs.Journal.{Setting}
use Rattle.hw_types.specs.Culprits.{signed_in, shown_in_either, AreCulprits}

-- the signed unit stands in one of the journals, and its unit is settled in one of them or is of an evidence in one of them
pub record ShownUnit (s : Setting) (left right : List Vertex) (u : SignedUnit) : Type 0 where
  pub stands : Among u (flat_map signed_in (left ++ right))
  pub node : Node
  pub shown : Among node (shown_in_either s left right)
  pub unit_is : u.unit ≡ node.unit

-- these are two different signed units of the validator with one number, and both are shown
pub record AreTwo (s : Setting) (left right : List Vertex) (v : ℕ) (u w : SignedUnit) : Type 0 where
  pub first_shown : ShownUnit s left right u
  pub second_shown : ShownUnit s left right w
  pub first_by : u.unit.creator ≡ v
  pub second_by : w.unit.creator ≡ v
  pub one_number : u.unit.seq ≡ w.unit.seq
  pub differ : u.unit ≡ w.unit → ⊥

-- the number is that of a validator, and there are two such units of it
pub record Equivocated (s : Setting) (left right : List Vertex) (v : ℕ) : Type 0 where
  pub is_validator : v < length s.config.weights
  pub first : SignedUnit
  pub second : SignedUnit
  pub are : AreTwo s left right v first second

-- the bytes by which a culprit is shown are two such units of it
pub record ShowsTwo (s : Setting) (left right : List Vertex) (c : Culprit) : Type 0 where
  pub first : SignedUnit
  pub second : SignedUnit
  pub first_is : c.first ≡ signed_bytes first
  pub second_is : c.second ≡ signed_bytes second
  pub are : AreTwo s left right c.validator first second

-- these are the validators that equivocated, and no others, in rising order, each shown by two units
pub record AreEquivocators (s : Setting) (left right : List Vertex) (culprits : List Culprit) : Type 0 where
  pub exactly : (v : ℕ) → Among v (map (λ (c : Culprit). c.validator) culprits) ↔ Equivocated s left right v
  pub rising : AllAdjacentBelow (λ v w. v < w) (map (λ (c : Culprit). c.validator) culprits) (length (map (λ (c : Culprit). c.validator) culprits))
  pub shown : All (ShowsTwo s left right) culprits

-- The culprits of two journals are these.
abbrev pub CulpritsAreEquivocators : Type 0
CulpritsAreEquivocators = (s : Setting) (left right : List Vertex) (culprits : List Culprit) → AreCulprits s left right culprits → AreEquivocators s left right culprits
