-- Which clash an audit shows.
use Rattle.std.specs.Prelude.{◌≡◌, ℕ, List, [], ◌∷◌, find, Option, Some, None}
use Rattle.std.specs.Option.{option_map, option_or}
use Rattle.hw_types.specs.declared.unit.WireUnit.{WireUnit}
use Rattle.hw_types.specs.declared.unit.Vertex.{Vertex}
use Rattle.hw_types.specs.declared.unit.SignedUnit.{SignedUnit}
use Rattle.hw_types.specs.Spelling.{unit_bytes}
use Rattle.hw_types.specs.Journal.{Setting, named, clashes}
use Rattle.hw_safety.specs.declared.verdict.Verdict.{Verdict}
use Rattle.hw_safety.specs.declared.verdict.Verdict.TheVariants as verdict
use Rattle.hw_safety.specs.Verdicts.{held_in}
use Rattle.hw_audit.specs.Clashes.{UnitPair, clash_with}

-- the first of these units that has the name of this one and is another unit
abbrev pub other_among : Setting → List SignedUnit → SignedUnit → Option WireUnit
other_among s left u = option_map (λ (v : SignedUnit). v.unit) (find (λ (v : SignedUnit). clashes s v.unit (named s u.unit)) left)

-- the first of the right units of whose name there is another left unit, with the first such
abbrev pub first_among : Setting → List SignedUnit → List SignedUnit → Option UnitPair
first_among s left [] = None
first_among s left (u ∷ us) = option_or (clash_with (other_among s left u) u.unit) (first_among s left us)

-- the same of two journals, the units of their evidence included
abbrev pub first_of : Setting → List Vertex → List Vertex → Option UnitPair
first_of s left right = first_among s (held_in left) (held_in right)

-- the bytes are those of the first clash
pub record IsFirstClash (s : Setting) (left right : List Vertex) (first second : List ℕ) : Type 0 where
  pub pair : UnitPair
  pub pair_is : first_of s left right ≡ Some pair
  pub first_bytes : first ≡ unit_bytes pair.left
  pub second_bytes : second ≡ unit_bytes pair.right

-- a clash that is shown is the first one
abbrev pub ShowsFirstClash : Setting → List Vertex → List Vertex → Verdict → Type 0
ShowsFirstClash s left right (verdict.Clash first second) = IsFirstClash s left right first second
ShowsFirstClash s left right (verdict.Agree common) = Unit {0}
ShowsFirstClash s left right (verdict.Conflict height a b culprits weight) = Unit {0}
