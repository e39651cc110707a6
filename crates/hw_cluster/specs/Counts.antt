-- Who equivocated among what was sent.
-- Source: Highway.
use Rattle.std.specs.Prelude.{ℕ, Bool, ◌&&◌, ◌==◌, not, List}
use Rattle.std.specs.List.{list_any}
use Rattle.hw_types.specs.declared.unit.WireUnit.{WireUnit}
use Rattle.hw_types.specs.declared.unit.SignedUnit.{SignedUnit}
use Rattle.hw_types.specs.declared.unit.Vertex.{Vertex}
use Rattle.hw_types.specs.Same.{unit_eq}
use Rattle.hw_safety.specs.Verdicts.{held_in}

-- a unit by the validator with the number of this one, and not this one
abbrev pub is_other : ℕ → WireUnit → SignedUnit → Bool
is_other v u w = (w.unit.creator == v) && (w.unit.seq == u.seq) && not (unit_eq u w.unit)

-- a unit by the validator, of whose number these have another
abbrev pub has_other : ℕ → List SignedUnit → SignedUnit → Bool
has_other v units u = (u.unit.creator == v) && list_any (is_other v u.unit) units

-- the validator has two different units of one number among these
abbrev pub equivocates_in : List Vertex → ℕ → Bool
equivocates_in sent v = list_any (has_other v (held_in sent)) (held_in sent)
