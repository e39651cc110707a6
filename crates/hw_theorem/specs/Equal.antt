-- Tests that tell equal values: the statements.
use Rattle.std.specs.Prelude.{◌≡◌, ◌↔◌, true}
use Rattle.hw_types.specs.declared.unit.WireUnit.{WireUnit}
use Rattle.hw_types.specs.declared.unit.Need.{Need}
use Rattle.hw_types.specs.Same.{unit_eq}
use Rattle.hw_types.specs.Settled.{need_eq}

-- The test of two units passes exactly where they are one unit, field by field.
abbrev pub UnitsAreTold : Type 0
UnitsAreTold = (u v : WireUnit) → (unit_eq u v ≡ true) ↔ (u ≡ v)

-- So it is of the test of two needs.
abbrev pub NeedsAreTold : Type 0
NeedsAreTold = (m n : Need) → (need_eq m n ≡ true) ↔ (m ≡ n)
