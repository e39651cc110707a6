-- What is tested of one slot.
use Rattle.std.specs.Prelude.{◌≡◌, ℕ, ◌<◌, true, List}
use Rattle.std.specs.List.{list_all}
use Rattle.hw_types.specs.declared.unit.Digest.{Digest}
use Rattle.hw_types.specs.Rules.{has_digest}
use Rattle.hw_dag.specs.declared.numbers.UnitNo.{UnitNo}
use Rattle.hw_dag.specs.declared.numbers.View.{View}
use Rattle.hw_dag.specs.declared.numbers.View.TheVariants as view
use Rattle.hw_dag.specs.Dag.{UnitGraph, unit_at, count_of, creator_of}

-- a unit in the slot is there, and is by this validator
abbrev pub IsBy : UnitGraph → View → ℕ → Type 0
IsBy dag w v = (number : UnitNo) → w ≡ view.Correct number → (number.0 < count_of dag) × (creator_of (unit_at dag number.0) ≡ v)

-- the list has that of a unit in the slot
abbrev pub HasListOf : UnitGraph → View → List Digest → Type 0
HasListOf dag w endorsed = (number : UnitNo) → w ≡ view.Correct number → list_all (has_digest endorsed) (unit_at dag number.0).signed.unit.endorsed ≡ true
