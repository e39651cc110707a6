-- Rows of tips in one list.
use Rattle.std.specs.Prelude.{◌≡◌, ℕ, ◌+◌, ◌*◌, ◌<◌, ◌≤◌, List, length, slice_index_or, slice_set}
use Rattle.hw_dag.specs.declared.numbers.View.{View}
use Rattle.hw_dag.specs.declared.numbers.View.TheVariants as view

-- rows one after another, each with a slot for each validator: Absent where the tip is what the unit observes, the tip where it is another unit, and Faulty where there is none
pub record TipRows : Type 0 where
  pub validators : ℕ
  pub slots : List View

-- what the row says in the creator's slot
abbrev pub row_slot : TipRows → ℕ → ℕ → View
row_slot rows row creator = slice_index_or rows.slots (row * rows.validators + creator) view.Absent

-- the rows with this in the creator's slot of the row
abbrev pub with_slot : TipRows → ℕ → ℕ → View → TipRows
with_slot rows row creator said = record { validators = rows.validators; slots = slice_set rows.slots (row * rows.validators + creator) said }

-- the two rows say the same
abbrev pub IsSameRow : TipRows → ℕ → ℕ → Type 0
IsSameRow rows row other = (creator : ℕ) → creator < rows.validators → row_slot rows row creator ≡ row_slot rows other creator

-- the rows so far stay, and further slots may follow
pub record IsLonger (old new : TipRows) : Type 0 where
  pub validators_are : new.validators ≡ old.validators
  pub longer : length old.slots ≤ length new.slots
  pub kept : (place : ℕ) → place < length old.slots → slice_index_or new.slots place view.Absent ≡ slice_index_or old.slots place view.Absent
