-- Walks that mark what they come to.
use Rattle.std.specs.Prelude.{◌≡◌, ◌≢◌, ℕ, ◌<◌, ◌≤◌, Bool, true, false, List, slice_index_or}
use Rattle.hw_dag.specs.declared.numbers.UnitNo.{UnitNo}
use Rattle.hw_dag.specs.declared.numbers.View.{View}
use Rattle.hw_dag.specs.declared.numbers.View.TheVariants as view
use Rattle.hw_dag.specs.Dag.{UnitGraph, unit_at, view_at}
use Rattle.hw_dag.specs.Lanes.{is_seen}

-- the number is marked
abbrev pub is_marked : List Bool → ℕ → Bool
is_marked marked n = slice_index_or marked n false

-- unit n observes unit m
pub record Cites (dag : UnitGraph) (n m : ℕ) : Type 0 where
  pub slot : ℕ
  pub number : UnitNo
  pub seen : view_at (unit_at dag n).panorama slot ≡ view.Correct number
  pub is : number.0 ≡ m

-- the unit of some slot observes unit m
pub record IsCitedBySome (dag : UnitGraph) (slots : List View) (m : ℕ) : Type 0 where
  pub slot : ℕ
  pub number : UnitNo
  pub named : view_at slots slot ≡ view.Correct number
  pub cites : Cites dag number.0 m

-- no slot names unit n
abbrev pub IsInNoSlot : List View → ℕ → Type 0
IsInNoSlot slots n = (slot : ℕ) (number : UnitNo) → view_at slots slot ≡ view.Correct number → number.0 ≢ n

-- the marks serve for each observed unit
abbrev pub HasRoom : List View → ℕ → Type 0
HasRoom panorama room = (slot : ℕ) (cited : UnitNo) → view_at panorama slot ≡ view.Correct cited → cited.0 ≤ room

-- a marked unit before the top is the unit or has it below it
pub record IsBelowMarked (dag : UnitGraph) (marked : List Bool) (top n : ℕ) : Type 0 where
  pub start : ℕ
  pub before : start < top
  pub marked_is : is_marked marked start ≡ true
  pub seen : is_seen dag n start ≡ true
