-- What is seen of a validator as a number of four bytes, and the order of those numbers.
use Rattle.std.specs.Prelude.{◌≡◌, ℕ, zero, suc, ◌+◌, ◌-◌, ◌^◌, ◌<◌, ◌≤◌, List, length, slice_index_or, eqb, if◌then◌else◌}
use Rattle.hw_dag.specs.declared.numbers.UnitNo.{UnitNo}
use Rattle.hw_dag.specs.declared.numbers.View.{View}
use Rattle.hw_dag.specs.declared.numbers.View.TheVariants.{Absent, Correct, Faulty}

-- what a code stands for: 0 for no unit, one more than its number for a unit, and the greatest of four bytes for an equivocation
abbrev pub view_of_code : ℕ → View
view_of_code zero = Absent
view_of_code (suc n) = if eqb n (2 ^ 32 - 2) then Faulty else Correct (record { 0 = n })

-- the code of a view
abbrev pub code_of_view : View → ℕ
code_of_view Absent = 0
code_of_view (Correct number) = number.0 + 1
code_of_view Faulty = 2 ^ 32 - 1

-- the view has a code of its own: the number of its unit leaves room for the two others
abbrev pub HasCode : View → Type 0
HasCode view = (number : UnitNo) → view ≡ Correct number → number.0 + 2 < 2 ^ 32

-- the one view comes before the other or is the same: Absent comes first, then units by number, and Faulty last
abbrev pub IsUpTo : View → View → Type 0
IsUpTo Absent high = Unit {0}
IsUpTo (Correct low) Absent = ⊥
IsUpTo (Correct low) (Correct high) = low.0 ≤ high.0
IsUpTo (Correct low) Faulty = Unit {0}
IsUpTo Faulty Absent = ⊥
IsUpTo Faulty (Correct high) = ⊥
IsUpTo Faulty Faulty = Unit {0}

-- each slot comes before that of the other panorama, or is the same
abbrev pub IsWithin : List View → List View → Type 0
IsWithin low high = (v : ℕ) → v < length low → IsUpTo (slice_index_or low v Absent) (slice_index_or high v Absent)
