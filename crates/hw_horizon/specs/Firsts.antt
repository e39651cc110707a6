-- What a unit sees of a committee, by numbers of units alone.
use Rattle.std.specs.Prelude.{◌≡◌, ℕ, ◌+◌, ◌<◌, ◌≤◌, ◌^◌, Bool, true, false, nat_le, List, length, is_some, slice_index_or, if◌then◌else◌}
use Rattle.hw_types.specs.Votes.{weight_of}
use Rattle.hw_dag.specs.declared.numbers.UnitNo.{UnitNo}
use Rattle.hw_dag.specs.declared.numbers.View.{View}
use Rattle.hw_dag.specs.declared.numbers.View.TheVariants as view
use Rattle.hw_dag.specs.Dag.{UnitGraph, unit_at, count_of, seq_of, view_at}
use Rattle.hw_dag.specs.Lanes.{is_lane_below}
use Rattle.hw_safety.specs.Pruned.{or_zero}
use Rattle.hw_horizon.specs.Tables.{Starts, entry}

-- the slot names the unit of that number or one of a greater number
abbrev pub is_after : ℕ → View → Bool
is_after first view.Absent = false
is_after first (view.Correct number) = nat_le first number.0
is_after first view.Faulty = false

-- the unit observes the validator's first unit or one of a greater number
abbrev pub sees_after : UnitGraph → List ℕ → ℕ → ℕ → Bool
sees_after dag firsts n v = is_after (slice_index_or firsts v 0) (view_at (unit_at dag n).panorama v)

-- the weight of those of whom it does
abbrev pub weight_after : List ℕ → UnitGraph → List ℕ → ℕ → ℕ
weight_after weights dag firsts n = weight_of weights (sees_after dag firsts n)

-- the first unit of the validator, where those of the validators before this one have moved from the one list to the other
abbrev pub first_amid : List ℕ → List ℕ → ℕ → ℕ → ℕ
first_amid old new moved v = if nat_le moved v then slice_index_or old v 0 else slice_index_or new v 0

-- the weight of those of whom the unit observes that one or one of a greater number
abbrev pub weight_amid : List ℕ → UnitGraph → List ℕ → List ℕ → ℕ → ℕ → ℕ
weight_amid weights dag old new moved n = weight_of weights (λ v. is_after (first_amid old new moved v) (view_at (unit_at dag n).panorama v))

-- it is a quorum
abbrev pub has_quorum : List ℕ → UnitGraph → ℕ → List ℕ → ℕ → Bool
has_quorum weights dag quorum firsts n = nat_le quorum (weight_after weights dag firsts n)

-- the slot's unit observes of the validator that unit or one of a greater number
abbrev pub does_see : UnitGraph → View → ℕ → ℕ → Bool
does_see dag view.Absent v first = false
does_see dag (view.Correct tip) v first = is_after first (view_at (unit_at dag tip.0).panorama v)
does_see dag view.Faulty v first = false

-- a weight for each validator: of those present, what its latest unit sees
pub record AreSeen (weights : List ℕ) (dag : UnitGraph) (panorama : List View) (present : Starts) (firsts seen : List ℕ) : Type 0 where
  pub long : length seen ≡ dag.validators
  pub each : (v : ℕ) (tip : UnitNo) → is_some (entry present v) ≡ true → view_at panorama v ≡ view.Correct tip → weight_after weights dag firsts tip.0 ≡ slice_index_or seen v 0

-- the units of the slot's lane from that number on are those from the first unit on
abbrev pub IsLaneFrom : UnitGraph → View → ℕ → ℕ → Type 0
IsLaneFrom dag view.Absent from first = Unit {0}
IsLaneFrom dag (view.Correct tip) from first = (n : ℕ) → n < count_of dag → is_lane_below dag n tip.0 ≡ true → nat_le first n ≡ nat_le from (seq_of (unit_at dag n))
IsLaneFrom dag view.Faulty from first = Unit {0}

-- From the first unit on, the units of a member's lane are those from its start of the level below on. No unit comes after that of a validator that isn't present.
pub record IsFirst (dag : UnitGraph) (slot : View) (lower present : Starts) (v first : ℕ) : Type 0 where
  pub absent : is_some (entry present v) ≡ false → (n : ℕ) → n < count_of dag → nat_le first n ≡ false
  pub in_lane : is_some (entry present v) ≡ true → IsLaneFrom dag slot (or_zero (entry lower v)) first

-- the first unit of each validator
abbrev pub AreFirsts : UnitGraph → List View → Starts → Starts → List ℕ → Type 0
AreFirsts dag panorama lower present firsts = (v : ℕ) → v < dag.validators → IsFirst dag (view_at panorama v) lower present v (slice_index_or firsts v 0)

-- each is a number of 32 bits
abbrev pub AreNumbers : List ℕ → Type 0
AreNumbers firsts = (v : ℕ) → slice_index_or firsts v 0 < 2 ^ 32
