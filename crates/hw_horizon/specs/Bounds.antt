-- What is kept to say early that a block has no summit: for each level, before which unit of its lane nobody is in a committee, and what
-- each latest unit sees of those who may be.
use Rattle.std.specs.Prelude.{◌≡◌, ℕ, zero, suc, ◌+◌, ◌<◌, ◌≤◌, ◌⊎◌, Bool, false, true, nat_le, List, [], length, Option, Some, None, slice_index_or, if◌then◌else◌}
use Rattle.hw_types.specs.Votes.{weight_of}
use Rattle.hw_dag.specs.declared.numbers.UnitNo.{UnitNo}
use Rattle.hw_dag.specs.declared.numbers.View.{View}
use Rattle.hw_dag.specs.declared.numbers.View.TheVariants as view
use Rattle.hw_dag.specs.Dag.{UnitGraph, count_of, unit_at, seq_of, view_at}
use Rattle.hw_dag.specs.Lanes.{is_lane_below}
use Rattle.hw_horizon.specs.Firsts.{weight_after, has_quorum}
use Rattle.hw_horizon.specs.Starts.{votes_over}
use Rattle.hw_horizon.specs.declared.follow.Span.{Span}

-- of one level: for each validator the number of the first unit that may count, and the weight that its latest unit sees of them
pub record LevelBound : Type 0 where
  pub firsts : List ℕ
  pub support : List ℕ

-- the block, the least quorum that they are for, the latest unit of each validator, and the bound of each level from 0 on
pub record AskedBounds : Type 0 where
  pub block : Option UnitNo
  pub least : ℕ
  pub tips : List (Option UnitNo)
  pub levels : List LevelBound

-- the latest unit of a validator
abbrev pub tip_of : AskedBounds → ℕ → Option UnitNo
tip_of kept v = slice_index_or kept.tips v None

-- the bound of a level
abbrev pub bound_of : List LevelBound → ℕ → LevelBound
bound_of levels j = slice_index_or levels j (record { firsts = []; support = [] })

-- its first unit of a validator
abbrev pub first_of : LevelBound → ℕ → ℕ
first_of bound v = slice_index_or bound.firsts v 0

-- the weight of a validator's latest unit
abbrev pub support_of : LevelBound → ℕ → ℕ
support_of bound v = slice_index_or bound.support v 0

-- the units that may count at a level: at level 0 those that vote for the block or a descendant of it, above those that see the least quorum of the level below
abbrev pub counts_at : List ℕ → UnitGraph → ℕ → ℕ → List LevelBound → ℕ → ℕ → Bool
counts_at weights dag block least levels zero = votes_over dag block
counts_at weights dag block least levels (suc j) = has_quorum weights dag least (bound_of levels j).firsts

-- before that number each unit of the lane is followed by one that doesn't count
abbrev pub IsFirstOf : UnitGraph → ℕ → (ℕ → Bool) → ℕ → Type 0
IsFirstOf dag tip counts first = (n : ℕ) → n < count_of dag → is_lane_below dag n tip ≡ true → n < first
    → (m : ℕ) × (m < count_of dag) × (is_lane_below dag m tip ≡ true) × (n ≤ m) × (m < first) × (counts m ≡ false)

-- the bounds of a validator with this latest unit
pub record IsBounded (weights : List ℕ) (dag : UnitGraph) (block least : ℕ) (levels : List LevelBound) (v tip : ℕ) : Type 0 where
  pub known : tip < count_of dag
  pub first : (j : ℕ) → j < length levels → IsFirstOf dag tip (counts_at weights dag block least levels j) (first_of (bound_of levels j) v)
  pub support : (j : ℕ) → j < length levels → weight_after weights dag (bound_of levels j).firsts tip ≡ support_of (bound_of levels j) v

-- what is kept is true of the graph
abbrev pub AreBounds : List ℕ → UnitGraph → AskedBounds → Type 0
AreBounds weights dag kept = (block : UnitNo) → kept.block ≡ Some block → (v : ℕ) (tip : UnitNo) → tip_of kept v ≡ Some tip → IsBounded weights dag block.0 kept.least kept.levels v tip.0

-- the unit of a slot
abbrev pub tip_in : View → Option UnitNo
tip_in view.Absent = None
tip_in (view.Correct number) = Some number
tip_in view.Faulty = None

-- the latest units that are kept are those of the panorama
abbrev pub AreTips : List View → AskedBounds → Type 0
AreTips panorama kept = (v : ℕ) → v < length panorama → tip_of kept v ≡ tip_in (view_at panorama v)

-- a slot for each validator in the tips and in each level
pub record AreWide (validators : ℕ) (kept : AskedBounds) : Type 0 where
  pub tips : length kept.tips ≡ validators
  pub firsts : (j : ℕ) → j < length kept.levels → length (bound_of kept.levels j).firsts ≡ validators
  pub support : (j : ℕ) → j < length kept.levels → length (bound_of kept.levels j).support ≡ validators

-- a level has for each validator the weight that its latest unit sees of the level's first units
pub record IsExact (weights : List ℕ) (dag : UnitGraph) (panorama : List View) (bound : LevelBound) : Type 0 where
  pub long : length bound.support ≡ dag.validators
  pub each : (v : ℕ) (tip : UnitNo) → view_at panorama v ≡ view.Correct tip → weight_after weights dag bound.firsts tip.0 ≡ support_of bound v

-- each level has
abbrev pub AreExact : List ℕ → UnitGraph → List View → AskedBounds → Type 0
AreExact weights dag panorama kept = (j : ℕ) → j < length kept.levels → IsExact weights dag panorama (bound_of kept.levels j)

-- at some lesser level those whose latest unit may see the quorum weigh less than one
pub record IsRuledOut (weights : List ℕ) (kept : AskedBounds) (level quorum : ℕ) : Type 0 where
  pub few : kept.least ≤ quorum
  pub at : ℕ
  pub below : at < level
  pub known : at < length kept.levels
  pub light : weight_of weights (λ v. nat_le quorum (support_of (bound_of kept.levels at) v)) < quorum

-- ---- how the bounds follow the panorama

-- the units that may count at a level over the first units of the level below it
abbrev pub counts_over : List ℕ → UnitGraph → ℕ → ℕ → Bool → List ℕ → ℕ → Bool
counts_over weights dag block least is_votes firsts n = if is_votes then votes_over dag block n else has_quorum weights dag least firsts n

-- each first unit is no lesser than before, or no lesser than this number
abbrev pub AreLowered : LevelBound → LevelBound → ℕ → Type 0
AreLowered old new low = (v : ℕ) → (first_of old v ≤ first_of new v) ⊎ (low ≤ first_of new v)

-- each first unit is the one before, or neither of the two is less than this number
abbrev pub AreSameBelow : LevelBound → LevelBound → ℕ → Type 0
AreSameBelow old new low = (v : ℕ) → (first_of old v ≡ first_of new v) ⊎ ((low ≤ first_of old v) × (low ≤ first_of new v))

-- two units of a lane, of which the earlier one doesn't count
pub record IsGap (dag : UnitGraph) (tip : ℕ) (counts : ℕ → Bool) (last first : ℕ) : Type 0 where
  pub last_known : last < count_of dag
  pub last_on_lane : is_lane_below dag last tip ≡ true
  pub first_known : first < count_of dag
  pub first_on_lane : is_lane_below dag first tip ≡ true
  pub order : seq_of (unit_at dag last) < seq_of (unit_at dag first)
  pub fails : counts last ≡ false

-- a unit before the other on its lane, by no more than that many units, where that is one at least
pub record IsBack (dag : UnitGraph) (n step found : ℕ) : Type 0 where
  pub known : found < count_of dag
  pub on_lane : is_lane_below dag found n ≡ true
  pub before : seq_of (unit_at dag found) < seq_of (unit_at dag n)
  pub near : 1 ≤ step → seq_of (unit_at dag n) ≤ seq_of (unit_at dag found) + step

-- the validator is before or behind the span
abbrev pub IsOutside : Span → ℕ → Type 0
IsOutside span v = (v < span.from) ⊎ (span.to ≤ v)
