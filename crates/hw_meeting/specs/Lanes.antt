-- What a node's graph and its journal have of each validator, as tables keep it.
-- Source: ours.
use Rattle.std.specs.Prelude.{◌≡◌, ℕ, ◌+◌, ◌<◌, ◌≤◌, Bool, true, false, List, length, Option, Some, None, slice_index_or}
use Rattle.hw_types.specs.declared.unit.Digest.{Digest}
use Rattle.hw_types.specs.declared.unit.WireUnit.{WireUnit}
use Rattle.hw_types.specs.Graph.{Node}
use Rattle.hw_types.specs.Below.{Among}
use Rattle.hw_dag.specs.declared.numbers.UnitNo.{UnitNo}
use Rattle.hw_dag.specs.Dag.{UnitGraph, unit_at, count_of, creator_of, seq_of}
use Rattle.hw_dag.specs.Lanes.{is_lane_below}
use Rattle.hw_agree.specs.declared.summary.LaneSummary.{LaneSummary}
use Rattle.hw_agree.specs.declared.summary.LaneSummary.TheVariants.{Nothing, Line, Tangled}
use Rattle.hw_meeting.specs.declared.mark.Mark.{Mark}
use Rattle.hw_meeting.specs.declared.mark.Mark.TheVariants as mark

-- ---- the highest unit of each validator

-- of the graph's first units none is the validator's, or this is one that no other of its units exceeds
abbrev pub IsHighest : UnitGraph → ℕ → ℕ → Option UnitNo → Type 0
IsHighest dag count v None = (n : ℕ) → n < count → creator_of (unit_at dag n) ≡ v → ⊥
IsHighest dag count v (Some tip) = (tip.0 < count) × (creator_of (unit_at dag tip.0) ≡ v) × ((n : ℕ) → n < count → creator_of (unit_at dag n) ≡ v → seq_of (unit_at dag n) ≤ seq_of (unit_at dag tip.0))

-- the entry of a validator in a table
abbrev pub tip_at : List (Option UnitNo) → ℕ → Option UnitNo
tip_at tips v = slice_index_or tips v None

-- the table has such a unit for each validator
pub record AreHighest (dag : UnitGraph) (count : ℕ) (tips : List (Option UnitNo)) : Type 0 where
  pub size : length tips ≡ dag.validators
  pub each : (v : ℕ) → v < dag.validators → IsHighest dag count v (tip_at tips v)

-- ---- whether all units of a validator are on the lane of that one

-- the unit is on the lane of the one of this number
pub record IsOnLaneOf (dag : UnitGraph) (tip : ℕ) (unit : WireUnit) : Type 0 where
  pub number : ℕ
  pub known : number < count_of dag
  pub on_lane : is_lane_below dag number tip ≡ true
  pub is : (unit_at dag number).signed.unit ≡ unit

-- the same of a table's entry
abbrev pub IsOnTip : UnitGraph → Option UnitNo → WireUnit → Type 0
IsOnTip dag None unit = ⊥
IsOnTip dag (Some tip) unit = IsOnLaneOf dag tip.0 unit

-- one of these units is the validator's
pub record HasUnitBy (v : ℕ) (units : List Node) : Type 0 where
  pub unit : Node
  pub among : Among unit units
  pub creator_is : unit.unit.creator ≡ v

-- one of these units is the validator's, and isn't so
pub record HasOther (IsSo : WireUnit → Type 0) (v : ℕ) (units : List Node) : Type 0 where
  pub unit : Node
  pub among : Among unit units
  pub creator_is : unit.unit.creator ≡ v
  pub other : IsSo unit.unit → ⊥

-- the validator has none of these units, or all of its units among them are so, or one isn't
abbrev pub IsMark : (WireUnit → Type 0) → ℕ → List Node → Mark → Type 0
IsMark IsSo v units mark.Unseen = (x : Node) → Among x units → x.unit.creator ≡ v → ⊥
IsMark IsSo v units mark.Whole = HasUnitBy v units × ((x : Node) → Among x units → x.unit.creator ≡ v → IsSo x.unit)
IsMark IsSo v units mark.Broken = HasOther IsSo v units

-- the mark with one unit more, which is so or isn't
abbrev pub marked : Mark → Bool → Mark
marked mark.Unseen true = mark.Whole
marked mark.Unseen false = mark.Broken
marked mark.Whole true = mark.Whole
marked mark.Whole false = mark.Broken
marked mark.Broken is_so = mark.Broken

-- a unit under a name
abbrev pub node_named : Digest → WireUnit → Node
node_named name unit = record { digest = name; unit = unit }

-- the entry of a validator in a table
abbrev pub mark_at : List Mark → ℕ → Mark
mark_at marks v = slice_index_or marks v mark.Unseen

-- the table has such a mark for each validator
pub record AreMarks (dag : UnitGraph) (tips : List (Option UnitNo)) (units : List Node) (marks : List Mark) : Type 0 where
  pub size : length marks ≡ dag.validators
  pub each : (v : ℕ) → v < dag.validators → IsMark (IsOnTip dag (tip_at tips v)) v units (mark_at marks v)

-- ---- what a summary says

-- what an entry and its mark say
abbrev pub lane_summary : UnitGraph → Option UnitNo → Mark → LaneSummary
lane_summary dag tip mark.Unseen = Nothing
lane_summary dag (Some tip) mark.Whole = Line (seq_of (unit_at dag tip.0) + 1) (unit_at dag tip.0).digest
lane_summary dag None mark.Whole = Tangled
lane_summary dag tip mark.Broken = Tangled
