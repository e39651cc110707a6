-- Starts of lanes by number.
use Rattle.std.specs.Prelude.{◌≡◌, ℕ, ◌+◌, ◌≤◌, ◌<◌, ◌⊎◌, Bool, true, false, ◌&&◌, nat_le, List, Option, Some, None, is_some}
use Rattle.hw_types.specs.Votes.{weight_of}
use Rattle.hw_dag.specs.declared.numbers.UnitNo.{UnitNo}
use Rattle.hw_dag.specs.declared.numbers.View.{View}
use Rattle.hw_dag.specs.declared.numbers.View.TheVariants as view
use Rattle.hw_dag.specs.Dag.{UnitGraph, unit_at, count_of, seq_of, view_at}
use Rattle.hw_dag.specs.Tables.{predecessor_of}
use Rattle.hw_dag.specs.Lanes.{is_lane_below}
use Rattle.hw_forks.specs.Walk.{is_over}
use Rattle.hw_safety.specs.Pruned.{or_zero}
use Rattle.hw_horizon.specs.Tables.{Starts, entry}

-- From this number on each unit of the lane passes, and it is the least such number that isn't below the floor.
pub record IsLeastStart (dag : UnitGraph) (tip floor : ℕ) (passes : ℕ → Bool) (start : ℕ) : Type 0 where
  pub above : floor ≤ start
  pub reached : start ≤ seq_of (unit_at dag tip)
  pub each : (n : ℕ) → n < count_of dag → is_lane_below dag n tip ≡ true → start ≤ seq_of (unit_at dag n) → passes n ≡ true
  -- it is the floor, or the unit before it doesn't pass
  pub least : (start ≡ floor) ⊎ ((n : ℕ) × (n < count_of dag) × (is_lane_below dag n tip ≡ true) × (passes n ≡ false) × (seq_of (unit_at dag n) + 1 ≡ start))

-- each unit of the lane from this one on passes
pub record IsWalked (dag : UnitGraph) (tip : ℕ) (passes : ℕ → Bool) (first : ℕ) : Type 0 where
  pub known : first < count_of dag
  pub on_lane : is_lane_below dag first tip ≡ true
  pub up_to : seq_of (unit_at dag first) ≤ seq_of (unit_at dag tip)
  pub each : (n : ℕ) → n < count_of dag → is_lane_below dag n tip ≡ true → seq_of (unit_at dag first) ≤ seq_of (unit_at dag n) → passes n ≡ true

-- the start of a lane, or none: then its last unit comes before the floor or doesn't pass
abbrev pub IsStart : UnitGraph → ℕ → ℕ → (ℕ → Bool) → Option ℕ → Type 0
IsStart dag tip floor passes None = (seq_of (unit_at dag tip) < floor) ⊎ (passes tip ≡ false)
IsStart dag tip floor passes (Some start) = IsLeastStart dag tip floor passes start

-- the start of a slot's lane, which only a Correct slot has
abbrev pub IsSlotStart : UnitGraph → View → ℕ → (ℕ → Bool) → Option ℕ → Type 0
IsSlotStart dag view.Absent floor passes start = start ≡ None
IsSlotStart dag (view.Correct tip) floor passes start = IsStart dag tip.0 floor passes start
IsSlotStart dag view.Faulty floor passes start = start ≡ None

-- ---- votes

-- the unit votes for the block or a descendant of it
abbrev pub votes_over : UnitGraph → ℕ → ℕ → Bool
votes_over dag block n = is_over dag block (unit_at dag n).vote.0

-- the unit before it on its lane, where that votes for the block or a descendant of it. Else there is none, or it doesn't
abbrev pub IsEarlierVote : UnitGraph → ℕ → ℕ → Option UnitNo → Type 0
IsEarlierVote dag n block (Some before) = (predecessor_of (unit_at dag n) ≡ Some before) × (votes_over dag block before.0 ≡ true)
IsEarlierVote dag n block None = (predecessor_of (unit_at dag n) ≡ None) ⊎ ((before : UnitNo) × (predecessor_of (unit_at dag n) ≡ Some before) × (votes_over dag block before.0 ≡ false))

-- ---- quorums

-- the unit of a slot has that number or a later one
abbrev pub is_from : UnitGraph → ℕ → View → Bool
is_from dag from view.Absent = false
is_from dag from (view.Correct number) = nat_le from (seq_of (unit_at dag number.0))
is_from dag from view.Faulty = false

-- the validator is present, and the unit observes one of it from its start of the level below on
abbrev pub sees : UnitGraph → ℕ → Starts → Starts → ℕ → Bool
sees dag n lower present v = is_some (entry present v) && is_from dag (or_zero (entry lower v)) (view_at (unit_at dag n).panorama v)

-- the weight of those present that the unit sees
abbrev pub weight_seen : List ℕ → UnitGraph → Starts → Starts → ℕ → ℕ
weight_seen weights dag lower present n = weight_of weights (sees dag n lower present)

-- the unit sees a quorum of those present
abbrev pub sees_quorum : List ℕ → UnitGraph → ℕ → Starts → Starts → ℕ → Bool
sees_quorum weights dag quorum lower present n = nat_le quorum (weight_seen weights dag lower present n)

-- the units of a lane that pass are its last ones
abbrev pub IsSuffix : UnitGraph → ℕ → (ℕ → Bool) → Type 0
IsSuffix dag tip passes = (m n : ℕ) → m < count_of dag → n < count_of dag → is_lane_below dag m tip ≡ true → is_lane_below dag n tip ≡ true
    → seq_of (unit_at dag m) ≤ seq_of (unit_at dag n) → passes m ≡ true → passes n ≡ true

-- only validators with a Correct slot are in the table
abbrev pub HasSlots : List View → Starts → Type 0
HasSlots panorama table = (v : ℕ) → is_some (entry table v) ≡ true → (number : UnitNo) × (view_at panorama v ≡ view.Correct number)
