-- What is kept of the walks down the lanes: for one block, and for blocks above it.
use Rattle.std.specs.Prelude.{◌≡◌, ℕ, ◌<◌, true, List, Option, Some, None, slice_index_or}
use Rattle.hw_types.specs.Votes.{is_block}
use Rattle.hw_dag.specs.declared.numbers.UnitNo.{UnitNo}
use Rattle.hw_dag.specs.Dag.{UnitGraph, count_of, node_at}
use Rattle.hw_horizon.specs.declared.kept.Walk.{Walk}
use Rattle.hw_horizon.specs.declared.fences.Fence.{Fence}
use Rattle.hw_horizon.specs.Starts.{IsLeastStart, IsWalked, votes_over}

-- the block that was asked last, where each validator's lane begins to vote for it, and the fences
pub record AskedWalks : Type 0 where
  pub block : Option UnitNo
  pub walks : List (Option Walk)
  pub fences : List (Option Fence)

-- the walk of a validator
abbrev pub walk_of : AskedWalks → ℕ → Option Walk
walk_of kept v = slice_index_or kept.walks v None

-- the walk that ended with this start, if it is one
abbrev pub walk_from : UnitNo → Option ℕ → Option Walk
walk_from tip None = None
walk_from tip (Some start) = Some (record { tip = tip; start = start })

-- the lane of the walk's tip begins to vote for the block there
pub record IsWalk (dag : UnitGraph) (block : ℕ) (walk : Walk) : Type 0 where
  pub known : walk.tip.0 < count_of dag
  pub start_is : IsLeastStart dag walk.tip.0 0 (votes_over dag block) walk.start

-- each walk is true of the graph
abbrev pub AreWalks : UnitGraph → ℕ → AskedWalks → Type 0
AreWalks dag block kept = (v : ℕ) (walk : Walk) → walk_of kept v ≡ Some walk → IsWalk dag block walk

-- from its first unit on each unit of its tip's lane, up to the tip, votes for the block or a descendant of it
pub record IsFence (dag : UnitGraph) (fence : Fence) : Type 0 where
  pub known : fence.tip.0 < count_of dag
  pub block_known : fence.block.0 < count_of dag
  pub block : is_block (node_at dag fence.block.0) ≡ true
  pub walked : IsWalked dag fence.tip.0 (votes_over dag fence.block.0) fence.first.0

-- each fence is true of the graph
abbrev pub AreFences : UnitGraph → List (Option Fence) → Type 0
AreFences dag fences = (k : ℕ) (fence : Fence) → slice_index_or fences k None ≡ Some fence → IsFence dag fence

-- what is kept is true of the graph
pub record AreKept (dag : UnitGraph) (kept : AskedWalks) : Type 0 where
  pub walks : (block : UnitNo) → kept.block ≡ Some block → AreWalks dag block.0 kept
  pub fences : AreFences dag kept.fences
