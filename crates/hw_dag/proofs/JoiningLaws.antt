-- A panorama that is joined slot by slot.
use Rattle.std.proofs.Common.{◌≡◌, ℕ, ◌<◌, ◌≤◌, List, length}
use Rattle.hw_dag.specs.declared.numbers.View.{View}
use Rattle.hw_dag.specs.Dag.{UnitGraph, view_at}
use Rattle.hw_dag.specs.Join.{joined}

-- the slots below a number are joined, and the others are as they were
pub record IsPartJoined (dag : UnitGraph) (left right now : List View) (n : ℕ) : Type 0 where
  pub length_is : length now ≡ length left
  pub joined_below : (v : ℕ) → v < n → view_at now v ≡ joined dag (view_at left v) (view_at right v)
  pub same_above : (v : ℕ) → n ≤ v → view_at now v ≡ view_at left v
