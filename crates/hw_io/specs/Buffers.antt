-- A buffer as a window of a list.
use Rattle.std.specs.Prelude.{ℕ, ◌≤◌, List, length}

-- the window from start up to end lies in the bytes
pub record IsWindow (bytes : List ℕ) (start end : ℕ) : Type 0 where
  pub ordered : start ≤ end
  pub within : end ≤ length bytes
