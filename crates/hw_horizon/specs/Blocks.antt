-- Blocks that were found.
use Rattle.std.specs.Prelude.{ℕ, List}
use Rattle.hw_horizon.specs.declared.found.Found.{Found}

-- the blocks found, in order, and the room for more
pub record FoundBlocks : Type 0 where
  pub blocks : List Found
  pub spare : ℕ
