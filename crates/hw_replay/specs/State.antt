-- What is kept of the consumers.
use Rattle.std.specs.Prelude.{ℕ, List}
use Rattle.hw_replay.specs.declared.ending.Dropped.{Dropped}

-- how many decided blocks were passed on, the places in the first list of the consumers that are left, where those that were
-- dropped failed, and these themselves, both in the order of dropping
pub record FanoutState (B : Type 0) : Type 0 where
  pub passed : ℕ
  pub places : List ℕ
  pub drops : List Dropped
  pub gone : List B
