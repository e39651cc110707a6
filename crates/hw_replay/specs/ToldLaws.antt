-- What consumers were told stays: the statements.
-- Source: ours.
use Rattle.std.specs.Prelude.{◌≡◌, ◌≤◌, ℕ, length, Option}
use Rattle.hw_types.specs.Real.{CoreState}
use Rattle.hw_io.specs.Consumers.{Consumed}
use Rattle.hw_safety.specs.Chain.{Begins}
use Rattle.hw_replay.specs.Chain.{told_chain}
use Rattle.hw_replay.specs.Told.{HasTaken}

-- As a node's journal grows, the chain that consumers are told only grows, whatever the node was asked.
abbrev pub ToldOnlyGrows : Type 0
ToldOnlyGrows = (node later : CoreState) → later.config ≡ node.config → Begins node.journal later.journal → Begins (told_chain node) (told_chain later)

-- So what a consumer took of it is still its first blocks.
abbrev pub TakenStaysTaken : Type 0
TakenStaysTaken = (node later : CoreState) → later.config ≡ node.config → Begins node.journal later.journal
    → (count : ℕ) (consumed : Option Consumed) → count ≤ length (told_chain node) → HasTaken (told_chain node) count consumed → HasTaken (told_chain later) count consumed
