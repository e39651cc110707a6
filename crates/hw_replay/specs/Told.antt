-- What a consumer is told, block by block, and that no block follows.
-- Source: ours.
use Rattle.std.specs.Prelude.{◌≡◌, ◌≤◌, ℕ, List, ◌++◌, length, take, drop, slice_get, Option, Some, None}
use Rattle.std.specs.Option.{option_map}
use Rattle.hw_io.specs.Consumers.{Consumed, after_finish}
use Rattle.hw_io.specs.Faults.{HasCause, IsWantCounted}
use Rattle.hw_replay.specs.declared.ending.Ending.{Ending}
use Rattle.hw_replay.specs.Fates.{Sight, Fate, answer_of}

-- what was taken is the first so many blocks of the chain, where it is told
abbrev pub HasTaken : List (ℕ × List ℕ) → ℕ → Option Consumed → Type 0
HasTaken chain count None = Unit {0}
HasTaken chain count (Some consumed) = consumed.pairs ≡ take count chain

-- the blocks of a chain from one place on, up to another
abbrev pub blocks_between : ℕ → ℕ → List (ℕ × List ℕ) → List (ℕ × List ℕ)
blocks_between from to chain = drop from (take to chain)

-- these blocks were taken after the others
abbrev pub with_more : List (ℕ × List ℕ) → Consumed → Consumed
with_more blocks consumed = record consumed { pairs = consumed.pairs ++ blocks }

-- without a fault all blocks are taken, and with one the block of which it tells is the next
abbrev pub StopsAt : List (ℕ × List ℕ) → ℕ → Option Ending → Type 0
StopsAt chain count None = count ≡ length chain
StopsAt chain count (Some ending) = (block : ℕ × List ℕ) × (slice_get chain count ≡ Some block) × (ending.height ≡ Some block.0)

-- The consumer took the blocks from this place on, in order and each once, until it failed or none followed. No call came
-- after its fault. A fault of it and a want of memory are counted where it answered so, and nowhere else.
pub record IsTold {B K : Type 0} (sight : Sight B K) (chain : List (ℕ × List ℕ)) (from : ℕ) (fate : Fate B) : Type 0 where
  pub count : ℕ
  pub more : from ≤ count
  pub took : sight.consumed fate.after ≡ option_map (with_more (blocks_between from count chain)) (sight.consumed fate.before)
  pub stops : StopsAt chain count fate.ended
  pub cause : HasCause (sight.faults fate.before) (sight.faults fate.after) (answer_of fate.ended)
  pub want : IsWantCounted (sight.wants fate.before) (sight.wants fate.after) (answer_of fate.ended)
  pub kind : sight.kind fate.after ≡ sight.kind fate.before

-- a fault at the end is told without a height
abbrev pub AtTheEnd : Option Ending → Type 0
AtTheEnd None = Unit {0}
AtTheEnd (Some ending) = ending.height ≡ None

-- The consumer was told once that no block follows.
pub record IsFinished {B K : Type 0} (sight : Sight B K) (fate : Fate B) : Type 0 where
  pub finish : sight.consumed fate.after ≡ option_map (after_finish (answer_of fate.ended)) (sight.consumed fate.before)
  pub at : AtTheEnd fate.ended
  pub cause : HasCause (sight.faults fate.before) (sight.faults fate.after) (answer_of fate.ended)
  pub want : IsWantCounted (sight.wants fate.before) (sight.wants fate.after) (answer_of fate.ended)
  pub kind : sight.kind fate.after ≡ sight.kind fate.before
