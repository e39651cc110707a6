-- Four lanes at work on pieces of a buffer.
use Rattle.std.specs.Prelude.{ℕ, ◌-◌, ◌^◌, ◌<◌, ◌≤◌, List, [], length, slice_index, slice_index_or}
use Rattle.hw_lanes.specs.declared.work.Lanes.{Lanes}
use Rattle.hw_lanes.specs.Absorbed.{HasTaken}
use Rattle.hw_lanes.specs.Columns.{column}
use Rattle.hw_lanes.specs.Padded.{IsTail, block_count}
use Rattle.hw_lanes.specs.Pieces.{piece_at}
use Rattle.hw_lanes.specs.declared.pieces.Part.{Part}

-- a lane at work on the message m, of which `left` blocks are left: h is its hash value, and t the
-- message's tail
pub record IsAtWork (m h t : List ℕ) (left : ℕ) : Type 0 where
  pub tail : IsTail m t
  pub within : left ≤ block_count m
  pub few : left < 2 ^ 60
  pub taken : HasTaken h m (block_count m - left)

-- the tail in lane j
abbrev pub tail_in : Lanes → ℕ → List ℕ
tail_in l j = (slice_index_or l.tails j (record { bytes = [] })).bytes

-- each lane is at work on its piece, with its hash value in its column of the state
abbrev pub AreAt : List ℕ → List Part → Lanes → List (List ℕ) → Type 0
AreAt bytes parts l state = (j : ℕ) → j < 4
    → (slice_index l.pieces j ≤ length parts)
    × IsAtWork (piece_at bytes parts (slice_index l.pieces j)) (column state j) (tail_in l j) (slice_index l.left j)
