use Rattle.std.proofs.Common.{◌≡◌, ◌+◌, ◌-◌, ◌<◌, ◌≤◌, ℕ, [], ◌∷◌, min, add-zero, slice_index, arith}
use Rattle.hw_lanes.specs.AtWork.{tail_in}
use Rattle.hw_lanes.specs.Columns.{column, in_lane}
use Rattle.hw_lanes.specs.Padded.{block_at, block_count}
use Rattle.hw_lanes.specs.Pieces.{piece_at}
use Rattle.hw_lanes.proofs.Absorbing.{HasTaken_more, HasTaken_same}
use Rattle.hw_lanes.proofs.AtWork.{IsAtWork_more}
use Rattle.hw_lanes.proofs.Lanes.{below_four}
use Rattle.hw_lanes.proofs.work.Lanes.advance.Goals as goal

pub turns-init : goal.turns-init
turns-init c j lane =
    let m = in_lane c.piece-p.result.now c.piece-q.result.now c.piece-r.result.now c.piece-s.result.now in
    let piece = λ (k : ℕ). piece_at c.args.bytes.now c.args.parts.now (slice_index c.args.self.now.pieces k) in
    let same : m j ≡ piece j =
    below_four (λ (k : ℕ). m k ≡ piece k) c.piece-p.ensures c.piece-q.ensures c.piece-r.ensures c.piece-s.ensures j lane in
    rw (same, add-zero) (c.requires.at j lane).1.taken

pub block-requires : goal.block-requires
block-requires c = rw c.piece-p.ensures (c.requires.at 0 (omega arith)).1.tail

pub block-requires-in-turns : goal.block-requires-in-turns
block-requires-in-turns c = rw c.piece-q.ensures (c.requires.at 1 (omega arith)).1.tail

pub block-requires-in-turns-2 : goal.block-requires-in-turns-2
block-requires-in-turns-2 c = rw c.piece-r.ensures (c.requires.at 2 (omega arith)).1.tail

pub block-requires-in-turns-3 : goal.block-requires-in-turns-3
block-requires-in-turns-3 c = rw c.piece-s.ensures (c.requires.at 3 (omega arith)).1.tail

pub turns-preserved : goal.turns-preserved
turns-preserved c j lane =
    let i = c.turns.i in
    let left = c.args.self.now.left in
    let m = in_lane c.piece-p.result.now c.piece-q.result.now c.piece-r.result.now c.piece-s.result.now in
    let b = in_lane c.block.result.now c.block-in-turns.result.now c.block-in-turns-2.result.now c.block-in-turns-3.result.now in
    let piece = λ (k : ℕ). piece_at c.args.bytes.now c.args.parts.now (slice_index c.args.self.now.pieces k) in
    let same : m j ≡ piece j =
    below_four (λ (k : ℕ). m k ≡ piece k) c.piece-p.ensures c.piece-q.ensures c.piece-r.ensures c.piece-s.ensures j lane in
    let within : slice_index left j ≤ block_count (m j) = rw same (c.requires.at j lane).1.within in
    let at : ℕ = block_count (m j) - slice_index left j + i in
    let blocks : at < block_count (m j) → b j ≡ block_at (m j) at =
    below_four (λ (k : ℕ). block_count (m k) - slice_index left k + i < block_count (m k) → b k ≡ block_at (m k) (block_count (m k) - slice_index left k + i))
    (rw c.block_count.ensures.value at c.block.ensures.value) (rw c.block_count-2.ensures.value at c.block-in-turns.ensures.value)
    (rw c.block_count-3.ensures.value at c.block-in-turns-2.ensures.value) (rw c.block_count-4.ensures.value at c.block-in-turns-3.ensures.value) j lane in
    let next : min (at + 1) (block_count (m j)) ≡ min (block_count (m j) - slice_index left j + (i + 1)) (block_count (m j)) = omega arith in
    HasTaken_same (column c.compress.new.state j) (m j) (at + 1) (block_count (m j) - slice_index left j + (i + 1)) next
    (HasTaken_more (m j) (column c.turns.state j) (column c.compress.new.state j) (b j) at (c.turns.invariant j lane)
    (λ h. c.compress.ensures.taken j lane (c.lanes_with.ensures.taken j lane (omega arith)))
    (λ h. c.compress.ensures.left j lane (c.lanes_with.ensures.left j lane (omega arith)))
    blocks)

pub returns-clause-at : goal.returns-clause-at
returns-clause-at c j lane =
    let l = c.args.self.now in
    let m = in_lane c.piece-p.result.now c.piece-q.result.now c.piece-r.result.now c.piece-s.result.now in
    let piece = λ (k : ℕ). piece_at c.args.bytes.now c.args.parts.now (slice_index l.pieces k) in
    let same : m j ≡ piece j =
    below_four (λ (k : ℕ). m k ≡ piece k) c.piece-p.ensures c.piece-q.ensures c.piece-r.ensures c.piece-s.ensures j lane in
    let i : c.turns.i ≡ c.args.turns = omega arith in
    let after = c.saturating_sub.result ∷ c.saturating_sub-2.result ∷ c.saturating_sub-3.result ∷ c.saturating_sub-4.result ∷ [] in
    let fewer : slice_index after j ≡ slice_index l.left j - c.args.turns =
    below_four (λ (k : ℕ). slice_index after k ≡ slice_index l.left k - c.args.turns)
    c.saturating_sub.ensures c.saturating_sub-2.ensures c.saturating_sub-3.ensures c.saturating_sub-4.ensures j lane in
    let at = c.requires.at j lane in (
      at.0,
      IsAtWork_more (piece j) (column c.args.state.now j) (column c.turns.state j) (tail_in l j) (slice_index l.left j) c.args.turns (slice_index after j) at.1
          (rw (same, i) at (c.turns.invariant j lane)) fewer,
    )

pub returns-clause-left : goal.returns-clause-left
returns-clause-left c =
    below_four _ c.saturating_sub.ensures c.saturating_sub-2.ensures c.saturating_sub-3.ensures c.saturating_sub-4.ensures
