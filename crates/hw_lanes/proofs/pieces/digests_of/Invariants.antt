use Rattle.std.proofs.Common.{◌≡◌, ◌<◌, ◌≤◌, ℕ, [], length, slice_index_or}
use Rattle.sha2.specs.Sha256.{sha256}
use Rattle.hw_lanes.specs.AtWork.{AreAt}
use Rattle.hw_lanes.specs.Pieces.{piece_at}
use Rattle.hw_lanes.proofs.Refill.{AreDone, NoneLeft, open_pieces}
use Rattle.hw_lanes.proofs.pieces.digests_of.Given as goal

abbrev pub invariant-few : goal.invariant-few
invariant-few l =
    (length l.out ≡ length l.parts) × ((k : ℕ) → k < l.k → slice_index_or l.out k [] ≡ sha256 (piece_at l.bytes l.parts k))

abbrev pub invariant-pieces : goal.invariant-pieces
invariant-pieces l = record {
  room : length l.out ≡ length l.parts;
  next_in : l.next ≤ length l.parts;
  four : length l.lanes.pieces ≡ 4;
  at : AreAt l.bytes l.parts l.lanes l.state;
  none_left : NoneLeft l.lanes.pieces l.next (length l.parts);
  done : AreDone l.bytes l.parts l.out l.lanes.pieces l.next;
}

abbrev pub decreases-pieces : goal.decreases-pieces
decreases-pieces l = open_pieces l.lanes.pieces l.next (length l.parts)
