use Rattle.std.proofs.Common.{◌≡◌, ◌+◌, ◌<◌, length, slice_index, length-set, refl, arith, ◌∙◌}
use Rattle.sha2.specs.Sha256.{sha256}
use Rattle.hw_lanes.specs.AtWork.{tail_in}
use Rattle.hw_lanes.specs.Columns.{column}
use Rattle.hw_lanes.specs.Pieces.{piece_at}
use Rattle.hw_lanes.proofs.AtWork.{IsAtWork_done}
use Rattle.hw_lanes.proofs.Refill.{AreDone, AreDone_all, AreDone_more, AreDone_none, NoneLeft, NoneLeft_more, NoneLeft_none, digests_all, open_pieces-more}
use Rattle.hw_lanes.proofs.pieces.digests_of.Goals as goal

pub pieces-init : goal.pieces-init
pieces-init c = record {
  room = c.requires.room;
  next_in = omega arith;
  four = rw c.new-lanes.ensures.pieces refl;
  at = c.new-lanes.ensures.at c.initial_state-state.result c.initial_state-state.ensures;
  none_left = NoneLeft_none c.new-lanes.result.pieces (length c.args.parts.now) c.new-lanes.ensures.pieces (omega arith);
  done = AreDone_none c.args.bytes.now c.args.parts.now c.args.out.now c.new-lanes.result.pieces c.new-lanes.ensures.pieces;
}

pub pieces-smaller-then-next-count : goal.pieces-smaller-then-next-count
pieces-smaller-then-next-count c =
    let n = length c.args.parts.now in
    let lane = c.in-Some.lane in
    let pieces = c.pieces.lanes.pieces in
    let four = c.pieces.invariant.four in
    rw (c.load.ensures.pieces, c.advance.ensures.pieces)
    (open_pieces-more n c.pieces.next (c.pieces.next + 1) pieces four c.pieces.invariant.next_in (λ h. refl) (λ h. absurd (omega arith)) lane c.in-Some.ensures.0 c.in-Some.ensures.1)

pub pieces-preserved-then-next-count : goal.pieces-preserved-then-next-count
pieces-preserved-then-next-count c =
    let n = length c.args.parts.now in
    let next = c.pieces.next in
    let lane = c.in-Some.lane in
    let pieces = c.advance.new.self.pieces in
    let four : length pieces ≡ 4 = rw c.advance.ensures.pieces c.pieces.invariant.four in
    let low : lane < 4 = c.in-Some.ensures.0 in
    let within : slice_index pieces lane < n = rw c.advance.ensures.pieces c.in-Some.ensures.1 in
    let held = c.pieces.invariant in
    let none : NoneLeft pieces next n = rw c.advance.ensures.pieces held.none_left in
    let done : AreDone c.args.bytes.now c.args.parts.now c.pieces.out pieces next = rw c.advance.ensures.pieces held.done in
    let idle : slice_index c.advance.new.self.left lane ≡ 0 = omega (arith, c.advance.ensures.left lane low, c.left_in-turns.ensures) in
    let message = piece_at c.args.bytes.now c.args.parts.now (slice_index pieces lane) in
    let digest : c.digest_in.result ≡ sha256 message =
    IsAtWork_done message (column c.advance.new.state lane) (tail_in c.advance.new.self lane) c.digest_in.result (slice_index c.advance.new.self.left lane)
    (c.advance.ensures.at lane low).1 idle c.digest_in.ensures in
    record {
      room = length-set c.pieces.out _ _ ∙ held.room;
      next_in = omega arith;
      four = rw c.load.ensures.pieces (length-set pieces lane next ∙ four);
      at = c.load.ensures.at;
      none_left = rw c.load.ensures.pieces (NoneLeft_more pieces lane next (next + 1) n four low held.next_in (λ h. refl) (λ h. absurd (omega arith)) none);
      done = rw (c.load.ensures.pieces, c.piece_in-done.ensures)
          (AreDone_more c.args.bytes.now c.args.parts.now c.pieces.out pieces lane next (next + 1) c.digest_in.result four low held.room within (omega arith) done digest);
    }

pub pieces-smaller : goal.pieces-smaller
pieces-smaller c =
    let n = length c.args.parts.now in
    let lane = c.in-Some.lane in
    let pieces = c.pieces.lanes.pieces in
    let four = c.pieces.invariant.four in
    rw (c.load.ensures.pieces, c.advance.ensures.pieces)
    (open_pieces-more n c.pieces.next c.pieces.next pieces four c.pieces.invariant.next_in (λ h. absurd (omega arith)) (λ h. refl) lane c.in-Some.ensures.0 c.in-Some.ensures.1)

pub pieces-preserved : goal.pieces-preserved
pieces-preserved c =
    let n = length c.args.parts.now in
    let next = c.pieces.next in
    let lane = c.in-Some.lane in
    let pieces = c.advance.new.self.pieces in
    let four : length pieces ≡ 4 = rw c.advance.ensures.pieces c.pieces.invariant.four in
    let low : lane < 4 = c.in-Some.ensures.0 in
    let within : slice_index pieces lane < n = rw c.advance.ensures.pieces c.in-Some.ensures.1 in
    let held = c.pieces.invariant in
    let none : NoneLeft pieces next n = rw c.advance.ensures.pieces held.none_left in
    let done : AreDone c.args.bytes.now c.args.parts.now c.pieces.out pieces next = rw c.advance.ensures.pieces held.done in
    let idle : slice_index c.advance.new.self.left lane ≡ 0 = omega (arith, c.advance.ensures.left lane low, c.left_in-turns.ensures) in
    let message = piece_at c.args.bytes.now c.args.parts.now (slice_index pieces lane) in
    let digest : c.digest_in.result ≡ sha256 message =
    IsAtWork_done message (column c.advance.new.state lane) (tail_in c.advance.new.self lane) c.digest_in.result (slice_index c.advance.new.self.left lane)
    (c.advance.ensures.at lane low).1 idle c.digest_in.ensures in
    record {
      room = length-set c.pieces.out _ _ ∙ held.room;
      next_in = held.next_in;
      four = rw c.load.ensures.pieces (length-set pieces lane next ∙ four);
      at = c.load.ensures.at;
      none_left = rw c.load.ensures.pieces (NoneLeft_more pieces lane next next n four low held.next_in (λ h. absurd (omega arith)) (λ h. refl) none);
      done = rw (c.load.ensures.pieces, c.piece_in-done.ensures)
          (AreDone_more c.args.bytes.now c.args.parts.now c.pieces.out pieces lane next next c.digest_in.result four low held.room within (omega arith) done digest);
    }

pub returns : goal.returns
returns c =
    let held = c.pieces.invariant in
    digests_all c.args.bytes.now c.args.parts.now c.pieces.out held.room
    (AreDone_all c.args.bytes.now c.args.parts.now c.pieces.out c.pieces.lanes.pieces c.pieces.next held.done held.none_left c.in_default.ensures)

pub returns-then-count-lt4 : goal.returns-then-count-lt4
returns-then-count-lt4 c =
    digests_all c.args.bytes.now c.args.parts.now c.few.out c.few.invariant.0 (λ k low. c.few.invariant.1 k (omega arith))
