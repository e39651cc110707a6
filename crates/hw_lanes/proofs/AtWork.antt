-- A lane at work: when it begins, and as it goes on.
use Rattle.std.proofs.Common.{◌≡◌, ◌≢◌, ℕ, ◌+◌, ◌-◌, ◌^◌, ◌<◌, ◌≤◌, List, [], length, min, slice_index, slice_index_or, slice_set, inl, inr, ap, arith}
use Rattle.std.proofs.lemmas.List.{get_or-set_other, get_or-set_same}
use Rattle.sha2.specs.Sha256.{digest_bytes, initial_hash_256, sha256}
use Rattle.hw_lanes.specs.AtWork.{AreAt, IsAtWork, tail_in}
use Rattle.hw_lanes.specs.declared.work.Lanes.{Lanes}
use Rattle.hw_lanes.specs.declared.work.Tail.{Tail}
use Rattle.hw_lanes.specs.Columns.{column}
use Rattle.hw_lanes.specs.Pieces.{piece_at}
use Rattle.hw_lanes.specs.declared.pieces.Part.{Part}
use Rattle.std.proofs.lemmas.Bool.{cases_eq}
use Rattle.hw_lanes.specs.Absorbed.{HasTaken}
use Rattle.hw_lanes.specs.Padded.{IsTail, block_count}
use Rattle.hw_lanes.proofs.Absorbing.{HasTaken_all, HasTaken_none, HasTaken_same}

pub IsAtWork_new : (m h t : List ℕ) (left : ℕ) → IsTail m t → left ≡ block_count m → left < 2 ^ 60 → h ≡ initial_hash_256 → IsAtWork m h t left
IsAtWork_new m h t left tail all few fresh =
    let none : min 0 (block_count m) ≡ min (block_count m - left) (block_count m) = omega arith in
    record {
      tail = tail;
      within = omega arith;
      few = few;
      taken = HasTaken_same h m 0 (block_count m - left) none (HasTaken_none h m fresh);
    }

pub IsAtWork_more : (m h next t : List ℕ) (left turns after : ℕ) → IsAtWork m h t left → HasTaken next m (block_count m - left + turns)
    → after ≡ left - turns → IsAtWork m next t after
IsAtWork_more m h next t left turns after at taken e =
    let within = at.within in
    let few = at.few in
    let same : min (block_count m - left + turns) (block_count m) ≡ min (block_count m - after) (block_count m) = omega arith in
    record {
      tail = at.tail;
      within = omega arith;
      few = omega arith;
      taken = HasTaken_same next m (block_count m - left + turns) (block_count m - after) same taken;
    }

-- a lane that begins with a piece, while the others stay
pub AreAt_loaded : (bytes : List ℕ) (parts : List Part) (l : Lanes) (state next_state : List (List ℕ)) (lane next count : ℕ) (t : Tail)
    → AreAt bytes parts l state → length l.pieces ≡ 4 → length l.left ≡ 4 → length l.tails ≡ 4 → lane < 4 → next ≤ length parts
    → column next_state lane ≡ initial_hash_256 → ((j : ℕ) → j ≢ lane → column next_state j ≡ column state j)
    → IsTail (piece_at bytes parts next) t.bytes → count ≡ block_count (piece_at bytes parts next) → count < 2 ^ 60
    → AreAt bytes parts (record { pieces = slice_set l.pieces lane next; left = slice_set l.left lane count; tails = slice_set l.tails lane t }) next_state
AreAt_loaded bytes parts l state next_state lane next count t at lp ll lt low within fresh others tail counted few = λ j h.
    let none : Tail = record { bytes = [] } in
    let after : Lanes = record { pieces = slice_set l.pieces lane next; left = slice_set l.left lane count; tails = slice_set l.tails lane t } in
    elim (cases_eq j lane) [
      | inl e ↦
          let p : slice_index (slice_set l.pieces lane next) j ≡ next = rw e (get_or-set_same l.pieces lane next 0 (omega arith)) in
          let f : slice_index (slice_set l.left lane count) j ≡ count = rw e (get_or-set_same l.left lane count 0 (omega arith)) in
          let u : slice_index_or (slice_set l.tails lane t) j none ≡ t = rw e (get_or-set_same l.tails lane t none (omega arith)) in
          let v : tail_in after j ≡ t.bytes = ap (λ (x : Tail). x.bytes) u in
          let start : column next_state j ≡ initial_hash_256 = rw e fresh in
          (rw p within, rw (p, f, v) (IsAtWork_new (piece_at bytes parts next) (column next_state j) t.bytes count tail counted few start))
      | inr ne ↦
          let p : slice_index (slice_set l.pieces lane next) j ≡ slice_index l.pieces j = get_or-set_other l.pieces lane j next 0 ne in
          let f : slice_index (slice_set l.left lane count) j ≡ slice_index l.left j = get_or-set_other l.left lane j count 0 ne in
          let u : slice_index_or (slice_set l.tails lane t) j none ≡ slice_index_or l.tails j none = get_or-set_other l.tails lane j t none ne in
          let v : tail_in after j ≡ tail_in l j = ap (λ (x : Tail). x.bytes) u in
          (rw p (at j h).0, rw (p, f, v, others j ne) (at j h).1)
    ]

-- a lane that is done has its message's digest
pub IsAtWork_done : (m h t digest : List ℕ) (left : ℕ) → IsAtWork m h t left → left ≡ 0 → digest ≡ digest_bytes h 8 → digest ≡ sha256 m
IsAtWork_done m h t digest left at none written = HasTaken_all m h digest (block_count m - left) written at.taken (omega arith)
