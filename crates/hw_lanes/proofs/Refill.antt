-- Pieces that lanes take in turn: which are done, and how many are not.
use Rattle.std.proofs.Common.{◌≡◌, ◌≢◌, ℕ, ◌+◌, ◌-◌, ◌<◌, ◌≤◌, List, [], ◌∷◌, length, min, slice_index, slice_index_or, slice_set, map, suc, inl, inr, refl, sym, ap, ap₂, ◌∙◌, arith}
use Rattle.std.proofs.lemmas.Bool.{cases_eq, cases_lt}
use Rattle.std.proofs.lemmas.List.{get_or-set_other, get_or-set_same}
use Rattle.sha2.specs.Sha256.{sha256}
use Rattle.hw_lanes.specs.Pieces.{part_of, piece_at}
use Rattle.hw_lanes.specs.declared.pieces.Part.{Part}
use Rattle.hw_lanes.proofs.Lanes.{below_four, four_lanes}

-- the pieces below next that no lane has are done
abbrev pub AreDone : List ℕ → List Part → List (List ℕ) → List ℕ → ℕ → Type 0
AreDone bytes parts out pieces next = (k : ℕ) → k < next → ((j : ℕ) → j < 4 → slice_index pieces j ≢ k)
    → slice_index_or out k [] ≡ sha256 (piece_at bytes parts k)

-- a lane without a piece means that none is left
abbrev pub NoneLeft : List ℕ → ℕ → ℕ → Type 0
NoneLeft pieces next n = (j : ℕ) → j < 4 → n ≤ slice_index pieces j → next ≡ n

-- how many pieces below n are not done
abbrev pub open_pieces : List ℕ → ℕ → ℕ → ℕ
open_pieces pieces next n =
    n - next + min 1 (n - slice_index pieces 0) + min 1 (n - slice_index pieces 1) + min 1 (n - slice_index pieces 2) + min 1 (n - slice_index pieces 3)

first_four : (j : ℕ) → j < 4 → slice_index (0 ∷ 1 ∷ 2 ∷ 3 ∷ []) j ≡ j
first_four = below_four _ refl refl refl refl

pub AreDone_none : (bytes : List ℕ) (parts : List Part) (out : List (List ℕ)) (pieces : List ℕ) → pieces ≡ 0 ∷ 1 ∷ 2 ∷ 3 ∷ [] → AreDone bytes parts out pieces 4
AreDone_none bytes parts out pieces e k low free = absurd (free k low (rw e (first_four k low)))

pub NoneLeft_none : (pieces : List ℕ) (n : ℕ) → pieces ≡ 0 ∷ 1 ∷ 2 ∷ 3 ∷ [] → 4 ≤ n → NoneLeft pieces 4 n
NoneLeft_none pieces n e many j low past =
    let at : slice_index pieces j ≡ j = rw e (first_four j low) in
    absurd (omega arith)

pub AreDone_more : (bytes : List ℕ) (parts : List Part) (out : List (List ℕ)) (pieces : List ℕ) (lane next after : ℕ) (d : List ℕ)
    → length pieces ≡ 4 → lane < 4 → length out ≡ length parts → slice_index pieces lane < length parts → after ≤ next + 1
    → AreDone bytes parts out pieces next → d ≡ sha256 (piece_at bytes parts (slice_index pieces lane))
    → AreDone bytes parts (slice_set out (slice_index pieces lane) d) (slice_set pieces lane next) after
AreDone_more bytes parts out pieces lane next after d four low room within step held digest k below free =
    let now : ℕ = slice_index pieces lane in
    let loaded : slice_index (slice_set pieces lane next) lane ≡ next = get_or-set_same pieces lane next 0 (omega arith) in
    let not_next : k ≢ next = λ e. free lane low (loaded ∙ sym e) in
    elim (cases_eq k now) [
      | inl e ↦
          let written : slice_index_or (slice_set out now d) now [] ≡ d = get_or-set_same out now d [] (omega arith) in
          rw e (written ∙ digest)
      | inr ne ↦
          get_or-set_other out now k d [] ne
          ∙ held k (omega arith) (λ j h. elim (cases_eq j lane) [
            | inl e ↦ λ same. ne (sym same ∙ ap (slice_index pieces) e)
            | inr other ↦ λ same. free j h (get_or-set_other pieces lane j next 0 other ∙ same)
          ])
    ]

pub NoneLeft_more : (pieces : List ℕ) (lane next after n : ℕ) → length pieces ≡ 4 → lane < 4 → next ≤ n
    → (next < n → after ≡ next + 1) → (n ≤ next → after ≡ next) → NoneLeft pieces next n → NoneLeft (slice_set pieces lane next) after n
NoneLeft_more pieces lane next after n four low within more same held j h past = elim (cases_eq j lane) [
  | inl e ↦
      let loaded : slice_index (slice_set pieces lane next) j ≡ next = rw e (get_or-set_same pieces lane next 0 (omega arith)) in
      let stop : after ≡ next = same (omega arith) in
      omega arith
  | inr other ↦
      let kept : slice_index (slice_set pieces lane next) j ≡ slice_index pieces j = get_or-set_other pieces lane j next 0 other in
      let none : next ≡ n = held j h (omega arith) in
      let stop : after ≡ next = same (omega arith) in
      omega arith
]

-- a piece that is done, where its lane takes the next one
pub open_pieces-more : (n next after : ℕ) (pieces : List ℕ) → length pieces ≡ 4 → next ≤ n
    → (next < n → after ≡ next + 1) → (n ≤ next → after ≡ next) → (lane : ℕ) → lane < 4 → slice_index pieces lane < n
    → open_pieces (slice_set pieces lane next) after n < open_pieces pieces next n
open_pieces-more n next after pieces four within more same = elim (cases_lt next n) [
  | inl lt ↦
      let e : after ≡ next + 1 = more lt in
      four_lanes (λ p. (lane : ℕ) → lane < 4 → slice_index p lane < n → open_pieces (slice_set p lane next) after n < open_pieces p next n)
      (λ a b c d. below_four _ (λ h. omega arith) (λ h. omega arith) (λ h. omega arith) (λ h. omega arith)) pieces four
  | inr ge ↦
      let e : after ≡ next = same ge in
      four_lanes (λ p. (lane : ℕ) → lane < 4 → slice_index p lane < n → open_pieces (slice_set p lane next) after n < open_pieces p next n)
      (λ a b c d. below_four _ (λ h. omega arith) (λ h. omega arith) (λ h. omega arith) (λ h. omega arith)) pieces four
]

-- where no lane has a piece, all are done
pub AreDone_all : (bytes : List ℕ) (parts : List Part) (out : List (List ℕ)) (pieces : List ℕ) (next : ℕ) → AreDone bytes parts out pieces next
    → NoneLeft pieces next (length parts) → ((j : ℕ) → j < 4 → length parts ≤ slice_index pieces j)
    → (k : ℕ) → k < length parts → slice_index_or out k [] ≡ sha256 (piece_at bytes parts k)
AreDone_all bytes parts out pieces next held none idle k low =
    let last : next ≡ length parts = none 0 (omega arith) (idle 0 (omega arith)) in
    held k (omega arith) (λ j h same. absurd (omega (arith, idle j h)))

-- the digest of each piece in its place is the list of their digests
pub digests_all : (bytes : List ℕ) (parts : List Part) (out : List (List ℕ)) → length out ≡ length parts
    → ((k : ℕ) → k < length parts → slice_index_or out k [] ≡ sha256 (piece_at bytes parts k))
    → out ≡ map (λ (part : Part). sha256 (part_of bytes part)) parts
digests_all bytes [] [] same each = refl
digests_all bytes [] (d ∷ out) same each = absurd (omega arith)
digests_all bytes (part ∷ parts) [] same each = absurd (omega arith)
digests_all bytes (part ∷ parts) (d ∷ out) same each =
    ap₂ (λ (x : List ℕ) (xs : List (List ℕ)). x ∷ xs) (each 0 (omega arith))
    (digests_all bytes parts out (omega arith) (λ k h. each (suc k) (omega arith)))
