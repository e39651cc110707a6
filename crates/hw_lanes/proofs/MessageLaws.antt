-- Messages that stand one behind the other.
use Rattle.std.proofs.Common.{◌≡◌, ℕ, zero, suc, ◌+◌, ◌-◌, ◌≤◌, List, [], ◌∷◌, ◌++◌, length, take, drop, map, refl, sym, ap, ◌∙◌, arith, length-append, Result, Ok, Err}
use Rattle.std.specs.Prelude.{All, OnErr}
use Rattle.std.proofs.lemmas.List.{map-append, take-append-le}
use Rattle.std.proofs.lemmas.List.Elements.{All-append}
use Rattle.std.proofs.lemmas.Slice.{between_is}
use Rattle.std.proofs.Math.Seq.{take-length, drop-append_seam}
use Rattle.sha2.specs.Sha256.{sha256}
use Rattle.hw_lanes.specs.declared.pieces.Part.{Part}
use Rattle.hw_lanes.specs.Pieces.{IsWithin, part_of}

part_stays : (xs ys : List ℕ) (part : Part) → part.end ≤ length xs → part_of (xs ++ ys) part ≡ part_of xs part
part_stays xs ys part within =
    between_is (xs ++ ys) part.start part.end
    ∙ ap (drop part.start) (take-append-le part.end xs ys within)
    ∙ sym (between_is xs part.start part.end)

parts_stay : (xs ys : List ℕ) (parts : List Part) → All (IsWithin (length xs)) parts → map (part_of (xs ++ ys)) parts ≡ map (part_of xs) parts
parts_stay xs ys [] within = refl
parts_stay xs ys (p ∷ ps) within =
    ap (λ (b : List ℕ). b ∷ map (part_of (xs ++ ys)) ps) (part_stays xs ys p (within 0 p (omega arith)).1)
    ∙ ap (λ (bs : List (List ℕ)). part_of xs p ∷ bs) (parts_stay xs ys ps (λ k d low. within (suc k) d (omega (arith, low))))

-- the part behind all others
last_part : (xs ys : List ℕ) → part_of (xs ++ ys) (record { start = length xs; end = length xs + length ys }) ≡ ys
last_part xs ys =
    let whole : length xs + length ys ≡ length (xs ++ ys) = omega (arith, length-append xs ys) in
    between_is (xs ++ ys) (length xs) (length xs + length ys)
    ∙ ap (λ (n : ℕ). drop (length xs) (take n (xs ++ ys))) whole
    ∙ ap (drop (length xs)) (take-length (xs ++ ys))
    ∙ drop-append_seam xs ys

one_within : (n : ℕ) (part : Part) → IsWithin n part → All (IsWithin n) (part ∷ [])
one_within n part is zero d low = is
one_within n part is (suc k) d low = absurd (omega (arith, low))

module _ (bytes message more : List ℕ) (parts : List Part) (within : All (IsWithin (length bytes)) parts) (longer : more ≡ bytes ++ message) where
  -- the parts stay within the bytes, and the messages the same
  pub more_within : All (IsWithin (length more)) parts
  more_within = λ k d low.
      let grown = ap (λ (l : List ℕ). length l) longer in
      let whole = length-append bytes message in
      ((within k d low).0, omega (arith, (within k d low).1))

  pub more_same : map (part_of more) parts ≡ map (part_of bytes) parts
  more_same = ap (λ (bs : List ℕ). map (part_of bs) parts) longer ∙ parts_stay bytes message parts within

  module _ (parts' : List Part) (start end : ℕ) (pushed : parts' ≡ parts ++ record { start = start; end = end } ∷ []) (begins : start ≡ length bytes) (ends : end ≡ length more) where
    abbrev part : Part
    part = record { start = start; end = end }

    -- so does the part of the message behind them
    pub pushed_within : All (IsWithin (length more)) parts'
    pushed_within =
        let grown = ap (λ (l : List ℕ). length l) longer in
        let whole = length-append bytes message in
        let last : IsWithin (length more) part = (omega (arith, begins, ends, grown, whole), omega (arith, ends)) in
        rw pushed (All-append (IsWithin (length more)) parts (part ∷ []) more_within (one_within (length more) part last))

    last_is : part_of more part ≡ message
    last_is =
        let grown = ap (λ (l : List ℕ). length l) longer in
        let whole = length-append bytes message in
        let place : part ≡ record { start = length bytes; end = length bytes + length message } =
        ap (λ (n : ℕ). record { start = n; end = end }) begins ∙ ap (λ (n : ℕ). record { start = length bytes; end = n }) (omega (arith, ends, grown, whole)) in
        ap (λ (bs : List ℕ). part_of bs part) longer ∙ ap (part_of (bytes ++ message)) place ∙ last_part bytes message

    pub pushed_is : map (part_of more) parts' ≡ map (part_of bytes) parts ++ message ∷ []
    pushed_is =
        ap (map (part_of more)) pushed
        ∙ map-append (part_of more) parts (part ∷ [])
        ∙ ap (λ (bs : List (List ℕ)). bs ++ part_of more part ∷ []) more_same
        ∙ ap (λ (b : List ℕ). map (part_of bytes) parts ++ b ∷ []) last_is

pub on_any : {A E : Type 0} (r : Result A E) (P : Type 0) → P → OnErr r P
on_any (Ok x) P is = tt
on_any (Err e) P is = is

-- the digests of the parts are those of the messages
pub digests_are : (bytes : List ℕ) (parts : List Part) → map (λ (part : Part). sha256 (part_of bytes part)) parts ≡ map sha256 (map (part_of bytes) parts)
digests_are bytes [] = refl
digests_are bytes (p ∷ ps) = ap (λ (ds : List (List ℕ)). sha256 (part_of bytes p) ∷ ds) (digests_are bytes ps)
