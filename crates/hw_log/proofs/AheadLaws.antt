-- What was worked out ahead stays true while bytes are used and more are read.
use Rattle.std.proofs.Common.{◌≡◌, ℕ, ◌+◌, ◌-◌, ◌^◌, ◌<◌, ◌≤◌, List, [], length, take, drop, map, min, Option, Some, None, slice_index_or, refl, sym, ap, subst, ◌∙◌, inl, inr, arith}
use Rattle.std.specs.Prelude.{All, IfSome}
use Rattle.std.specs.Io.{StartsWith}
use Rattle.std.specs.Option.{option_map}
use Rattle.std.proofs.lemmas.Bool.{cases_lt}
use Rattle.std.proofs.lemmas.List.{drop-drop, drop-take, drop_all, take-take, length-drop, length-take, length-take-le, get_or-map}
use Rattle.std.proofs.lemmas.Slice.{between_is}
use Rattle.std.proofs.Math.Seq.{take-length}
use Rattle.sha2.specs.Sha256.{sha256}
use Rattle.hw_types.specs.declared.unit.Digest.{Digest}
use Rattle.hw_types.specs.declared.unit.Vertex.{Vertex}
use Rattle.hw_lanes.specs.declared.pieces.Part.{Part}
use Rattle.hw_lanes.specs.Pieces.{IsWithin, part_of}
use Rattle.hw_log.specs.Named.{IsNameOf, NamesUnit}
use Rattle.hw_log.specs.Ahead.{AreAhead}

-- ---- bytes that begin with others

starts_no_longer : (xs ys : List ℕ) → StartsWith xs ys → length ys ≤ length xs
starts_no_longer xs ys begins = omega (arith, ap (λ (l : List ℕ). length l) begins, length-take (length ys) xs)

starts_through : (xs ys zs : List ℕ) → StartsWith xs ys → StartsWith ys zs → StartsWith xs zs
starts_through xs ys zs first then =
    sym (take-take (length zs) (length ys) xs (starts_no_longer ys zs then)) ∙ ap (take (length zs)) first ∙ then

starts_behind : (xs ys : List ℕ) (count : ℕ) → count ≤ length ys → StartsWith xs ys → StartsWith (drop count xs) (drop count ys)
starts_behind xs ys count within begins =
    let whole : count + (length ys - count) ≡ length ys = omega arith in
    ap (λ (n : ℕ). take n (drop count xs)) (length-drop count ys)
    ∙ sym (drop-take count (length ys - count) xs)
    ∙ ap (λ (n : ℕ). drop count (take n xs)) whole
    ∙ ap (drop count) begins

-- ---- parts

-- a part of the first n bytes is one of all bytes
part_of_take : (xs : List ℕ) (n : ℕ) (part : Part) → part.end ≤ n → part_of (take n xs) part ≡ part_of xs part
part_of_take xs n part within =
    between_is (take n xs) part.start part.end ∙ ap (drop part.start) (take-take part.end n xs within) ∙ sym (between_is xs part.start part.end)

-- a part that is held still, where so many bytes before it were used
part_held : (held before : List ℕ) (used : ℕ) (old part : Part) → old.start ≡ used + part.start → old.end ≡ used + part.end
    → old.end ≤ length before → StartsWith held (drop used before) → part_of before old ≡ part_of held part
part_held held before used old part start end within kept =
    let left : List ℕ = drop used before in
    let width : ℕ = part.end - part.start in
    let same : old.end - old.start ≡ width = omega arith in
    let inside : part.end ≤ length left = omega (arith, length-drop used before) in
    ap (λ (n : ℕ). take n (drop old.start before)) same
    ∙ ap (λ (n : ℕ). take width (drop n before)) start
    ∙ ap (take width) (sym (drop-drop part.start used before))
    ∙ ap (λ (bytes : List ℕ). part_of bytes part) (sym kept)
    ∙ part_of_take held (length left) part inside

-- ---- what was worked out

pub none_ahead : (held : List ℕ) → AreAhead held 0 [] []
none_ahead held = record { before = []; few = omega arith; within = λ k d low. absurd (omega arith); digests_are = refl; kept = refl }

-- all bytes that are held were looked at
pub ahead_here : (held : List ℕ) (parts : List Part) (digests : List (List ℕ)) → length held < 2 ^ 64 → All (IsWithin (length held)) parts
    → digests ≡ map (λ (part : Part). sha256 (part_of held part)) parts → AreAhead held 0 parts digests
ahead_here held parts digests few within hashed = record { before = held; few = few; within = within; digests_are = hashed; kept = take-length held }

pub ahead_read : (held more : List ℕ) (used : ℕ) (parts : List Part) (digests : List (List ℕ)) → AreAhead held used parts digests → StartsWith more held
    → AreAhead more used parts digests
ahead_read held more used parts digests are begins =
    record { before = are.before; few = are.few; within = are.within; digests_are = are.digests_are; kept = starts_through more held (drop used are.before) begins are.kept }

pub ahead_used : (held : List ℕ) (used count after : ℕ) (parts : List Part) (digests : List (List ℕ)) → AreAhead held used parts digests
    → after ≡ min (used + count) (2 ^ 64 - 1) → AreAhead (drop count held) after parts digests
ahead_used held used count after parts digests are sum =
    let before : List ℕ = are.before in
    let few = are.few in
    let kept : StartsWith (drop count held) (drop after before) =
    elim (cases_lt after (length before)) [
      | inl more ↦
          let exact : used + count ≡ after = omega arith in
          let within : count ≤ length (drop used before) = omega (arith, length-drop used before) in
          subst (λ (l : List ℕ). StartsWith (drop count held) l) (drop-drop count used before ∙ ap (λ (n : ℕ). drop n before) exact)
          (starts_behind held (drop used before) count within are.kept)
      | inr none ↦ subst (λ (l : List ℕ). StartsWith (drop count held) l) (sym (drop_all after before none)) refl
    ] in
    record { before = before; few = few; within = are.within; digests_are = are.digests_are; kept = kept }

-- the digest of a part that is held still
pub ahead_known : (held : List ℕ) (used k : ℕ) (parts : List Part) (digests : List (List ℕ)) (old part : Part) (digest : List ℕ)
    → AreAhead held used parts digests → k < length parts → old ≡ slice_index_or parts k old → digest ≡ slice_index_or digests k digest
    → old.start ≡ used + part.start → old.end ≡ used + part.end → digest ≡ sha256 (part_of held part)
ahead_known held used k parts digests old part digest are low read written start end =
    let before : List ℕ = are.before in
    let hash : Part → List ℕ = λ p. sha256 (part_of before p) in
    let within : IsWithin (length before) old = subst (IsWithin (length before)) (sym read) (are.within k old low) in
    written
    ∙ ap (λ (ds : List (List ℕ)). slice_index_or ds k digest) are.digests_are
    ∙ get_or-map hash parts k old digest low
    ∙ ap hash (sym read)
    ∙ ap sha256 (part_held held before used old part start end within.1 are.kept)

-- ---- the name of a unit whose vertex is the first n bytes that are held

pub unit_held : (unit : Option Part) (v : Vertex) (n : ℕ) (held : List ℕ) → n ≤ length held → IfSome unit (NamesUnit v (take n held))
    → IfSome unit (IsWithin (length held))
unit_held None v n held long names = tt
unit_held (Some part) v n held long names = (names.0.0, omega (arith, names.0.1, length-take-le n held long))

pub named_held : (unit : Option Part) (v : Vertex) (n : ℕ) (held : List ℕ) (name : Option Digest) → n ≤ length held → IfSome unit (NamesUnit v (take n held))
    → name ≡ option_map (λ (part : Part). record { 0 = sha256 (part_of held part) }) unit → IfSome name (IsNameOf v)
named_held None v n held name long names is = rw is tt
named_held (Some part) v n held name long names is =
    let within : part.end ≤ n = omega (arith, names.0.1, length-take-le n held long) in
    rw is (subst (λ (bytes : List ℕ). IsNameOf v (record { 0 = sha256 bytes })) (part_of_take held n part within) names.1)
