-- Each unit that is read of a log has a signature of 32 bytes.
use Rattle.std.proofs.Common.{◌≡◌, ℕ, zero, suc, ◌+◌, Bool, true, false, cond, ltb, List, length, take, drop, Result, Ok, Err, refl, sym, ap, subst, inl, inr, ◌∙◌, Option, Some, None}
use Rattle.std.specs.Prelude.{◌==◌, slice_index}
use Rattle.std.specs.Int.{w8, w32, w64}
use Rattle.std.proofs.lemmas.Bool.{ltb-false}
use Rattle.std.proofs.lemmas.List.{length-take-le}
use Rattle.hw_types.specs.declared.answers.CodecError.{CodecError}
use Rattle.hw_types.specs.declared.answers.CodecError.TheVariants as error
use Rattle.hw_types.specs.declared.unit.SignedUnit.{SignedUnit}
use Rattle.hw_types.specs.declared.unit.Digest.{Digest}
use Rattle.hw_types.specs.declared.unit.Endorsement.{Endorsement}
use Rattle.hw_types.specs.declared.unit.WireUnit.{WireUnit}
use Rattle.hw_types.specs.declared.unit.Vertex.{Vertex}
use Rattle.hw_types.specs.declared.unit.Vertex.TheVariants as vertex
use Rattle.hw_types.specs.Reading.{◌>>=◌, Rest, Read, bytes_at, number_at, digest_at, unit_at, signed_at, vertex_behind, vertex_at, whole, vertex_of, time_at, value_at, counted_at}
use Rattle.hw_types.specs.declared.unit.Obs.{Obs}
use Rattle.hw_codec.specs.Last.{LastUnit}
use Rattle.hw_codec.specs.Compact.{panorama_at, told_at, compact_kind_at, creator_at, compact_at, compact_of, is_due, unless_due, vertex_after}
use Rattle.hw_codec.proofs.Readings.{bind_ok}
use Rattle.hw_replay.specs.Laws.{IsSigned}

-- what was read of so many bytes has so many
bytes_length : (n : ℕ) (r : Rest) (x : List ℕ × Rest) → bytes_at n r ≡ Ok x → length x.0 ≡ n
bytes_length n r x e = go (ltb (length r.bytes) n) refl e
  where
    go : (b : Bool) → ltb (length r.bytes) n ≡ b → cond b (Err (error.Truncated r.place)) (Ok (take n r.bytes, record { place = r.place + n; bytes = drop n r.bytes })) ≡ Ok x → length x.0 ≡ n
    go true t f = absurd cc
    go false t f =
        let same : length (take n r.bytes) ≡ length x.0 = ap (λ (y : Read (List ℕ)). elim y [ Ok z ↦ length z.0 | Err d ↦ 0 ]) f in
        sym same ∙ length-take-le n r.bytes (ltb-false (length r.bytes) n t)

-- ---- a signed unit

abbrev with_signature : WireUnit × Rest → List ℕ × Rest → Read SignedUnit
with_signature u b = Ok (record { unit = u.0; signature = record { 0 = b.0 } }, b.1)

signed_length : (r : Rest) (s : SignedUnit × Rest) → signed_at r ≡ Ok s → length s.0.signature.0 ≡ 32
unfolding signed_at
signed_length r s e =
    let u = bind_ok (unit_at r) (λ u. bytes_at 32 u.1 >>= with_signature u) s e in
    let b = bind_ok (bytes_at 32 u.0.1) (with_signature u.0) s u.2 in
    let is : length b.0.0 ≡ length s.0.signature.0 = ap (λ (y : Read SignedUnit). elim y [ Ok z ↦ length z.0.signature.0 | Err d ↦ 0 ]) b.2 in
    sym is ∙ bytes_length 32 u.0.1 b.0 b.1

-- ---- a vertex

abbrev is_read : {A : Type 0} → A × Rest → Read A
is_read x = Ok x

read_is : {A : Type 0} (x y : A × Rest) → is_read x ≡ is_read y → x.0 ≡ y.0
read_is x y e = cc

one_signed : (s : SignedUnit) → length s.signature.0 ≡ 32 → IsSigned (vertex.Unit s)
one_signed s long u (inl is) = subst (λ (w : SignedUnit). length w.signature.0 ≡ 32) is long
one_signed s long u (inr never) = absurd never

two_signed : (l r : SignedUnit) → length l.signature.0 ≡ 32 → length r.signature.0 ≡ 32 → IsSigned (vertex.Evidence (record { left = l; right = r }))
two_signed l r long other u (inl is) = subst (λ (w : SignedUnit). length w.signature.0 ≡ 32) is long
two_signed l r long other u (inr (inl is)) = subst (λ (w : SignedUnit). length w.signature.0 ≡ 32) is other
two_signed l r long other u (inr (inr never)) = absurd never

none_signed : (e : Endorsement) → IsSigned (vertex.Endorsement e)
none_signed e u m = absurd m

abbrev as_unit : SignedUnit × Rest → Read Vertex
as_unit s = Ok (vertex.Unit s.0, s.1)

abbrev as_evidence : SignedUnit × Rest → SignedUnit × Rest → Read Vertex
as_evidence l r = Ok (vertex.Evidence (record { left = l.0; right = r.0 }), r.1)

abbrev as_endorsement : Digest × Rest → ℕ × Rest → List ℕ × Rest → Read Vertex
as_endorsement unit endorser s = Ok (vertex.Endorsement (record { unit = unit.0; endorser = endorser.0; signature = record { 0 = s.0 } }), s.1)

behind_signed : (place kind : ℕ) (r : Rest) (v : Vertex × Rest) → vertex_behind place kind r ≡ Ok v → IsSigned v.0
behind_signed place zero r v e = absurd cc
behind_signed place (suc zero) r v e =
    let s = bind_ok (signed_at r) as_unit v e in
    subst IsSigned (read_is (vertex.Unit s.0.0, s.0.1) v s.2) (one_signed s.0.0 (signed_length r s.0 s.1))
behind_signed place (suc (suc zero)) r v e =
    let l = bind_ok (signed_at r) (λ l. signed_at l.1 >>= as_evidence l) v e in
    let s = bind_ok (signed_at l.0.1) (as_evidence l.0) v l.2 in
    subst IsSigned (read_is (vertex.Evidence (record { left = l.0.0; right = s.0.0 }), s.0.1) v s.2) (two_signed l.0.0 s.0.0 (signed_length r l.0 l.1) (signed_length l.0.1 s.0 s.1))
behind_signed place (suc (suc (suc zero))) r v e =
    let unit = bind_ok (digest_at r) (λ unit. number_at w32 unit.1 >>= λ endorser. bytes_at 32 endorser.1 >>= as_endorsement unit endorser) v e in
    let endorser = bind_ok (number_at w32 unit.0.1) (λ endorser. bytes_at 32 endorser.1 >>= as_endorsement unit.0 endorser) v unit.2 in
    let signature = bind_ok (bytes_at 32 endorser.0.1) (as_endorsement unit.0 endorser.0) v endorser.2 in
    let made : Endorsement = record { unit = unit.0.0; endorser = endorser.0.0; signature = record { 0 = signature.0.0 } } in
    subst IsSigned (read_is (vertex.Endorsement made, signature.0.1) v signature.2) (none_signed made)
behind_signed place (suc (suc (suc (suc kind)))) r v e = absurd cc

vertex_signed : (r : Rest) (v : Vertex × Rest) → vertex_at r ≡ Ok v → IsSigned v.0
unfolding vertex_at
vertex_signed r v e =
    let kind = bind_ok (number_at w8 r) (λ kind. vertex_behind r.place kind.0 kind.1) v e in
    behind_signed r.place kind.0.0 kind.0.1 v kind.2

abbrev all_of : Vertex × Rest → Result Vertex CodecError
all_of x = cond (length x.1.bytes == 0) (Ok x.0) (Err (error.Trailing x.1.place))

-- all of the bytes
pub whole_signed : (bytes : List ℕ) (v : Vertex) → vertex_of bytes ≡ Ok v → IsSigned v
unfolding whole
whole_signed bytes v e =
    let start : Rest = record { place = 0; bytes = bytes } in
    let x = bind_ok (vertex_at start) all_of v e in
    subst IsSigned (all_is x.0 (length x.0.1.bytes == 0) x.2) (vertex_signed start x.0 x.1)
  where
    all_is : (x : Vertex × Rest) (b : Bool) → cond b (Ok x.0) (Err (error.Trailing x.1.place)) ≡ Ok v → x.0 ≡ v
    all_is x true f = cc
    all_is x false f = absurd cc

-- ---- the compact form

abbrev compact_unit : ℕ → LastUnit → ℕ × Rest → ℕ × Rest → ℕ × Rest → List Obs × Rest → Option (List ℕ) × Rest → List Digest × Rest → List ℕ × Rest → Read SignedUnit
compact_unit creator last seq time exponent panorama value endorsed signature =
    Ok (record { unit = record { instance = last.instance; creator = creator; seq = seq.0; time = time.0; exponent = exponent.0; panorama = panorama.0; value = value.0; endorsed = endorsed.0 }; signature = record { 0 = signature.0 } }, signature.1)

-- what is read behind each part of it
abbrev after_endorsed : ℕ → LastUnit → ℕ × Rest → ℕ × Rest → ℕ × Rest → List Obs × Rest → Option (List ℕ) × Rest → List Digest × Rest → Read SignedUnit
after_endorsed creator last seq time exponent panorama value endorsed = bytes_at 32 endorsed.1 >>= compact_unit creator last seq time exponent panorama value endorsed

abbrev after_value : ℕ → LastUnit → ℕ × Rest → ℕ × Rest → ℕ × Rest → List Obs × Rest → Option (List ℕ) × Rest → Read SignedUnit
after_value creator last seq time exponent panorama value = counted_at digest_at 256 value.1 >>= after_endorsed creator last seq time exponent panorama value

abbrev after_panorama : ℕ → LastUnit → ℕ × Rest → ℕ × Rest → ℕ × Rest → List Obs × Rest → Read SignedUnit
after_panorama creator last seq time exponent panorama = value_at panorama.1 >>= after_value creator last seq time exponent panorama

abbrev after_exponent : ℕ → LastUnit → ℕ × Rest → ℕ × Rest → ℕ × Rest → Read SignedUnit
after_exponent creator last seq time exponent = panorama_at creator last exponent.1 >>= after_panorama creator last seq time exponent

abbrev after_time : ℕ → LastUnit → ℕ × Rest → ℕ × Rest → Read SignedUnit
after_time creator last seq time = number_at w8 time.1 >>= after_exponent creator last seq time

abbrev after_seq : ℕ → LastUnit → ℕ × Rest → Read SignedUnit
after_seq creator last seq = time_at seq.1 >>= after_time creator last seq

module _ (creator : ℕ) (last : LastUnit) (seq : ℕ × Rest) (s : SignedUnit × Rest) where
  endorsed_length : (time exponent : ℕ × Rest) (panorama : List Obs × Rest) (value : Option (List ℕ) × Rest) (endorsed : List Digest × Rest)
      → after_endorsed creator last seq time exponent panorama value endorsed ≡ Ok s → length s.0.signature.0 ≡ 32
  endorsed_length time exponent panorama value endorsed e =
      let signature = bind_ok (bytes_at 32 endorsed.1) (compact_unit creator last seq time exponent panorama value endorsed) s e in
      let is : length signature.0.0 ≡ length s.0.signature.0 = ap (λ (y : Read SignedUnit). elim y [ Ok z ↦ length z.0.signature.0 | Err d ↦ 0 ]) signature.2 in
      sym is ∙ bytes_length 32 endorsed.1 signature.0 signature.1

  value_length : (time exponent : ℕ × Rest) (panorama : List Obs × Rest) (value : Option (List ℕ) × Rest)
      → after_value creator last seq time exponent panorama value ≡ Ok s → length s.0.signature.0 ≡ 32
  value_length time exponent panorama value e =
      let endorsed = bind_ok (counted_at digest_at 256 value.1) (after_endorsed creator last seq time exponent panorama value) s e in
      endorsed_length time exponent panorama value endorsed.0 endorsed.2

  panorama_length : (time exponent : ℕ × Rest) (panorama : List Obs × Rest) → after_panorama creator last seq time exponent panorama ≡ Ok s → length s.0.signature.0 ≡ 32
  panorama_length time exponent panorama e =
      let value = bind_ok (value_at panorama.1) (after_value creator last seq time exponent panorama) s e in
      value_length time exponent panorama value.0 value.2

  exponent_length : (time exponent : ℕ × Rest) → after_exponent creator last seq time exponent ≡ Ok s → length s.0.signature.0 ≡ 32
  exponent_length time exponent e =
      let panorama = bind_ok (panorama_at creator last exponent.1) (after_panorama creator last seq time exponent) s e in
      panorama_length time exponent panorama.0 panorama.2

  time_length : (time : ℕ × Rest) → after_time creator last seq time ≡ Ok s → length s.0.signature.0 ≡ 32
  time_length time e =
      let exponent = bind_ok (number_at w8 time.1) (after_exponent creator last seq time) s e in
      exponent_length time exponent.0 exponent.2

  seq_length : after_seq creator last seq ≡ Ok s → length s.0.signature.0 ≡ 32
  seq_length e =
      let time = bind_ok (time_at seq.1) (after_time creator last seq) s e in
      time_length time.0 time.2

told_length : (creator : ℕ) (last : LastUnit) (r : Rest) (s : SignedUnit × Rest) → told_at creator last r ≡ Ok s → length s.0.signature.0 ≡ 32
unfolding told_at
told_length creator last r s e =
    let seq = bind_ok (number_at w64 r) (after_seq creator last) s e in
    seq_length creator last seq.0 s seq.2

compact_length : (lasts : List (Option LastUnit)) (r : Rest) (s : SignedUnit × Rest) → compact_at lasts r ≡ Ok s → length s.0.signature.0 ≡ 32
unfolding compact_at
compact_length lasts r s e =
    let kind = bind_ok (compact_kind_at r) (λ kind. creator_at lasts kind.1 >>= λ creator. told_at creator.0.0 creator.0.1 creator.1) s e in
    let creator = bind_ok (creator_at lasts kind.0.1) (λ creator. told_at creator.0.0 creator.0.1 creator.1) s kind.2 in
    told_length creator.0.0.0 creator.0.0.1 creator.0.1 s creator.2

abbrev all_of_unit : SignedUnit × Rest → Result SignedUnit CodecError
all_of_unit x = cond (length x.1.bytes == 0) (Ok x.0) (Err (error.Trailing x.1.place))

whole_length : (lasts : List (Option LastUnit)) (bytes : List ℕ) (s : SignedUnit) → compact_of lasts bytes ≡ Ok s → length s.signature.0 ≡ 32
unfolding whole
whole_length lasts bytes s e =
    let start : Rest = record { place = 0; bytes = bytes } in
    let x = bind_ok (compact_at lasts start) all_of_unit s e in
    subst (λ (w : SignedUnit). length w.signature.0 ≡ 32) (all_is x.0 (length x.0.1.bytes == 0) x.2) (compact_length lasts start x.0 x.1)
  where
    all_is : (x : SignedUnit × Rest) (b : Bool) → cond b (Ok x.0) (Err (error.Trailing x.1.place)) ≡ Ok s → x.0 ≡ s
    all_is x true f = cc
    all_is x false f = absurd cc

-- ---- a vertex behind the last units

abbrev unit_vertex : SignedUnit → Result Vertex CodecError
unit_vertex s = Ok (vertex.Unit s)

due_is : (v w : Vertex) (b : Bool) → cond b (Err (error.BadTag 0)) (Ok v) ≡ Ok w → v ≡ w
due_is v w true e = absurd cc
due_is v w false e = cc

vertex_is : (v w : Vertex) → (λ (z : Vertex) (y : Result Vertex CodecError). Ok z ≡ y) v (Ok w) → v ≡ w
vertex_is v w e = cc

pub after_signed : (lasts : List (Option LastUnit)) (bytes : List ℕ) (v : Vertex) → vertex_after lasts bytes ≡ Ok v → IsSigned v
unfolding vertex_after
after_signed lasts bytes v e = go (slice_index bytes 0 == 4) e
  where
    go : (b : Bool) → cond b (compact_of lasts bytes >>= unit_vertex) (vertex_of bytes >>= unless_due lasts) ≡ Ok v → IsSigned v
    go true f =
        let s = bind_ok (compact_of lasts bytes) unit_vertex v f in
        subst IsSigned (vertex_is (vertex.Unit s.0) v s.2) (one_signed s.0 (whole_length lasts bytes s.0 s.1))
    go false f =
        let w = bind_ok (vertex_of bytes) (unless_due lasts) v f in
        subst IsSigned (due_is w.0 v (is_due lasts w.0) w.2) (whole_signed bytes w.0 w.1)
