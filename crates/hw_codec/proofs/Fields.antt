-- Fields: bytes, numbers, digests, and lists with their count.
use Rattle.std.proofs.Common.{◌≡◌, ℕ, zero, suc, ◌+◌, ◌^◌, ◌<◌, ◌≤◌, false, ltb, List, [], ◌∷◌, ◌++◌, length, get_or, take, drop, Ok, refl, sym, ap, subst, ◌∙◌, append_assoc, arith, inl, inr}
use Rattle.std.specs.List.{flat_map, All, AllByRecursion}
use Rattle.std.specs.Int.{Width, w8, w32, w64, byte_len, from_be_bytes, to_be_bytes}
use Rattle.std.proofs.lemmas.Bool.{cases_lt, ltb-false, le-ltb}
use Rattle.std.proofs.lemmas.List.{take_at, drop_at, take-append-drop, length-append, length-take, get_or_past}
use Rattle.std.proofs.lemmas.List.Elements.{All-take, All-drop, All-from_get_or, All-from_recursion, recursion_from_All}
use Rattle.std.proofs.lemmas.Nat.{be_bytes_4, be_bytes_8, from_be_bytes-to_be_bytes_4, from_be_bytes-to_be_bytes_8}
use Rattle.hw_types.specs.declared.answers.CodecError.TheVariants as error
use Rattle.hw_types.specs.declared.unit.Digest.{Digest}
use Rattle.hw_types.specs.Spelling.{counted, u32_bytes, u64_bytes}
use Rattle.hw_types.specs.Reading.{◌>>=◌, Rest, Read, bytes_at, number_at, digest_at, count_at, many_at, counted_at}
use Rattle.hw_codec.specs.Ranges.{AreBytes, AreBytesOf, DigestInRange}
use Rattle.hw_codec.proofs.Readings.{at, Takes, Takes-then, IsReading, Any, seq, said, inside, unrefused, bind_ok, ok_is, done, refused_ok}

-- ---- bytes

-- each place of a list of bytes, also one past its end
pub each_byte : (bytes : List ℕ) → AreBytes bytes → (i : ℕ) → get_or bytes i 0 < 256
each_byte bytes fits i =
    elim (cases_lt i (length bytes)) [
      | inl lt ↦ fits i 0 lt
      | inr le ↦ rw (get_or_past bytes i 0 le) (omega arith)
    ]

-- what a slice of bytes has, at each place
pub bytes_are : (bytes : List ℕ) → ((i : ℕ) → get_or bytes i 0 < 256) → AreBytes bytes
bytes_are bytes fits = All-from_get_or (λ (b : ℕ). b < 2 ^ 8) bytes 0 (λ i lt. fits i)

abbrev pub itself : List ℕ → List ℕ
itself bytes = bytes

pub bytes_reading : (n : ℕ) → IsReading (bytes_at n) Any itself (AreBytesOf n)
bytes_reading n = record {
  takes = λ r b after fits e.
      let g = refused_ok (ltb (length r.bytes) n) (error.Truncated r.place) (take n r.bytes, at (r.place + n) (drop n r.bytes)) (b, after) e in
      let long : n ≤ length r.bytes = ltb-false _ _ g.0 in
      let len : length (take n r.bytes) ≡ n = omega (arith, length-take n r.bytes) in
      subst (λ (x : List ℕ × Rest). Takes r x.0 x.1 × Any x.0 × AreBytesOf n x.0) g.1 (
        record { parts = sym (take-append-drop n r.bytes); place = omega arith; bytes = All-drop (λ (b : ℕ). b < 2 ^ 8) n r.bytes fits },
        tt,
        record { size = len; each = All-take (λ (b : ℕ). b < 2 ^ 8) n r.bytes fits },
      );
  again = λ b place rest k g.
      let len : length b ≡ n = g.size in
      let long : ltb (length (b ++ rest)) n ≡ false = le-ltb _ _ (omega (arith, length-append b rest)) in
      rw (long, take_at b rest n len, drop_at b rest n len) (ap (λ (p : ℕ). done (b, at (place + p) rest)) (sym len));
}

pub digest_reading : IsReading digest_at Any (λ (d : Digest). d.0) DigestInRange
digest_reading = inside (λ (b : List ℕ). record { 0 = b }) Any (λ (d : Digest). d.0) DigestInRange (bytes_reading 32) (λ b g. (refl, tt, g)) (λ d k g. (d.0, refl, g, refl))

-- ---- numbers

pub record IsWide (w : Width) (limit : ℕ) : Type 0 where
  pub len : (n : ℕ) → length (to_be_bytes w n) ≡ byte_len w
  pub each : (n : ℕ) → AreBytes (to_be_bytes w n)
  pub back : (bytes : List ℕ) → AreBytesOf (byte_len w) bytes → to_be_bytes w (from_be_bytes w bytes) ≡ bytes
  pub again : (n : ℕ) → n < limit → from_be_bytes w (to_be_bytes w n) ≡ n
  pub below : (bytes : List ℕ) → AreBytes bytes → from_be_bytes w bytes < limit

pub wide32 : IsWide w32 (2 ^ 32)
wide32 = record {
  len = λ n. refl;
  each = λ n. All-from_recursion (λ (b : ℕ). b < 2 ^ 8) (to_be_bytes w32 n) (omega arith, (omega arith, (omega arith, (omega arith, tt))));
  back = λ bytes fits. be_bytes_4 bytes _ fits.size (each_byte bytes fits.each) refl;
  again = λ n lt. from_be_bytes-to_be_bytes_4 n lt;
  below = λ bytes fits. let b = each_byte bytes fits in omega (arith, b 0, b 1, b 2, b 3);
}

pub wide64 : IsWide w64 (2 ^ 64)
wide64 = record {
  len = λ n. refl;
  each = λ n. All-from_recursion (λ (b : ℕ). b < 2 ^ 8) (to_be_bytes w64 n) (omega arith, (omega arith, (omega arith, (omega arith, (omega arith, (omega arith, (omega arith, (omega arith, tt))))))));
  back = λ bytes fits. be_bytes_8 bytes _ fits.size (each_byte bytes fits.each) refl;
  again = λ n lt. from_be_bytes-to_be_bytes_8 n lt;
  below = λ bytes fits. let b = each_byte bytes fits in omega (arith, b 0, b 1, b 2, b 3, b 4, b 5, b 6, b 7);
}

pub number_reading : (w : Width) (limit : ℕ) → IsWide w limit → IsReading (number_at w) Any (to_be_bytes w) (λ n. n < limit)
number_reading w limit wide = inside (from_be_bytes w) Any (to_be_bytes w) (λ n. n < limit) (bytes_reading (byte_len w))
    (λ bytes g. (sym (wide.back bytes g), tt, wide.below bytes g.each))
    (λ n k lt. (to_be_bytes w n, wide.again n lt, record { size = wide.len n; each = wide.each n }, refl))

pub u32_reading : IsReading (number_at w32) Any u32_bytes (λ n. n < 2 ^ 32)
u32_reading = number_reading w32 (2 ^ 32) wide32

pub u64_reading : IsReading (number_at w64) Any u64_bytes (λ n. n < 2 ^ 64)
u64_reading = number_reading w64 (2 ^ 64) wide64

abbrev pub byte_alone : ℕ → List ℕ
byte_alone n = n ∷ []

one_byte : (bytes : List ℕ) → length bytes ≡ 1 → bytes ≡ byte_alone (from_be_bytes w8 bytes)
one_byte [] e = absurd (omega arith)
one_byte (b ∷ []) e = ap byte_alone (omega arith)
one_byte (b ∷ c ∷ bytes) e = absurd (omega arith)

byte_below : (bytes : List ℕ) → AreBytes bytes → from_be_bytes w8 bytes < 2 ^ 8
byte_below bytes fits = let b = each_byte bytes fits in omega (arith, b 0)

pub byte_reading : IsReading (number_at w8) Any byte_alone (λ n. n < 2 ^ 8)
byte_reading = inside (from_be_bytes w8) Any byte_alone (λ n. n < 2 ^ 8) (bytes_reading 1)
    (λ bytes g. (one_byte bytes g.size, tt, byte_below bytes g.each))
    (λ n k lt. (byte_alone n, omega arith, record { size = refl; each = All-from_recursion (λ (b : ℕ). b < 2 ^ 8) (byte_alone n) (lt, tt) }, refl))

-- ---- lists

abbrev with_first : {A : Type 0} → A → List A × Rest → Read (List A)
with_first x others = Ok (x ∷ others.0, others.1)

abbrev with_others : {A : Type 0} → (Rest → Read A) → ℕ → A × Rest → Read (List A)
with_others item n first = many_at item n first.1 >>= with_first first.0

none_again : {A : Type 0} (spell : A → List ℕ) (b : List A) (place : ℕ) (rest : List ℕ) → length b ≡ 0
    → done {A = List A × Rest} ([], at place (flat_map spell b ++ rest)) ≡ Ok (b, at (place + length (flat_map spell b)) rest)
none_again spell [] place rest k = ap (λ (p : ℕ). done ([], at p rest)) (omega arith)
none_again spell (x ∷ xs) place rest k = absurd (omega arith)

some_again : {A : Type 0} {item : Rest → Read A} {spell : A → List ℕ} {Good : A → Type 0} (n : ℕ) → IsReading item Any spell Good
    → IsReading (many_at item n) (λ xs. length xs ≡ n) (flat_map spell) (AllByRecursion Good)
    → (b : List A) (place : ℕ) (rest : List ℕ) → length b ≡ suc n → AllByRecursion Good b
    → (item (at place (flat_map spell b ++ rest)) >>= with_others item n) ≡ Ok (b, at (place + length (flat_map spell b)) rest)
some_again n one others [] place rest k g = absurd (omega arith)
some_again {A} {item} {spell} {Good} n one others (x ∷ xs) place rest k g =
    let regrouped : flat_map spell (x ∷ xs) ++ rest ≡ spell x ++ (flat_map spell xs ++ rest) = append_assoc (spell x) (flat_map spell xs) rest in
    let far : place + length (spell x) + length (flat_map spell xs) ≡ place + length (flat_map spell (x ∷ xs)) = omega (arith, length-append (spell x) (flat_map spell xs)) in
    ap (λ (bytes : List ℕ). item (at place bytes) >>= with_others item n) regrouped
    ∙ ap (λ (m : Read A). m >>= with_others item n) (one.again x place (flat_map spell xs ++ rest) tt g.0)
    ∙ ap (λ (m : Read (List A)). m >>= with_first x) (others.again xs (place + length (spell x)) rest (omega arith) g.1)
    ∙ ap (λ (p : ℕ). done (x ∷ xs, at p rest)) far

-- so many values
pub many_reading : {A : Type 0} {item : Rest → Read A} {spell : A → List ℕ} {Good : A → Type 0} → IsReading item Any spell Good → (n : ℕ)
    → IsReading (many_at item n) (λ xs. length xs ≡ n) (flat_map spell) (AllByRecursion Good)
unfolding many_at
many_reading {A} {item} {spell} {Good} one zero = record {
  takes = λ r b after fits e.
      subst (λ (x : List A × Rest). Takes r (flat_map spell x.0) x.1 × (length x.0 ≡ 0) × AllByRecursion Good x.0) (ok_is ([], r) (b, after) e)
      (record { parts = refl; place = omega arith; bytes = fits }, refl, tt);
  again = λ b place rest k g. none_again spell b place rest k;
}
many_reading {A} {item} {spell} {Good} one (suc n) = record {
  takes = λ r b after fits e.
      let m = bind_ok (item r) (with_others item n) (b, after) e in
      let ms = bind_ok (many_at item n m.0.1) (with_first m.0.0) (b, after) m.2 in
      let t = one.takes r m.0.0 m.0.1 fits m.1 in
      let ts = (many_reading one n).takes m.0.1 ms.0.0 ms.0.1 t.0.bytes ms.1 in
      let made : List A × Rest = (m.0.0 ∷ ms.0.0, ms.0.1) in
      subst (λ (x : List A × Rest). Takes r (flat_map spell x.0) x.1 × (length x.0 ≡ suc n) × AllByRecursion Good x.0) (ok_is made (b, after) ms.2)
      (Takes-then r (spell m.0.0) m.0.1 (flat_map spell ms.0.0) ms.0.1 t.0 ts.0, ap suc ts.1, (t.2, ts.2));
  again = λ b place rest k g. some_again n one (many_reading one n) b place rest k g;
}

-- how many there may be: the limit stands in its 32 bits
pub count_reading : (limit : ℕ) → IsReading (count_at limit) Any u32_bytes (λ n. (n < 2 ^ 32) × (n ≤ limit))
count_reading limit = unrefused (λ n. ltb limit n) error.TooLong (λ n. n ≤ limit) u32_reading (λ n e. ltb-false _ _ e) (λ n le. le-ltb _ _ le)

-- a count within its limit, and so many values
pub record AreCounted {A : Type 0} (limit : ℕ) (Good : A → Type 0) (xs : List A) : Type 0 where
  pub count : length xs ≤ limit
  pub each : All Good xs

pub counted_reading : {A : Type 0} {item : Rest → Read A} {spell : A → List ℕ} {Good : A → Type 0} (limit : ℕ) → limit < 2 ^ 32 → IsReading item Any spell Good
    → IsReading (counted_at item limit) Any (counted spell) (AreCounted limit Good)
unfolding counted_at
counted_reading {A} {item} {spell} {Good} limit lt one =
    let these : (n : ℕ) → IsReading (many_at item n) (λ xs. Any xs × (length xs ≡ n)) (flat_map spell) (AllByRecursion Good) = λ n. said (many_reading one n) (λ xs k. (tt, k)) (λ xs k. k.1) (λ xs k. refl) (λ xs k g. g) (λ xs k g. g) in
    said (seq (λ (xs : List A). length xs) (count_reading limit) (λ place n. these n)) (λ xs k. k) (λ xs k. k) (λ xs k. refl)
    (λ xs k g. record { count = g.0.1; each = All-from_recursion Good xs g.1 })
    (λ xs k g. ((omega (arith, g.count), g.count), recursion_from_All Good xs g.each))
