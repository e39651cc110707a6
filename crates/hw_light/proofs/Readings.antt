-- Reading certificates is spelling them: what is read is spelled so, and what is spelled so is read.
use Rattle.std.proofs.Common.{◌≡◌, ℕ, zero, suc, ◌+◌, ◌^◌, ◌<◌, ◌≤◌, Bool, true, false, cond, ltb, List, [], ◌∷◌, ◌++◌, length, take, drop, Result, Ok, Err, refl, sym, ap, subst, ◌∙◌, append_assoc, arith, length-append}
use Rattle.std.specs.List.{AllByRecursion, flat_map}
use Rattle.std.specs.Int.{w32, from_be_bytes}
use Rattle.std.proofs.lemmas.Bool.{ltb-false, le-ltb}
use Rattle.std.proofs.lemmas.List.{take-append-drop, length-take, take_at, drop_at}
use Rattle.std.proofs.lemmas.List.Elements.{All-take, All-drop}
use Rattle.hw_types.specs.declared.unit.Vertex.{Vertex}
use Rattle.hw_types.specs.declared.config.Config.{Config}
use Rattle.hw_types.specs.declared.answers.CodecError.{CodecError}
use Rattle.hw_types.specs.Spelling.{u32_bytes, config_bytes, vertex_bytes, ConfigFits, VertexFits}
use Rattle.hw_types.specs.Reading.{Rest, config_of, vertex_of}
use Rattle.hw_codec.specs.Ranges.{AreBytes, ConfigInRange, VertexInRange}
use Rattle.hw_codec.proofs.Readings.{at, Takes, Takes-then}
use Rattle.hw_codec.proofs.Fields.{wide32}
use Rattle.hw_codec.proofs.Spelled.{config_read_spells, config_read_in_range, config_spelled_reads, vertex_read_spells, vertex_read_in_range, vertex_spelled_reads}
use Rattle.hw_light.specs.declared.error.CertError.{CertError}
use Rattle.hw_light.specs.declared.error.CertError.TheVariants.{Torn, TooLong, BadConfig, BadVertex}
use Rattle.hw_light.specs.Spelling.{part_bytes, counted_vertex}
use Rattle.hw_light.specs.Reading.{Read, ◌>>=◌, rest_at, field_at, count_at, part_at, decoded, config_at, vertex_at, vertices_at}
use Rattle.hw_light.proofs.LengthLaws.{config_short, vertex_short}

-- A reader takes the spelling of what it reads, and reads what is spelled, whatever follows.
pub record IsReading {A : Type 0} (read : Rest → Read A) (spell : A → List ℕ) (Good : A → Type 0) : Type 0 where
  pub takes : (r : Rest) (x : A) (after : Rest) → AreBytes r.bytes → read r ≡ Ok (x, after) → Takes r (spell x) after × Good x
  pub again : (x : A) (place : ℕ) (rest : List ℕ) → Good x → read (at place (spell x ++ rest)) ≡ Ok (x, at (place + length (spell x)) rest)

-- ---- steps that did not fail

abbrev pub done : {A : Type 0} → A → Result A CertError
done x = Ok x

pub ok_is : {A : Type 0} (x y : A) → done x ≡ done y → x ≡ y
ok_is x y e = cc

pub bind_ok : {A B : Type 0} (r : Result A CertError) (f : A → Result B CertError) (y : B) → (r >>= f) ≡ Ok y → (x : A) × (r ≡ Ok x) × (f x ≡ Ok y)
bind_ok (Ok x) f y e = (x, refl, e)
bind_ok (Err d) f y e = absurd cc

pub passed : {A : Type 0} (b : Bool) (d : CertError) (x y : A) → cond b (Ok x) (Err d) ≡ Ok y → (b ≡ true) × (x ≡ y)
passed true d x y e = (refl, cc)
passed false d x y e = absurd cc

refused : {A : Type 0} (b : Bool) (d : CertError) (x y : A) → cond b (Err d) (Ok x) ≡ Ok y → (b ≡ false) × (x ≡ y)
refused true d x y e = absurd cc
refused false d x y e = (refl, cc)

decoded_ok : {A : Type 0} (wrap : CodecError → CertError) (r : Result A CodecError) (x : A) → decoded wrap r ≡ Ok x → r ≡ Ok x
decoded_ok wrap (Ok y) x e = cc
decoded_ok wrap (Err d) x e = absurd cc

-- ---- fields

abbrev itself : List ℕ → List ℕ
itself bytes = bytes

pub front_bytes : (text rest bytes : List ℕ) → AreBytes bytes → bytes ≡ text ++ rest → AreBytes text
front_bytes text rest bytes fits parts =
    subst AreBytes (take_at text rest (length text) refl) (All-take (λ (b : ℕ). b < 2 ^ 8) (length text) (text ++ rest) (subst AreBytes parts fits))

back_bytes : (text rest : List ℕ) → AreBytes (text ++ rest) → AreBytes rest
back_bytes text rest fits = subst AreBytes (drop_at text rest (length text) refl) (All-drop (λ (b : ℕ). b < 2 ^ 8) (length text) (text ++ rest) fits)

pub field_reading : (n : ℕ) → IsReading (field_at n) itself (λ x. length x ≡ n)
field_reading n = record {
  takes = λ r x after fits e.
      let g = refused (ltb (length r.bytes) n) (Torn r.place) (take n r.bytes, rest_at (r.place + n) (drop n r.bytes)) (x, after) e in
      let long : n ≤ length r.bytes = ltb-false _ _ g.0 in
      let len : length (take n r.bytes) ≡ n = omega (arith, length-take n r.bytes) in
      subst (λ (y : List ℕ × Rest). Takes r y.0 y.1 × (length y.0 ≡ n)) g.1 (
        record { parts = sym (take-append-drop n r.bytes); place = omega arith; bytes = All-drop (λ (b : ℕ). b < 2 ^ 8) n r.bytes fits },
        len,
      );
  again = λ x place rest len.
      let long : ltb (length (x ++ rest)) n ≡ false = le-ltb _ _ (omega (arith, length-append x rest)) in
      rw (long, take_at x rest n len, drop_at x rest n len) (ap (λ (p : ℕ). done (x, at (place + p) rest)) (sym len));
}

-- a count within its limit
abbrev counted_of : ℕ → ℕ → List ℕ × Rest → Read ℕ
counted_of limit place b = cond (ltb limit (from_be_bytes w32 b.0)) (Err (TooLong place)) (Ok (from_be_bytes w32 b.0, b.1))

pub count_reading : (limit : ℕ) → limit < 2 ^ 32 → IsReading (count_at limit) u32_bytes (λ n. n ≤ limit)
count_reading limit small = record {
  takes = λ r n after fits e.
      let m = bind_ok (field_at 4 r) (counted_of limit r.place) (n, after) e in
      let t = (field_reading 4).takes r m.0.0 m.0.1 fits m.1 in
      let g = refused (ltb limit (from_be_bytes w32 m.0.0)) (TooLong r.place) (from_be_bytes w32 m.0.0, m.0.1) (n, after) m.2 in
      let is = wide32.back m.0.0 (record { size = t.1; each = front_bytes m.0.0 m.0.1.bytes r.bytes fits t.0.parts }) in
      subst (λ (y : ℕ × Rest). Takes r (u32_bytes y.0) y.1 × (y.0 ≤ limit)) g.1 (rw is t.0, ltb-false _ _ g.0);
  again = λ n place rest g.
      ap (λ (m : Read (List ℕ)). m >>= counted_of limit place) ((field_reading 4).again (u32_bytes n) place rest (wide32.len n))
      ∙ rw (wide32.again n (omega (arith, g, small)), le-ltb limit n g) refl;
}

-- a part is short enough
abbrev pub IsPart : List ℕ → Type 0
IsPart text = length text ≤ 1048576

abbrev part_of : ℕ × Rest → Read (List ℕ)
part_of n = field_at n.0 n.1

pub part_reading : IsReading part_at part_bytes IsPart
unfolding part_at
part_reading = record {
  takes = λ r x after fits e.
      let m = bind_ok (count_at 1048576 r) part_of (x, after) e in
      let t = (count_reading 1048576 (omega arith)).takes r m.0.0 m.0.1 fits m.1 in
      let u = (field_reading m.0.0).takes m.0.1 x after t.0.bytes m.2 in
      let size : length x ≡ m.0.0 = u.1 in
      let both = Takes-then r (u32_bytes m.0.0) m.0.1 x after t.0 u.0 in
      (rw size both, omega (arith, size, t.1));
  again = λ x place rest g.
      let n = length x in
      let behind : place + length (u32_bytes n) + length x ≡ place + length (part_bytes x) = omega (arith, length-append (u32_bytes n) x) in
      ap (λ (bytes : List ℕ). part_at (at place bytes)) (append_assoc (u32_bytes n) x rest)
      ∙ ap (λ (m : Read ℕ). m >>= part_of) ((count_reading 1048576 (omega arith)).again n place (x ++ rest) g)
      ∙ (field_reading n).again x (place + length (u32_bytes n)) rest refl
      ∙ ap (λ (p : ℕ). done (x, at p rest)) behind;
}

-- ---- values behind their length

abbrev with_rest : {A : Type 0} → Rest → A → Read A
with_rest after x = Ok (x, after)

abbrev of_part : {A : Type 0} → (List ℕ → Result A CodecError) → (CodecError → CertError) → List ℕ × Rest → Read A
of_part decode wrap part = decoded wrap (decode part.0) >>= with_rest part.1

-- a codec that reads what is spelled, and spellings that are short
record IsShortCodec {A : Type 0} (decode : List ℕ → Result A CodecError) (spell : A → List ℕ) (Good : A → Type 0) : Type 0 where
  spells : (bytes : List ℕ) (x : A) → AreBytes bytes → decode bytes ≡ Ok x → (bytes ≡ spell x) × Good x
  reads : (x : A) → Good x → decode (spell x) ≡ Ok x
  short : (x : A) → Good x → length (spell x) ≤ 1048576

codec_reading : {A : Type 0} {decode : List ℕ → Result A CodecError} {spell : A → List ℕ} {Good : A → Type 0} (wrap : ℕ → CodecError → CertError) → IsShortCodec decode spell Good
    → IsReading (λ r. part_at r >>= of_part decode (wrap r.place)) (λ x. part_bytes (spell x)) Good
codec_reading {A} {decode} {spell} {Good} wrap codec = record {
  takes = λ r x after fits e.
      let m = bind_ok (part_at r) (of_part decode (wrap r.place)) (x, after) e in
      let t = part_reading.takes r m.0.0 m.0.1 fits m.1 in
      let d = bind_ok (decoded (wrap r.place) (decode m.0.0)) (with_rest m.0.1) (x, after) m.2 in
      let bytes = back_bytes (u32_bytes (length m.0.0)) m.0.0 (front_bytes (part_bytes m.0.0) m.0.1.bytes r.bytes fits t.0.parts) in
      let s = codec.spells m.0.0 d.0 bytes (decoded_ok (wrap r.place) (decode m.0.0) d.0 d.1) in
      let both : Takes r (part_bytes (spell d.0)) m.0.1 = subst (λ (text : List ℕ). Takes r (part_bytes text) m.0.1) s.0 t.0 in
      subst (λ (y : A × Rest). Takes r (part_bytes (spell y.0)) y.1 × Good y.0) (ok_is (d.0, m.0.1) (x, after) d.2) (both, s.1);
  again = λ x place rest g.
      ap (λ (m : Read (List ℕ)). m >>= of_part decode (wrap place)) (part_reading.again (spell x) place rest (codec.short x g))
      ∙ rw (codec.reads x g) refl;
}

-- ---- configurations and vertices

abbrev pub GoodConfig : Config → Type 0
GoodConfig c = ConfigInRange c × ConfigFits c

pub config_reading : IsReading config_at (λ c. part_bytes (config_bytes c)) GoodConfig
unfolding config_at
config_reading = codec_reading {decode = config_of} {spell = config_bytes} {Good = GoodConfig} (λ place. BadConfig) (record {
  spells = λ bytes c fits e. let s = config_read_spells bytes c fits e in (s.is, (config_read_in_range bytes c fits e, s.limits));
  reads = λ c g. config_spelled_reads (config_bytes c) c g.0 (record { limits = g.1; is = refl });
  short = λ c g. config_short c g.0 g.1;
})

abbrev pub GoodVertex : Vertex → Type 0
GoodVertex v = VertexInRange v × VertexFits v

pub vertex_reading : IsReading vertex_at counted_vertex GoodVertex
unfolding vertex_at
vertex_reading = codec_reading {decode = vertex_of} {spell = vertex_bytes} {Good = GoodVertex} BadVertex (record {
  spells = λ bytes v fits e. let s = vertex_read_spells bytes v fits e in (s.is, (vertex_read_in_range bytes v fits e, s.limits));
  reads = λ v g. vertex_spelled_reads (vertex_bytes v) v g.0 (record { limits = g.1; is = refl });
  short = λ v g. vertex_short v g.0 g.1;
})

-- ---- so many vertices

abbrev with_first : Vertex → List Vertex × Rest → Read (List Vertex)
with_first x others = Ok (x ∷ others.0, others.1)

abbrev with_others : ℕ → Vertex × Rest → Read (List Vertex)
with_others n first = vertices_at n first.1 >>= with_first first.0

-- so many of them, each good
pub record AreGood (n : ℕ) (vs : List Vertex) : Type 0 where
  pub count : length vs ≡ n
  pub each : AllByRecursion GoodVertex vs

none_again : (vs : List Vertex) (place : ℕ) (rest : List ℕ) → length vs ≡ 0
    → done {A = List Vertex × Rest} ([], at place (flat_map counted_vertex vs ++ rest)) ≡ Ok (vs, at (place + length (flat_map counted_vertex vs)) rest)
none_again [] place rest k = ap (λ (p : ℕ). done ([], at p rest)) (omega arith)
none_again (x ∷ xs) place rest k = absurd (omega arith)

some_again : (n : ℕ) → IsReading (vertices_at n) (flat_map counted_vertex) (AreGood n)
    → (vs : List Vertex) (place : ℕ) (rest : List ℕ) → length vs ≡ suc n → AllByRecursion GoodVertex vs
    → (vertex_at (at place (flat_map counted_vertex vs ++ rest)) >>= with_others n) ≡ Ok (vs, at (place + length (flat_map counted_vertex vs)) rest)
some_again n others [] place rest k g = absurd (omega arith)
some_again n others (x ∷ xs) place rest k g =
    let regrouped : flat_map counted_vertex (x ∷ xs) ++ rest ≡ counted_vertex x ++ (flat_map counted_vertex xs ++ rest) = append_assoc (counted_vertex x) (flat_map counted_vertex xs) rest in
    let far : place + length (counted_vertex x) + length (flat_map counted_vertex xs) ≡ place + length (flat_map counted_vertex (x ∷ xs)) = omega (arith, length-append (counted_vertex x) (flat_map counted_vertex xs)) in
    ap (λ (bytes : List ℕ). vertex_at (at place bytes) >>= with_others n) regrouped
    ∙ ap (λ (m : Read Vertex). m >>= with_others n) (vertex_reading.again x place (flat_map counted_vertex xs ++ rest) g.0)
    ∙ ap (λ (m : Read (List Vertex)). m >>= with_first x) (others.again xs (place + length (counted_vertex x)) rest (record { count = omega arith; each = g.1 }))
    ∙ ap (λ (p : ℕ). done (x ∷ xs, at p rest)) far

pub vertices_reading : (n : ℕ) → IsReading (vertices_at n) (flat_map counted_vertex) (AreGood n)
unfolding vertices_at
vertices_reading zero = record {
  takes = λ r x after fits e.
      subst (λ (y : List Vertex × Rest). Takes r (flat_map counted_vertex y.0) y.1 × AreGood zero y.0) (ok_is ([], r) (x, after) e)
      (record { parts = refl; place = omega arith; bytes = fits }, record { count = refl; each = tt });
  again = λ x place rest g. none_again x place rest g.count;
}
vertices_reading (suc n) = record {
  takes = λ r x after fits e.
      let m = bind_ok (vertex_at r) (with_others n) (x, after) e in
      let ms = bind_ok (vertices_at n m.0.1) (with_first m.0.0) (x, after) m.2 in
      let t = vertex_reading.takes r m.0.0 m.0.1 fits m.1 in
      let ts = (vertices_reading n).takes m.0.1 ms.0.0 ms.0.1 t.0.bytes ms.1 in
      let made : List Vertex × Rest = (m.0.0 ∷ ms.0.0, ms.0.1) in
      subst (λ (y : List Vertex × Rest). Takes r (flat_map counted_vertex y.0) y.1 × AreGood (suc n) y.0) (ok_is made (x, after) ms.2)
      (Takes-then r (counted_vertex m.0.0) m.0.1 (flat_map counted_vertex ms.0.0) ms.0.1 t.0 ts.0, record { count = ap suc ts.1.count; each = (t.1, ts.1.each) });
  again = λ x place rest g. some_again n (vertices_reading n) x place rest g.count g.each;
}
