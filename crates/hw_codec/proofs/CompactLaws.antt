-- The compact form: what is read in it was spelled so, and what is spelled so is read.
use Rattle.std.proofs.Common.{◌≡◌, ℕ, zero, suc, ◌+◌, ◌^◌, ◌<◌, ◌≤◌, Bool, true, false, cond, eqb, ltb, nat_lt, ◌&&◌, ◌||◌, ◌==◌, if◌then◌else◌, List, [], ◌∷◌, ◌++◌, length, set, get_or, slice_index, is_some, Option, Some, None, Result, Ok, Err, refl, sym, ap, subst, ◌∙◌, append_assoc, arith, length-append}
use Rattle.std.specs.List.{flat_map, All, AllByRecursion}
use Rattle.std.specs.Int.{w8, w32, w64}
use Rattle.std.proofs.lemmas.List.Elements.{recursion_from_All}
use Rattle.std.proofs.lemmas.Bool.{eq-eqb, eqb-true, lt-ltb, ltb-true, and_parts}
use Rattle.std.proofs.lemmas.List.{append-nil, nil_from_length, length-set, get_or-set_same}
use lib.Pointwise.{bytes_decides}
use Rattle.hw_types.specs.declared.answers.CodecError.{CodecError}
use Rattle.hw_types.specs.declared.answers.CodecError.TheVariants as error
use Rattle.hw_types.specs.declared.unit.Digest.{Digest}
use Rattle.hw_types.specs.declared.unit.Obs.{Obs}
use Rattle.hw_types.specs.declared.unit.Obs.TheVariants.{Absent, Correct, Faulty}
use Rattle.hw_types.specs.declared.unit.WireUnit.{WireUnit}
use Rattle.hw_types.specs.declared.unit.SignedUnit.{SignedUnit}
use Rattle.hw_types.specs.declared.unit.Vertex.{Vertex}
use Rattle.hw_types.specs.declared.unit.Vertex.TheVariants as vertex
use Rattle.hw_types.specs.Graph.{digest_eq}
use Rattle.hw_types.specs.Same.{obs_eq}
use Rattle.hw_types.specs.Spelling.{counted, u32_bytes, u64_bytes, value_bytes, vertex_bytes, Fits, VertexFits}
use Rattle.std.specs.Prelude.{IfOk}
use Rattle.hw_types.specs.Reading.{◌>>=◌, Rest, Read, Gives, number_at, bytes_at, digest_at, count_at, counted_at, time_at, value_at, whole, vertex_of}
use Rattle.hw_codec.specs.declared.compact.Change.{Change}
use Rattle.hw_codec.specs.Ranges.{AreBytes, AreBytesOf, DigestInRange, ObsInRange, UnitInRange, SignedInRange, SignatureInRange, VertexInRange}
use Rattle.hw_codec.specs.Last.{LastUnit, last_by, goes_on, gone_on, due}
use Rattle.hw_codec.specs.Compact.{change_in, changes_from, change_bytes, numbers_bytes, tail_bytes, compact_bytes, told_bytes, bytes_after, SpellsAfter, known_creator, creator_at, base_of, changed_at, panorama_at, told_at, compact_kind_at, compact_at, compact_of, is_due, unless_due, vertex_after, PanoramaFits}
use Rattle.hw_codec.proofs.Readings.{at, done, Takes, Takes-then, IsReading, Any, seq, said, tested, end, bind_ok, ok_is, test_ok}
use Rattle.hw_codec.proofs.Fields.{byte_alone, byte_reading, u32_reading, u64_reading, bytes_reading, digest_reading, count_reading, counted_reading, AreCounted}
use Rattle.hw_codec.proofs.Units.{value_reading, time_reading, IsValue}
use Rattle.hw_codec.proofs.ChangeLaws.{changes_few}
use Rattle.hw_codec.proofs.ToldLaws.{obs_exact, obs_self, ChangeInRange, Told, changes_take, changes_again}
use Rattle.hw_codec.proofs.Spelled.{vertex_read_spells, vertex_read_in_range, vertex_spelled_reads}

-- ---- panoramas

own_change : (creator slot : ℕ) (b o : Obs) → creator ≡ slot → change_in creator slot b o ≡ []
own_change creator slot b o is = rw (eq-eqb slot creator (sym is)) refl

-- the creator's slot is told by no change, whatever stands there
changes_base : (creator slot : ℕ) (before now : List Obs) (j : ℕ) (o : Obs) → creator ≡ slot + j → changes_from creator slot (set before j o) now ≡ changes_from creator slot before now
changes_base creator slot [] now j o is = refl
changes_base creator slot (b ∷ before) [] zero o is = refl
changes_base creator slot (b ∷ before) [] (suc j) o is = refl
changes_base creator slot (b ∷ before) (x ∷ now) zero o is =
    let own : creator ≡ slot = omega arith in
    ap (λ (l : List Change). l ++ changes_from creator (suc slot) before now) (own_change creator slot o x own ∙ sym (own_change creator slot b x own))
changes_base creator slot (b ∷ before) (x ∷ now) (suc j) o is = ap (λ (l : List Change). change_in creator slot b x ++ l) (changes_base creator (suc slot) before now j o (omega arith))

-- a panorama that can be told against the last one
pub record Follows (creator : ℕ) (last : LastUnit) (now : List Obs) : Type 0 where
  pub size : length now ≡ length last.panorama
  pub own : get_or now creator Absent ≡ Correct last.name
  pub few : length (changes_from creator 0 last.panorama now) ≤ 1024
  pub each : AllByRecursion ChangeInRange (changes_from creator 0 last.panorama now)

abbrev panorama_bytes : ℕ → LastUnit → List Obs → List ℕ
panorama_bytes creator last now = counted change_bytes (changes_from creator 0 last.panorama now)

base_own : (creator : ℕ) (last : LastUnit) → creator < length last.panorama → get_or (base_of last creator) creator Absent ≡ Correct last.name
base_own creator last within = get_or-set_same last.panorama creator (Correct last.name) Absent within

panorama_takes : (creator : ℕ) (last : LastUnit) → creator < length last.panorama → (r : Rest) (now : List Obs) (after : Rest) → AreBytes r.bytes → panorama_at creator last r ≡ Ok (now, after)
    → Takes r (panorama_bytes creator last now) after × Any now × Follows creator last now
unfolding panorama_at
panorama_takes creator last within r now after fits e =
    let base = base_of last creator in
    let m = bind_ok (count_at 1024 r) (λ (n : ℕ × Rest). changed_at creator n.0 0 base n.1) (now, after) e in
    let n = (count_reading 1024).takes r m.0.0 m.0.1 fits m.1 in
    let t = changes_take creator m.0.0 0 [] base m.0.1 now after refl n.0.bytes m.2 in
    let told : Told creator m.0.0 0 base now m.0.1 after = subst (λ (p : List Obs). Told creator m.0.0 0 base p m.0.1 after) (sym t.1) t.2 in
    let same : changes_from creator 0 base now ≡ changes_from creator 0 last.panorama now = changes_base creator 0 last.panorama now creator (Correct last.name) (let is : creator ≡ 0 + creator = omega arith in is) in
    let few : length (changes_from creator 0 base now) ≤ 1024 = subst (λ (k : ℕ). k ≤ 1024) (sym told.count) n.2.1 in
    let both = Takes-then r (u32_bytes m.0.0) m.0.1 (flat_map change_bytes (changes_from creator 0 base now)) after n.0 told.takes in
    let counted_so = subst (λ (k : ℕ). Takes r (u32_bytes k ++ flat_map change_bytes (changes_from creator 0 base now)) after) (sym told.count) both in (
      subst (λ (l : List Change). Takes r (counted change_bytes l) after) same counted_so,
      tt,
      record {
        size = told.size ∙ length-set last.panorama creator (Correct last.name);
        own = told.own creator (let is : 0 + creator ≡ creator = omega arith in is) ∙ base_own creator last within;
        few = subst (λ (l : List Change). length l ≤ 1024) same few;
        each = subst (AllByRecursion ChangeInRange) same told.each;
      },
    )

panorama_again : (creator : ℕ) (last : LastUnit) → creator < length last.panorama → (now : List Obs) (place : ℕ) (rest : List ℕ) → Follows creator last now
    → panorama_at creator last (at place (panorama_bytes creator last now ++ rest)) ≡ Ok (now, at (place + length (panorama_bytes creator last now)) rest)
unfolding panorama_at
panorama_again creator last within now place rest g =
    let base = base_of last creator in
    let changes = changes_from creator 0 last.panorama now in
    let text = flat_map change_bytes changes in
    let go : ℕ × Rest → Read (List Obs) = λ (n : ℕ × Rest). changed_at creator n.0 0 base n.1 in
    let same : changes_from creator 0 base now ≡ changes = changes_base creator 0 last.panorama now creator (Correct last.name) (let is : creator ≡ 0 + creator = omega arith in is) in
    let size : length now ≡ length base = g.size ∙ sym (length-set last.panorama creator (Correct last.name)) in
    let few : length changes ≤ 1024 = g.few in
    let own : (j : ℕ) → 0 + j ≡ creator → get_or now j Absent ≡ get_or base j Absent = λ j (is : 0 + j ≡ creator).
    subst (λ (k : ℕ). get_or now k Absent ≡ get_or base k Absent) (let same : creator ≡ j = omega arith in same) (g.own ∙ sym (base_own creator last within)) in
    let each : AllByRecursion ChangeInRange (changes_from creator 0 base now) = subst (AllByRecursion ChangeInRange) (sym same) g.each in
    let told = changes_again creator 0 0 [] base now (place + 4) rest refl (omega arith) size own each in
    let told' = subst (λ (l : List Change). changed_at creator (length l) 0 base (at (place + 4) (flat_map change_bytes l ++ rest)) ≡ Ok (now, at (place + 4 + length (flat_map change_bytes l)) rest)) same told in
    ap (λ (bytes : List ℕ). count_at 1024 (at place bytes) >>= go) (append_assoc (u32_bytes (length changes)) text rest)
    ∙ ap (λ (m : Read ℕ). m >>= go) ((count_reading 1024).again (length changes) place (text ++ rest) tt (omega arith, few))
    ∙ told'
    ∙ ap (λ (p : ℕ). done (now, at p rest)) (let far : place + 4 + length text ≡ place + length (u32_bytes (length changes) ++ text) = omega (arith, length-append (u32_bytes (length changes)) text) in far)

panorama_reading : (creator : ℕ) (last : LastUnit) → creator < length last.panorama → IsReading (panorama_at creator last) Any (panorama_bytes creator last) (Follows creator last)
panorama_reading creator last within = record {
  takes = λ r now after fits e. panorama_takes creator last within r now after fits e;
  again = λ now place rest k g. panorama_again creator last within now place rest g;
}

-- ---- units

abbrev IsBy : ℕ → LastUnit → SignedUnit → Type 0
IsBy creator last s = (s.unit.instance ≡ last.instance) × (s.unit.creator ≡ creator)

abbrev told_rest : ℕ → LastUnit → SignedUnit → List ℕ
told_rest creator last s = u64_bytes s.unit.seq ++ u64_bytes s.unit.time ++ (s.unit.exponent ∷ []) ++ panorama_bytes creator last s.unit.panorama ++ tail_bytes s

-- what the fields of the compact form are
pub record IsTold (creator : ℕ) (last : LastUnit) (s : SignedUnit) : Type 0 where
  pub seq : s.unit.seq < 2 ^ 64
  pub time : (s.unit.time < 2 ^ 64) × (s.unit.time < 2 ^ 63)
  pub exponent : s.unit.exponent < 2 ^ 8
  pub panorama : Follows creator last s.unit.panorama
  pub value : IsValue s.unit.value
  pub endorsed : AreCounted 256 DigestInRange s.unit.endorsed
  pub signature : SignatureInRange s.signature

seven_grouped : (a b c d e f g : List ℕ) → a ++ (b ++ (c ++ (d ++ (e ++ (f ++ (g ++ [])))))) ≡ a ++ b ++ c ++ d ++ (e ++ f ++ g)
seven_grouped a b c d e f g = simp (append_assoc, append-nil)

told_reading : (creator : ℕ) (last : LastUnit) → creator < length last.panorama → IsReading (told_at creator last) (IsBy creator last) (told_rest creator last) (IsTold creator last)
unfolding told_at
told_reading creator last within = said
    (seq {Known = IsBy creator last} (λ (s : SignedUnit). s.unit.seq) u64_reading λ _ number.
    seq (λ (s : SignedUnit). s.unit.time) time_reading λ _ time.
    seq (λ (s : SignedUnit). s.unit.exponent) byte_reading λ _ exponent.
    seq (λ (s : SignedUnit). s.unit.panorama) (panorama_reading creator last within) λ _ panorama.
    seq (λ (s : SignedUnit). s.unit.value) value_reading λ _ value.
    seq (λ (s : SignedUnit). s.unit.endorsed) (counted_reading 256 (omega arith) digest_reading) λ _ endorsed.
    seq (λ (s : SignedUnit). s.signature.0) (bytes_reading 32) λ _ signature.
    end (record { unit = record { instance = last.instance; creator = creator; seq = number; time = time; exponent = exponent; panorama = panorama; value = value; endorsed = endorsed }; signature = record { 0 = signature } }) _
    ((((((((refl, refl), refl), refl), refl), refl), refl), refl), refl)
    (λ s k i. record {
      unit = record { instance = sym k.0.0.0.0.0.0.0.0 i; creator = sym k.0.0.0.0.0.0.0.1 i; seq = sym k.0.0.0.0.0.0.1 i; time = sym k.0.0.0.0.0.1 i; exponent = sym k.0.0.0.0.1 i; panorama = sym k.0.0.0.1 i; value = sym k.0.0.1 i; endorsed = sym k.0.1 i };
      signature = record { 0 = sym k.1 i };
    }))
    (λ s k. k) (λ s k. k)
    (λ s k. seven_grouped (u64_bytes s.unit.seq) (u64_bytes s.unit.time) (s.unit.exponent ∷ []) (panorama_bytes creator last s.unit.panorama) (value_bytes s.unit.value) (counted (λ (d : Digest). d.0) s.unit.endorsed) s.signature.0)
    (λ s k g. record { seq = g.0; time = g.1.0; exponent = g.1.1.0; panorama = g.1.1.1.0; value = g.1.1.1.1.0; endorsed = g.1.1.1.1.1.0; signature = g.1.1.1.1.1.1.0 })
    (λ s k g. (g.seq, (g.time, (g.exponent, (g.panorama, (g.value, (g.endorsed, (g.signature, tt))))))))

-- a unit that can be told against the last one
pub record IsAfter (last : LastUnit) (s : SignedUnit) : Type 0 where
  pub slot : s.unit.creator < length last.panorama
  pub creator : s.unit.creator < 2 ^ 32
  pub instance : s.unit.instance ≡ last.instance
  pub told : IsTold s.unit.creator last s

compact_grouped : (a b c d e f : List ℕ) → a ++ (b ++ c ++ d ++ e ++ f) ≡ (a ++ b ++ c ++ d) ++ e ++ f
compact_grouped a b c d e f = simp append_assoc

compact_spelled : (last : LastUnit) (s : SignedUnit) → byte_alone 4 ++ (u32_bytes s.unit.creator ++ told_rest s.unit.creator last s) ≡ compact_bytes last s
compact_spelled last s =
    ap (λ (l : List ℕ). 4 ∷ l) (compact_grouped (u32_bytes s.unit.creator) (u64_bytes s.unit.seq) (u64_bytes s.unit.time) (s.unit.exponent ∷ []) (panorama_bytes s.unit.creator last s.unit.panorama) (tail_bytes s))

-- ---- the creator

creator_known : (place : ℕ) (n : ℕ × Rest) (o : Option LastUnit) (x : (ℕ × LastUnit) × Rest) → known_creator place n o ≡ Ok x → (o ≡ Some x.0.1) × (n ≡ (x.0.0, x.1)) × (x.0.0 < length x.0.1.panorama)
creator_known place n None x e = absurd cc
creator_known place n (Some last) x e =
    let t = test_ok (nat_lt n.0 (length last.panorama)) (error.OutOfRange place) ((n.0, last), n.1) x e in
    let within : n.0 < length last.panorama = ltb-true n.0 (length last.panorama) t.0 in
    subst (λ (y : (ℕ × LastUnit) × Rest). (Some last ≡ Some y.0.1) × (n ≡ (y.0.0, y.1)) × (y.0.0 < length y.0.1.panorama)) t.1 (refl, refl, within)

creator_of : (place : ℕ) (n : ℕ × Rest) (o : Option LastUnit) (last : LastUnit) → o ≡ Some last → n.0 < length last.panorama → known_creator place n o ≡ Ok ((n.0, last), n.1)
creator_of place n o last is within = ap (known_creator place n) is ∙ rw (lt-ltb n.0 (length last.panorama) within) refl

kind_reading : IsReading compact_kind_at Any byte_alone (λ n. (n < 2 ^ 8) × (n ≡ 4))
kind_reading = tested (λ n. n == 4) error.BadTag (λ n. n ≡ 4) byte_reading (λ n g e. eqb-true n 4 e) (λ n g is. eq-eqb n 4 is)

-- ---- the whole

abbrev with_told : (ℕ × LastUnit) × Rest → Read SignedUnit
with_told c = told_at c.0.0 c.0.1 c.1

abbrev with_creator : List (Option LastUnit) → ℕ × Rest → Read SignedUnit
with_creator lasts kind = creator_at lasts kind.1 >>= with_told

abbrev ended : {A : Type 0} → A × Rest → Result A CodecError
ended x = cond (eqb (length x.1.bytes) 0) (Ok x.0) (Err (error.Trailing x.1.place))

-- the unit was read against this last one
pub record Found (lasts : List (Option LastUnit)) (bytes : List ℕ) (s : SignedUnit) : Type 0 where
  pub last : LastUnit
  pub by : last_by lasts s.unit.creator ≡ Some last
  pub spelled : bytes ≡ compact_bytes last s
  pub is : IsAfter last s

found_behind : (lasts : List (Option LastUnit)) (r : Rest) (s : SignedUnit) (after : Rest) → AreBytes r.bytes → (creator_at lasts r >>= with_told) ≡ Ok (s, after)
    → (last : LastUnit) × (last_by lasts s.unit.creator ≡ Some last) × Takes r (u32_bytes s.unit.creator ++ told_rest s.unit.creator last s) after × IsAfter last s
found_behind lasts r s after fits e =
    let c = bind_ok (creator_at lasts r) with_told (s, after) e in
    let n = bind_ok (number_at w32 r) (λ (n : ℕ × Rest). known_creator r.place n (last_by lasts n.0)) c.0 c.1 in
    let known = creator_known r.place n.0 (last_by lasts n.0.0) c.0 n.2 in
    let creator = c.0.0.0 in
    let last = c.0.0.1 in
    let number : number_at w32 r ≡ Ok (creator, c.0.1) = n.1 ∙ ap (λ (x : ℕ × Rest). Ok x) known.1 in
    let t = u32_reading.takes r creator c.0.1 fits number in
    let told = (told_reading creator last known.2).takes c.0.1 s after t.0.bytes c.2 in
    let by : last_by lasts creator ≡ Some last = ap (λ (x : ℕ × Rest). last_by lasts x.0) (sym known.1) ∙ known.0 in
    let is = sym told.1.1 in
    let both = Takes-then r (u32_bytes creator) c.0.1 (told_rest creator last s) after t.0 told.0 in (
      last,
      subst (λ (m : ℕ). last_by lasts m ≡ Some last) is by,
      subst (λ (m : ℕ). Takes r (u32_bytes m ++ told_rest m last s) after) is both,
      record {
        slot = subst (λ (m : ℕ). m < length last.panorama) is known.2;
        creator = subst (λ (m : ℕ). m < 2 ^ 32) is t.2;
        instance = told.1.0;
        told = subst (λ (m : ℕ). IsTold m last s) is told.2;
      },
    )

pub compact_found : (lasts : List (Option LastUnit)) (bytes : List ℕ) (s : SignedUnit) → AreBytes bytes → compact_of lasts bytes ≡ Ok s → Found lasts bytes s
unfolding whole compact_at
compact_found lasts bytes s fits e =
    let m = bind_ok (compact_kind_at (at 0 bytes) >>= with_creator lasts) ended s e in
    let g = test_ok (eqb (length m.0.1.bytes) 0) (error.Trailing m.0.1.place) m.0.0 s m.2 in
    let k = bind_ok (compact_kind_at (at 0 bytes)) (with_creator lasts) m.0 m.1 in
    let kind = kind_reading.takes (at 0 bytes) k.0.0 k.0.1 fits k.1 in
    let found = found_behind lasts k.0.1 m.0.0 m.0.1 kind.0.bytes k.2 in
    let last = found.0 in
    let text = u32_bytes m.0.0.unit.creator ++ told_rest m.0.0.unit.creator last m.0.0 in
    let all = Takes-then (at 0 bytes) (byte_alone k.0.0) k.0.1 text m.0.1 kind.0 found.2 in
    let none : m.0.1.bytes ≡ [] = nil_from_length m.0.1.bytes (eqb-true _ _ g.0) in
    let spelled : bytes ≡ compact_bytes last m.0.0 =
    all.parts ∙ ap (λ (rest : List ℕ). (byte_alone k.0.0 ++ text) ++ rest) none ∙ append-nil (byte_alone k.0.0 ++ text)
    ∙ ap (λ (n : ℕ). byte_alone n ++ text) kind.2.1 ∙ compact_spelled last m.0.0 in
    subst (Found lasts bytes) g.1 (record { last = last; by = found.1; spelled = spelled; is = found.3 })

pub compact_again : (lasts : List (Option LastUnit)) (last : LastUnit) (s : SignedUnit) → last_by lasts s.unit.creator ≡ Some last → IsAfter last s → compact_of lasts (compact_bytes last s) ≡ Ok s
unfolding whole compact_at
compact_again lasts last s by is =
    let creator = s.unit.creator in
    let rest = told_rest creator last s in
    let finish : Read SignedUnit → Result SignedUnit CodecError = λ (m : Read SignedUnit). m >>= ended in
    let known : (place : ℕ) → creator_at lasts (at place (u32_bytes creator ++ rest)) ≡ Ok ((creator, last), at (place + 4) rest) = λ place.
    ap (λ (m : Read ℕ). m >>= λ n. known_creator place n (last_by lasts n.0)) (u32_reading.again creator place rest tt is.creator)
    ∙ creator_of place (creator, at (place + 4) rest) (last_by lasts creator) last by is.slot in
    let told = (told_reading creator last is.slot).again s 5 [] (is.instance, refl) is.told in
    ap (λ (bytes : List ℕ). finish (compact_kind_at (at 0 bytes) >>= with_creator lasts)) (sym (compact_spelled last s))
    ∙ ap (λ (m : Read ℕ). finish (m >>= with_creator lasts)) (kind_reading.again 4 0 (u32_bytes creator ++ rest) tt (omega arith, refl))
    ∙ ap (λ (m : Read (ℕ × LastUnit)). finish (m >>= with_told)) (known 1)
    ∙ ap (λ (l : List ℕ). finish (told_at creator last (at 5 l))) (sym (append-nil rest))
    ∙ ap finish told

-- ---- when it is due

digest_same : (d e : Digest) → digest_eq d e ≡ true → d ≡ e
digest_same d e h = ap (λ (bytes : List ℕ). record { 0 = bytes }) ((bytes_decides d.0 e.0).0 h)

digest_self : (d e : Digest) → d ≡ e → digest_eq d e ≡ true
digest_self d e is = (bytes_decides d.0 e.0).1 (ap (λ (x : Digest). x.0) is)

kept : (b : Bool) (l last : LastUnit) → (if b then Some l else None) ≡ Some last → (b ≡ true) × (l ≡ last)
kept true l last e = (refl, cc)
kept false l last e = absurd cc

gone_on_is : (o : Option LastUnit) (u : WireUnit) (last : LastUnit) → gone_on o u ≡ Some last → (o ≡ Some last) × (goes_on last u ≡ true)
gone_on_is None u last e = absurd cc
gone_on_is (Some l) u last e =
    let k = kept (goes_on l u) l last e in
    (ap Some k.1, subst (λ (m : LastUnit). goes_on m u ≡ true) k.1 k.0)

-- what going on means
pub record GoesOn (last : LastUnit) (u : WireUnit) : Type 0 where
  pub instance : u.instance ≡ last.instance
  pub size : length u.panorama ≡ length last.panorama
  pub own : get_or u.panorama u.creator Absent ≡ Correct last.name

pub goes_on_is : (last : LastUnit) (u : WireUnit) → goes_on last u ≡ true → GoesOn last u
goes_on_is last u e =
    let own = obs_eq (get_or u.panorama u.creator Absent) (Correct last.name) in
    let both = and_parts (digest_eq u.instance last.instance && (length u.panorama == length last.panorama)) own e in
    let first = and_parts (digest_eq u.instance last.instance) (length u.panorama == length last.panorama) both.0 in
    record { instance = digest_same u.instance last.instance first.0; size = eqb-true _ _ first.1; own = obs_exact _ _ both.1 }

pub goes_on_of : (last : LastUnit) (u : WireUnit) → GoesOn last u → goes_on last u ≡ true
goes_on_of last u g = rw (digest_self u.instance last.instance g.instance, eq-eqb (length u.panorama) (length last.panorama) g.size, g.own, obs_self (Correct last.name)) refl

due_of : (lasts : List (Option LastUnit)) (u : WireUnit) (last : LastUnit) → last_by lasts u.creator ≡ Some last → GoesOn last u → due lasts u ≡ Some last
due_of lasts u last by g = ap (λ (o : Option LastUnit). gone_on o u) by ∙ rw (goes_on_of last u g) refl

-- the unit's slot is there, since it observes something in it
slot_there : (panorama : List Obs) (creator : ℕ) (d : Digest) → get_or panorama creator Absent ≡ Correct d → creator < length panorama
slot_there [] zero d e = absurd cc
slot_there [] (suc creator) d e = absurd cc
slot_there (o ∷ panorama) zero d e = omega arith
slot_there (o ∷ panorama) (suc creator) d e = let more = slot_there panorama creator d e in omega arith

-- ---- vertices

-- a unit that goes on from the last one can be told against it
pub each_in_range : (creator slot : ℕ) (before now : List Obs) → slot + length now ≤ 2 ^ 32 → AllByRecursion ObsInRange now → AllByRecursion ChangeInRange (changes_from creator slot before now)
each_in_range creator slot [] [] room good = tt
each_in_range creator slot [] (o ∷ now) room good = tt
each_in_range creator slot (b ∷ before) [] room good = tt
each_in_range creator slot (b ∷ before) (o ∷ now) room good =
    each_more ((slot == creator) || obs_eq o b) slot o (changes_from creator (suc slot) before now) (omega arith) good.0 (each_in_range creator (suc slot) before now (omega arith) good.1)
  where
    each_more : (none : Bool) (slot : ℕ) (o : Obs) (others : List Change) → slot < 2 ^ 32 → ObsInRange o → AllByRecursion ChangeInRange others
        → AllByRecursion ChangeInRange ((if none then [] else (record { slot = slot; obs = o } ∷ [])) ++ others)
    each_more true slot o others small good each = each
    each_more false slot o others small good each = (record { slot = small; obs = good }, each)

after_of : (last : LastUnit) (s : SignedUnit) → GoesOn last s.unit → SignedInRange s → Fits s.unit → IsAfter last s
after_of last s g range fits =
    let u = s.unit in
    let size : length u.panorama ≡ length last.panorama = g.size in
    let limit : length u.panorama ≤ 1024 = fits.panorama in
    let there = slot_there u.panorama u.creator last.name g.own in
    record {
      slot = omega arith;
      creator = range.unit.creator;
      instance = g.instance;
      told = record {
        seq = range.unit.seq;
        time = (range.unit.time, fits.time);
        exponent = range.unit.exponent;
        panorama = record {
          size = size;
          own = g.own;
          few = (let few = changes_few u.creator 0 last.panorama u.panorama in omega arith);
          each = each_in_range u.creator 0 last.panorama u.panorama (omega arith) (recursion_from_All ObsInRange u.panorama range.unit.panorama);
        };
        value = record { length = fits.value; bytes = range.unit.value };
        endorsed = record { count = fits.endorsed; each = range.unit.endorsed };
        signature = range.signature;
      };
    }

found_goes_on : (last : LastUnit) (s : SignedUnit) → IsAfter last s → GoesOn last s.unit
found_goes_on last s is = record { instance = is.instance; size = is.told.panorama.size; own = is.told.panorama.own }

-- the full form, where the compact one isn't due
none_due : (lasts : List (Option LastUnit)) (s : SignedUnit) (o : Option LastUnit) → is_some o ≡ false → told_bytes o s ≡ vertex_bytes (vertex.Unit s)
none_due lasts s None e = refl
none_due lasts s (Some last) e = absurd cc

full_form : (lasts : List (Option LastUnit)) (v : Vertex) → is_due lasts v ≡ false → bytes_after lasts v ≡ vertex_bytes v
full_form lasts (vertex.Unit s) e = none_due lasts s (due lasts s.unit) e
full_form lasts (vertex.Evidence e') e = refl
full_form lasts (vertex.Endorsement e') e = refl

unless : (due : Bool) (v w : Vertex) → (if due then Err (error.BadTag 0) else Ok v) ≡ Ok w → (due ≡ false) × (v ≡ w)
unless true v w e = absurd cc
unless false v w e = (refl, cc)

abbrev as_unit : SignedUnit → Result Vertex CodecError
as_unit s = Ok (vertex.Unit s)

-- what is read is in the compact form, or in the full one where the compact one isn't due
pub data Form (lasts : List (Option LastUnit)) (bytes : List ℕ) (v : Vertex) : Type 0 where
  compact : (s : SignedUnit) → vertex.Unit s ≡ v → Found lasts bytes s → Form lasts bytes v
  full : vertex_of bytes ≡ Ok v → is_due lasts v ≡ false → Form lasts bytes v

form_by : (lasts : List (Option LastUnit)) (bytes : List ℕ) (v : Vertex) → AreBytes bytes → (first : Bool) → (if first then (compact_of lasts bytes >>= as_unit) else (vertex_of bytes >>= unless_due lasts)) ≡ Ok v → Form lasts bytes v
form_by lasts bytes v fits true e =
    let m = bind_ok (compact_of lasts bytes) as_unit v e in
    let is : vertex.Unit m.0 ≡ v = (let same = m.2 in cc) in
    compact m.0 is (compact_found lasts bytes m.0 fits m.1)
form_by lasts bytes v fits false e =
    let m = bind_ok (vertex_of bytes) (unless_due lasts) v e in
    let u = unless (is_due lasts m.0) m.0 v m.2 in
    full (m.1 ∙ ap (λ (w : Vertex). Ok w) u.1) (subst (λ (w : Vertex). is_due lasts w ≡ false) u.1 u.0)

pub form_of : (lasts : List (Option LastUnit)) (bytes : List ℕ) (v : Vertex) → AreBytes bytes → vertex_after lasts bytes ≡ Ok v → Form lasts bytes v
unfolding vertex_after
form_of lasts bytes v fits e = form_by lasts bytes v fits (slice_index bytes 0 == 4) e

-- what was read is spelled so
pub after_spells : (lasts : List (Option LastUnit)) (bytes : List ℕ) (v : Vertex) → AreBytes bytes → Form lasts bytes v → PanoramaFits v → SpellsAfter lasts bytes v
after_spells lasts bytes v fits (compact s is found) limit =
    let told = found.is.told in
    let due_is = due_of lasts s.unit found.last found.by (found_goes_on found.last s found.is) in
    let short : length s.unit.panorama ≤ 1024 = subst PanoramaFits (sym is) limit in
    let keeps : Fits s.unit = record { time = told.time.1; panorama = short; value = told.value.length; endorsed = told.endorsed.count } in
    subst (SpellsAfter lasts bytes) is (record { limits = keeps; is = found.spelled ∙ ap (λ (o : Option LastUnit). told_bytes o s) (sym due_is) })
after_spells lasts bytes v fits (full reads none) limit =
    let spells = vertex_read_spells bytes v fits reads in
    record { limits = spells.limits; is = spells.is ∙ sym (full_form lasts v none) }

-- what is spelled so is read
unit_reads : (lasts : List (Option LastUnit)) (s : SignedUnit) (o : Option LastUnit) → due lasts s.unit ≡ o → SignedInRange s → Fits s.unit → vertex_after lasts (told_bytes o s) ≡ Ok (vertex.Unit s)
unfolding vertex_after
unit_reads lasts s None none range fits =
    ap (λ (m : Result Vertex CodecError). m >>= unless_due lasts) (vertex_spelled_reads (vertex_bytes (vertex.Unit s)) (vertex.Unit s) range (record { limits = fits; is = refl }))
    ∙ rw none refl
unit_reads lasts s (Some last) due_is range fits =
    let g = gone_on_is (last_by lasts s.unit.creator) s.unit last due_is in
    ap (λ (m : Result SignedUnit CodecError). m >>= as_unit) (compact_again lasts last s g.0 (after_of last s (goes_on_is last s.unit g.1) range fits))

pub after_reads : (lasts : List (Option LastUnit)) (bytes : List ℕ) (v : Vertex) → VertexInRange v → SpellsAfter lasts bytes v → vertex_after lasts bytes ≡ Ok v
unfolding vertex_after
after_reads lasts bytes (vertex.Unit s) range spells = ap (vertex_after lasts) spells.is ∙ unit_reads lasts s (due lasts s.unit) refl range spells.limits
after_reads lasts bytes (vertex.Evidence e) range spells =
    ap (vertex_after lasts) spells.is
    ∙ ap (λ (m : Result Vertex CodecError). m >>= unless_due lasts) (vertex_spelled_reads (vertex_bytes (vertex.Evidence e)) (vertex.Evidence e) range (record { limits = spells.limits; is = refl }))
after_reads lasts bytes (vertex.Endorsement e) range spells =
    ap (vertex_after lasts) spells.is
    ∙ ap (λ (m : Result Vertex CodecError). m >>= unless_due lasts) (vertex_spelled_reads (vertex_bytes (vertex.Endorsement e)) (vertex.Endorsement e) range (record { limits = spells.limits; is = refl }))

-- the clauses of the decoder, from what reading gives
pub after_found : (lasts : List (Option LastUnit)) (bytes : List ℕ) (result : Result Vertex CodecError) → AreBytes bytes → Gives (λ v. v) result (vertex_after lasts bytes) → IfOk result PanoramaFits
    → IfOk result (λ v. SpellsAfter lasts bytes v)
after_found lasts bytes (Ok v) fits given limit = after_spells lasts bytes v fits (form_of lasts bytes v fits given) limit
after_found lasts bytes (Err e) fits given limit = tt
