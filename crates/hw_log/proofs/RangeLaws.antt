-- What is read of a log is in the ranges of its types.
use Rattle.std.proofs.Common.{◌≡◌, ℕ, zero, suc, ◌+◌, ◌<◌, ◌≤◌, ◌^◌, Bool, true, false, nat_lt, ◌||◌, ◌==◌, if◌then◌else◌, List, [], ◌∷◌, ◌++◌, length, get_or, set, replicate, slice_get, Option, Some, None, Ok, ◌⊎◌, refl, sym, subst, inl, inr, arith}
use Rattle.std.specs.List.{AllByRecursion}
use Rattle.std.specs.Int.{w32, to_be_bytes}
use Rattle.std.specs.Option.{option_flatten}
use Rattle.std.proofs.lemmas.Bool.{or_cases, eqb-true}
use Rattle.std.proofs.lemmas.List.Elements.{All-append, All-from_recursion, recursion_from_All}
use Rattle.sha2.specs.Sha256.{sha256, digest_bytes}
use Rattle.sha2.proofs.Facts256.{length-sha256}
use Rattle.hw_types.specs.declared.unit.Obs.{Obs}
use Rattle.hw_types.specs.declared.unit.Obs.TheVariants.{Absent}
use Rattle.hw_types.specs.declared.unit.WireUnit.{WireUnit}
use Rattle.hw_types.specs.declared.unit.SignedUnit.{SignedUnit}
use Rattle.hw_types.specs.declared.unit.Vertex.{Vertex}
use Rattle.hw_types.specs.declared.unit.Vertex.TheVariants as vertex
use Rattle.hw_types.specs.Same.{obs_eq}
use Rattle.hw_types.specs.Spelling.{unit_bytes, digest_of, vertex_bytes, Fits, VertexFits}
use Rattle.hw_types.specs.Reading.{vertex_of}
use Rattle.hw_codec.specs.declared.compact.Change.{Change}
use Rattle.hw_codec.specs.Ranges.{AreBytes, DigestInRange, ObsInRange, UnitInRange, SignedInRange, VertexInRange}
use Rattle.hw_codec.specs.Last.{LastUnit, last_of, last_by}
use Rattle.hw_codec.specs.Compact.{changes_from, bytes_after, vertex_after, SpellsAfter, PanoramaFits}
use Rattle.hw_codec.proofs.Fields.{wide32}
use Rattle.hw_codec.proofs.ToldLaws.{obs_exact, ChangeInRange}
use Rattle.hw_codec.proofs.CompactLaws.{Form, compact, full, form_of, after_spells, Found}
use Rattle.hw_codec.proofs.Spelled.{vertex_read_spells, vertex_read_in_range}
use Rattle.hw_log.specs.Lasts.{LastUnits, no_lasts, with_noted, lasts_after, vertex_in}
use Rattle.hw_log.specs.Spelled.{LastInRange, LastsInRange, SpellsIn}

-- ---- names

digest_bytes_are : (h : List ℕ) (n : ℕ) → AreBytes (digest_bytes h n)
unfolding digest_bytes
digest_bytes_are h zero = All-from_recursion (λ (b : ℕ). b < 2 ^ 8) [] tt
digest_bytes_are h (suc n) = All-append (λ (b : ℕ). b < 2 ^ 8) (digest_bytes h n) (to_be_bytes w32 (get_or h n 0)) (digest_bytes_are h n) (wide32.each (get_or h n 0))

hash_is : (bytes : List ℕ) → AreBytes (sha256 bytes)
unfolding sha256
hash_is bytes = digest_bytes_are _ 8

name_in_range : (u : WireUnit) → DigestInRange (digest_of u)
unfolding digest_of
name_in_range u = record { size = length-sha256 (unit_bytes u); each = hash_is (unit_bytes u) }

-- ---- last units

last_in_range : (u : WireUnit) → UnitInRange u → Fits u → LastInRange (last_of u)
last_in_range u range fits = record { instance = range.instance; name = name_in_range u; panorama = range.panorama; size = fits.panorama }

get_set : (xs : List (Option LastUnit)) (i j : ℕ) (y : Option LastUnit) (last : LastUnit) → option_flatten (slice_get (set xs i y) j) ≡ Some last → (y ≡ Some last) ⊎ (option_flatten (slice_get xs j) ≡ Some last)
get_set [] i j y last e = inr e
get_set (x ∷ xs) zero zero y last e = inl e
get_set (x ∷ xs) zero (suc j) y last e = inr e
get_set (x ∷ xs) (suc i) zero y last e = inr e
get_set (x ∷ xs) (suc i) (suc j) y last e = get_set xs i j y last e

none_last : (n j : ℕ) (last : LastUnit) → last_by (replicate n None) j ≡ Some last → ⊥
none_last zero j last e = absurd cc
none_last (suc n) zero last e = absurd cc
none_last (suc n) (suc j) last e = none_last n j last e

no_units_in : (full : Bool) (n j : ℕ) (last : LastUnit) → last_by (if full then [] else replicate n None) j ≡ Some last → ⊥
no_units_in true n j last e = absurd cc
no_units_in false n j last e = none_last n j last e

pub none_in_range : (version validators : ℕ) → LastsInRange (no_lasts version validators).units
none_in_range version validators j last e = absurd (no_units_in (version == 1) validators j last e)

kept_in_range : (lasts : LastUnits) (s : SignedUnit) (there : Bool) → LastsInRange lasts.units → SignedInRange s → Fits s.unit
    → LastsInRange (with_noted lasts (if there then Some (record { creator = s.unit.creator; last = last_of s.unit }) else None)).units
kept_in_range lasts s true each range fits = λ j (last : LastUnit) e.
    elim (get_set lasts.units s.unit.creator j (Some (last_of s.unit)) last e) [
      | inl new ↦ (let is : last_of s.unit ≡ last = cc in subst LastInRange is (last_in_range s.unit range.unit fits))
      | inr old ↦ each j last old
    ]
kept_in_range lasts s false each range fits = each

pub after_in_range : (lasts : LastUnits) (v : Vertex) → LastsInRange lasts.units → VertexInRange v → VertexFits v → LastsInRange (lasts_after lasts v).units
after_in_range lasts (vertex.Unit s) each range fits = kept_in_range lasts s (nat_lt s.unit.creator (length lasts.units)) each range fits
after_in_range lasts (vertex.Evidence e) each range fits = each
after_in_range lasts (vertex.Endorsement e) each range fits = each

-- ---- vertices

-- the observations of a panorama are those of the last one, the creator's, or changes
told_in_range : (creator slot : ℕ) (before now : List Obs) → length now ≡ length before → AllByRecursion ObsInRange before → AllByRecursion ChangeInRange (changes_from creator slot before now)
    → ((j : ℕ) → slot + j ≡ creator → ObsInRange (get_or now j Absent)) → AllByRecursion ObsInRange now
told_in_range creator slot [] [] size old each own = tt
told_in_range creator slot [] (o ∷ now) size old each own = absurd (omega arith)
told_in_range creator slot (b ∷ before) [] size old each own = absurd (omega arith)
told_in_range creator slot (b ∷ before) (o ∷ now) size old each own =
    let first = one_in_range ((slot == creator) || obs_eq o b) refl slot o b (changes_from creator (suc slot) before now) each old.0 (λ (e : slot ≡ creator). own 0 (omega arith)) in
    (first.0, told_in_range creator (suc slot) before now (omega arith) old.1 first.1 (λ j (e : suc slot + j ≡ creator). own (suc j) (omega arith)))
  where
    one_in_range : (none : Bool) → ((slot == creator) || obs_eq o b) ≡ none → (slot' : ℕ) (o' b' : Obs) (others : List Change)
        → AllByRecursion ChangeInRange ((if none then [] else (record { slot = slot; obs = o } ∷ [])) ++ others) → ObsInRange b → (slot ≡ creator → ObsInRange o) → ObsInRange o × AllByRecursion ChangeInRange others
    one_in_range true is slot' o' b' others each' old' own' = (
      elim (or_cases (slot == creator) (obs_eq o b) is) [
        | inl same ↦ own' (eqb-true slot creator same)
        | inr equal ↦ subst ObsInRange (sym (obs_exact o b equal)) old'
      ],
      each',
    )
    one_in_range false is slot' o' b' others each' old' own' = (each'.0.obs, each'.1)

compact_in_range : (lasts : List (Option LastUnit)) (bytes : List ℕ) (s : SignedUnit) → LastsInRange lasts → Found lasts bytes s → SignedInRange s × (length s.unit.panorama ≤ 1024)
compact_in_range lasts bytes s each found =
    let last = each s.unit.creator found.last found.by in
    let told = found.is.told in
    let follows = told.panorama in
    let own : (j : ℕ) → 0 + j ≡ s.unit.creator → ObsInRange (get_or s.unit.panorama j Absent) = λ j (e : 0 + j ≡ s.unit.creator).
    subst (λ (k : ℕ). ObsInRange (get_or s.unit.panorama k Absent)) (let is : s.unit.creator ≡ j = omega arith in is) (subst ObsInRange (sym follows.own) last.name) in
    let panorama = told_in_range s.unit.creator 0 found.last.panorama s.unit.panorama follows.size (recursion_from_All ObsInRange found.last.panorama last.panorama) follows.each own in
    let short : length s.unit.panorama ≤ 1024 = subst (λ (n : ℕ). n ≤ 1024) (sym follows.size) last.size in (
      record {
        unit = record {
          instance = subst DigestInRange (sym found.is.instance) last.instance;
          creator = found.is.creator;
          seq = told.seq;
          time = told.time.0;
          exponent = told.exponent;
          panorama = All-from_recursion ObsInRange s.unit.panorama panorama;
          value = told.value.bytes;
          endorsed = told.endorsed.each;
        };
        signature = told.signature;
      },
      short,
    )

-- what was read behind these last units is spelled so, and in range
after_read : (lasts : List (Option LastUnit)) (bytes : List ℕ) (v : Vertex) → LastsInRange lasts → AreBytes bytes → Form lasts bytes v → VertexInRange v × SpellsAfter lasts bytes v
after_read lasts bytes v each fits (compact s is found) =
    let range = compact_in_range lasts bytes s each found in
    (subst VertexInRange is range.0, after_spells lasts bytes v fits (compact s is found) (subst PanoramaFits is range.1))
after_read lasts bytes v each fits (full reads none) =
    let spells = vertex_read_spells bytes v fits reads in
    (vertex_read_in_range bytes v fits reads, after_spells lasts bytes v fits (full reads none) (short v spells.limits))
  where
    short : (w : Vertex) → VertexFits w → PanoramaFits w
    short (vertex.Unit s) fits' = fits'.panorama
    short (vertex.Evidence e) fits' = tt
    short (vertex.Endorsement e) fits' = tt

read_by : (is_full : Bool) (lasts : List (Option LastUnit)) (bytes : List ℕ) (v : Vertex) → LastsInRange lasts → AreBytes bytes → (if is_full then vertex_of bytes else vertex_after lasts bytes) ≡ Ok v
    → VertexInRange v × VertexFits v × (bytes ≡ (if is_full then vertex_bytes v else bytes_after lasts v))
read_by true lasts bytes v each fits e = let spells = vertex_read_spells bytes v fits e in (vertex_read_in_range bytes v fits e, spells.limits, spells.is)
read_by false lasts bytes v each fits e = let read = after_read lasts bytes v each fits (form_of lasts bytes v fits e) in (read.0, read.1.limits, read.1.is)

-- what was read in a log is spelled so, and in range
pub vertex_read : (lasts : LastUnits) (bytes : List ℕ) (v : Vertex) → LastsInRange lasts.units → AreBytes bytes → vertex_in lasts bytes ≡ Ok v → VertexInRange v × SpellsIn lasts bytes v
vertex_read lasts bytes v each fits e =
    let read = read_by (lasts.version == 1) lasts.units bytes v each fits e in
    (read.0, record { limits = read.1; is = read.2 })
