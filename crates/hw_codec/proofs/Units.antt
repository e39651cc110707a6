-- Units, signed units and vertices: reading and spelling.
use Rattle.std.proofs.Common.{◌≡◌, ℕ, zero, suc, ◌^◌, ◌<◌, ◌≤◌, ltb, List, [], ◌∷◌, ◌++◌, length, Option, Some, None, Ok, refl, sym, ◌∙◌, append_assoc, arith}
use Rattle.std.specs.Prelude.{IfSome}
use Rattle.std.specs.Int.{w32}
use Rattle.std.proofs.lemmas.Bool.{ltb-true, lt-ltb}
use Rattle.std.proofs.lemmas.List.{append-nil}
use Rattle.hw_types.specs.declared.answers.CodecError.TheVariants as error
use Rattle.hw_types.specs.declared.unit.Digest.{Digest}
use Rattle.hw_types.specs.declared.unit.Obs.{Obs}
use Rattle.hw_types.specs.declared.unit.Obs.TheVariants.{Absent, Correct, Faulty}
use Rattle.hw_types.specs.declared.unit.WireUnit.{WireUnit}
use Rattle.hw_types.specs.declared.unit.SignedUnit.{SignedUnit}
use Rattle.hw_types.specs.declared.unit.Evidence.{Evidence}
use Rattle.hw_types.specs.declared.unit.Endorsement.{Endorsement}
use Rattle.hw_types.specs.declared.unit.Vertex.{Vertex}
use Rattle.hw_types.specs.declared.unit.Vertex.TheVariants as vertex
use Rattle.hw_types.specs.Spelling.{counted, u32_bytes, u64_bytes, obs_bytes, value_bytes, unit_bytes, signed_bytes, vertex_bytes, Fits, VertexFits}
use Rattle.hw_types.specs.Reading.{◌>>=◌, bytes_at, obs_behind, obs_at, value_behind, value_at, time_at, unit_at, signed_at, vertex_behind, vertex_at, Rest, Read, number_at, digest_at}
use Rattle.hw_codec.specs.Ranges.{AreBytes, AreBytesOf, DigestInRange, ObsInRange, UnitInRange, SignedInRange, SignatureInRange, VertexInRange}
use Rattle.hw_codec.proofs.Readings.{IsReading, Any, seq, said, nothing, inside, tested, end, constant, alike, bind_assoc, bind_same, with_made}
use Rattle.hw_codec.proofs.Fields.{byte_alone, itself, bytes_reading, digest_reading, u32_reading, u64_reading, byte_reading, count_reading, counted_reading}

-- ---- observations

abbrev obs_tag : Obs → ℕ
obs_tag Absent = 0
obs_tag (Correct d) = 1
obs_tag Faulty = 2

abbrev obs_rest : Obs → List ℕ
obs_rest Absent = []
obs_rest (Correct d) = d.0
obs_rest Faulty = []

abbrev ObsTagged : ℕ → Obs → Type 0
ObsTagged tag o = Any o × (obs_tag o ≡ tag)

absent_only : (o : Obs) → ObsTagged 0 o → Absent ≡ o
absent_only Absent k = refl
absent_only (Correct d) k = absurd (omega (arith, k.1))
absent_only Faulty k = absurd (omega (arith, k.1))

faulty_only : (o : Obs) → ObsTagged 2 o → Faulty ≡ o
faulty_only Absent k = absurd (omega (arith, k.1))
faulty_only (Correct d) k = absurd (omega (arith, k.1))
faulty_only Faulty k = refl

correct_only : (o : Obs) → ObsTagged 1 o → ObsInRange o → (d : Digest) × (Correct d ≡ o) × DigestInRange d × (d.0 ≡ obs_rest o)
correct_only Absent k g = absurd (omega (arith, k.1))
correct_only (Correct d) k g = (d, refl, g, refl)
correct_only Faulty k g = absurd (omega (arith, k.1))

no_more_obs : (tag : ℕ) (o : Obs) → ObsTagged (suc (suc (suc tag))) o → ⊥
no_more_obs tag Absent k = omega (arith, k.1)
no_more_obs tag (Correct d) k = omega (arith, k.1)
no_more_obs tag Faulty k = omega (arith, k.1)

obs_rest_reading : (place tag : ℕ) → IsReading (obs_behind place tag) (ObsTagged tag) obs_rest ObsInRange
obs_rest_reading place zero = constant Absent (ObsTagged 0) obs_rest ObsInRange (tt, refl) absent_only refl tt
obs_rest_reading place (suc zero) = inside (λ (d : Digest). Correct d) (ObsTagged 1) obs_rest ObsInRange digest_reading (λ d g. (refl, (tt, refl), g)) correct_only
obs_rest_reading place (suc (suc zero)) = constant Faulty (ObsTagged 2) obs_rest ObsInRange (tt, refl) faulty_only refl tt
obs_rest_reading place (suc (suc (suc tag))) = nothing (error.BadTag place) (ObsTagged (suc (suc (suc tag)))) obs_rest ObsInRange (no_more_obs tag)

obs_spelled : (o : Obs) → byte_alone (obs_tag o) ++ obs_rest o ≡ obs_bytes o
obs_spelled Absent = refl
obs_spelled (Correct d) = refl
obs_spelled Faulty = refl

obs_tag_fits : (o : Obs) → obs_tag o < 2 ^ 8
obs_tag_fits Absent = omega arith
obs_tag_fits (Correct d) = omega arith
obs_tag_fits Faulty = omega arith

pub obs_reading : IsReading obs_at Any obs_bytes ObsInRange
unfolding obs_at
obs_reading = said (seq {Known = Any} obs_tag byte_reading obs_rest_reading) (λ o k. k) (λ o k. k) (λ o k. obs_spelled o) (λ o k g. g.1) (λ o k g. (obs_tag_fits o, g))

-- ---- values

-- what a value is that keeps its limit
pub record IsValue (o : Option (List ℕ)) : Type 0 where
  pub length : IfSome o (λ value. length value ≤ 4096)
  pub bytes : IfSome o AreBytes

abbrev value_flag : Option (List ℕ) → ℕ
value_flag None = 0
value_flag (Some value) = 1

abbrev value_length : Option (List ℕ) → ℕ
value_length None = 0
value_length (Some value) = length value

abbrev value_text : Option (List ℕ) → List ℕ
value_text None = []
value_text (Some value) = value

abbrev value_rest : Option (List ℕ) → List ℕ
value_rest None = []
value_rest (Some value) = u32_bytes (length value) ++ value

abbrev ValueFlagged : ℕ → Option (List ℕ) → Type 0
ValueFlagged flag o = Any o × (value_flag o ≡ flag)

abbrev ValueMeasured : ℕ → Option (List ℕ) → Type 0
ValueMeasured n o = ValueFlagged 1 o × (value_length o ≡ n)

none_only : (o : Option (List ℕ)) → ValueFlagged 0 o → None ≡ o
none_only None k = refl
none_only (Some value) k = absurd (omega (arith, k.1))

no_more_flags : (flag : ℕ) (o : Option (List ℕ)) → ValueFlagged (suc (suc flag)) o → ⊥
no_more_flags flag None k = omega (arith, k.1)
no_more_flags flag (Some value) k = omega (arith, k.1)

some_only : (n : ℕ) (o : Option (List ℕ)) → ValueMeasured n o → IfSome o AreBytes → (value : List ℕ) × (Some value ≡ o) × AreBytesOf n value × (itself value ≡ value_text o)
some_only n None k g = absurd (omega (arith, k.0.1))
some_only n (Some value) k g = (value, refl, record { size = k.1; each = g }, refl)

text_reading : (n : ℕ) → IsReading (λ r. bytes_at n r >>= λ b. Ok (Some b.0, b.1)) (ValueMeasured n) value_text (λ o. IfSome o AreBytes)
text_reading n = inside (λ (value : List ℕ). Some value) (ValueMeasured n) value_text (λ o. IfSome o AreBytes) (bytes_reading n) (λ value g. (refl, ((tt, refl), g.size), g.each)) (some_only n)

some_spelled : (o : Option (List ℕ)) → ValueFlagged 1 o → u32_bytes (value_length o) ++ value_text o ≡ value_rest o
some_spelled None k = absurd (omega (arith, k.1))
some_spelled (Some value) k = refl

some_is : (o : Option (List ℕ)) → ValueFlagged 1 o → ((value_length o < 2 ^ 32) × (value_length o ≤ 4096)) × IfSome o AreBytes → IsValue o
some_is None k g = absurd (omega (arith, k.1))
some_is (Some value) k g = record { length = g.0.1; bytes = g.1 }

some_has : (o : Option (List ℕ)) → ValueFlagged 1 o → IsValue o → ((value_length o < 2 ^ 32) × (value_length o ≤ 4096)) × IfSome o AreBytes
some_has None k g = absurd (omega (arith, k.1))
some_has (Some value) k g = ((omega (arith, g.length), g.length), g.bytes)

value_rest_reading : (place flag : ℕ) → IsReading (value_behind place flag) (ValueFlagged flag) value_rest IsValue
value_rest_reading place zero = constant None (ValueFlagged 0) value_rest IsValue (tt, refl) none_only refl (record { length = tt; bytes = tt })
value_rest_reading place (suc zero) = said (seq {Known = ValueFlagged 1} value_length (count_reading 4096) (λ _ n. text_reading n)) (λ o k. k) (λ o k. k) some_spelled some_is some_has
value_rest_reading place (suc (suc flag)) = nothing (error.BadTag place) (ValueFlagged (suc (suc flag))) value_rest IsValue (no_more_flags flag)

value_spelled : (o : Option (List ℕ)) → byte_alone (value_flag o) ++ value_rest o ≡ value_bytes o
value_spelled None = refl
value_spelled (Some value) = refl

value_flag_fits : (o : Option (List ℕ)) → value_flag o < 2 ^ 8
value_flag_fits None = omega arith
value_flag_fits (Some value) = omega arith

pub value_reading : IsReading value_at Any value_bytes IsValue
unfolding value_at
value_reading = said (seq {Known = Any} value_flag byte_reading value_rest_reading) (λ o k. k) (λ o k. k) (λ o k. value_spelled o) (λ o k g. g.1) (λ o k g. (value_flag_fits o, g))

-- ---- units

pub time_reading : IsReading time_at Any u64_bytes (λ t. (t < 2 ^ 64) × (t < 2 ^ 63))
time_reading = tested (λ t. ltb t (2 ^ 63)) error.OutOfRange (λ t. t < 2 ^ 63) u64_reading (λ t g e. ltb-true t (2 ^ 63) e) (λ t g lt. lt-ltb t (2 ^ 63) lt)

pub record IsUnit (u : WireUnit) : Type 0 where
  pub fits : Fits u
  pub in_range : UnitInRange u

eight_grouped : (a b c d e f g h : List ℕ) → a ++ (b ++ (c ++ (d ++ (e ++ (f ++ (g ++ (h ++ []))))))) ≡ a ++ b ++ c ++ d ++ e ++ f ++ g ++ h
eight_grouped a b c d e f g h = simp (append_assoc, append-nil)

unit_spelled : (u : WireUnit) → Any u → u.instance.0 ++ (u32_bytes u.creator ++ (u64_bytes u.seq ++ (u64_bytes u.time ++ ((u.exponent ∷ []) ++ (counted obs_bytes u.panorama ++ (value_bytes u.value ++ (counted (λ (d : Digest). d.0) u.endorsed ++ []))))))) ≡ unit_bytes u
unit_spelled u k = eight_grouped u.instance.0 (u32_bytes u.creator) (u64_bytes u.seq) (u64_bytes u.time) (u.exponent ∷ []) (counted obs_bytes u.panorama) (value_bytes u.value) (counted (λ (d : Digest). d.0) u.endorsed)

pub unit_reading : IsReading unit_at Any unit_bytes IsUnit
unfolding unit_at
unit_reading = said
    (seq {Known = Any} (λ (u : WireUnit). u.instance) digest_reading λ _ instance.
    seq (λ (u : WireUnit). u.creator) u32_reading λ _ creator.
    seq (λ (u : WireUnit). u.seq) u64_reading λ _ number.
    seq (λ (u : WireUnit). u.time) time_reading λ _ time.
    seq (λ (u : WireUnit). u.exponent) byte_reading λ _ exponent.
    seq (λ (u : WireUnit). u.panorama) (counted_reading 1024 (omega arith) obs_reading) λ _ panorama.
    seq (λ (u : WireUnit). u.value) value_reading λ _ value.
    seq (λ (u : WireUnit). u.endorsed) (counted_reading 256 (omega arith) digest_reading) λ _ endorsed.
    end (record { instance = instance; creator = creator; seq = number; time = time; exponent = exponent; panorama = panorama; value = value; endorsed = endorsed }) _
    ((((((((tt, refl), refl), refl), refl), refl), refl), refl), refl)
    (λ u k i. record { instance = sym k.0.0.0.0.0.0.0.1 i; creator = sym k.0.0.0.0.0.0.1 i; seq = sym k.0.0.0.0.0.1 i; time = sym k.0.0.0.0.1 i; exponent = sym k.0.0.0.1 i; panorama = sym k.0.0.1 i; value = sym k.0.1 i; endorsed = sym k.1 i }))
    (λ u k. k) (λ u k. k)
    unit_spelled
    (λ u k g. record {
      fits = record { time = g.1.1.1.0.1; panorama = g.1.1.1.1.1.0.count; value = g.1.1.1.1.1.1.0.length; endorsed = g.1.1.1.1.1.1.1.0.count };
      in_range = record { instance = g.0; creator = g.1.0; seq = g.1.1.0; time = g.1.1.1.0.0; exponent = g.1.1.1.1.0; panorama = g.1.1.1.1.1.0.each; value = g.1.1.1.1.1.1.0.bytes; endorsed = g.1.1.1.1.1.1.1.0.each };
    })
    (λ u k g. (g.in_range.instance, (g.in_range.creator, (g.in_range.seq, ((g.in_range.time, g.fits.time), (g.in_range.exponent, (record { count = g.fits.panorama; each = g.in_range.panorama }, (record { length = g.fits.value; bytes = g.in_range.value }, (record { count = g.fits.endorsed; each = g.in_range.endorsed }, tt)))))))))

-- ---- signed units

pub record IsSigned (s : SignedUnit) : Type 0 where
  pub fits : Fits s.unit
  pub in_range : SignedInRange s

two_grouped : (a b : List ℕ) → a ++ (b ++ []) ≡ a ++ b
two_grouped a b = simp append-nil

pub signed_reading : IsReading signed_at Any signed_bytes IsSigned
unfolding signed_at
signed_reading = said
    (seq {Known = Any} (λ (s : SignedUnit). s.unit) unit_reading λ _ unit.
    seq (λ (s : SignedUnit). s.signature.0) (bytes_reading 32) λ _ signature.
    end (record { unit = unit; signature = record { 0 = signature } }) _ ((tt, refl), refl) (λ s k i. record { unit = sym k.0.1 i; signature = record { 0 = sym k.1 i } }))
    (λ s k. k) (λ s k. k)
    (λ s k. two_grouped (unit_bytes s.unit) s.signature.0)
    (λ s k g. record { fits = g.0.fits; in_range = record { unit = g.0.in_range; signature = g.1.0 } })
    (λ s k g. (record { fits = g.fits; in_range = g.in_range.unit }, (g.in_range.signature, tt)))

-- ---- vertices

pub record IsVertex (v : Vertex) : Type 0 where
  pub fits : VertexFits v
  pub in_range : VertexInRange v

abbrev vertex_kind : Vertex → ℕ
vertex_kind (vertex.Unit s) = 1
vertex_kind (vertex.Evidence e) = 2
vertex_kind (vertex.Endorsement e) = 3

abbrev vertex_rest : Vertex → List ℕ
vertex_rest (vertex.Unit s) = signed_bytes s
vertex_rest (vertex.Evidence e) = signed_bytes e.left ++ signed_bytes e.right
vertex_rest (vertex.Endorsement e) = e.unit.0 ++ u32_bytes e.endorser ++ e.signature.0

abbrev VertexOf : ℕ → Vertex → Type 0
VertexOf kind v = Any v × (vertex_kind v ≡ kind)

no_vertex : (kind : ℕ) (v : Vertex) → VertexOf (suc (suc (suc (suc kind)))) v → ⊥
no_vertex kind (vertex.Unit s) k = omega (arith, k.1)
no_vertex kind (vertex.Evidence e) k = omega (arith, k.1)
no_vertex kind (vertex.Endorsement e) k = omega (arith, k.1)

no_zero_vertex : (v : Vertex) → VertexOf 0 v → ⊥
no_zero_vertex (vertex.Unit s) k = omega (arith, k.1)
no_zero_vertex (vertex.Evidence e) k = omega (arith, k.1)
no_zero_vertex (vertex.Endorsement e) k = omega (arith, k.1)

unit_only : (v : Vertex) → VertexOf 1 v → IsVertex v → (s : SignedUnit) × (vertex.Unit s ≡ v) × IsSigned s × (signed_bytes s ≡ vertex_rest v)
unit_only (vertex.Unit s) k g = (s, refl, record { fits = g.fits; in_range = g.in_range }, refl)
unit_only (vertex.Evidence e) k g = absurd (omega (arith, k.1))
unit_only (vertex.Endorsement e) k g = absurd (omega (arith, k.1))

-- two units, before they are a vertex
abbrev right_at : SignedUnit → Rest → Read Evidence
right_at left r = signed_at r >>= λ right. Ok (record { left = left; right = right.0 }, right.1)

abbrev evidence_at : Rest → Read Evidence
evidence_at r = signed_at r >>= λ left. right_at left.0 left.1

abbrev evidence_bytes : Evidence → List ℕ
evidence_bytes e = signed_bytes e.left ++ signed_bytes e.right

pub record IsEvidence (e : Evidence) : Type 0 where
  pub left : IsSigned e.left
  pub right : IsSigned e.right

evidence_reading : IsReading evidence_at Any evidence_bytes IsEvidence
evidence_reading = said
    (seq {Known = Any} (λ (e : Evidence). e.left) signed_reading λ _ left.
    seq (λ (e : Evidence). e.right) signed_reading λ _ right.
    end (record { left = left; right = right }) _ ((tt, refl), refl) (λ e k i. record { left = sym k.0.1 i; right = sym k.1 i }))
    (λ e k. k) (λ e k. k)
    (λ e k. two_grouped (signed_bytes e.left) (signed_bytes e.right))
    (λ e k g. record { left = g.0; right = g.1.0 })
    (λ e k g. (g.left, (g.right, tt)))

evidence_alike : (place : ℕ) (r : Rest) → (evidence_at r >>= with_made vertex.Evidence) ≡ vertex_behind place 2 r
evidence_alike place r =
    bind_assoc (signed_at r) (λ left. right_at left.0 left.1) (with_made vertex.Evidence)
    ∙ bind_same (signed_at r) _ _ (λ left. bind_assoc (signed_at left.1) (λ right. Ok (record { left = left.0; right = right.0 }, right.1)) (with_made vertex.Evidence))

evidence_only : (v : Vertex) → VertexOf 2 v → IsVertex v → (e : Evidence) × (vertex.Evidence e ≡ v) × IsEvidence e × (evidence_bytes e ≡ vertex_rest v)
evidence_only (vertex.Unit s) k g = absurd (omega (arith, k.1))
evidence_only (vertex.Evidence e) k g = (e, refl, record { left = record { fits = g.fits.0; in_range = g.in_range.0 }; right = record { fits = g.fits.1; in_range = g.in_range.1 } }, refl)
evidence_only (vertex.Endorsement e) k g = absurd (omega (arith, k.1))

-- an endorsement, before it is a vertex
abbrev signature_at : Digest → ℕ → Rest → Read Endorsement
signature_at unit endorser r = bytes_at 32 r >>= λ signature. Ok (record { unit = unit; endorser = endorser; signature = record { 0 = signature.0 } }, signature.1)

abbrev endorser_at : Digest → Rest → Read Endorsement
endorser_at unit r = number_at w32 r >>= λ endorser. signature_at unit endorser.0 endorser.1

abbrev endorsement_at : Rest → Read Endorsement
endorsement_at r = digest_at r >>= λ unit. endorser_at unit.0 unit.1

abbrev endorsement_bytes : Endorsement → List ℕ
endorsement_bytes e = e.unit.0 ++ u32_bytes e.endorser ++ e.signature.0

abbrev EndorsementInRange : Endorsement → Type 0
EndorsementInRange e = DigestInRange e.unit × (e.endorser < 2 ^ 32) × SignatureInRange e.signature

three_grouped : (a b c : List ℕ) → a ++ (b ++ (c ++ [])) ≡ a ++ b ++ c
three_grouped a b c = simp (append_assoc, append-nil)

endorsement_reading : IsReading endorsement_at Any endorsement_bytes EndorsementInRange
endorsement_reading = said
    (seq {Known = Any} (λ (e : Endorsement). e.unit) digest_reading λ _ unit.
    seq (λ (e : Endorsement). e.endorser) u32_reading λ _ endorser.
    seq (λ (e : Endorsement). e.signature.0) (bytes_reading 32) λ _ signature.
    end (record { unit = unit; endorser = endorser; signature = record { 0 = signature } }) _ (((tt, refl), refl), refl) (λ e k i. record { unit = sym k.0.0.1 i; endorser = sym k.0.1 i; signature = record { 0 = sym k.1 i } }))
    (λ e k. k) (λ e k. k)
    (λ e k. three_grouped e.unit.0 (u32_bytes e.endorser) e.signature.0)
    (λ e k g. (g.0, g.1.0, g.1.1.0))
    (λ e k g. (g.0, (g.1, (g.2, tt))))

endorsement_alike : (place : ℕ) (r : Rest) → (endorsement_at r >>= with_made vertex.Endorsement) ≡ vertex_behind place 3 r
endorsement_alike place r =
    bind_assoc (digest_at r) (λ unit. endorser_at unit.0 unit.1) (with_made vertex.Endorsement)
    ∙ bind_same (digest_at r) _ _ (λ unit. bind_assoc (number_at w32 unit.1) (λ endorser. signature_at unit.0 endorser.0 endorser.1) (with_made vertex.Endorsement)
    ∙ bind_same (number_at w32 unit.1) _ _ (λ endorser. bind_assoc (bytes_at 32 endorser.1) (λ signature. Ok (record { unit = unit.0; endorser = endorser.0; signature = record { 0 = signature.0 } }, signature.1)) (with_made vertex.Endorsement)))

endorsement_only : (v : Vertex) → VertexOf 3 v → IsVertex v → (e : Endorsement) × (vertex.Endorsement e ≡ v) × EndorsementInRange e × (endorsement_bytes e ≡ vertex_rest v)
endorsement_only (vertex.Unit s) k g = absurd (omega (arith, k.1))
endorsement_only (vertex.Evidence e) k g = absurd (omega (arith, k.1))
endorsement_only (vertex.Endorsement e) k g = (e, refl, g.in_range, refl)

vertex_rest_reading : (place kind : ℕ) → IsReading (vertex_behind place kind) (VertexOf kind) vertex_rest IsVertex
vertex_rest_reading place zero = nothing (error.BadTag place) (VertexOf 0) vertex_rest IsVertex no_zero_vertex
vertex_rest_reading place (suc zero) =
    inside vertex.Unit (VertexOf 1) vertex_rest IsVertex signed_reading (λ s g. (refl, (tt, refl), record { fits = g.fits; in_range = g.in_range })) unit_only
vertex_rest_reading place (suc (suc zero)) =
    alike (λ r. evidence_at r >>= with_made vertex.Evidence)
    (inside vertex.Evidence (VertexOf 2) vertex_rest IsVertex evidence_reading (λ e g. (refl, (tt, refl), record { fits = (g.left.fits, g.right.fits); in_range = (g.left.in_range, g.right.in_range) })) evidence_only)
    (evidence_alike place)
vertex_rest_reading place (suc (suc (suc zero))) =
    alike (λ r. endorsement_at r >>= with_made vertex.Endorsement)
    (inside vertex.Endorsement (VertexOf 3) vertex_rest IsVertex endorsement_reading (λ e g. (refl, (tt, refl), record { fits = tt; in_range = g })) endorsement_only)
    (endorsement_alike place)
vertex_rest_reading place (suc (suc (suc (suc kind)))) = nothing (error.BadTag place) (VertexOf (suc (suc (suc (suc kind))))) vertex_rest IsVertex (no_vertex kind)

vertex_spelled : (v : Vertex) → byte_alone (vertex_kind v) ++ vertex_rest v ≡ vertex_bytes v
vertex_spelled (vertex.Unit s) = refl
vertex_spelled (vertex.Evidence e) = refl
vertex_spelled (vertex.Endorsement e) = refl

vertex_kind_fits : (v : Vertex) → vertex_kind v < 2 ^ 8
vertex_kind_fits (vertex.Unit s) = omega arith
vertex_kind_fits (vertex.Evidence e) = omega arith
vertex_kind_fits (vertex.Endorsement e) = omega arith

pub vertex_reading : IsReading vertex_at Any vertex_bytes IsVertex
unfolding vertex_at
vertex_reading = said (seq {Known = Any} vertex_kind byte_reading vertex_rest_reading) (λ v k. k) (λ v k. k) (λ v k. vertex_spelled v) (λ v k g. g.1) (λ v k g. (vertex_kind_fits v, g))
