-- Needs and frames: reading and spelling.
use Rattle.std.proofs.Common.{◌≡◌, ℕ, zero, suc, ◌^◌, ◌<◌, List, [], ◌++◌, refl, arith}
use Rattle.hw_types.specs.declared.answers.CodecError.TheVariants as error
use Rattle.hw_types.specs.declared.unit.Digest.{Digest}
use Rattle.hw_types.specs.declared.unit.Need.{Need}
use Rattle.hw_types.specs.declared.unit.Need.TheVariants as need
use Rattle.hw_types.specs.declared.unit.Vertex.{Vertex}
use Rattle.hw_types.specs.declared.answers.Frame.{Frame}
use Rattle.hw_types.specs.declared.answers.Frame.TheVariants as frame
use Rattle.hw_types.specs.Spelling.{counted, u32_bytes, u64_bytes, vertex_bytes, need_bytes, frame_bytes, FrameFits}
use Rattle.hw_types.specs.Reading.{need_behind, need_at, frame_behind, frame_at}
use Rattle.hw_codec.specs.Ranges.{DigestInRange, NeedInRange, FrameInRange}
use Rattle.hw_codec.proofs.Readings.{IsReading, Any, seq, said, nothing, inside, constant}
use Rattle.hw_codec.proofs.Fields.{byte_alone, digest_reading, u32_reading, u64_reading, byte_reading, counted_reading, AreCounted}
use Rattle.hw_codec.proofs.Units.{IsVertex, vertex_reading}

-- ---- needs

abbrev need_tag : Need → ℕ
need_tag (need.Unit d) = 1
need_tag (need.Evidence v) = 2
need_tag (need.Endorsed d) = 3

abbrev need_rest : Need → List ℕ
need_rest (need.Unit d) = d.0
need_rest (need.Evidence v) = u32_bytes v
need_rest (need.Endorsed d) = d.0

abbrev NeedTagged : ℕ → Need → Type 0
NeedTagged tag n = Any n × (need_tag n ≡ tag)

unit_need_only : (n : Need) → NeedTagged 1 n → NeedInRange n → (d : Digest) × (need.Unit d ≡ n) × DigestInRange d × (d.0 ≡ need_rest n)
unit_need_only (need.Unit d) k g = (d, refl, g, refl)
unit_need_only (need.Evidence v) k g = absurd (omega (arith, k.1))
unit_need_only (need.Endorsed d) k g = absurd (omega (arith, k.1))

evidence_need_only : (n : Need) → NeedTagged 2 n → NeedInRange n → (v : ℕ) × (need.Evidence v ≡ n) × (v < 2 ^ 32) × (u32_bytes v ≡ need_rest n)
evidence_need_only (need.Unit d) k g = absurd (omega (arith, k.1))
evidence_need_only (need.Evidence v) k g = (v, refl, g, refl)
evidence_need_only (need.Endorsed d) k g = absurd (omega (arith, k.1))

endorsed_need_only : (n : Need) → NeedTagged 3 n → NeedInRange n → (d : Digest) × (need.Endorsed d ≡ n) × DigestInRange d × (d.0 ≡ need_rest n)
endorsed_need_only (need.Unit d) k g = absurd (omega (arith, k.1))
endorsed_need_only (need.Evidence v) k g = absurd (omega (arith, k.1))
endorsed_need_only (need.Endorsed d) k g = (d, refl, g, refl)

need_tag_within : (n : Need) → (0 < need_tag n) × (need_tag n < 4)
need_tag_within (need.Unit d) = (omega arith, omega arith)
need_tag_within (need.Evidence v) = (omega arith, omega arith)
need_tag_within (need.Endorsed d) = (omega arith, omega arith)

need_rest_reading : (place tag : ℕ) → IsReading (need_behind place tag) (NeedTagged tag) need_rest NeedInRange
need_rest_reading place zero = nothing (error.BadTag place) (NeedTagged 0) need_rest NeedInRange (λ n k. omega (arith, k.1, (need_tag_within n).0))
need_rest_reading place (suc zero) = inside need.Unit (NeedTagged 1) need_rest NeedInRange digest_reading (λ d g. (refl, (tt, refl), g)) unit_need_only
need_rest_reading place (suc (suc zero)) = inside need.Evidence (NeedTagged 2) need_rest NeedInRange u32_reading (λ v g. (refl, (tt, refl), g)) evidence_need_only
need_rest_reading place (suc (suc (suc zero))) = inside need.Endorsed (NeedTagged 3) need_rest NeedInRange digest_reading (λ d g. (refl, (tt, refl), g)) endorsed_need_only
need_rest_reading place (suc (suc (suc (suc tag)))) = nothing (error.BadTag place) (NeedTagged (suc (suc (suc (suc tag))))) need_rest NeedInRange (λ n k. omega (arith, k.1, (need_tag_within n).1))

need_spelled : (n : Need) → byte_alone (need_tag n) ++ need_rest n ≡ need_bytes n
need_spelled (need.Unit d) = refl
need_spelled (need.Evidence v) = refl
need_spelled (need.Endorsed d) = refl

pub need_reading : IsReading need_at Any need_bytes NeedInRange
unfolding need_at
need_reading = said (seq {Known = Any} need_tag byte_reading need_rest_reading) (λ n k. k) (λ n k. k) (λ n k. need_spelled n) (λ n k g. g.1) (λ n k g. (omega (arith, (need_tag_within n).1), g))

-- ---- frames

pub record IsFrame (f : Frame) : Type 0 where
  pub fits : FrameFits f
  pub in_range : FrameInRange f

abbrev frame_kind : Frame → ℕ
frame_kind (frame.Hello instance) = 1
frame_kind (frame.Vertex v) = 2
frame_kind (frame.Have n) = 3
frame_kind (frame.Want needs) = 4
frame_kind frame.Done = 5
frame_kind (frame.Missing n) = 6

abbrev frame_rest : Frame → List ℕ
frame_rest (frame.Hello instance) = instance.0
frame_rest (frame.Vertex v) = vertex_bytes v
frame_rest (frame.Have n) = u64_bytes n
frame_rest (frame.Want needs) = counted need_bytes needs
frame_rest frame.Done = []
frame_rest (frame.Missing n) = need_bytes n

abbrev FrameOf : ℕ → Frame → Type 0
FrameOf kind f = Any f × (frame_kind f ≡ kind)

hello_only : (f : Frame) → FrameOf 1 f → IsFrame f → (d : Digest) × (frame.Hello d ≡ f) × DigestInRange d × (d.0 ≡ frame_rest f)
hello_only (frame.Hello instance) k g = (instance, refl, g.in_range, refl)
hello_only (frame.Vertex v) k g = absurd (omega (arith, k.1))
hello_only (frame.Have n) k g = absurd (omega (arith, k.1))
hello_only (frame.Want needs) k g = absurd (omega (arith, k.1))
hello_only frame.Done k g = absurd (omega (arith, k.1))
hello_only (frame.Missing n) k g = absurd (omega (arith, k.1))

vertex_only : (f : Frame) → FrameOf 2 f → IsFrame f → (v : Vertex) × (frame.Vertex v ≡ f) × IsVertex v × (vertex_bytes v ≡ frame_rest f)
vertex_only (frame.Hello instance) k g = absurd (omega (arith, k.1))
vertex_only (frame.Vertex v) k g = (v, refl, record { fits = g.fits; in_range = g.in_range }, refl)
vertex_only (frame.Have n) k g = absurd (omega (arith, k.1))
vertex_only (frame.Want needs) k g = absurd (omega (arith, k.1))
vertex_only frame.Done k g = absurd (omega (arith, k.1))
vertex_only (frame.Missing n) k g = absurd (omega (arith, k.1))

have_only : (f : Frame) → FrameOf 3 f → IsFrame f → (n : ℕ) × (frame.Have n ≡ f) × (n < 2 ^ 64) × (u64_bytes n ≡ frame_rest f)
have_only (frame.Hello instance) k g = absurd (omega (arith, k.1))
have_only (frame.Vertex v) k g = absurd (omega (arith, k.1))
have_only (frame.Have n) k g = (n, refl, g.in_range, refl)
have_only (frame.Want needs) k g = absurd (omega (arith, k.1))
have_only frame.Done k g = absurd (omega (arith, k.1))
have_only (frame.Missing n) k g = absurd (omega (arith, k.1))

want_only : (f : Frame) → FrameOf 4 f → IsFrame f → (needs : List Need) × (frame.Want needs ≡ f) × AreCounted 256 NeedInRange needs × (counted need_bytes needs ≡ frame_rest f)
want_only (frame.Hello instance) k g = absurd (omega (arith, k.1))
want_only (frame.Vertex v) k g = absurd (omega (arith, k.1))
want_only (frame.Have n) k g = absurd (omega (arith, k.1))
want_only (frame.Want needs) k g = (needs, refl, record { count = g.fits; each = g.in_range }, refl)
want_only frame.Done k g = absurd (omega (arith, k.1))
want_only (frame.Missing n) k g = absurd (omega (arith, k.1))

done_only : (f : Frame) → FrameOf 5 f → frame.Done ≡ f
done_only (frame.Hello instance) k = absurd (omega (arith, k.1))
done_only (frame.Vertex v) k = absurd (omega (arith, k.1))
done_only (frame.Have n) k = absurd (omega (arith, k.1))
done_only (frame.Want needs) k = absurd (omega (arith, k.1))
done_only frame.Done k = refl
done_only (frame.Missing n) k = absurd (omega (arith, k.1))

missing_only : (f : Frame) → FrameOf 6 f → IsFrame f → (n : Need) × (frame.Missing n ≡ f) × NeedInRange n × (need_bytes n ≡ frame_rest f)
missing_only (frame.Hello instance) k g = absurd (omega (arith, k.1))
missing_only (frame.Vertex v) k g = absurd (omega (arith, k.1))
missing_only (frame.Have n) k g = absurd (omega (arith, k.1))
missing_only (frame.Want needs) k g = absurd (omega (arith, k.1))
missing_only frame.Done k g = absurd (omega (arith, k.1))
missing_only (frame.Missing n) k g = (n, refl, g.in_range, refl)

frame_kind_within : (f : Frame) → (0 < frame_kind f) × (frame_kind f < 7)
frame_kind_within (frame.Hello instance) = (omega arith, omega arith)
frame_kind_within (frame.Vertex v) = (omega arith, omega arith)
frame_kind_within (frame.Have n) = (omega arith, omega arith)
frame_kind_within (frame.Want needs) = (omega arith, omega arith)
frame_kind_within frame.Done = (omega arith, omega arith)
frame_kind_within (frame.Missing n) = (omega arith, omega arith)

frame_rest_reading : (place kind : ℕ) → IsReading (frame_behind place kind) (FrameOf kind) frame_rest IsFrame
frame_rest_reading place zero = nothing (error.BadTag place) (FrameOf 0) frame_rest IsFrame (λ f k. omega (arith, k.1, (frame_kind_within f).0))
frame_rest_reading place (suc zero) = inside frame.Hello (FrameOf 1) frame_rest IsFrame digest_reading (λ d g. (refl, (tt, refl), record { fits = tt; in_range = g })) hello_only
frame_rest_reading place (suc (suc zero)) = inside frame.Vertex (FrameOf 2) frame_rest IsFrame vertex_reading (λ v g. (refl, (tt, refl), record { fits = g.fits; in_range = g.in_range })) vertex_only
frame_rest_reading place (suc (suc (suc zero))) = inside frame.Have (FrameOf 3) frame_rest IsFrame u64_reading (λ n g. (refl, (tt, refl), record { fits = tt; in_range = g })) have_only
frame_rest_reading place (suc (suc (suc (suc zero)))) = inside frame.Want (FrameOf 4) frame_rest IsFrame (counted_reading 256 (omega arith) need_reading) (λ needs g. (refl, (tt, refl), record { fits = g.count; in_range = g.each })) want_only
frame_rest_reading place (suc (suc (suc (suc (suc zero))))) = constant frame.Done (FrameOf 5) frame_rest IsFrame (tt, refl) done_only refl (record { fits = tt; in_range = tt })
frame_rest_reading place (suc (suc (suc (suc (suc (suc zero)))))) = inside frame.Missing (FrameOf 6) frame_rest IsFrame need_reading (λ n g. (refl, (tt, refl), record { fits = tt; in_range = g })) missing_only
frame_rest_reading place (suc (suc (suc (suc (suc (suc (suc kind))))))) = nothing (error.BadTag place) (FrameOf (suc (suc (suc (suc (suc (suc (suc kind)))))))) frame_rest IsFrame (λ f k. omega (arith, k.1, (frame_kind_within f).1))

frame_spelled : (f : Frame) → byte_alone (frame_kind f) ++ frame_rest f ≡ frame_bytes f
frame_spelled (frame.Hello instance) = refl
frame_spelled (frame.Vertex v) = refl
frame_spelled (frame.Have n) = refl
frame_spelled (frame.Want needs) = refl
frame_spelled frame.Done = refl
frame_spelled (frame.Missing n) = refl

pub frame_reading : IsReading frame_at Any frame_bytes IsFrame
unfolding frame_at
frame_reading = said (seq {Known = Any} frame_kind byte_reading frame_rest_reading) (λ f k. k) (λ f k. k) (λ f k. frame_spelled f) (λ f k g. g.1) (λ f k g. (omega (arith, (frame_kind_within f).1), g))
