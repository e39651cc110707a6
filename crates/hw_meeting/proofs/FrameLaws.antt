-- Frames: what is read is spelled so, and what is spelled so is read.
use Rattle.std.proofs.Common.{◌≡◌, ℕ, zero, suc, ◌^◌, ◌<◌, cond, List, [], ◌∷◌, length, Result, Ok, Err, refl, ap, subst, ◌∙◌, arith, eqb-true}
use Rattle.std.specs.Prelude.{◌==◌}
use Rattle.std.specs.List.{All}
use Rattle.std.proofs.lemmas.List.{nil_from_length}
use Rattle.std.proofs.lemmas.List.Elements.{All-tail, All-weaker}
use Rattle.hw_types.specs.declared.answers.CodecError.{CodecError}
use Rattle.hw_types.specs.declared.answers.CodecError.TheVariants as error
use Rattle.hw_types.specs.Reading.{◌>>=◌, Fails, vertex_of, whole, digest_at}
use Rattle.hw_agree.specs.declared.summary.LaneSummary.{LaneSummary}
use Rattle.hw_codec.specs.Ranges.{AreBytes}
use Rattle.hw_codec.proofs.Readings.{bind_ok, ok_is, done, test_ok}
use Rattle.hw_codec.proofs.Fields.{digest_reading}
use Rattle.hw_codec.proofs.Spelled.{whole_takes, whole_again, vertex_read_spells, vertex_read_in_range, vertex_spelled_reads}
use Rattle.hw_meeting.specs.declared.frame.MeetingFrame.{MeetingFrame}
use Rattle.hw_meeting.specs.declared.frame.MeetingFrame.TheVariants.{Hello, Vertex, Summary, Torn, Done}
use Rattle.hw_meeting.specs.declared.frame.FrameError.TheVariants as fault
use Rattle.hw_meeting.specs.Frames.{meeting_bytes, HasUnits, PartInRange, IsSaid, SpellsMeeting, MeetingInRange, summary_at, torn_at, meeting_behind, meeting_of, fault_of}
use Rattle.hw_meeting.proofs.PartLaws.{IsPart, summary_reading, torn_reading, few_validators}

-- a frame that may be said, whose values are those of their types
pub record IsMeeting (n : ℕ) (f : MeetingFrame) : Type 0 where
  pub said : IsSaid n f
  pub in_range : MeetingInRange f

made : {A : Type 0} (n : ℕ) (body : List ℕ) (kind : ℕ) (Made : A → MeetingFrame) (x : A) (f : MeetingFrame) → done (Made x) ≡ done f
    → (kind ∷ body ≡ meeting_bytes (Made x)) × IsMeeting n (Made x) → (kind ∷ body ≡ meeting_bytes f) × IsMeeting n f
made n body kind Made x f e h = subst (λ (g : MeetingFrame). (kind ∷ body ≡ meeting_bytes g) × IsMeeting n g) (ok_is (Made x) f e) h

parts_said : (ps : List LaneSummary) → All IsPart ps → All HasUnits ps × All PartInRange ps
parts_said ps h = (All-weaker IsPart HasUnits (λ p g. g.units) ps h, All-weaker IsPart PartInRange (λ p g. g.in_range) ps h)

nothing_behind : (n : ℕ) (body : List ℕ) (f : MeetingFrame) → cond (length body == 0) (Ok Done) (Err (error.Trailing 0)) ≡ Ok f → (5 ∷ body ≡ meeting_bytes f) × IsMeeting n f
nothing_behind n body f e =
    let t = test_ok (length body == 0) (error.Trailing 0) Done f e in
    let none : body ≡ [] = nil_from_length body (eqb-true (length body) 0 t.0) in
    subst (λ (g : MeetingFrame). (5 ∷ body ≡ meeting_bytes g) × IsMeeting n g) t.1 (ap (λ (b : List ℕ). 5 ∷ b) none, record { said = tt; in_range = tt })

behind_takes : (n : ℕ) → n < 2 ^ 32 → (kind : ℕ) (body : List ℕ) (f : MeetingFrame) → AreBytes body → meeting_behind n kind body ≡ Ok f → (kind ∷ body ≡ meeting_bytes f) × IsMeeting n f
behind_takes n lt zero body f fits e = absurd cc
behind_takes n lt (suc zero) body f fits e =
    let m = bind_ok (whole digest_at body) (λ d. Ok (Hello d)) f e in
    let t = whole_takes digest_reading body m.0 fits m.1 in
    made n body 1 Hello m.0 f m.2 (ap (λ (b : List ℕ). 1 ∷ b) t.0, record { said = tt; in_range = t.1 })
behind_takes n lt (suc (suc zero)) body f fits e =
    let m = bind_ok (vertex_of body) (λ v. Ok (Vertex v)) f e in
    let spells = vertex_read_spells body m.0 fits m.1 in
    made n body 2 Vertex m.0 f m.2 (ap (λ (b : List ℕ). 2 ∷ b) spells.is, record { said = spells.limits; in_range = vertex_read_in_range body m.0 fits m.1 })
behind_takes n lt (suc (suc (suc zero))) body f fits e =
    let m = bind_ok (whole (summary_at n) body) (λ ps. Ok (Summary ps)) f e in
    let t = whole_takes (summary_reading n lt) body m.0 fits m.1 in
    let parts = parts_said m.0 t.1.0.each in
    made n body 3 Summary m.0 f m.2 (ap (λ (b : List ℕ). 3 ∷ b) t.0, record { said = (t.1.1, parts.0); in_range = parts.1 })
behind_takes n lt (suc (suc (suc (suc zero)))) body f fits e =
    let m = bind_ok (whole (torn_at n) body) (λ vs. Ok (Torn vs)) f e in
    let t = whole_takes (torn_reading n lt) body m.0 fits m.1 in
    made n body 4 Torn m.0 f m.2 (ap (λ (b : List ℕ). 4 ∷ b) t.0, record { said = t.1.1; in_range = t.1.0.each })
behind_takes n lt (suc (suc (suc (suc (suc zero))))) body f fits e = nothing_behind n body f e
behind_takes n lt (suc (suc (suc (suc (suc (suc kind)))))) body f fits e = absurd cc

-- what is read is spelled so
pub meeting_takes : (n : ℕ) → n < 2 ^ 32 → (bytes : List ℕ) (f : MeetingFrame) → AreBytes bytes → meeting_of n bytes ≡ Ok f → SpellsMeeting n bytes f
unfolding meeting_of
meeting_takes n lt [] f fits e = absurd cc
meeting_takes n lt (kind ∷ body) f fits e =
    let t = behind_takes n lt kind body f (All-tail (λ (b : ℕ). b < 2 ^ 8) kind body fits) e in
    record { limits = t.1.said; is = t.0 }

each_part : (ps : List LaneSummary) → All HasUnits ps → All PartInRange ps → All IsPart ps
each_part ps units in_range k d lt = record { units = units k d lt; in_range = in_range k d lt }

-- what is spelled so is read
pub meeting_again : (n : ℕ) → n < 2 ^ 32 → (f : MeetingFrame) → IsSaid n f → MeetingInRange f → meeting_of n (meeting_bytes f) ≡ Ok f
unfolding meeting_of
meeting_again n lt (Hello d) said in_range = ap (λ r. r >>= λ x. Ok (Hello x)) (whole_again digest_reading d in_range)
meeting_again n lt (Vertex v) said in_range = ap (λ r. r >>= λ x. Ok (Vertex x)) (vertex_spelled_reads _ v in_range (record { limits = said; is = refl }))
meeting_again n lt (Summary ps) said in_range =
    ap (λ r. r >>= λ x. Ok (Summary x)) (whole_again (summary_reading n lt) ps (record { count = omega (arith, said.0); each = each_part ps said.1 in_range }, said.0))
meeting_again n lt (Torn vs) said in_range =
    ap (λ r. r >>= λ x. Ok (Torn x)) (whole_again (torn_reading n lt) vs (record { count = few_validators n vs said; each = in_range }, said))
meeting_again n lt Done said in_range = refl

-- ---- what a decoder answers

pub found : (n : ℕ) → n < 2 ^ 32 → (body : List ℕ) (f : MeetingFrame) → SpellsMeeting n body f → MeetingInRange f → meeting_of n body ≡ Ok f
found n lt body f spells in_range = ap (meeting_of n) spells.is ∙ meeting_again n lt f spells.limits in_range

-- an error where there is a frame is want of memory
pub wants : (e : CodecError) (read : Result MeetingFrame CodecError) (f : MeetingFrame) → Fails e read → read ≡ Ok f → fault_of e ≡ fault.OutOfMemory
wants error.OutOfMemory read f h is = refl
wants (error.Truncated at) read f h is = absurd cc
wants (error.Trailing at) read f h is = absurd cc
wants (error.BadTag at) read f h is = absurd cc
wants (error.TooLong at) read f h is = absurd cc
wants (error.OutOfRange at) read f h is = absurd cc

-- another error is of the form
pub misses : (e : CodecError) (read : Result MeetingFrame CodecError) → Fails e read → fault_of e ≡ fault.Form → (c : CodecError) × (read ≡ Err c)
misses error.OutOfMemory read h is = absurd cc
misses (error.Truncated at) read h is = (error.Truncated at, h)
misses (error.Trailing at) read h is = (error.Trailing at, h)
misses (error.BadTag at) read h is = (error.BadTag at, h)
misses (error.TooLong at) read h is = (error.TooLong at, h)
misses (error.OutOfRange at) read h is = (error.OutOfRange at, h)
