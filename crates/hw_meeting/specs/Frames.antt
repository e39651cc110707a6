-- Frames of nodes that meet, as bytes.
-- Source: ours.
use Rattle.std.specs.Prelude.{◌≡◌, ℕ, zero, suc, ◌+◌, ◌<◌, ◌^◌, Bool, true, ◌&&◌, nat_lt, nat_le, ◌==◌, List, [], ◌∷◌, ◌++◌, length, Result, Ok, Err, if◌then◌else◌}
use Rattle.std.specs.List.{All, list_all}
use Rattle.std.specs.Int.{w8, w32, w64}
use Rattle.hw_types.specs.declared.answers.CodecError.{CodecError}
use Rattle.hw_types.specs.declared.answers.CodecError.TheVariants as error
use Rattle.hw_types.specs.Spelling.{u32_bytes, u64_bytes, counted, vertex_bytes, VertexFits, IsSpelling}
use Rattle.hw_types.specs.Reading.{Rest, Read, ◌>>=◌, number_at, digest_at, counted_at, vertex_of, whole}
use Rattle.hw_codec.specs.Ranges.{DigestInRange, VertexInRange}
use Rattle.hw_agree.specs.declared.summary.LaneSummary.{LaneSummary}
use Rattle.hw_agree.specs.declared.summary.LaneSummary.TheVariants.{Nothing, Line, Tangled}
use Rattle.hw_meeting.specs.declared.frame.MeetingFrame.{MeetingFrame}
use Rattle.hw_meeting.specs.declared.frame.MeetingFrame.TheVariants.{Hello, Vertex, Summary, Torn, Done}
use Rattle.hw_meeting.specs.declared.frame.FrameError.{FrameError}
use Rattle.hw_meeting.specs.declared.frame.FrameError.TheVariants.{Form, OutOfMemory}

-- ---- spelled

-- a tag, and the count and the tip of a line
abbrev pub part_bytes : LaneSummary → List ℕ
part_bytes Nothing = 0 ∷ []
part_bytes (Line count tip) = 1 ∷ (u64_bytes count ++ tip.0)
part_bytes Tangled = 2 ∷ []

-- a frame without its length
abbrev pub meeting_bytes : MeetingFrame → List ℕ
meeting_bytes (Hello instance) = 1 ∷ instance.0
meeting_bytes (Vertex v) = 2 ∷ vertex_bytes v
meeting_bytes (Summary parts) = 3 ∷ counted part_bytes parts
meeting_bytes (Torn numbers) = 4 ∷ counted u32_bytes numbers
meeting_bytes Done = 5 ∷ []

-- ---- which frames there are where there are this many validators

-- a line has at least one unit
abbrev pub HasUnits : LaneSummary → Type 0
HasUnits Nothing = Unit {0}
HasUnits (Line count tip) = 0 < count
HasUnits Tangled = Unit {0}

-- the first number is no less than this one, and each is above the one before it
unfoldable pub rise_from : ℕ → List ℕ → Bool
rise_from least [] = true
rise_from least (n ∷ ns) = nat_le least n && rise_from (n + 1) ns

-- validators in rising order
abbrev pub are_validators : ℕ → List ℕ → Bool
are_validators validators numbers = rise_from 0 numbers && list_all (λ v. nat_lt v validators) numbers

-- a summary has a part for each validator, and torn are validators in rising order
abbrev pub IsSaid : ℕ → MeetingFrame → Type 0
IsSaid validators (Hello instance) = Unit {0}
IsSaid validators (Vertex v) = VertexFits v
IsSaid validators (Summary parts) = (length parts ≡ validators) × All HasUnits parts
IsSaid validators (Torn numbers) = are_validators validators numbers ≡ true
IsSaid validators Done = Unit {0}

-- the bytes spell the frame, where there are this many validators
abbrev pub SpellsMeeting : ℕ → List ℕ → MeetingFrame → Type 0
SpellsMeeting validators = IsSpelling (IsSaid validators) meeting_bytes

-- ---- what the values of the types have

-- a count below 2^64, and a digest of 32 bytes
abbrev pub PartInRange : LaneSummary → Type 0
PartInRange Nothing = Unit {0}
PartInRange (Line count tip) = (count < 2 ^ 64) × DigestInRange tip
PartInRange Tangled = Unit {0}

-- the same of what a frame holds
abbrev pub MeetingInRange : MeetingFrame → Type 0
MeetingInRange (Hello instance) = DigestInRange instance
MeetingInRange (Vertex v) = VertexInRange v
MeetingInRange (Summary parts) = All PartInRange parts
MeetingInRange (Torn numbers) = All (λ v. v < 2 ^ 32) numbers
MeetingInRange Done = Unit {0}

-- ---- read

-- how many units a line has, at least one
abbrev pub unit_count_at : Rest → Read ℕ
unit_count_at r = number_at w64 r >>= λ n. if n.0 == 0 then Err (error.OutOfRange r.place) else Ok n

-- what comes after the tag of a part
abbrev pub part_behind : ℕ → ℕ → Rest → Read LaneSummary
part_behind place zero r = Ok (Nothing, r)
part_behind place (suc zero) r = do
  count ← unit_count_at r
  tip ← digest_at count.1
  Ok (Line count.0 tip.0, tip.1)
part_behind place (suc (suc zero)) r = Ok (Tangled, r)
part_behind place (suc (suc (suc tag))) r = Err (error.BadTag place)

-- what a summary says of a validator
unfoldable pub part_at : Rest → Read LaneSummary
part_at r = number_at w8 r >>= λ tag. part_behind r.place tag.0 tag.1

-- what a summary says of each validator
unfoldable pub summary_at : ℕ → Rest → Read (List LaneSummary)
summary_at validators r = counted_at part_at validators r >>= λ parts. if length parts.0 == validators then Ok parts else Err (error.OutOfRange r.place)

-- the numbers of validators, in rising order
unfoldable pub torn_at : ℕ → Rest → Read (List ℕ)
torn_at validators r = counted_at (number_at w32) validators r >>= λ numbers. if are_validators validators numbers.0 then Ok numbers else Err (error.OutOfRange r.place)

-- what comes after the kind of a frame
abbrev pub meeting_behind : ℕ → ℕ → List ℕ → Result MeetingFrame CodecError
meeting_behind validators (suc zero) body = whole digest_at body >>= λ d. Ok (Hello d)
meeting_behind validators (suc (suc zero)) body = vertex_of body >>= λ v. Ok (Vertex v)
meeting_behind validators (suc (suc (suc zero))) body = whole (summary_at validators) body >>= λ parts. Ok (Summary parts)
meeting_behind validators (suc (suc (suc (suc zero)))) body = whole (torn_at validators) body >>= λ numbers. Ok (Torn numbers)
meeting_behind validators (suc (suc (suc (suc (suc zero))))) body = if length body == 0 then Ok Done else Err (error.Trailing 0)
meeting_behind validators zero body = Err (error.BadTag 0)
meeting_behind validators (suc (suc (suc (suc (suc (suc kind)))))) body = Err (error.BadTag 0)

-- the frame that all of the bytes are, or that they are none
unfoldable pub meeting_of : ℕ → List ℕ → Result MeetingFrame CodecError
meeting_of validators [] = Err (error.Truncated 0)
meeting_of validators (kind ∷ body) = meeting_behind validators kind body

-- why bytes are no frame: their form, or out of memory
abbrev pub fault_of : CodecError → FrameError
fault_of error.OutOfMemory = OutOfMemory
fault_of (error.Truncated at) = Form
fault_of (error.Trailing at) = Form
fault_of (error.BadTag at) = Form
fault_of (error.TooLong at) = Form
fault_of (error.OutOfRange at) = Form
