-- What was heard of a node that is met.
-- Source: ours.
use Rattle.std.specs.Prelude.{◌≡◌, ℕ, ◌+◌, ◌⊎◌, List, length, Option, Result, Ok, Err, MatchResult}
use Rattle.hw_io.specs.Doors.{Session}
use Rattle.hw_types.specs.declared.answers.CodecError.{CodecError}
use Rattle.hw_link.specs.declared.end.SessionEnd.{SessionEnd}
use Rattle.hw_link.specs.declared.end.SessionEnd.TheVariants.{BadFrame, OutOfMemory}
use Rattle.hw_link.specs.Heard.{SaysBy, IsEndCountedBy, HearsBy}
use Rattle.hw_meeting.specs.Frames.{meeting_of}
use Rattle.hw_meeting_node.specs.declared.read.HeardMeeting.{HeardMeeting}
use Rattle.hw_meeting_node.specs.Frames.{frame_here, HasFrame}

-- what these bytes say of a frame, where there are this many validators
abbrev pub Says : {T : Type 0} → ℕ → (ℕ → List ℕ → T → Type 0) → ℕ → List ℕ → Result T SessionEnd → Type 0
Says validators Whole place part result = SaysBy (frame_here validators) Whole place part result

-- how they count as the session's end
abbrev pub IsEndCounted : {T : Type 0} → ℕ → ℕ → ℕ → ℕ → List ℕ → Result T SessionEnd → Type 0
IsEndCounted validators before now place part result = IsEndCountedBy (frame_here validators) before now place part result

-- what a call heard of a frame
abbrev pub Hears : {T : Type 0} → ℕ → (ℕ → List ℕ → T → Type 0) → ℕ → List ℕ → Option (List Session) → Option (List Session) → ℕ → ℕ → Result T SessionEnd → Type 0
Hears validators Whole place before old new ends_old ends_new result = HearsBy (frame_here validators) Whole place before old new ends_old ends_new result

-- a frame, and the place after it
abbrev pub IsHeard : ℕ → ℕ → List ℕ → HeardMeeting → Type 0
IsHeard validators place part h = HasFrame validators place part h.frame × (h.next ≡ place + length part)

-- the bytes after a length are this frame, or none
abbrev pub IsDecoded : ℕ → ℕ → List ℕ → Result HeardMeeting SessionEnd → Type 0
IsDecoded validators place body result = MatchResult result (λ h. (meeting_of validators body ≡ Ok h.frame) × (h.next ≡ place + (4 + length body))) (λ e. (e ≡ OutOfMemory) ⊎ ((e ≡ BadFrame place) × (c : CodecError) × (meeting_of validators body ≡ Err c)))
