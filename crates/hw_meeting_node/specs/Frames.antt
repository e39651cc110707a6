-- The frame of a node that is met, in a peer's bytes, where there are this many validators.
-- Source: ours.
use Rattle.std.specs.Prelude.{ℕ, List, Result}
use Rattle.std.specs.List.{flat_map}
use Rattle.hw_types.specs.Reading.{Rest}
use Rattle.hw_link.specs.declared.end.SessionEnd.{SessionEnd}
use Rattle.hw_link.specs.Frames.{behind_length, PlacedOf, frame_by}
use Rattle.hw_link.specs.UnderWay.{HasBy, EndsBy, IsRefusedBy}
use Rattle.hw_meeting.specs.declared.frame.MeetingFrame.{MeetingFrame}
use Rattle.hw_meeting.specs.Frames.{meeting_bytes, meeting_of}

-- ---- what is sent

-- a frame, with its length before it
abbrev pub framed : MeetingFrame → List ℕ
framed f = behind_length (meeting_bytes f)

-- frames, one after the other
abbrev pub sent_bytes : List MeetingFrame → List ℕ
sent_bytes frames = flat_map framed frames

-- ---- what is read

-- a frame, with the place of its first byte in the session
abbrev pub Placed : Type 0
Placed = PlacedOf MeetingFrame

-- the frame that begins here, and what is left after it, or how the session ends
abbrev pub frame_here : ℕ → Rest → Result (Placed × Rest) SessionEnd
frame_here validators r = frame_by (meeting_of validators) r

-- these bytes are a frame at this place, whatever comes after them
abbrev pub HasFrame : ℕ → ℕ → List ℕ → MeetingFrame → Type 0
HasFrame validators place part f = HasBy (frame_here validators) place part f

-- there is no frame in these bytes, and the session ends so
abbrev pub EndsIn : ℕ → ℕ → List ℕ → SessionEnd → Type 0
EndsIn validators place part e = EndsBy (frame_here validators) place part e

-- whatever comes after these bytes, there is no frame in them, and the session ends so
abbrev pub IsRefused : ℕ → ℕ → List ℕ → SessionEnd → Type 0
IsRefused validators place part e = IsRefusedBy (frame_here validators) place part e
