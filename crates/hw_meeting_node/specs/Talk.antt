-- A session of frames of meetings: a node reacts frame by frame.
-- Source: ours.
use Rattle.std.specs.Prelude.{◌≡◌, ℕ, ◌≤◌, List, [], ◌∷◌, ◌++◌, length, take, Option, Some, None}
use Rattle.hw_types.specs.Reading.{Rest}
use Rattle.hw_link.specs.declared.end.SessionEnd.{SessionEnd}
use Rattle.hw_link.specs.Frames.{rest_at, byte_limit, FramesOf, frames_by}
use Rattle.hw_meeting.specs.declared.frame.MeetingFrame.{MeetingFrame}
use Rattle.hw_meeting_node.specs.Frames.{Placed, frame_here}

-- ---- the frames in a peer's bytes, where there are this many validators

-- frames, and how the session ends after them
abbrev pub Frames : Type 0
Frames = FramesOf MeetingFrame

-- the frames from here on, in at most this many steps
abbrev pub frames_in : ℕ → ℕ → Rest → Frames
frames_in validators steps r = frames_by (frame_here validators) steps r

-- as many steps as there are bytes are enough, since each frame takes five bytes and more
abbrev pub frames_from : ℕ → Rest → Frames
frames_from validators r = frames_in validators (length r.bytes) r

-- the frames in a peer's bytes, of which no more than the limit are read
abbrev pub frames_of : ℕ → List ℕ → Frames
frames_of validators bytes = frames_from validators (rest_at 0 (take byte_limit bytes))

-- ---- a talk

-- what a node does at a frame: its state after it, what it says, and how the session ends, if it does
pub record Reaction (S : Type 0) : Type 0 where
  pub state : S
  pub says : List MeetingFrame
  pub end : Option SessionEnd

-- it says this and reads on
abbrev pub goes_on : {S : Type 0} → S → List MeetingFrame → Reaction S
goes_on state says = record { state = state; says = says; end = None }

-- it says this, and the session ends
abbrev pub ends : {S : Type 0} → S → List MeetingFrame → SessionEnd → Reaction S
ends state says end = record { state = state; says = says; end = Some end }

-- what came of a session: the node's state, what it said, and how it ended
pub record Talk (S : Type 0) : Type 0 where
  pub state : S
  pub said : List MeetingFrame
  pub end : SessionEnd

-- a talk that begins with this reaction, and goes on by the other unless the reaction ends it
abbrev pub with_reaction : {S : Type 0} → Reaction S → (S → Talk S) → Talk S
with_reaction first others = elim first.end [
  | Some e ↦ record { state = first.state; said = first.says; end = e }
  | None ↦ record { state = (others first.state).state; said = first.says ++ (others first.state).said; end = (others first.state).end }
]

-- frame by frame, up to the end that a frame brings or the one after all frames
unfoldable pub talk : {S : Type 0} → (S → Placed → Reaction S) → SessionEnd → S → List Placed → Talk S
talk step end state [] = record { state = state; said = []; end = end }
talk step end state (f ∷ fs) = with_reaction (step state f) (λ next. talk step end next fs)

-- the talk over these frames
abbrev pub talk_with : {S : Type 0} → (S → Placed → Reaction S) → S → Frames → Talk S
talk_with step state frames = talk step frames.end state frames.given

-- a talk after what was said before it
abbrev pub behind_said : {S : Type 0} → List MeetingFrame → Talk S → Talk S
behind_said said t = record t { said = said ++ t.said }

-- ---- how far a talk is

-- the talk from here on
abbrev pub talk_from : {S : Type 0} → ℕ → (S → Placed → Reaction S) → S → Rest → Talk S
talk_from validators step state r = talk_with step state (frames_from validators r)

-- the whole talk of a node that has said this before it reads
abbrev pub talk_over : {S : Type 0} → ℕ → List MeetingFrame → (S → Placed → Reaction S) → S → List ℕ → Talk S
talk_over validators first step state bytes = behind_said first (talk_with step state (frames_of validators bytes))

-- Whatever comes after the bytes that were read of the peer, the node has said this by then, and is in this state.
abbrev pub HasHeard : {S : Type 0} → ℕ → List MeetingFrame → (S → Placed → Reaction S) → S → List ℕ → List MeetingFrame → S → Type 0
HasHeard validators first step start read said state =
    (more : List ℕ) → length (read ++ more) ≤ byte_limit → talk_over validators first step start (read ++ more) ≡ behind_said said (talk_from validators step state (rest_at (length read) more))

-- the frame that was read after these bytes
abbrev pub placed_behind : List ℕ → MeetingFrame → Placed
placed_behind read f = record { at = length read; frame = f }
