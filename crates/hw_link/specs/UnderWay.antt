-- How far a talk is whose peer is read frame by frame.
-- Source: ours.
use Rattle.std.specs.Prelude.{◌≡◌, ℕ, ◌+◌, ◌≤◌, List, [], ◌∷◌, ◌++◌, length, Some, None, Result, Ok, Err}
use Rattle.hw_types.specs.Reading.{Rest}
use Rattle.hw_types.specs.declared.answers.Frame.{Frame}
use Rattle.hw_link.specs.declared.end.SessionEnd.{SessionEnd}
use Rattle.hw_link.specs.Frames.{PlacedOf, Placed, rest_at, frame_here, frames_from, frames_of, byte_limit}
use Rattle.hw_link.specs.Talk.{Reaction, Talk, talk, talk_over}

-- ---- one frame

-- these bytes are a frame at this place, of the kind that is read in this way, whatever comes after them
abbrev pub HasBy : {F : Type 0} → (Rest → Result (PlacedOf F × Rest) SessionEnd) → ℕ → List ℕ → F → Type 0
HasBy here place part f = (more : List ℕ) → here (rest_at place (part ++ more)) ≡ Ok (record { at = place; frame = f }, rest_at (place + length part) more)

-- there is no such frame in these bytes, and the session ends so
abbrev pub EndsBy : {F : Type 0} → (Rest → Result (PlacedOf F × Rest) SessionEnd) → ℕ → List ℕ → SessionEnd → Type 0
EndsBy here place part e = here (rest_at place part) ≡ Err e

-- whatever comes after these bytes, there is no such frame in them, and the session ends so
abbrev pub IsRefusedBy : {F : Type 0} → (Rest → Result (PlacedOf F × Rest) SessionEnd) → ℕ → List ℕ → SessionEnd → Type 0
IsRefusedBy here place part e = (more : List ℕ) → here (rest_at place (part ++ more)) ≡ Err e

-- these bytes are this frame of a session, whatever comes after them
abbrev pub HasFrame : ℕ → List ℕ → Frame → Type 0
HasFrame place part f = HasBy frame_here place part f

-- there is none in them, and the session ends so
abbrev pub EndsIn : ℕ → List ℕ → SessionEnd → Type 0
EndsIn place part e = EndsBy frame_here place part e

-- the same, whatever comes after them
abbrev pub IsRefused : ℕ → List ℕ → SessionEnd → Type 0
IsRefused place part e = IsRefusedBy frame_here place part e

-- ---- the talk so far

-- the talk from here on
abbrev pub talk_from : {S : Type 0} → (S → Placed → Reaction S) → S → Rest → Talk S
talk_from step state r = talk step (frames_from r).end state (frames_from r).given

-- a talk after what was said before it
abbrev pub behind_said : {S : Type 0} → List (List Frame) → Talk S → Talk S
behind_said said t = record t { said = said ++ t.said }

-- The whole talk is what was said so far, and then the talk from this state over what is left.
pub record UnderWay {S : Type 0} (step : S → Placed → Reaction S) (whole : Talk S) (said : List (List Frame)) (state : S) (r : Rest) : Type 0 where
  pub says : whole ≡ behind_said said (talk_from step state r)

-- the whole talk is what was said, and ends here
abbrev pub IsOver : {S : Type 0} → Talk S → List (List Frame) → S → SessionEnd → Type 0
IsOver whole said state e = whole ≡ record { state = state; said = said; end = e }

-- Whatever comes after the bytes that were read, the session has said this by then, and the node is in this state.
abbrev pub HasHeard : {S : Type 0} → List Frame → (S → Placed → Reaction S) → S → List ℕ → List (List Frame) → S → Type 0
HasHeard first step start read said state =
    (more : List ℕ) → length (read ++ more) ≤ byte_limit → UnderWay step (talk_over first step start (frames_of (read ++ more))) said state (rest_at (length read) more)

-- the frame that was read after these bytes
abbrev pub placed_behind : List ℕ → Frame → Placed
placed_behind read f = record { at = length read; frame = f }

-- ---- laws: what a node knows that reads frame by frame, however its reads are cut

-- Before anything was read it has said its first word.
abbrev pub TalkBegins : Type 0 → Type 0
TalkBegins S = (step : S → Placed → Reaction S) (first : List Frame) (start : S) → HasHeard first step start [] (first ∷ []) start

-- A frame that ends nothing leads on.
abbrev pub FrameLeadsOn : Type 0 → Type 0
FrameLeadsOn S = (step : S → Placed → Reaction S) (first : List Frame) (start : S) (read : List ℕ) (said : List (List Frame)) (state : S) (part : List ℕ) (f : Frame)
    → HasHeard first step start read said state → HasFrame (length read) part f → (step state (placed_behind read f)).end ≡ None
    → HasHeard first step start (read ++ part) (said ++ (step state (placed_behind read f)).says ∷ []) (step state (placed_behind read f)).state

-- A frame that brings an end is the last one, whatever comes after it.
abbrev pub FrameEnds : Type 0 → Type 0
FrameEnds S = (step : S → Placed → Reaction S) (first : List Frame) (start : S) (read : List ℕ) (said : List (List Frame)) (state : S) (part : List ℕ) (f : Frame) (e : SessionEnd)
    → HasHeard first step start read said state → HasFrame (length read) part f → (step state (placed_behind read f)).end ≡ Some e
    → (more : List ℕ) → length (read ++ (part ++ more)) ≤ byte_limit
    → IsOver (talk_over first step start (frames_of (read ++ (part ++ more)))) (said ++ (step state (placed_behind read f)).says ∷ []) (step state (placed_behind read f)).state e

-- Where there is no frame, the session ends by what is there.
abbrev pub NoFrameEnds : Type 0 → Type 0
NoFrameEnds S = (step : S → Placed → Reaction S) (first : List Frame) (start : S) (read : List ℕ) (said : List (List Frame)) (state : S) (part : List ℕ) (e : SessionEnd)
    → HasHeard first step start read said state → EndsIn (length read) part e → length (read ++ part) ≤ byte_limit
    → IsOver (talk_over first step start (frames_of (read ++ part))) said state e

-- ---- the same of one state

-- these laws, of a node that serves or one that drives
pub record ReadsFrameByFrame (S : Type 0) : Type 0 where
  pub begins : TalkBegins S
  pub leads_on : FrameLeadsOn S
  pub frame_ends : FrameEnds S
  pub no_frame_ends : NoFrameEnds S
