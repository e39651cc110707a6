-- The frames in a peer's bytes.
-- Source: ours.
use Rattle.std.specs.Prelude.{ℕ, zero, suc, ◌+◌, nat_lt, nat_le, ◌==◌, List, [], ◌∷◌, ◌++◌, length, take, drop, Result, Ok, Err, if◌then◌else◌}
use Rattle.std.specs.List.{flat_map}
use Rattle.std.specs.Int.{w32, from_be_bytes}
use Rattle.hw_types.specs.declared.answers.CodecError.{CodecError}
use Rattle.hw_types.specs.declared.answers.Frame.{Frame}
use Rattle.hw_types.specs.Limits.{is_within, most_bytes}
use Rattle.hw_types.specs.Spelling.{u32_bytes, frame_bytes}
use Rattle.hw_types.specs.Reading.{Rest, frame_of}
use Rattle.hw_link.specs.declared.end.SessionEnd.{SessionEnd}
use Rattle.hw_link.specs.declared.end.SessionEnd.TheVariants.{EndOfInput, BadFrame, ByteLimit}

-- ---- what is sent

-- the bytes, with their length before them
abbrev pub behind_length : List ℕ → List ℕ
behind_length bytes = u32_bytes (length bytes) ++ bytes

-- a frame, with its length before it
abbrev pub framed : Frame → List ℕ
framed f = behind_length (frame_bytes f)

-- frames, one after the other
abbrev pub sent_bytes : List Frame → List ℕ
sent_bytes frames = flat_map framed frames

-- ---- what is read

-- go on with what was read, or end
infixl 10 ◌>>=◌
abbrev pub ◌>>=◌ : {A B : Type 0} → Result A SessionEnd → (A → Result B SessionEnd) → Result B SessionEnd
(Ok x) >>= f = f x
(Err e) >>= f = Err e

-- a frame of some kind, with the place of its first byte in the session
pub record PlacedOf (F : Type 0) : Type 0 where
  pub at : ℕ
  pub frame : F

-- a frame, with that place
abbrev pub Placed : Type 0
Placed = PlacedOf Frame

-- at most this many bytes are read of a peer in one session
abbrev pub byte_limit : ℕ
byte_limit = 268435456

-- How a session ends whose bytes end before this frame or inside it: by the limit, at a frame's end, or inside a frame.
abbrev pub cut_end : Rest → SessionEnd
cut_end r =
    if nat_le byte_limit (r.place + length r.bytes) then ByteLimit
    else if length r.bytes == 0 then EndOfInput
    else BadFrame r.place

-- these bytes, from a place of the session on
abbrev pub rest_at : ℕ → List ℕ → Rest
rest_at place bytes = record { place = place; bytes = bytes }

-- the next n bytes of the frame that begins here
abbrev pub front_of : ℕ → Rest → Result (List ℕ) SessionEnd
front_of n r = if nat_lt (length r.bytes) n then Err (cut_end r) else Ok (take n r.bytes)

-- the length of the frame, from its first four bytes
abbrev pub length_of : Rest → List ℕ → Result ℕ SessionEnd
length_of r front = let n = from_be_bytes w32 front in if is_within 1 most_bytes n then Ok n else Err (BadFrame r.place)

-- the frame of these bytes, or the end where they spell none
abbrev pub decoded : {F : Type 0} → Rest → Result F CodecError → Result F SessionEnd
decoded r (Ok f) = Ok f
decoded r (Err e) = Err (BadFrame r.place)

-- The frame that begins here, and what is left after it, or how the session ends. The bytes after the frame's length
-- spell it in this way.
unfoldable pub frame_by : {F : Type 0} → (List ℕ → Result F CodecError) → Rest → Result (PlacedOf F × Rest) SessionEnd
frame_by spelled r = do
  front ← front_of 4 r
  n ← length_of r front
  whole ← front_of (4 + n) r
  frame ← decoded r (spelled (drop 4 whole))
  Ok (record { at = r.place; frame = frame }, record { place = r.place + (4 + n); bytes = drop (4 + n) r.bytes })

-- the frame of a session that begins here
unfoldable pub frame_here : Rest → Result (Placed × Rest) SessionEnd
unfolding frame_by
frame_here r = frame_by frame_of r

-- the bytes after the length of the frame that begins here, whatever they spell
abbrev pub body_here : Rest → Result (PlacedOf (List ℕ) × Rest) SessionEnd
body_here r = frame_by Ok r

-- frames of some kind, and how the session ends after them
pub record FramesOf (F : Type 0) : Type 0 where
  pub given : List (PlacedOf F)
  pub end : SessionEnd

-- frames, and that end
abbrev pub Frames : Type 0
Frames = FramesOf Frame

-- a frame before the others, or the end
abbrev pub with_next : {F : Type 0} → Result (PlacedOf F × Rest) SessionEnd → (Rest → FramesOf F) → FramesOf F
with_next (Ok (f, r)) others = record { given = f ∷ (others r).given; end = (others r).end }
with_next (Err e) others = record { given = []; end = e }

-- the frames from here on, each read in this way, in at most this many steps
unfoldable pub frames_by : {F : Type 0} → (Rest → Result (PlacedOf F × Rest) SessionEnd) → ℕ → Rest → FramesOf F
frames_by here zero r = record { given = []; end = cut_end r }
frames_by here (suc steps) r = with_next (here r) (frames_by here steps)

-- the frames from here on, in at most this many steps
unfoldable pub frames_in : ℕ → Rest → Frames
unfolding frames_by
frames_in steps r = frames_by frame_here steps r

-- as many steps as there are bytes are enough, since each frame takes five bytes and more
abbrev pub frames_from : Rest → Frames
frames_from r = frames_in (length r.bytes) r

-- the frames in a peer's bytes, of which no more than the limit are read
abbrev pub frames_of : List ℕ → Frames
frames_of bytes = frames_from (record { place = 0; bytes = take byte_limit bytes })
