-- What was heard of a peer.
-- Source: ours.
use Rattle.std.specs.Prelude.{◌≡◌, ℕ, ◌+◌, ◌≤◌, ◌⊎◌, IsTrue, false, List, [], ◌++◌, length, Option, Result, Ok, Err, MatchResult}
use Rattle.std.specs.Int.{w32, from_be_bytes}
use Rattle.hw_io.specs.Doors.{Session}
use Rattle.hw_io.specs.Faults.{raised}
use Rattle.hw_types.specs.Limits.{is_within, most_bytes}
use Rattle.hw_types.specs.declared.answers.CodecError.{CodecError}
use Rattle.hw_types.specs.Reading.{Rest, frame_of}
use Rattle.hw_link.specs.declared.end.SessionEnd.{SessionEnd}
use Rattle.hw_link.specs.declared.end.SessionEnd.TheVariants.{EndOfInput, BadFrame, LinkFault, OutOfMemory}
use Rattle.hw_link.specs.declared.read.Heard.{Heard}
use Rattle.hw_link.specs.Frames.{PlacedOf, rest_at, byte_limit, cut_end, frame_here}
use Rattle.hw_link.specs.UnderWay.{HasFrame, EndsBy, IsRefusedBy}
use Rattle.hw_link.specs.Links.{after_part, is_link_fault}

-- ---- what the bytes at a place are

-- It is whole, or the session ends by these bytes. Where a call of the door failed they are cut.
abbrev pub SaysBy : {F T : Type 0} → (Rest → Result (PlacedOf F × Rest) SessionEnd) → (ℕ → List ℕ → T → Type 0) → ℕ → List ℕ → Result T SessionEnd → Type 0
SaysBy here Whole place part (Ok x) = Whole place part x
SaysBy here Whole place part (Err LinkFault) = EndsBy here place part (cut_end (rest_at place part))
SaysBy here Whole place part (Err OutOfMemory) = Unit {0}
SaysBy here Whole place part (Err e) = EndsBy here place part e

-- The number of ends rose where the peer's bytes ended. A bad frame that is none, whatever comes after it, needs no
-- end.
abbrev pub IsEndCountedBy : {F T : Type 0} → (Rest → Result (PlacedOf F × Rest) SessionEnd) → ℕ → ℕ → ℕ → List ℕ → Result T SessionEnd → Type 0
IsEndCountedBy here before now place part (Ok x) = now ≡ before
IsEndCountedBy here before now place part (Err EndOfInput) = now ≡ raised before
IsEndCountedBy here before now place part (Err (BadFrame at)) = (now ≡ raised before) ⊎ IsRefusedBy here place part (BadFrame at)
IsEndCountedBy here before now place part (Err e) = Unit {0}

-- A call read a part after these bytes, which were read before. It has what both say of a frame that is read in this
-- way, and what the call changed at the door.
pub record HearsBy {F T : Type 0} (here : Rest → Result (PlacedOf F × Rest) SessionEnd) (Whole : ℕ → List ℕ → T → Type 0) (place : ℕ) (before : List ℕ) (old new : Option (List Session)) (ends_old ends_new : ℕ) (result : Result T SessionEnd) : Type 0 where
  pub part : List ℕ
  pub within : place + length (before ++ part) ≤ byte_limit
  pub heard : new ≡ after_part part [] (is_link_fault result) old
  pub says : SaysBy here Whole place (before ++ part) result
  pub ended : IsEndCountedBy here ends_old ends_new place (before ++ part) result

-- what these bytes say of a frame of a session
abbrev pub Says : {T : Type 0} → (ℕ → List ℕ → T → Type 0) → ℕ → List ℕ → Result T SessionEnd → Type 0
Says Whole place part result = SaysBy frame_here Whole place part result

-- how they count as its end
abbrev pub IsEndCounted : {T : Type 0} → ℕ → ℕ → ℕ → List ℕ → Result T SessionEnd → Type 0
IsEndCounted before now place part result = IsEndCountedBy frame_here before now place part result

-- what a call heard of a frame of a session
abbrev pub Hears : {T : Type 0} → (ℕ → List ℕ → T → Type 0) → ℕ → List ℕ → Option (List Session) → Option (List Session) → ℕ → ℕ → Result T SessionEnd → Type 0
Hears Whole place before old new ends_old ends_new result = HearsBy frame_here Whole place before old new ends_old ends_new result

-- a frame, and the place after it
abbrev pub IsHeard : ℕ → List ℕ → Heard → Type 0
IsHeard place part h = HasFrame place part h.frame × (h.next ≡ place + length part)

-- ---- parts of a frame

-- four bytes that spell a length which a frame may have
pub record IsLength (front : List ℕ) : Type 0 where
  pub four : length front ≡ 4
  pub within : IsTrue (is_within 1 most_bytes (from_be_bytes w32 front))

-- these bytes are that length
abbrev pub IsFrontOf : ℕ → List ℕ → List ℕ → Type 0
IsFrontOf place part front = (part ≡ front) × IsLength front

-- a length which a frame may have, or the place of the frame that has none
abbrev pub IsFront : ℕ → List ℕ → Result (List ℕ) SessionEnd → Type 0
IsFront place front result = MatchResult result (λ x. (x ≡ front) × IsLength front) (λ e. (e ≡ BadFrame place) × (is_within 1 most_bytes (from_be_bytes w32 front) ≡ false))

-- these bytes are a length and the bytes after it
pub record IsBody (place : ℕ) (part body : List ℕ) : Type 0 where
  pub front : List ℕ
  pub split : part ≡ front ++ body
  pub is_length : IsLength front
  pub size : length body ≡ from_be_bytes w32 front

-- the bytes after a length are this frame, or none
abbrev pub IsDecoded : ℕ → List ℕ → Result Heard SessionEnd → Type 0
IsDecoded place body result = MatchResult result (λ h. (frame_of body ≡ Ok h.frame) × (h.next ≡ place + (4 + length body))) (λ e. (e ≡ OutOfMemory) ⊎ ((e ≡ BadFrame place) × (c : CodecError) × (frame_of body ≡ Err c)))
