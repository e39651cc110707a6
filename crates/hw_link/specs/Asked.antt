-- The calls of `read` in a session, by what had been read and said when each was made.
-- Source: ours.
use Rattle.std.specs.Prelude.{◌≡◌, ℕ, ◌+◌, ◌<◌, ◌≤◌, false, List, [], ◌++◌, length, Option, Result}
use Rattle.hw_io.specs.Doors.{Session, Ask, IsAskedNow}
use Rattle.hw_types.specs.Reading.{Rest}
use Rattle.hw_link.specs.declared.end.SessionEnd.{SessionEnd}
use Rattle.hw_link.specs.Frames.{PlacedOf, rest_at, cut_end, byte_limit}
use Rattle.hw_link.specs.UnderWay.{EndsBy}
use Rattle.hw_link.specs.Links.{after_part}

-- when it was made, fewer than n bytes more had been read than by now, and nothing more was said
pub record IsAskedWithin (n : ℕ) (now : Option (List Session)) (ask : Ask) : Type 0 where
  pub part : List ℕ
  pub few : length part < n
  pub asked : IsAskedNow (after_part part [] false now) ask

-- When it was made, these bytes of a frame and a part after them had been read, in which no frame is yet. Nothing more
-- was said than by now.
pub record IsAskedInside {F : Type 0} (here : Rest → Result (PlacedOf F × Rest) SessionEnd) (place : ℕ) (before : List ℕ) (now : Option (List Session)) (ask : Ask) : Type 0 where
  pub part : List ℕ
  pub within : place + length (before ++ part) ≤ byte_limit
  pub cut : EndsBy here place (before ++ part) (cut_end (rest_at place (before ++ part)))
  pub asked : IsAskedNow (after_part part [] false now) ask

-- When it was made, all was written that is said to the bytes which had been read by then, and nothing else.
pub record IsAskedBehind (said : List ℕ → List ℕ) (old : Option (List Session)) (ask : Ask) : Type 0 where
  pub read : List ℕ
  pub asked : IsAskedNow (after_part read (said read) false old) ask

-- the same of a session that began with nothing
abbrev pub IsPrompt : (List ℕ → List ℕ) → Ask → Type 0
IsPrompt said ask = ask.said ≡ said ask.heard
