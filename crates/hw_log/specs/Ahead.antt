-- Digests of parts of bytes, worked out before these bytes are used.
use Rattle.std.specs.Prelude.{◌≡◌, ℕ, ◌<◌, ◌^◌, List, drop, length, map, All}
use Rattle.std.specs.Io.{StartsWith}
use Rattle.sha2.specs.Sha256.{sha256}
use Rattle.hw_lanes.specs.declared.pieces.Part.{Part}
use Rattle.hw_lanes.specs.Pieces.{IsWithin, part_of}

-- The digests are those of these parts of bytes that were held before. So many of these bytes were used since then, and the
-- others are held.
pub record AreAhead (held : List ℕ) (used : ℕ) (parts : List Part) (digests : List (List ℕ)) : Type 0 where
  pub before : List ℕ
  pub few : length before < 2 ^ 64
  pub within : All (IsWithin (length before)) parts
  pub digests_are : digests ≡ map (λ (part : Part). sha256 (part_of before part)) parts
  pub kept : StartsWith held (drop used before)
