-- How long the door waits after calls that failed.
use Rattle.std.specs.Prelude.{ℕ, ◌*◌, min}

-- in milliseconds, after so many failures in a row: 100 for each, and 3,000 at most
abbrev pub pause_after : ℕ → ℕ
pause_after failures = min (failures * 100) 3000
