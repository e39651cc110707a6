-- What is found when the whole entries of a log are counted.
-- Source: ours.
use Rattle.std.specs.Prelude.{◌≡◌, ℕ, Bool, true, false, List, length, Option, Some, None, Result, Ok, Err, MatchResult}
use Rattle.hw_log.specs.declared.entry.LogEntry.{LogEntry}
use Rattle.hw_log.specs.declared.error.LogError.{LogError}
use Rattle.hw_log.specs.Log.{Left, next_at, log_of}
use Rattle.hw_log.specs.Causes.{Fails, Gives, IsOutside}
use Rattle.hw_log.specs.Reader.{Reading, StandsBehind}
use Rattle.hw_log.specs.declared.rewritten.WholeEntries.{WholeEntries}
use Rattle.hw_log.specs.Rewritten.{whole_entries}

-- The answer is what the file's bytes say. Where there is no file, a read fails.
abbrev pub Measures : Option (List ℕ) → Result WholeEntries LogError → Type 0
Measures (Some bytes) result = Gives (λ (whole : WholeEntries). whole) result (whole_entries (log_of bytes))
Measures None result = MatchResult result (λ _. ⊥) IsOutside

-- whether there was one entry more, or why not
abbrev pub Skips : Left → Left → Result Bool LogError → Type 0
Skips before behind (Ok true) = (e : LogEntry) × (next_at before ≡ Ok (Some e, behind))
Skips before behind (Ok false) = next_at before ≡ Ok (None, behind)
Skips before behind (Err e) = Fails e (next_at before)

-- the reader stands behind so many entries in the log of these bytes
pub record StandsBehindSome (bytes : List ℕ) (count : ℕ) (reader : Reading) (unread : List ℕ) : Type 0 where
  pub given : List LogEntry
  pub count_is : count ≡ length given
  pub stands : StandsBehind bytes given reader unread
