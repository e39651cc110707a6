-- Where a reader stands in a log.
use Rattle.std.specs.Prelude.{◌≡◌, ℕ, ◌+◌, ◌≤◌, ◌^◌, List, ◌++◌, length, Option, Some, None, Result, Ok, MatchResult}
use Rattle.hw_types.specs.declared.config.Config.{Config}
use Rattle.hw_log.specs.Lasts.{LastUnits, lasts_after}
use Rattle.hw_log.specs.declared.error.LogError.{LogError}
use Rattle.hw_log.specs.declared.entry.LogEntry.{LogEntry}
use Rattle.hw_log.specs.Log.{Left, rest_at, header_of, Entries, entries_of, log_of}
use Rattle.hw_io.specs.declared.outside.Files.{Ghosts as Files}
use Rattle.hw_io.specs.Reads.{OnlyReads}
use Rattle.hw_log.specs.Causes.{Gives, IsOutside, HasReadCause, IsReadAbout}

-- a call that reads of the log that was begun and changes nothing else: a failed read is counted, for this log
pub record ReadsLog {F T : Type 0} (tells : Files F) (old new : F) (result : Result T LogError) : Type 0 where
  pub cause : HasReadCause (tells.read_faults old) (tells.read_faults new) result
  pub about : IsReadAbout (tells.begun old) (tells.faults_about old) (tells.faults_about new) result
  pub rest : OnlyReads tells old new

-- what a reader knows: the log's configuration, the last units so far, the place of the next entry, and what was read of the file and not yet used
pub record Reading : Type 0 where
  pub config : Config
  pub lasts : LastUnits
  pub place : ℕ
  pub held : List ℕ

-- what is left of the log: what the reader holds, and then what is unread of the file
abbrev pub left_of : Reading → List ℕ → Left
left_of reader unread = record { rest = rest_at reader.place (reader.held ++ unread); lasts = reader.lasts }

-- the last units behind what came next
abbrev pub lasts_with : LastUnits → Option LogEntry → LastUnits
lasts_with lasts (Some e) = lasts_after lasts e.vertex
lasts_with lasts None = lasts

-- how many bytes may still come: those that the reader holds, and those that reads may still give
abbrev pub ahead_of : Reading → ℕ → ℕ
ahead_of reader allowance = length reader.held + allowance

-- how many bytes the file has at most, as far as the reader knows
abbrev pub end_of : Reading → ℕ → ℕ
end_of reader allowance = reader.place + ahead_of reader allowance

-- no place that the reader may come to is above 2^62
abbrev pub PlacesFit : Reading → ℕ → Type 0
PlacesFit reader allowance = end_of reader allowance ≤ 2 ^ 62

-- The answer is what the header of the file says, with the reader behind it. Where there is no file, a read fails.
abbrev pub Opens : Option (List ℕ) → List ℕ → Result Reading LogError → Type 0
Opens (Some bytes) unread result = Gives (λ (reader : Reading). (reader.config, left_of reader unread)) result (header_of bytes)
Opens None unread result = MatchResult result (λ _. ⊥) IsOutside

-- entries that were given before, and then these
abbrev pub behind_given : List LogEntry → Entries → Entries
behind_given given others = record { given = given ++ others.given; fault = others.fault }

-- The reader stands behind these entries in the log of these bytes: what the log says is its configuration, these entries, and
-- what is left says the others and how they end.
pub record StandsBehind (bytes : List ℕ) (given : List LogEntry) (reader : Reading) (unread : List ℕ) : Type 0 where
  pub says : log_of bytes ≡ Ok (reader.config, behind_given given (entries_of (left_of reader unread)))
