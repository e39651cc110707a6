-- A log written anew: without its torn end, or in version 2.
-- Source: ours.
use Rattle.std.specs.Prelude.{◌≡◌, ◌⊎◌, ℕ, List, length, take, Option, Some, None, Result, Ok, Err, MatchResult}
use Rattle.hw_types.specs.declared.config.Config.{Config}
use Rattle.hw_io.specs.Files.{bytes_of}
use Rattle.hw_log.specs.declared.error.LogError.{LogError}
use Rattle.hw_log.specs.declared.error.LogError.TheVariants.{Torn}
use Rattle.hw_log.specs.Log.{Entries, log_of, log_bytes}
use Rattle.hw_log.specs.Causes.{Gives, IsOutside}
use Rattle.hw_log.specs.declared.rewritten.WholeEntries.{WholeEntries}
use Rattle.hw_log.specs.declared.rewritten.Rewritten.{Rewritten}

-- ---- without the torn end

-- entries behind which nothing is wrong but a torn entry
abbrev pub without_tear : ℕ → Option LogError → Result WholeEntries LogError
without_tear count None = Ok (record { count = count; torn_at = None })
without_tear count (Some (Torn at)) = Ok (record { count = count; torn_at = Some at })
without_tear count (Some e) = Err e

-- the whole entries of what a log says
abbrev pub whole_entries : Result (Config × Entries) LogError → Result WholeEntries LogError
whole_entries (Err e) = Err e
whole_entries (Ok said) = without_tear (length said.1.given) said.1.fault

-- the bytes up to this place, if there is one
abbrev pub bytes_before : Option ℕ → List ℕ → List ℕ
bytes_before None bytes = bytes
bytes_before (Some at) bytes = take at bytes

-- the whole entries, with the bytes up to their end
abbrev pub with_bytes : List ℕ → Result WholeEntries LogError → Result Rewritten LogError
with_bytes bytes (Ok whole) = Ok (record { count = whole.count; bytes = bytes_before whole.torn_at bytes })
with_bytes bytes (Err e) = Err e

-- The header and the whole entries of a log, byte for byte, or the error that is no torn entry.
unfoldable pub mended_of : List ℕ → Result Rewritten LogError
mended_of bytes = with_bytes bytes (whole_entries (log_of bytes))

-- ---- in version 2

-- the same configuration and entries
abbrev pub in_version_2 : Config → Entries → Option LogError → Result Rewritten LogError
in_version_2 config said None = Ok (record { count = length said.given; bytes = log_bytes 2 config said.given })
in_version_2 config said (Some e) = Err e

-- what a log says
abbrev pub migrated_from : Result (Config × Entries) LogError → Result Rewritten LogError
migrated_from (Err e) = Err e
migrated_from (Ok said) = in_version_2 said.0 said.1 said.1.fault

-- A log in version 2, or its first error.
unfoldable pub migrated_of : List ℕ → Result Rewritten LogError
migrated_of bytes = migrated_from (log_of bytes)

-- ---- into a new file

-- The answer is what the log's bytes give. Where there is no log, a read fails.
abbrev pub Says : (List ℕ → Result Rewritten LogError) → Option (List ℕ) → Result Rewritten LogError → Type 0
Says rewritten_of (Some bytes) result = Gives (λ (r : Rewritten). r) result (rewritten_of bytes)
Says rewritten_of None result = MatchResult result (λ _. ⊥) IsOutside

-- The log is there, the new file wasn't, and holds the log written anew.
pub record HasRewritten (rewritten_of : List ℕ → Result Rewritten LogError) (log before now : Option (List ℕ)) (count : ℕ) : Type 0 where
  pub bytes : List ℕ
  pub there : log ≡ Some bytes
  pub new : before ≡ None
  pub rewritten : Rewritten
  pub says : rewritten_of bytes ≡ Ok rewritten
  pub count_is : count ≡ rewritten.count
  pub holds : now ≡ Some rewritten.bytes

-- The file that is to be new wasn't there, and holds a part of the log written anew, from its first byte on.
pub record HoldsPart (rewritten_of : List ℕ → Result Rewritten LogError) (log before now : Option (List ℕ)) : Type 0 where
  pub bytes : List ℕ
  pub there : log ≡ Some bytes
  pub new : before ≡ None
  pub rewritten : Rewritten
  pub says : rewritten_of bytes ≡ Ok rewritten
  pub some : ℕ
  pub holds : bytes_of now ≡ take some rewritten.bytes

-- nothing was written, or a part
abbrev pub IsCutShort : (List ℕ → Result Rewritten LogError) → Option (List ℕ) → Option (List ℕ) → Option (List ℕ) → Type 0
IsCutShort rewritten_of log before now = (now ≡ before) ⊎ HoldsPart rewritten_of log before now
