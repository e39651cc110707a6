-- What a log says, read from left to right, with the first error and its place.
-- For the prover: the reader's steps. What a reader believes is Grammar; the law `writes_is_log_of` says that the two are one.
-- Source: ours.
use Rattle.std.specs.Prelude.{ℕ, zero, suc, ◌+◌, Bool, nat_lt, ◌==◌, ◌||◌, not, if◌then◌else◌, List, [], ◌∷◌, ◌++◌, length, take, drop, slice_index, nat_eq, codes, Option, Some, None, Result, Ok, Err}
use Rattle.std.specs.Int.{w32, from_be_bytes}
use Rattle.std.specs.List.{starts_with}
use Rattle.hw_types.specs.declared.config.Config.{Config}
use Rattle.hw_types.specs.declared.config.ConfigFault.{ConfigFault}
use Rattle.hw_types.specs.declared.answers.CodecError.{CodecError}
use Rattle.hw_types.specs.declared.unit.Vertex.{Vertex}
use Rattle.hw_types.specs.Limits.{config_fault, most_bytes}
use Rattle.hw_types.specs.Spelling.{u32_bytes, config_bytes}
use Rattle.hw_types.specs.Reading.{Rest, config_of}
use Rattle.hw_log.specs.Lasts.{LastUnits, no_lasts, lasts_after, vertex_bytes_in, vertex_in}
use Rattle.hw_log.specs.declared.entry.LogEntry.{LogEntry}
use Rattle.hw_log.specs.declared.head.Front.{Front}
use Rattle.hw_log.specs.declared.head.EntryHead.{EntryHead}
use Rattle.hw_log.specs.declared.error.LogError.{LogError}
use Rattle.hw_log.specs.declared.error.LogError.TheVariants.{BadMagic, Version, Torn, TooLong, BadConfig, ConfigFault as Refused, BadEvent, BadVerdict, BadVertex}

-- go on with what was read, or stop at the error
infixl 10 ◌>>=◌
abbrev pub ◌>>=◌ : {A B : Type 0} → Result A LogError → (A → Result B LogError) → Result B LogError
(Ok x) >>= f = f x
(Err e) >>= f = Err e

-- what is left of a log: its bytes from a place on, and the last units so far
pub record Left : Type 0 where
  pub rest : Rest
  pub lasts : LastUnits

-- so many bytes from a place of the log on
abbrev pub rest_at : ℕ → List ℕ → Rest
rest_at place bytes = record { place = place; bytes = bytes }

-- the next n bytes and what is left behind them, or the error where fewer are left
abbrev pub bytes_at : ℕ → LogError → Rest → Result (List ℕ × Rest) LogError
bytes_at n torn r = if nat_lt (length r.bytes) n then Err torn else Ok (take n r.bytes, rest_at (r.place + n) (drop n r.bytes))

-- what a codec answers, with its error as one of the log
abbrev pub decoded : {A : Type 0} → (CodecError → LogError) → Result A CodecError → Result A LogError
decoded wrap (Ok x) = Ok x
decoded wrap (Err e) = Err (wrap e)

-- a configuration or a vertex has more bytes than it may
abbrev pub is_too_long : ℕ → Bool
is_too_long n = nat_lt most_bytes n

-- ---- the header: HWLG, the version 1 or 2, the length of the configuration, the configuration

-- there is such a version
abbrev pub is_version : ℕ → Bool
is_version v = (v == 1) || (v == 2)

-- The version and the length of the configuration, from the file's first nine bytes, or as many as it has.
unfoldable pub front_of : List ℕ → Result Front LogError
front_of front =
    if not (starts_with nat_eq front (codes "HWLG")) then Err BadMagic
    else if nat_lt (length front) 5 then Err (Torn 4)
    else if not (is_version (slice_index front 4)) then Err (Version (slice_index front 4))
    else if nat_lt (length front) 9 then Err (Torn 5)
    else if is_too_long (from_be_bytes w32 (drop 5 front)) then Err (TooLong 5)
    else Ok (record { version = slice_index front 4; length = from_be_bytes w32 (drop 5 front) })

-- the configuration, or the error for the limit that it breaks
abbrev pub refuse : Config → Option ConfigFault → Result Config LogError
refuse config None = Ok config
refuse config (Some fault) = Err (Refused fault)

-- a configuration that keeps all limits
unfoldable pub checked_config : List ℕ → Result Config LogError
checked_config bytes = decoded BadConfig (config_of bytes) >>= λ config. refuse config (config_fault config)

-- the configuration, and what is left behind the header
unfoldable pub header_of : List ℕ → Result (Config × Left) LogError
header_of bytes = do
  front ← front_of (take 9 bytes)
  spelled ← bytes_at front.length (Torn 9) (rest_at 9 (drop 9 bytes))
  config ← checked_config spelled.0
  Ok (config, record { rest = spelled.1; lasts = no_lasts front.version (length config.weights) })

-- ---- an entry: the event 1, the verdict 0 or 1, the length of the vertex, the vertex

-- the verdict and the length of the vertex, from the entry's first six bytes; its errors name the entry's first byte
unfoldable pub head_of : ℕ → List ℕ → Result EntryHead LogError
head_of at head =
    if not (slice_index head 0 == 1) then Err (BadEvent at)
    else if nat_lt 1 (slice_index head 1) then Err (BadVerdict at)
    else if is_too_long (from_be_bytes w32 (drop 2 head)) then Err (TooLong at)
    else Ok (record { verdict = slice_index head 1 == 1; length = from_be_bytes w32 (drop 2 head) })

-- the six bytes before a vertex
unfoldable pub head_at : Rest → Result (EntryHead × Rest) LogError
head_at r = do
  head ← bytes_at 6 (Torn r.place) r
  said ← head_of r.place head.0
  Ok (said, head.1)

-- the vertex of so many bytes, in the entry at this place
unfoldable pub body_at : LastUnits → ℕ → ℕ → Rest → Result (Vertex × Rest) LogError
body_at lasts at n r = do
  spelled ← bytes_at n (Torn at) r
  vertex ← decoded (BadVertex at) (vertex_in lasts spelled.0)
  Ok (vertex, spelled.1)

-- the entry that begins here, and what is left behind it
unfoldable pub entry_at : Left → Result (LogEntry × Left) LogError
entry_at l = do
  head ← head_at l.rest
  body ← body_at l.lasts l.rest.place head.0.length head.1
  Ok (record { at = l.rest.place; verdict = head.0.verdict; vertex = body.0 }, record { rest = body.1; lasts = lasts_after l.lasts body.0 })

-- what comes next: an entry and what is left behind it, or none at the end of the bytes
unfoldable pub next_at : Left → Result (Option LogEntry × Left) LogError
next_at l = if length l.rest.bytes == 0 then Ok (None, l) else (entry_at l >>= λ e. Ok (Some e.0, e.1))

-- ---- the whole log

-- entries, and the error at which they stop, if any
pub record Entries : Type 0 where
  pub given : List LogEntry
  pub fault : Option LogError

-- an entry before the others, or what ends them
abbrev pub with_next : Result (Option LogEntry × Left) LogError → (Left → Entries) → Entries
with_next (Ok (Some e, l)) others = record { given = e ∷ (others l).given; fault = (others l).fault }
with_next (Ok (None, l)) others = record { given = []; fault = None }
with_next (Err e) others = record { given = []; fault = Some e }

-- the entries up to the end of the bytes or the first error, in at most so many steps
unfoldable pub entries_in : ℕ → Left → Entries
entries_in zero l = record { given = []; fault = None }
entries_in (suc steps) l = with_next (next_at l) (entries_in steps)

-- as many steps as there are bytes are enough, since each entry takes six bytes and more
abbrev pub entries_of : Left → Entries
entries_of l = entries_in (length l.rest.bytes) l

-- What the bytes of a log say: the error of the header, or the configuration and the entries.
abbrev pub log_of : List ℕ → Result (Config × Entries) LogError
log_of bytes = header_of bytes >>= λ header. Ok (header.0, entries_of header.1)

-- ---- what is written

-- the header of a log of this version, as it is written
abbrev pub header_bytes : ℕ → Config → List ℕ
header_bytes version config = codes "HWLG" ++ (version ∷ u32_bytes (length (config_bytes config))) ++ config_bytes config

-- an event, a verdict, the length of the vertex and the vertex
abbrev pub entry_with : Bool → List ℕ → List ℕ
entry_with verdict text = (1 ∷ (if verdict then 1 else 0) ∷ u32_bytes (length text)) ++ text

-- an entry of a log, as it is written behind these last units
abbrev pub entry_bytes : LastUnits → Bool → Vertex → List ℕ
entry_bytes lasts verdict vertex = entry_with verdict (vertex_bytes_in lasts vertex)

-- entries one after the other, as they are written behind these last units
abbrev pub entries_bytes : LastUnits → List LogEntry → List ℕ
entries_bytes lasts [] = []
entries_bytes lasts (e ∷ entries) = entry_bytes lasts e.verdict e.vertex ++ entries_bytes (lasts_after lasts e.vertex) entries

-- a log of this version with this configuration and these entries, as it is written
abbrev pub log_bytes : ℕ → Config → List LogEntry → List ℕ
log_bytes version config entries = header_bytes version config ++ entries_bytes (no_lasts version (length config.weights)) entries

-- the last units behind these entries
abbrev pub lasts_behind : LastUnits → List LogEntry → LastUnits
lasts_behind lasts [] = lasts
lasts_behind lasts (e ∷ entries) = lasts_behind (lasts_after lasts e.vertex) entries

-- the last units behind the entries that a log's bytes say, whose version is the byte in place 4
abbrev pub lasts_in : List ℕ → Config → List LogEntry → LastUnits
lasts_in bytes config entries = lasts_behind (no_lasts (slice_index bytes 4) (length config.weights)) entries
