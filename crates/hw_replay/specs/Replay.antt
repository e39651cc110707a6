-- The replay of a log into a node.
use Rattle.std.specs.Prelude.{◌≡◌, ℕ, Bool, true, false, List, ◌∷◌, [], ◌++◌, bytes_eq, Option, Some, None, Result, Ok, Err, MatchResult, ◌⊎◌, if◌then◌else◌}
use Rattle.hw_types.specs.declared.config.Config.{Config}
use Rattle.hw_types.specs.declared.unit.Vertex.{Vertex}
use Rattle.hw_types.specs.Spelling.{config_bytes}
use Rattle.hw_types.specs.Real.{CoreState}
use Rattle.hw_log.specs.declared.error.LogError.{LogError}
use Rattle.hw_log.specs.declared.error.LogError.TheVariants as log
use Rattle.hw_log.specs.Log.{Entries, entries_of, log_of}
use Rattle.hw_log.specs.Reader.{left_of}
use Rattle.hw_replay.specs.declared.fault.StartFault.{StartFault}
use Rattle.hw_replay.specs.declared.fault.StartFault.TheVariants as fault
use Rattle.hw_replay.specs.declared.replay.Replay.{Replay}
use Rattle.hw_replay.specs.Taken.{Taken, nothing_taken, rest_taken}

-- the two configurations are spelled alike
abbrev pub same_config : Config → Config → Bool
same_config c d = bytes_eq (config_bytes c) (config_bytes d)

-- any configuration is wanted, or this one
abbrev pub is_wanted : Option Config → Config → Bool
is_wanted None c = true
is_wanted (Some wanted) c = same_config wanted c

-- the replay of what a log says; the configuration is tested before the first entry
abbrev pub said_replayed : Option Config → Result (Config × Entries) LogError → Result Taken StartFault
said_replayed wanted (Err e) = Err (fault.Log e)
said_replayed wanted (Ok said) = if is_wanted wanted said.0 then rest_taken (nothing_taken said.0) said.1 else Err fault.OtherConfig

-- What the bytes of a log leave of a node, where this configuration is wanted.
unfoldable pub replay_of : Option Config → List ℕ → Result Taken StartFault
replay_of wanted bytes = said_replayed wanted (log_of bytes)

-- ---- a replay on its way

-- what it has taken
abbrev pub taken_in : Replay → Taken
taken_in r = record { core = r.core; refused = r.refused; repeats = r.repeats }

-- what it will have taken at its end, where so much of the file is unread
abbrev pub ahead_in : Replay → List ℕ → Result Taken StartFault
ahead_in r unread = rest_taken (taken_in r) (entries_of (left_of r.reader unread))

-- it says nothing of the log's bytes: a failed read, or want of memory
abbrev pub IsOutside : StartFault → Type 0
IsOutside (fault.Log log.ReadFault) = Unit {0}
IsOutside fault.OutOfMemory = Unit {0}
IsOutside e = ⊥

-- the fault is that of the log's bytes, if it isn't one of the outside
abbrev pub Stops : StartFault → Result Taken StartFault → Type 0
Stops e said = IsOutside e ⊎ (said ≡ Err e)

-- A replay that has begun will have taken what the file's bytes say. Where there is no file, a read fails.
abbrev pub Begins : Option Config → Option (List ℕ) → List ℕ → Result Replay StartFault → Type 0
Begins wanted (Some bytes) unread result = MatchResult result (λ r. replay_of wanted bytes ≡ ahead_in r unread) (λ e. Stops e (replay_of wanted bytes))
Begins wanted None unread result = MatchResult result (λ _. ⊥) IsOutside

-- An entry was taken, and what will have been taken at the end is the same; or that was all; or it stops there.
abbrev pub Leads : Result Taken StartFault → Result Taken StartFault → Taken → Result Bool StartFault → Type 0
Leads before after taken (Ok true) = after ≡ before
Leads before after taken (Ok false) = before ≡ Ok taken
Leads before after taken (Err e) = Stops e before

-- all that was ahead was taken, or it stops there
abbrev pub TakesAll : {T : Type 0} → Result Taken StartFault → Taken → Result T StartFault → Type 0
TakesAll before taken (Ok x) = before ≡ Ok taken
TakesAll before taken (Err e) = Stops e before

-- the node is what it was, or one vertex went last in its journal
abbrev pub GrowsByOne : CoreState → CoreState → Type 0
GrowsByOne old new = (new ≡ old) ⊎ ((v : Vertex) × (new ≡ record old { journal = old.journal ++ v ∷ [] }))

-- a whole replay took what the file's bytes say, or stopped where they say so
abbrev pub Replays : Option Config → Option (List ℕ) → Result Replay StartFault → Type 0
Replays wanted (Some bytes) result = MatchResult result (λ r. replay_of wanted bytes ≡ Ok (taken_in r)) (λ e. Stops e (replay_of wanted bytes))
Replays wanted None result = MatchResult result (λ _. ⊥) IsOutside
