-- What a replay leaves: the statements.
use Rattle.std.specs.Prelude.{◌≡◌, ℕ, Bool, true, List, length, map, Option, None, Ok}
use Rattle.hw_types.specs.declared.unit.SignedUnit.{SignedUnit}
use Rattle.hw_types.specs.declared.unit.Vertex.{Vertex}
use Rattle.hw_types.specs.declared.config.Config.{Config}
use Rattle.hw_types.specs.Below.{Among}
use Rattle.hw_types.specs.Culprits.{signed_in}
use Rattle.hw_core.specs.Promises.{delivered}
use Rattle.hw_log.specs.declared.entry.LogEntry.{LogEntry}
use Rattle.hw_log.specs.Log.{log_of}
use Rattle.hw_replay.specs.Taken.{Taken, rest_taken}
use Rattle.hw_replay.specs.Replay.{is_wanted, replay_of}
use Rattle.hw_replay.specs.Midway.{Midway, file_begun, ComesTo}
use Rattle.hw_replay.specs.Feed.{file_replayed}

-- the entries of a log, as deliveries
abbrev pub deliveries_of : List LogEntry → List (Vertex × Bool)
deliveries_of entries = map (λ (e : LogEntry). (e.vertex, e.verdict)) entries

-- each unit that stands in the vertex has a signature of 32 bytes
abbrev pub IsSigned : Vertex → Type 0
IsSigned v = (u : SignedUnit) → Among u (signed_in v) → length u.signature.0 ≡ 32

-- the node is the one to which all entries of the log were delivered, in order
pub record IsReplayed (wanted : Option Config) (bytes : List ℕ) (t : Taken) : Type 0 where
  pub config : Config
  pub entries : List LogEntry
  pub log : log_of bytes ≡ Ok (config, record { given = entries; fault = None })
  pub is_wanted : is_wanted wanted config ≡ true
  pub core_is : t.core ≡ delivered config (deliveries_of entries)
  pub signed : (v : Vertex) → Among v t.core.journal → IsSigned v

-- A replay that isn't stopped leaves that node.
abbrev pub ReplayDelivers : Type 0
ReplayDelivers = (wanted : Option Config) (bytes : List ℕ) (t : Taken) → replay_of wanted bytes ≡ Ok t → IsReplayed wanted bytes t

-- Wherever a replay came to, what the entries that are still to come leave of what was taken is what the whole file leaves.
abbrev pub MidwayLeads : Type 0
MidwayLeads = (wanted : Option Config) (file : Option (List ℕ)) (now : Midway) → ComesTo (file_begun wanted file) now → file_replayed wanted file ≡ rest_taken now.taken now.entries
