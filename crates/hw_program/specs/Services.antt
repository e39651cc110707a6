-- What a node is asked for that runs: its part of the grammar of a command line.
-- Source: ours.
use Rattle.std.specs.Prelude.{◌≡◌, ℕ, ◌||◌, ◌==◌, nat_lt, List, [], ◌∷◌, length, codes, bytes_eq, Option, Some, None, if◌then◌else◌}
use Rattle.std.specs.List.{list_all}
use Rattle.std.specs.Option.{option_map}
use Rattle.hw_text.specs.Numbers.{number_below}
use Rattle.hw_service.specs.Begin.{Names}
use Rattle.hw_commands.specs.Commands.{Word, is_word, request_of}

-- To serve so many sessions to peers that come to an address; to let a validator take so many turns, in each of which it dials each of its
-- peers; to meet so many peers that come to an address, one after the other; or to dial a peer and meet it.
pub data Service : Type 0 where
  Serve : Names → Word → ℕ → Service
  Run : Names → ℕ → ℕ → List Word → Service
  Host : Names → Word → ℕ → Service
  Meet : Names → Word → Service

-- the files that the node begins from
abbrev pub names_in : Service → Names
names_in (Serve names address sessions) = names
names_in (Run names me turns peers) = names
names_in (Host names address sessions) = names
names_in (Meet names peer) = names

-- the validator that is to make units, if there is one
abbrev pub maker_in : Service → Option ℕ
maker_in (Serve names address sessions) = None
maker_in (Run names me turns peers) = Some me
maker_in (Host names address sessions) = None
maker_in (Meet names peer) = None

-- 1 to 65,536 sessions, and no word behind
abbrev pub sessions_of : Option ℕ → List Word → Option ℕ
sessions_of None rest = None
sessions_of (Some sessions) (word ∷ rest) = None
sessions_of (Some sessions) [] = if sessions == 0 then None else Some sessions

-- a validator's number, below 1,024, 1 to 1,000,000 turns, and 1 to 16 peers
abbrev pub turns_of : Names → Option ℕ → Option ℕ → List Word → Option Service
turns_of names None turns peers = None
turns_of names (Some me) None peers = None
turns_of names (Some me) (Some turns) peers = if (turns == 0) || (length peers == 0) || nat_lt 16 (length peers) then None else Some (Run names me turns peers)

-- of these words behind the command and the names of three files
unfoldable pub service_in : Word → Names → Word → Word → List Word → Option Service
service_in command names first second rest =
    if bytes_eq command (codes "serve") then option_map (Serve names first) (sessions_of (number_below 65537 second) rest)
    else if bytes_eq command (codes "host") then option_map (Host names first) (sessions_of (number_below 65537 second) rest)
    else if bytes_eq command (codes "run") then turns_of names (number_below 1024 first) (number_below 1000001 second) rest
    else None

-- of one word behind them
unfoldable pub meeting_in : Word → Names → Word → Option Service
meeting_in command names peer = if bytes_eq command (codes "meet") then Some (Meet names peer) else None

-- settings, keys and log under these names
abbrev pub named : Word → Word → Word → Names
named config keys log = record { config = config; keys = keys; log = log }

-- of a command and four words or more behind it
abbrev pub of_many : List Word → Option Service
of_many (command ∷ config ∷ keys ∷ log ∷ first ∷ second ∷ rest) = service_in command (named config keys log) first second rest
of_many (command ∷ config ∷ keys ∷ log ∷ peer ∷ []) = meeting_in command (named config keys log) peer
of_many words = None

-- the run of a node that these words ask for, if they ask for one
unfoldable pub service_of : List Word → Option Service
service_of words = if list_all is_word words then of_many words else None

-- They ask for no run of a node: how it ends and what is written is worked out from the words and what the files hold.
abbrev pub IsWorkedOut : List Word → Type 0
IsWorkedOut words = service_of words ≡ None

-- they are in the grammar of no command
abbrev pub IsNoCommand : List Word → Type 0
IsNoCommand words = (request_of words ≡ None) × IsWorkedOut words

-- the clock isn't asked for a moment
abbrev pub UsesNoClock : Option Service → Type 0
UsesNoClock (Some (Run names me turns peers)) = ⊥
UsesNoClock service = Unit {0}

-- the address at which a peer may come
abbrev pub address_in : Option Service → Option Word
address_in (Some (Serve names address sessions)) = Some address
address_in (Some (Host names address sessions)) = Some address
address_in service = None

-- the log of the node that is to run
abbrev pub log_in : Option Service → Option Word
log_in service = option_map (λ (s : Service). (names_in s).log) service
