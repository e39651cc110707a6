-- A validator's host with a node and a log: the statements.
-- Source: ours.
use Rattle.std.specs.Prelude.{◌≡◌, ℕ, ◌<◌, List, [], length, None}
use Rattle.hw_types.specs.declared.config.Config.{Config}
use Rattle.hw_types.specs.declared.unit.SignedUnit.{SignedUnit}
use Rattle.hw_types.specs.declared.unit.Vertex.{Vertex}
use Rattle.hw_types.specs.Below.{Among}
use Rattle.hw_types.specs.Limits.{config_fault}
use Rattle.hw_types.specs.Culprits.{signed_in}
use Rattle.hw_types.specs.Journal.{journal_of}
use Rattle.hw_types.specs.Real.{CoreState, setting_of}
use Rattle.hw_core.specs.Deliver.{HasCome}
use Rattle.hw_honest.specs.Restart.{Logged, Event, trusted, AreFair, life_of, MayGoOut}

-- a new host, and what fair events leave of it: it makes its units, takes vertices, stops and starts again
abbrev pub host_after : Config → ℕ → List Event → Logged
host_after config me events = life_of (setting_of config) me (record { journal = []; log = [] }) events

-- No two different units by it of one number are in its log or may go out of it.
abbrev pub HostNeverEquivocates : Type 0
HostNeverEquivocates = (config : Config) (me : ℕ) (events : List Event) → config_fault config ≡ None → me < length config.weights
    → AreFair (setting_of config) me (record { journal = []; log = [] }) events
    → (v w : Vertex) → MayGoOut (host_after config me events) v → MayGoOut (host_after config me events) w
    → (x y : SignedUnit) → Among x (signed_in v) → Among y (signed_in w) → x.unit.creator ≡ me → y.unit.creator ≡ me → x.unit.seq ≡ y.unit.seq → x.unit ≡ y.unit

-- What was stored of a node's journal, delivered again with true verdicts, is the journal.
abbrev pub GoesOnFromLog : Type 0
GoesOnFromLog = (c : CoreState) → HasCome c.config c.journal → journal_of (setting_of c.config) (trusted c.journal) ≡ c.journal
