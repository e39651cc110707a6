-- The log of a node, and that it gives the node back.
-- Source: ours.
use Rattle.std.specs.Prelude.{◌≡◌, ℕ, ◌<◌, Bool, true, List, length, map, Option, Some, None, Result, Ok, IfOk, IfSome}
use Rattle.std.specs.List.{All}
use Rattle.hw_types.specs.declared.unit.Signature.{Signature}
use Rattle.hw_types.specs.declared.unit.Vertex.{Vertex}
use Rattle.hw_types.specs.declared.config.Config.{Config}
use Rattle.hw_types.specs.declared.answers.Plan.{Plan}
use Rattle.hw_types.specs.Limits.{config_fault}
use Rattle.hw_types.specs.Real.{setting_of}
use Rattle.hw_types.specs.Journal.{journal_of}
use Rattle.hw_codec.specs.Ranges.{ConfigInRange}
use Rattle.hw_log.specs.declared.entry.LogEntry.{LogEntry}
use Rattle.hw_log.specs.Lasts.{LastUnits, IsVersion, no_lasts}
use Rattle.hw_log.specs.Log.{header_bytes, log_bytes, lasts_behind}
use Rattle.hw_log.specs.Spelled.{EntryFits}
use Rattle.hw_honest.specs.OneLine.{OneLine, units_by}
use Rattle.hw_honest.specs.Restart.{Logged, make, after_event}
use Rattle.hw_replay.specs.Replay.{replay_of}
use Rattle.hw_replay.specs.Ends.{lasts_of_file}
use Rattle.hw_session.specs.declared.fault.MakeFault.{MakeFault}
use Rattle.hw_session.specs.Node.{NodeState, IsKept, new_node}
use Rattle.hw_session.specs.Make.{planned_by, Makes, WritesOwn}

-- ---- the log of a journal

-- An entry for each vertex, with a true verdict. Its place in the log isn't needed to write it.
abbrev pub true_entries : List Vertex → List LogEntry
true_entries vs = map (λ v. record { at = 0; verdict = true; vertex = v }) vs

-- the header, and an entry for each vertex in order
abbrev pub journal_log : ℕ → Config → List Vertex → List ℕ
journal_log version config journal = log_bytes version config (true_entries journal)

-- the last units after these entries
abbrev pub journal_lasts : ℕ → Config → List Vertex → LastUnits
journal_lasts version config journal = lasts_behind (no_lasts version (length config.weights)) (true_entries journal)

-- the replay of that log leaves a node with that journal, which refused nothing, and these last units
pub record GivesBack (version : ℕ) (config : Config) (journal : List Vertex) : Type 0 where
  pub taken : replay_of (Some config) (journal_log version config journal) ≡ Ok (record { core = record { config = config; journal = journal; asked = None }; refused = 0; repeats = 0 })
  pub lasts : lasts_of_file (Some (journal_log version config journal)) ≡ Some (journal_lasts version config journal)

-- The log of a journal that deliveries made gives it back, in both versions.
abbrev pub LogGivesBack : Type 0
LogGivesBack = (version : ℕ) (config : Config) (deliveries : List (Vertex × Bool)) → IsVersion version → config_fault config ≡ None → ConfigInRange config
    → All EntryFits (true_entries (journal_of (setting_of config) deliveries)) → GivesBack version config (journal_of (setting_of config) deliveries)

-- ---- the log of a node

-- the file holds the log of the node's journal, and the node goes on after it
pub record HasLog (n : NodeState) (file : Option (List ℕ)) : Type 0 where
  pub version : ℕ
  pub known : IsVersion version
  pub holds : file ≡ Some (journal_log version n.core.config n.core.journal)
  pub lasts : n.lasts ≡ journal_lasts version n.core.config n.core.journal

-- what is in its journal, and what in its log
abbrev pub logged_of : NodeState → Logged
logged_of n = record { journal = n.core.journal; log = n.core.journal }

-- A new node has the log of its journal.
abbrev pub NewNodeHasLog : Type 0
NewNodeHasLog = (config : Config) (keys : List (List ℕ)) (name : List ℕ) → HasLog (new_node config keys name) (Some (header_bytes 2 config))

-- A node that makes a unit, or has none to make, keeps the log of its journal,
abbrev pub MakeKeepsLog : Type 0
MakeKeepsLog = (n m : NodeState) (planned made : Option Plan) (old new : List ℕ → Option (List ℕ)) → Makes n planned m (Ok made) → WritesOwn n planned m old new (Ok made)
    → HasLog n (old n.log) → HasLog m (new m.log)

-- and has done the step of a life.
abbrev pub MakeIsAnEvent : Type 0
MakeIsAnEvent = (n m : NodeState) (me now : ℕ) (value : List ℕ) (made : Option Plan) → IsKept n → me < length n.core.config.weights → Makes n (planned_by n me now value) m (Ok made)
    → (signature : Signature) × (logged_of m ≡ after_event (setting_of n.core.config) me (logged_of n) (make now value signature))

-- A node keeps the line of its own units whatever `make` answers. The number of the unit that it makes is how many it
-- made before.
pub record KeepsLine (n : NodeState) (me : ℕ) (m : NodeState) (result : Result (Option Plan) MakeFault) : Type 0 where
  pub line : OneLine (setting_of n.core.config) n.core.journal me → OneLine (setting_of n.core.config) m.core.journal me
  pub number : IfOk result (λ made. IfSome made (λ p. OneLine (setting_of n.core.config) n.core.journal me → p.unit.seq ≡ length (units_by (setting_of n.core.config) n.core.journal me)))
