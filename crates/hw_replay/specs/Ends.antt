-- What a replay knows beside what it takes: the last unit of each validator of the log, and how its node was reached.
-- Source: ours.
use Rattle.std.specs.Prelude.{◌≡◌, ℕ, Bool, true, false, List, Option, Some, None, Result, Ok, Err}
use Rattle.hw_types.specs.declared.config.Config.{Config}
use Rattle.hw_types.specs.declared.unit.Vertex.{Vertex}
use Rattle.hw_types.specs.Below.{Among}
use Rattle.hw_types.specs.Spelling.{VertexFits}
use Rattle.hw_types.specs.Real.{CoreState}
use Rattle.hw_core.specs.Promises.{delivered}
use Rattle.hw_log.specs.Lasts.{LastUnits}
use Rattle.hw_log.specs.declared.error.LogError.{LogError}
use Rattle.hw_log.specs.Log.{Entries, entries_of, log_of, lasts_behind, lasts_in}
use Rattle.hw_log.specs.Reader.{left_of}
use Rattle.hw_replay.specs.declared.fault.StartFault.{StartFault}
use Rattle.hw_replay.specs.declared.replay.Replay.{Replay}

-- the last units behind the entries that a log says, if it says any
abbrev pub lasts_said : List ℕ → Result (Config × Entries) LogError → Option LastUnits
lasts_said bytes (Ok said) = Some (lasts_in bytes said.0 said.1.given)
lasts_said bytes (Err e) = None

-- the last units behind the entries of a file, where it is there and has a header
abbrev pub lasts_of_file : Option (List ℕ) → Option LastUnits
lasts_of_file (Some bytes) = lasts_said bytes (log_of bytes)
lasts_of_file None = None

-- the last units behind the entries that are left, where so much of the file is unread
abbrev pub lasts_ahead : Replay → List ℕ → LastUnits
lasts_ahead r unread = lasts_behind r.reader.lasts (entries_of (left_of r.reader unread)).given

-- An entry was taken, and the last units behind all entries are the same; or that was all, and the last units are these.
abbrev pub LeadsLasts : LastUnits → LastUnits → LastUnits → Result Bool StartFault → Type 0
LeadsLasts before after lasts (Ok true) = after ≡ before
LeadsLasts before after lasts (Ok false) = before ≡ lasts
LeadsLasts before after lasts (Err e) = Unit {0}

-- Deliveries made the node out of one that had received nothing, whatever it was asked since, and each vertex of its journal keeps the
-- limits of its format.
pub record IsReached (c : CoreState) : Type 0 where
  pub deliveries : List (Vertex × Bool)
  pub made : record c { asked = None } ≡ delivered c.config deliveries
  pub fit : (v : Vertex) → Among v c.journal → VertexFits v
