-- What a power failure leaves of the file of a log: the statement.
-- Source: ours.
use Rattle.std.specs.Prelude.{◌≡◌, ℕ, ◌≤◌, List, length, take, None, Ok}
use Rattle.std.specs.List.{All}
use Rattle.hw_types.specs.declared.config.Config.{Config}
use Rattle.hw_types.specs.declared.unit.Vertex.{Vertex}
use Rattle.hw_types.specs.Limits.{config_fault}
use Rattle.hw_codec.specs.Ranges.{ConfigInRange}
use Rattle.hw_log.specs.Lasts.{IsVersion}
use Rattle.hw_log.specs.Spelled.{EntryFits}
use Rattle.hw_log.specs.declared.rewritten.Rewritten.{Rewritten}
use Rattle.hw_log.specs.Rewritten.{mended_of}
use Rattle.hw_session.specs.Restart.{true_entries, journal_log}

-- The first so many bytes of the log of these vertices are left, and in them the first so many entries are whole. That
-- is mended to the log of the first of the vertices, of no fewer than these.
abbrev pub CutLogsAreMended : Type 0
CutLogsAreMended = (version : ℕ) (config : Config) (vs : List Vertex) (sure bytes : ℕ)
    → IsVersion version → config_fault config ≡ None → ConfigInRange config → All EntryFits (true_entries vs)
    → sure ≤ length vs → length (journal_log version config (take sure vs)) ≤ bytes
    → (left : ℕ) × (sure ≤ left) × ((mended : Rewritten) × (mended_of (take bytes (journal_log version config vs)) ≡ Ok mended) × (mended.bytes ≡ journal_log version config (take left vs)))
