-- What the entries of a log leave of a node, one after the other.
use Rattle.std.specs.Prelude.{ℕ, ◌+◌, List, [], ◌∷◌, ◌++◌, Option, Some, None, Result, Ok, Err}
use Rattle.hw_types.specs.declared.unit.Digest.{Digest}
use Rattle.hw_types.specs.declared.unit.SignedUnit.{SignedUnit}
use Rattle.hw_types.specs.declared.unit.Vertex.{Vertex}
use Rattle.hw_types.specs.declared.unit.Vertex.TheVariants as vertex
use Rattle.hw_types.specs.declared.config.Config.{Config}
use Rattle.hw_types.specs.declared.answers.Receipt.{Receipt}
use Rattle.hw_types.specs.declared.answers.Receipt.TheVariants as receipt
use Rattle.hw_types.specs.declared.answers.Cause.{Cause}
use Rattle.hw_types.specs.declared.answers.Cause.TheVariants as cause
use Rattle.hw_types.specs.Spelling.{unit_bytes}
use Rattle.hw_types.specs.Real.{CoreState, answer_in}
use Rattle.hw_core.specs.Readers.{unit_in}
use Rattle.hw_log.specs.declared.entry.LogEntry.{LogEntry}
use Rattle.hw_log.specs.declared.error.LogError.{LogError}
use Rattle.hw_log.specs.Log.{Entries}
use Rattle.hw_replay.specs.declared.fault.StartFault.{StartFault}
use Rattle.hw_replay.specs.declared.fault.StartFault.TheVariants as fault

-- go on with what was taken, or stop at the fault
infixl 10 ◌>>=◌
abbrev pub ◌>>=◌ : {A B : Type 0} → Result A StartFault → (A → Result B StartFault) → Result B StartFault
(Ok x) >>= f = f x
(Err e) >>= f = Err e

-- a node, and how many deliveries to it were refused and how many came again
pub record Taken : Type 0 where
  pub core : CoreState
  pub refused : ℕ
  pub repeats : ℕ

-- before the first entry
abbrev pub nothing_taken : Config → Taken
nothing_taken config = record { core = record { config = config; journal = []; asked = None }; refused = 0; repeats = 0 }

-- the vertex goes last in the journal
abbrev pub with_vertex : Taken → Vertex → Taken
with_vertex t v = record t { core = record t.core { journal = t.core.journal ++ v ∷ [] } }

-- ---- two different units of one digest

-- the spelling of a unit, if there is one
abbrev pub spelling_of : Option SignedUnit → List ℕ
spelling_of None = []
spelling_of (Some s) = unit_bytes s.unit

-- A unit clashes with the journal's unit of that digest, the two units of an evidence with each other. The known one is named first.
abbrev pub clash_with : CoreState → Vertex → Digest → StartFault
clash_with c (vertex.Unit u) d = fault.Clash (spelling_of (unit_in c d)) (unit_bytes u.unit)
clash_with c (vertex.Evidence e) d = fault.Clash (unit_bytes e.left.unit) (unit_bytes e.right.unit)
clash_with c (vertex.Endorsement e) d = fault.Clash [] []

-- ---- one entry after the other

-- A limit and a clash stop a replay; other causes don't.
abbrev pub stop_of : CoreState → ℕ → Vertex → Cause → Option StartFault
stop_of c at v cause.RecordsFull = Some (fault.RecordsFull at)
stop_of c at v cause.ParkFull = Some (fault.ParkFull at)
stop_of c at v (cause.Clash d) = Some (clash_with c v d)
stop_of c at v cause.BadSignature = None
stop_of c at v (cause.Local rule) = None
stop_of c at v (cause.Pair f) = None
stop_of c at v cause.OutOfMemory = None

-- where it doesn't stop, the refusal is counted
abbrev pub counted_or_stopped : Taken → Option StartFault → Result Taken StartFault
counted_or_stopped t (Some f) = Err f
counted_or_stopped t None = Ok (record t { refused = t.refused + 1 })

-- what is taken after an entry that had this answer
abbrev pub taken_or_stopped : Taken → LogEntry → Result Receipt Cause → Result Taken StartFault
taken_or_stopped t e (Err c) = counted_or_stopped t (stop_of t.core e.at e.vertex c)
taken_or_stopped t e (Ok receipt.Repeat) = Ok (record t { repeats = t.repeats + 1 })
taken_or_stopped t e (Ok (receipt.Admitted n)) = Ok (with_vertex t e.vertex)
taken_or_stopped t e (Ok (receipt.Parked n)) = Ok (with_vertex t e.vertex)
taken_or_stopped t e (Ok (receipt.Dropped r)) = Ok (with_vertex t e.vertex)

-- an entry is delivered with its verdict
unfoldable pub entry_taken : Taken → LogEntry → Result Taken StartFault
entry_taken t e = taken_or_stopped t e (answer_in t.core e.vertex e.verdict)

-- entry by entry
unfoldable pub entries_taken : Taken → List LogEntry → Result Taken StartFault
entries_taken t [] = Ok t
entries_taken t (e ∷ es) = entry_taken t e >>= λ u. entries_taken u es

-- the error behind the entries, if there is one
abbrev pub or_fault : Taken → Option LogError → Result Taken StartFault
or_fault t None = Ok t
or_fault t (Some e) = Err (fault.Log e)

-- what entries leave of what was taken before; the error behind them comes after them
abbrev pub rest_taken : Taken → Entries → Result Taken StartFault
rest_taken t entries = entries_taken t entries.given >>= λ u. or_fault u entries.fault
