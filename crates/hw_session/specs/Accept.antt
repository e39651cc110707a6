-- What becomes of a peer's vertex.
-- Source: ours.
use Rattle.std.specs.Prelude.{◌≡◌, ◌⊎◌, ℕ, true, List, [], Option, Some, Result, Ok, Err}
use Rattle.hw_types.specs.declared.unit.Digest.{Digest}
use Rattle.hw_types.specs.declared.unit.Vertex.{Vertex}
use Rattle.hw_types.specs.declared.unit.Vertex.TheVariants as vertex
use Rattle.hw_types.specs.declared.answers.Receipt.{Receipt}
use Rattle.hw_types.specs.declared.answers.Receipt.TheVariants as receipt
use Rattle.hw_types.specs.declared.answers.Cause.{Cause}
use Rattle.hw_types.specs.declared.answers.Cause.TheVariants as cause
use Rattle.hw_types.specs.Journal.{is_accepted}
use Rattle.hw_types.specs.Spelling.{unit_bytes}
use Rattle.hw_types.specs.Real.{CoreState, answer_in}
use Rattle.hw_core.specs.Readers.{unit_in}
use Rattle.hw_io.specs.Faults.{Rose, raised}
use Rattle.hw_io.specs.Files.{SameFiles, Appended}
use Rattle.hw_keys.specs.Signed.{verdict_of}
use Rattle.hw_log.specs.declared.error.LogError.{LogError}
use Rattle.hw_log.specs.declared.error.LogError.TheVariants as log
use Rattle.hw_log.specs.Lasts.{with_noted}
use Rattle.hw_replay.specs.Taken.{spelling_of}
use Rattle.hw_session.specs.declared.entry.NewEntry.{NewEntry}
use Rattle.hw_session.specs.declared.fault.AcceptFault.{AcceptFault}
use Rattle.hw_session.specs.declared.fault.AcceptFault.TheVariants as fault
use Rattle.hw_session.specs.declared.node.ClashUnits.{ClashUnits}
use Rattle.hw_session.specs.Node.{NodeState}
use Rattle.hw_session.specs.Make.{entry_for, with_vertex, with_entry}

-- what the node answers to a peer's vertex, with the verdict of its keys
abbrev pub given_to : NodeState → Vertex → Result Receipt Cause
given_to n v = answer_in n.core v (verdict_of n.keys v)

-- ---- what is left

-- A unit clashes with the journal's unit of that digest, the two units of an evidence with each other. The known one is
-- named first.
abbrev pub clash_units : CoreState → Vertex → Digest → ClashUnits
clash_units c (vertex.Unit u) d = record { known = spelling_of (unit_in c d); other = unit_bytes u.unit }
clash_units c (vertex.Evidence e) d = record { known = unit_bytes e.left.unit; other = unit_bytes e.right.unit }
clash_units c (vertex.Endorsement e) d = record { known = []; other = [] }

-- a refused vertex is counted, and so is a limit that it meets; a clash is kept
abbrev pub refused_by : NodeState → Vertex → Cause → NodeState
refused_by n v cause.BadSignature = record n { refused = raised n.refused }
refused_by n v (cause.Local rule) = record n { refused = raised n.refused }
refused_by n v (cause.Pair f) = record n { refused = raised n.refused }
refused_by n v (cause.Clash d) = record n { refused = raised n.refused; clash = Some (clash_units n.core v d) }
refused_by n v cause.RecordsFull = record n { refused = raised n.refused; limited = raised n.limited }
refused_by n v cause.ParkFull = record n { refused = raised n.refused; limited = raised n.limited }
refused_by n v cause.OutOfMemory = n

-- The node after a vertex that had this answer. An accepted one goes last in journal and log, and one that came again
-- is counted.
abbrev pub taken_by : NodeState → Vertex → Result Receipt Cause → NodeState
taken_by n v (Ok receipt.Repeat) = record n { repeats = raised n.repeats }
taken_by n v (Ok (receipt.Admitted k)) = with_entry n v
taken_by n v (Ok (receipt.Parked k)) = with_entry n v
taken_by n v (Ok (receipt.Dropped rule)) = with_entry n v
taken_by n v (Err c) = refused_by n v c

-- ---- one vertex

-- the vertex is accepted
abbrev pub IsTakenIn : NodeState → Vertex → Type 0
IsTakenIn n v = is_accepted (given_to n v) ≡ true

-- the vertex was accepted, and is in the journal alone
abbrev pub IsUnlogged : NodeState → Vertex → NodeState → Type 0
IsUnlogged n v m = IsTakenIn n v × (m ≡ with_vertex n v)

-- it is a cause by which a node refuses, and not out of memory
abbrev pub IsOfNode : Cause → Type 0
IsOfNode cause.OutOfMemory = ⊥
IsOfNode c = Unit {0}

-- The answer is that of the definitions, and the node is what it leaves. Where the append failed, the vertex is in the
-- journal alone. So it may be where memory ran out.
abbrev pub Accepts : NodeState → Vertex → NodeState → Result Receipt AcceptFault → Type 0
Accepts n v m (Ok r) = (given_to n v ≡ Ok r) × (m ≡ taken_by n v (Ok r))
Accepts n v m (Err (fault.Refused c)) = IsOfNode c × (given_to n v ≡ Err c) × (m ≡ taken_by n v (Err c))
Accepts n v m (Err fault.AppendFault) = IsUnlogged n v m
Accepts n v m (Err fault.OutOfMemory) = (m ≡ n) ⊎ IsUnlogged n v m

-- The entry of an accepted vertex is appended to the log, and after a fault of the append a first part of it. Nothing
-- else is written.
abbrev pub WritesAccepted : NodeState → Vertex → NodeState → (List ℕ → Option (List ℕ)) → (List ℕ → Option (List ℕ)) → Result Receipt AcceptFault → Type 0
WritesAccepted n v m old new (Ok receipt.Repeat) = SameFiles old new
WritesAccepted n v m old new (Ok (receipt.Admitted k)) = Appended {E = AcceptFault} old new n.log (entry_for n v) (Ok (receipt.Admitted k))
WritesAccepted n v m old new (Ok (receipt.Parked k)) = Appended {E = AcceptFault} old new n.log (entry_for n v) (Ok (receipt.Parked k))
WritesAccepted n v m old new (Ok (receipt.Dropped rule)) = Appended {E = AcceptFault} old new n.log (entry_for n v) (Ok (receipt.Dropped rule))
WritesAccepted n v m old new (Err (fault.Refused c)) = SameFiles old new
WritesAccepted n v m old new (Err fault.AppendFault) = Appended {T = Receipt} old new n.log (entry_for n v) (Err fault.AppendFault)
WritesAccepted n v m old new (Err fault.OutOfMemory) = ((m ≡ n) × SameFiles old new) ⊎ (IsUnlogged n v m × Appended {T = Receipt} old new n.log (entry_for n v) (Err fault.OutOfMemory))

-- a failed append raises the append count, and nothing else changes it
abbrev pub IsAcceptCounted : {T : Type 0} → ℕ → ℕ → Result T AcceptFault → Type 0
IsAcceptCounted before now (Err fault.AppendFault) = Rose before now
IsAcceptCounted before now _ = now ≡ before

-- ---- on the way

-- what a failed append is answered as
abbrev pub accept_fault : LogError → AcceptFault
accept_fault log.WriteFault = fault.AppendFault
accept_fault _ = fault.OutOfMemory

-- what a receipt leaves of the last units and of the count of repeats, where this is the entry
abbrev pub kept_by : NodeState → Receipt → NewEntry → NodeState
kept_by n receipt.Repeat e = record n { repeats = raised n.repeats }
kept_by n (receipt.Admitted k) e = record n { lasts = with_noted n.lasts e.noted }
kept_by n (receipt.Parked k) e = record n { lasts = with_noted n.lasts e.noted }
kept_by n (receipt.Dropped rule) e = record n { lasts = with_noted n.lasts e.noted }

-- the receipt is that of an accepted vertex
abbrev pub IsOfAccepted : Receipt → Type 0
IsOfAccepted r = is_accepted (Ok r) ≡ true

-- so it is kept, or the append failed or ran out of memory
abbrev pub Keeps : NodeState → Receipt → NewEntry → NodeState → Result Receipt AcceptFault → Type 0
Keeps n r e m (Ok answer) = (answer ≡ r) × (m ≡ kept_by n r e)
Keeps n r e m (Err (fault.Refused c)) = ⊥
Keeps n r e m (Err fault.AppendFault) = IsOfAccepted r × (m ≡ n)
Keeps n r e m (Err fault.OutOfMemory) = IsOfAccepted r × (m ≡ n)

-- the entry is appended unless the vertex came again
abbrev pub WritesReceipt : NodeState → Receipt → NewEntry → (List ℕ → Option (List ℕ)) → (List ℕ → Option (List ℕ)) → Result Receipt AcceptFault → Type 0
WritesReceipt n receipt.Repeat e old new result = SameFiles old new
WritesReceipt n (receipt.Admitted k) e old new result = Appended old new n.log e.bytes result
WritesReceipt n (receipt.Parked k) e old new result = Appended old new n.log e.bytes result
WritesReceipt n (receipt.Dropped rule) e old new result = Appended old new n.log e.bytes result

-- a refused vertex is counted and a clash is kept, unless memory runs out
abbrev pub Counts : NodeState → Vertex → Cause → NodeState → Result Receipt AcceptFault → Type 0
Counts n v (cause.Clash d) m result = ((result ≡ Err fault.OutOfMemory) × (m ≡ n)) ⊎ ((result ≡ Err (fault.Refused (cause.Clash d))) × (m ≡ refused_by n v (cause.Clash d)))
Counts n v cause.OutOfMemory m result = (result ≡ Err fault.OutOfMemory) × (m ≡ n)
Counts n v c m result = (result ≡ Err (fault.Refused c)) × (m ≡ refused_by n v c)
