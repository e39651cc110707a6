-- A node's own units.
-- Source: ours.
use Rattle.std.specs.Prelude.{◌≡◌, ◌⊎◌, ℕ, ◌<◌, ◌≤◌, true, List, [], ◌∷◌, ◌++◌, length, Option, Some, None, Result, Ok, Err, slice_index_or}
use Rattle.hw_types.specs.declared.unit.SignedUnit.{SignedUnit}
use Rattle.hw_types.specs.declared.unit.Vertex.{Vertex}
use Rattle.hw_types.specs.declared.unit.Vertex.TheVariants as vertex
use Rattle.hw_types.specs.declared.answers.Plan.{Plan}
use Rattle.hw_types.specs.declared.answers.Cause.{Cause}
use Rattle.hw_types.specs.declared.answers.Cause.TheVariants as cause
use Rattle.hw_types.specs.Spelling.{digest_of}
use Rattle.hw_types.specs.Step.{step}
use Rattle.hw_types.specs.Real.{setting_of, received_in}
use Rattle.hw_io.specs.Faults.{Rose, raised}
use Rattle.hw_io.specs.Files.{SameFiles, Appended}
use Rattle.hw_keys.specs.Signed.{unit_signature}
use Rattle.hw_log.specs.Lasts.{LastUnits, lasts_after, with_noted}
use Rattle.hw_log.specs.Log.{entry_bytes}
use Rattle.hw_log.specs.declared.error.LogError.{LogError}
use Rattle.hw_log.specs.declared.error.LogError.TheVariants as log
use Rattle.hw_honest.specs.Plans.{IsPlanned, HasNamesake}
use Rattle.hw_session.specs.declared.entry.NewEntry.{NewEntry}
use Rattle.hw_session.specs.declared.fault.MakeFault.{MakeFault}
use Rattle.hw_session.specs.declared.fault.MakeFault.TheVariants as fault
use Rattle.hw_session.specs.Node.{NodeState}

-- the step of the validator at this moment, if there is one
abbrev pub planned_by : NodeState → ℕ → ℕ → List ℕ → Option Plan
planned_by n me now value = step (setting_of n.core.config) (received_in n.core) me now value

-- the unit of a plan, as its creator signs it
abbrev pub own_unit : NodeState → Plan → SignedUnit
own_unit n p = record { unit = p.unit; signature = unit_signature (digest_of p.unit) (slice_index_or n.keys p.unit.creator []) }

-- the same as a vertex
abbrev pub own_vertex : NodeState → Plan → Vertex
own_vertex n p = vertex.Unit (own_unit n p)

-- what is written of a vertex, whose verdict is true
abbrev pub entry_for : NodeState → Vertex → List ℕ
entry_for n v = entry_bytes n.lasts true v

-- the vertex went last in the journal
abbrev pub with_vertex : NodeState → Vertex → NodeState
with_vertex n v = record n { core = record n.core { journal = n.core.journal ++ v ∷ [] } }

-- and its entry last in the log
abbrev pub with_entry : NodeState → Vertex → NodeState
with_entry n v = record (with_vertex n v) { lasts = lasts_after n.lasts v }

-- ---- what is answered

-- another unit of the journal has the name of the plan's unit
abbrev pub IsNamesake : NodeState → Plan → Type 0
IsNamesake n p = HasNamesake (setting_of n.core.config) n.core.journal p

-- the plan is this one, no other unit has its name, and the journal isn't full
pub record IsToMake (n : NodeState) (planned : Option Plan) (p : Plan) : Type 0 where
  pub is : planned ≡ Some p
  pub apart : IsNamesake n p → ⊥
  pub room : length n.core.journal < n.core.config.max_records

-- there is a plan, no other unit has its name, and the journal is as long as it may be
pub record IsTooMany (n : NodeState) (planned : Option Plan) : Type 0 where
  pub plan : Plan
  pub is : planned ≡ Some plan
  pub apart : IsNamesake n plan → ⊥
  pub full : n.core.config.max_records ≤ length n.core.journal

-- there is no plan, or another unit has its name
abbrev pub IsNothing : NodeState → Option Plan → Type 0
IsNothing n planned = (planned ≡ None) ⊎ ((p : Plan) × (planned ≡ Some p) × IsNamesake n p)

-- The unit of the plan is made and goes last in journal and log. Nothing is made where there is nothing to make. Where
-- the journal is full, that is counted. Where the append fails, the unit is in the journal alone. So it may be where
-- memory ran out.
abbrev pub Makes : NodeState → Option Plan → NodeState → Result (Option Plan) MakeFault → Type 0
Makes n planned m (Ok (Some p)) = IsToMake n planned p × (m ≡ with_entry n (own_vertex n p))
Makes n planned m (Ok None) = IsNothing n planned × (m ≡ n)
Makes n planned m (Err fault.RecordsFull) = IsTooMany n planned × (m ≡ record n { limited = raised n.limited })
Makes n planned m (Err fault.AppendFault) = (p : Plan) × IsToMake n planned p × (m ≡ with_vertex n (own_vertex n p))
Makes n planned m (Err fault.OutOfMemory) = (m ≡ n) ⊎ ((p : Plan) × IsToMake n planned p × (m ≡ with_vertex n (own_vertex n p)))

-- ---- on the way

-- it is the step of a validator, at some moment and with some value
abbrev pub IsAStep : NodeState → Plan → Type 0
IsAStep n p = (me : ℕ) × (now : ℕ) × (value : List ℕ) × IsPlanned (setting_of n.core.config) n.core.journal me now value p

-- the cause is one by which an own unit is refused
abbrev pub IsOfOwn : Cause → Type 0
IsOfOwn (cause.Clash known) = Unit {0}
IsOfOwn cause.RecordsFull = Unit {0}
IsOfOwn cause.OutOfMemory = Unit {0}
IsOfOwn _ = ⊥

-- a refused own unit leaves the node as it is, but that a full journal is counted
abbrev pub Refuses : NodeState → Cause → NodeState → Result (Option Plan) MakeFault → Type 0
Refuses n (cause.Clash known) m result = (m ≡ n) × (result ≡ Ok None)
Refuses n cause.RecordsFull m result = (m ≡ record n { limited = raised n.limited }) × (result ≡ Err fault.RecordsFull)
Refuses n cause.OutOfMemory m result = (m ≡ n) × (result ≡ Err fault.OutOfMemory)
Refuses n _ m result = ⊥

-- the entry was appended and noted, and the plan is answered; or the append failed
abbrev pub PutsOwn : LastUnits → LastUnits → NewEntry → Plan → Result (Option Plan) MakeFault → Type 0
PutsOwn old new e p (Ok (Some q)) = (q ≡ p) × (new ≡ with_noted old e.noted)
PutsOwn old new e p (Ok None) = ⊥
PutsOwn old new e p (Err fault.RecordsFull) = ⊥
PutsOwn old new e p (Err fault.AppendFault) = new ≡ old
PutsOwn old new e p (Err fault.OutOfMemory) = new ≡ old

-- what a failed append is answered as
abbrev pub fault_of_append : LogError → MakeFault
fault_of_append log.WriteFault = fault.AppendFault
fault_of_append _ = fault.OutOfMemory

-- ---- what is written

-- The entry of the unit that is made is appended to the log. After a fault of the append a first part of it is. Nothing
-- else is written.
abbrev pub WritesOwn : NodeState → Option Plan → NodeState → (List ℕ → Option (List ℕ)) → (List ℕ → Option (List ℕ)) → Result (Option Plan) MakeFault → Type 0
WritesOwn n planned m old new (Ok (Some p)) = Appended {E = MakeFault} old new n.log (entry_for n (own_vertex n p)) (Ok p)
WritesOwn n planned m old new (Ok None) = SameFiles old new
WritesOwn n planned m old new (Err fault.RecordsFull) = SameFiles old new
WritesOwn n planned m old new (Err fault.AppendFault) = (p : Plan) × (planned ≡ Some p) × Appended {T = Plan} old new n.log (entry_for n (own_vertex n p)) (Err fault.AppendFault)
WritesOwn n planned m old new (Err fault.OutOfMemory) =
    ((m ≡ n) × SameFiles old new)
    ⊎ ((p : Plan) × IsToMake n planned p × (m ≡ with_vertex n (own_vertex n p)) × Appended {T = Plan} old new n.log (entry_for n (own_vertex n p)) (Err fault.OutOfMemory))

-- a failed append raises the append count, and nothing else changes it
abbrev pub IsMakeCounted : {T : Type 0} → ℕ → ℕ → Result T MakeFault → Type 0
IsMakeCounted before now (Err fault.AppendFault) = Rose before now
IsMakeCounted before now _ = now ≡ before
