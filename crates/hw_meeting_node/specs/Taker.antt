-- What a taker does with a vertex.
-- Source: ours.
use Rattle.std.specs.Prelude.{◌≡◌, ◌⊎◌, ℕ, Bool, true, Result, Ok, Err}
use Rattle.hw_types.specs.declared.unit.Vertex.{Vertex}
use Rattle.hw_types.specs.declared.answers.Receipt.{Receipt}
use Rattle.hw_types.specs.Journal.{is_accepted}
use Rattle.hw_types.specs.Real.{CoreState, answer_in, after_in}
use Rattle.hw_io.specs.Faults.{Rose}
use Rattle.hw_meeting_node.specs.declared.taker.TakeFault.{TakeFault}
use Rattle.hw_meeting_node.specs.declared.taker.TakeFault.TheVariants.{Refused, AppendFault, OutOfMemory}

-- The vertex is delivered with this verdict, and the answer is that of the definitions. An accepted vertex goes last in
-- the journal, and nothing else changes. After a failed append it is in the journal. It may be there too where it was
-- out of memory for the append.
abbrev pub Takes : CoreState → Vertex → Bool → CoreState → Result Receipt TakeFault → Type 0
Takes c v verdict m (Ok receipt) = (answer_in c v verdict ≡ Ok receipt) × (m ≡ after_in c v verdict)
Takes c v verdict m (Err (Refused cause)) = (answer_in c v verdict ≡ Err cause) × (m ≡ c)
Takes c v verdict m (Err AppendFault) = (is_accepted (answer_in c v verdict) ≡ true) × (m ≡ after_in c v verdict)
Takes c v verdict m (Err OutOfMemory) = (m ≡ c) ⊎ (m ≡ after_in c v verdict)

-- a failed append raises the taker's count, and nothing else changes it
abbrev pub IsTakeCounted : {T : Type 0} → ℕ → ℕ → Result T TakeFault → Type 0
IsTakeCounted before now (Err AppendFault) = Rose before now
IsTakeCounted before now _ = now ≡ before
