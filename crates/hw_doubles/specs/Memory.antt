-- What the outside in memory tells, and which of its calls are to fail.
use Rattle.std.specs.Prelude.{◌≡◌, ℕ, ◌-◌, ◌^◌, ◌==◌, nat_lt, min, if◌then◌else◌, Bool, true, false, List, [], ◌∷◌, ◌++◌, length, take, Option, Some, None, Result, Err, IfErr}
use Rattle.std.specs.List.{find, list_any}
use Rattle.std.specs.Option.{option_map}
use Rattle.hw_io.specs.declared.outside.IoFault.{IoFault}
use Rattle.hw_io.specs.declared.outside.IoFault.TheVariants.{Failed, OutOfMemory}
use Rattle.hw_io.specs.Faults.{raised, HasCause}
use Rattle.hw_io.specs.Files.{bytes_of}
use Rattle.hw_doubles.specs.Shelves.{held_in, begun_in, unread_in, allowance_of, faults_in}
use Rattle.hw_doubles.specs.declared.memory.Planned.{Planned}
use Rattle.hw_doubles.specs.declared.memory.MemFiles.{MemFiles}
use Rattle.hw_doubles.specs.declared.memory.MemSink.{MemSink}
use Rattle.hw_doubles.specs.declared.plan.Plan.{Plan}
use Rattle.hw_doubles.specs.declared.door.MemDoor.{MemDoor}
use Rattle.hw_io.specs.declared.numbers.DoorNumbers.{DoorNumbers}
use Rattle.hw_doubles.specs.declared.watched.WatchedDoor.{WatchedDoor}
use Rattle.hw_doubles.specs.declared.paced.Hold.{Hold}
use Rattle.hw_doubles.specs.declared.paced.PacedDoor.{PacedDoor}
use Rattle.hw_doubles.specs.declared.consumer.ListConsumer.{ListConsumer}
use Rattle.hw_io.specs.Doors.{Session, Ask, ask_of}
use Rattle.hw_io.specs.Consumers.{Consumed}

-- what files in memory hold
abbrev pub mem_held : MemFiles → List ℕ → Option (List ℕ)
mem_held files = held_in files.shelf.files.items

-- which of them was begun
abbrev pub mem_begun : MemFiles → Option (List ℕ)
mem_begun files = begun_in files.shelf.files.items files.shelf.reading

-- what of it is unread
abbrev pub mem_unread : MemFiles → List ℕ
mem_unread files = unread_in files.shelf.files.items files.shelf.reading

-- how many bytes may still be given of it
abbrev pub mem_allowance : MemFiles → ℕ
mem_allowance files = allowance_of files.shelf.reading

-- how many reads failed
abbrev pub mem_read_faults : MemFiles → ℕ
mem_read_faults files = files.read_faults

-- how many appends failed
abbrev pub mem_append_faults : MemFiles → ℕ
mem_append_faults files = files.append_faults

-- how many of the reads that failed were about the file of a name
abbrev pub mem_faults_about : MemFiles → List ℕ → ℕ
mem_faults_about files = faults_in files.shelf.blamed.items

-- the calls that are to fail
abbrev pub mem_planned : MemFiles → List Planned
mem_planned files = files.planned.items

-- how many calls were made
abbrev pub mem_calls : MemFiles → ℕ
mem_calls files = files.calls

-- no call was made, and no fault counted
pub record SameCounts (old new : MemFiles) : Type 0 where
  pub calls : new.calls ≡ old.calls
  pub read_faults : new.read_faults ≡ old.read_faults
  pub append_faults : new.append_faults ≡ old.append_faults
  pub faults_about : mem_faults_about new ≡ mem_faults_about old

-- a call was made, and the plan stays
pub record CountsCall (old new : MemFiles) : Type 0 where
  pub calls : mem_calls new ≡ raised (mem_calls old)
  pub planned : mem_planned new ≡ mem_planned old

-- the calls of a plan
abbrev pub planned_calls : Plan → List ℕ
planned_calls plan = plan.planned.items

-- how many calls were made under it
abbrev pub calls_made : Plan → ℕ
calls_made plan = plan.calls

-- whether the call of this number is to fail
abbrev pub is_planned : List ℕ → ℕ → Bool
is_planned planned call = list_any (λ c. c == call) planned

-- whether the next call is
abbrev pub fails_next : Plan → Bool
fails_next plan = is_planned plan.planned.items plan.calls

-- the plan after a call: one more is counted
abbrev pub after_call : Plan → Plan
after_call plan = record plan { calls = raised plan.calls }

-- what a sink in memory took
abbrev pub mem_taken : MemSink → Option (List ℕ)
mem_taken sink = Some sink.bytes.items

-- how many writes failed
abbrev pub mem_faults : MemSink → ℕ
mem_faults sink = sink.faults

-- how many of them found no memory
abbrev pub mem_wants : MemSink → ℕ
mem_wants sink = sink.wants

-- the calls of the sink that are to fail
abbrev pub sink_planned : MemSink → List ℕ
sink_planned sink = planned_calls sink.plan

-- how many calls of the sink were made
abbrev pub sink_calls : MemSink → ℕ
sink_calls sink = calls_made sink.plan

-- how much is written by the call of this number, where it is to fail
abbrev pub planned_at : List Planned → ℕ → Option ℕ
planned_at planned call = option_map (λ p. p.written) (find (λ p. p.call == call) planned)

-- the same of the next call
abbrev pub mem_next : MemFiles → Option ℕ
mem_next files = planned_at (mem_planned files) (mem_calls files)

-- an append that failed as planned put so many of the bytes at the end of the file
abbrev pub CutAt : {T : Type 0} → ℕ → Option (List ℕ) → Option (List ℕ) → List ℕ → Result T IoFault → Type 0
CutAt written old new bytes result = IfErr result (λ fault. fault ≡ Failed → new ≡ Some (bytes_of old ++ take written bytes))

-- a call that is planned fails as the outside does
abbrev pub FailsAsPlanned : {T : Type 0} → Bool → Result T IoFault → Type 0
FailsAsPlanned planned result = planned ≡ true → result ≡ Err Failed

-- a call that isn't planned fails for want of memory alone
abbrev pub FailsForMemory : {T : Type 0} → Bool → Result T IoFault → Type 0
FailsForMemory planned result = planned ≡ false → IfErr result (λ fault. fault ≡ OutOfMemory)

-- a failure of the outside is counted
abbrev pub CountsFailure : ℕ → ℕ → Type 0
CountsFailure before now = HasCause {T = ℕ} before now (Err Failed)

-- the sessions of a door in memory
abbrev pub door_sessions : MemDoor → List Session
door_sessions door = door.book.sessions.items

-- whether a session is there
abbrev pub door_is_open : MemDoor → Bool
door_is_open door = door.book.is_open

-- its numbers
abbrev pub door_numbers : MemDoor → DoorNumbers
door_numbers door = door.numbers

-- the calls of the door that are to fail
abbrev pub door_planned : MemDoor → List ℕ
door_planned door = planned_calls door.plan

-- how many calls of the door were made
abbrev pub door_calls : MemDoor → ℕ
door_calls door = calls_made door.plan

-- the most bytes that a read of it gives and a write takes, or 0 where that is one
abbrev pub door_piece : MemDoor → ℕ
door_piece door = door.piece

-- the sessions of a watched door
abbrev pub watched_sessions : WatchedDoor → List Session
watched_sessions door = door_sessions door.door

-- the calls of `read` in the last one, as far as they are kept
abbrev pub watched_asks : WatchedDoor → List Ask
watched_asks door = door.asks.items

-- what the peers of a paced door hold back
abbrev pub paced_holds : PacedDoor → List Hold
paced_holds paced = paced.holds.items

-- the same of a paced door, which keeps it: that of its door goes down where bytes are held back
abbrev pub paced_piece : PacedDoor → ℕ
paced_piece paced = paced.piece

-- how many of the next bytes of a session are held back by none of these, after so many that were read and written; 2 ^ 64 - 1 where nothing is held back
abbrev pub free_behind : List Hold → ℕ → ℕ → ℕ
free_behind [] heard written = 2 ^ 64 - 1
free_behind (hold ∷ rest) heard written = if nat_lt written hold.written then min (free_behind rest heard written) (hold.said - heard) else free_behind rest heard written

-- the same of the last session
abbrev pub free_of : List Hold → Option Ask → ℕ
free_of holds None = 2 ^ 64 - 1
free_of holds (Some ask) = free_behind holds (length ask.heard) (length ask.said)

-- how many of the next bytes a paced door gives, if the peer says them
abbrev pub paced_free : PacedDoor → ℕ
paced_free paced = free_of (paced_holds paced) (ask_of (door_sessions paced.door))

-- what a consumer in memory took
abbrev pub list_consumed : ListConsumer → Consumed
list_consumed consumer = record { pairs = consumer.blocks.items; finishes = consumer.finishes }

-- the calls of the consumer that are to fail
abbrev pub list_planned : ListConsumer → List ℕ
list_planned consumer = planned_calls consumer.plan

-- how many calls of the consumer were made
abbrev pub list_calls : ListConsumer → ℕ
list_calls consumer = calls_made consumer.plan

-- how many of its calls failed
abbrev pub list_faults : ListConsumer → ℕ
list_faults consumer = consumer.faults

-- how many of them found no memory
abbrev pub list_wants : ListConsumer → ℕ
list_wants consumer = consumer.wants
