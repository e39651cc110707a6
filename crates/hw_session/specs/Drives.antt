-- What a session in which a node drives comes to, by the bytes that were read in it.
-- Source: ours.
use Rattle.std.specs.Prelude.{◌≡◌, ◌⊎◌, ℕ, ◌≤◌, Bool, List, [], ◌∷◌, ◌++◌, length, IsTrue, Option, Some, Err}
use Rattle.std.specs.Option.{option_map}
use Rattle.hw_types.specs.declared.unit.Vertex.{Vertex}
use Rattle.hw_types.specs.declared.answers.Frame.TheVariants as frame
use Rattle.hw_io.specs.Doors.{Session}
use Rattle.hw_io.specs.Faults.{raised}
use Rattle.hw_io.specs.Files.{SameFiles}
use Rattle.hw_link.specs.declared.end.SessionEnd.{SessionEnd}
use Rattle.hw_link.specs.declared.end.SessionEnd.TheVariants as end
use Rattle.hw_link.specs.Frames.{byte_limit}
use Rattle.hw_link.specs.Talk.{said_bytes, IsWritten}
use Rattle.hw_link.specs.Links.{after_part, is_link_fault}
use Rattle.hw_link.specs.UnderWay.{HasFrame}
use Rattle.hw_link.specs.Told.{DoorTold}
use Rattle.hw_session.specs.declared.stage.PeerMark.{PeerMark}
use Rattle.hw_session.specs.Node.{NodeState}
use Rattle.hw_session.specs.Make.{with_entry}
use Rattle.hw_session.specs.Grows.{Logs, LogsAllBut}
use Rattle.hw_session.specs.Sessions.{EndsAs, StopsReading, IsAnswered, IsSaidSoFar}
use Rattle.hw_session.specs.Driving.{driven}
use Rattle.hw_session.specs.Standing.{DriverStanding}

-- ---- how it ended

-- The number of ends rose where the peer's bytes ended. A frame that is refused whatever comes after it needs no end.
-- As many bytes were read as may be where that ends the session.
abbrev pub IsDrivenEnd : NodeState → PeerMark → List ℕ → ℕ → ℕ → SessionEnd → Type 0
IsDrivenEnd n mark read before now end.EndOfInput = now ≡ raised before
IsDrivenEnd n mark read before now (end.BadFrame at) = (now ≡ raised before) ⊎ ((more : List ℕ) → length (read ++ more) ≤ byte_limit → (driven n mark (read ++ more)).end ≡ end.BadFrame at)
IsDrivenEnd n mark read before now end.ByteLimit = byte_limit ≤ length read
IsDrivenEnd n mark read before now e = Unit {0}

-- ---- what it left

-- It is as the first of these bytes leave it, and so are its marks and its log. It wrote no more than it says to them.
pub record StandsDriven (tells : Bool) (before : DriverStanding) (read written : List ℕ) (after : DriverStanding) : Type 0 where
  pub first : List ℕ
  pub part : List ℕ
  pub split : read ≡ first ++ part
  pub state : after.node ≡ (driven before.node before.mark first).state.node
  pub mark_is : after.mark ≡ (driven before.node before.mark first).state.mark
  pub logs : Logs before.node after.node tells before.held after.held
  pub wrote : IsSaidSoFar (driven before.node before.mark first).said written

-- The last frame's vertex was accepted, and its entry may be cut. All of these bytes leave the node that has that
-- vertex with its whole entry. The marks are those before that frame, and it wrote what it says to the bytes before it.
pub record StandsDrivenCut (tells : Bool) (before : DriverStanding) (read written : List ℕ) (after : DriverStanding) : Type 0 where
  pub first : List ℕ
  pub part : List ℕ
  pub vertex : Vertex
  pub split : read ≡ first ++ part
  pub has : HasFrame (length first) part (frame.Vertex vertex)
  pub whole : (driven before.node before.mark read).state.node ≡ with_entry (driven before.node before.mark first).state.node vertex
  pub mark_is : after.mark ≡ (driven before.node before.mark first).state.mark
  pub logs : LogsAllBut before.node (driven before.node before.mark first).state.node vertex after.node tells before.held after.held
  pub wrote : written ≡ said_bytes (driven before.node before.mark first).said

-- The node is as the bytes leave it, and so is its log. Where an append failed the last entry may be cut. Out of memory
-- the node may be as it was before the last bytes. Then what it wrote says how it, its marks and its log are.
abbrev pub LeavesDriven : SessionEnd → Bool → DriverStanding → List ℕ → List ℕ → DriverStanding → Type 0
LeavesDriven end.AppendFault tells before read written after = StandsDrivenCut tells before read written after
LeavesDriven end.OutOfMemory tells before read written after = StandsDriven tells before read written after ⊎ StandsDrivenCut tells before read written after
LeavesDriven e tells before read written after = (after.node ≡ (driven before.node before.mark read).state.node) × Logs before.node after.node tells before.held after.held

-- The marks are those that the bytes leave. Out of memory, `LeavesDriven` says what they are.
abbrev pub LeavesMark : SessionEnd → NodeState → PeerMark → List ℕ → PeerMark → Type 0
LeavesMark end.OutOfMemory n mark read now = Unit {0}
LeavesMark e n mark read now = now ≡ (driven n mark read).state.mark

-- ---- one session

-- A node drove a peer that sent these bytes: how that ended, what was written, what it left of the node, and its marks.
pub record Drives (tells : Bool) (before : DriverStanding) (read written : List ℕ) (after : DriverStanding) (ends_old ends_new : ℕ) (e : SessionEnd) : Type 0 where
  pub within : length read ≤ byte_limit
  pub ended : EndsAs e (driven before.node before.mark read).end
  pub end_counted : IsDrivenEnd before.node before.mark read ends_old ends_new e
  pub no_further : StopsReading e (λ (bytes : List ℕ). (driven before.node before.mark bytes).end) read
  pub wrote : IsWritten e (driven before.node before.mark read).said written
  pub answered : IsAnswered e (driven before.node before.mark read).said written
  pub left : LeavesDriven e tells before read written after
  pub marks : LeavesMark e before.node before.mark read after.mark

-- A node drove the peer of the session that is there.
pub record DrivesThere (tells : Bool) (before after : DriverStanding) (old new : DoorTold) (e : SessionEnd) : Type 0 where
  pub read : List ℕ
  pub written : List ℕ
  pub drives : Drives tells before read written after old.ends new.ends e
  pub told : new.sessions ≡ after_part read written (is_link_fault {T = Unit {0}} (Err e)) old.sessions

-- A session with the peer of this address in which these bytes were read and those written. A call failed in it where
-- it ended by that.
abbrev pub dialled : List ℕ → List ℕ → List ℕ → SessionEnd → Session
dialled address read written e = record { address = Some address; read = read; written = written; failed = is_link_fault {T = Unit {0}} (Err e) }

-- A node drove the peer of this address, in a session that the door reports after the others.
pub record DrivesPeer (tells : Bool) (address : List ℕ) (before after : DriverStanding) (old new : DoorTold) (e : SessionEnd) : Type 0 where
  pub read : List ℕ
  pub written : List ℕ
  pub drives : Drives tells before read written after old.ends new.ends e
  pub told : new.sessions ≡ option_map (λ (sessions : List Session). sessions ++ dialled address read written e ∷ []) old.sessions

-- it was out of memory before it dialled, and nothing was done
pub record DrivesNone (tells : Bool) (before after : DriverStanding) (old new : Option (List Session)) (e : SessionEnd) : Type 0 where
  pub ended : e ≡ end.OutOfMemory
  pub state : after.node ≡ before.node
  pub mark_is : after.mark ≡ before.mark
  pub files : IsTrue tells → SameFiles before.held after.held
  pub told : new ≡ old
