-- What a session in which a node serves comes to, by the bytes that were read in it.
-- Source: ours.
use Rattle.std.specs.Prelude.{◌≡◌, ◌≢◌, ◌⊎◌, ℕ, ◌≤◌, Bool, List, [], ◌∷◌, ◌++◌, length, IsTrue, Option, None, Err}
use Rattle.std.specs.Option.{option_map}
use Rattle.hw_types.specs.declared.unit.Vertex.{Vertex}
use Rattle.hw_types.specs.declared.answers.Frame.{Frame}
use Rattle.hw_types.specs.declared.answers.Frame.TheVariants as frame
use Rattle.hw_io.specs.Doors.{Session}
use Rattle.hw_io.specs.Faults.{raised}
use Rattle.hw_io.specs.Files.{SameFiles}
use Rattle.hw_link.specs.declared.end.SessionEnd.{SessionEnd}
use Rattle.hw_link.specs.declared.end.SessionEnd.TheVariants as end
use Rattle.hw_link.specs.Frames.{byte_limit}
use Rattle.hw_link.specs.Talk.{said_bytes, before_last, IsPrefixOf, IsWritten}
use Rattle.hw_link.specs.Links.{after_part, is_link_fault}
use Rattle.hw_link.specs.UnderWay.{HasFrame}
use Rattle.hw_link.specs.Told.{DoorTold}
use Rattle.hw_session.specs.Node.{NodeState}
use Rattle.hw_session.specs.Make.{with_entry}
use Rattle.hw_session.specs.Grows.{Logs, LogsAllBut}
use Rattle.hw_session.specs.Serving.{served}
use Rattle.hw_session.specs.Standing.{Standing}

-- ---- how it ended

-- the outside failed, or memory ran out
abbrev pub IsOfOutside : SessionEnd → Type 0
IsOfOutside end.LinkFault = Unit {0}
IsOfOutside end.AppendFault = Unit {0}
IsOfOutside end.OutOfMemory = Unit {0}
IsOfOutside e = ⊥

-- it ended as the bytes say, or the outside ended it
abbrev pub EndsAs : SessionEnd → SessionEnd → Type 0
EndsAs e said = (e ≡ said) ⊎ IsOfOutside e

-- The number of ends rose where the peer's bytes ended. A frame that is refused whatever comes after it needs no end.
-- As many bytes were read as may be where that ends the session.
abbrev pub IsEndOf : NodeState → List ℕ → ℕ → ℕ → SessionEnd → Type 0
IsEndOf n read before now end.EndOfInput = now ≡ raised before
IsEndOf n read before now (end.BadFrame at) = (now ≡ raised before) ⊎ ((more : List ℕ) → length (read ++ more) ≤ byte_limit → (served n (read ++ more)).end ≡ end.BadFrame at)
IsEndOf n read before now end.ByteLimit = byte_limit ≤ length read
IsEndOf n read before now e = Unit {0}

-- how a session ends whose bytes end before a frame or inside it, or spell none
abbrev pub IsCutEnd : SessionEnd → Type 0
IsCutEnd end.EndOfInput = Unit {0}
IsCutEnd (end.BadFrame at) = Unit {0}
IsCutEnd end.ByteLimit = Unit {0}
IsCutEnd e = ⊥

-- No byte was read past a frame that ends the session. Where fewer are read, it ends as one that is cut. It doesn't end
-- by Done, by a Hello of another instance or by a clash.
abbrev pub IsReadNoFurther : (List ℕ → SessionEnd) → List ℕ → Type 0
IsReadNoFurther ends read = (first part : List ℕ) → read ≡ first ++ part → part ≢ [] → IsCutEnd (ends first)

-- So it is of each session but one that ran out of memory, which may end inside whatever frame is there.
abbrev pub StopsReading : SessionEnd → (List ℕ → SessionEnd) → List ℕ → Type 0
StopsReading end.OutOfMemory ends read = Unit {0}
StopsReading e ends read = IsReadNoFurther ends read

-- Each frame but the last was answered whole before the next was read. Out of memory, `Leaves` says it of the frames
-- that were handled.
abbrev pub IsAnswered : SessionEnd → List (List Frame) → List ℕ → Type 0
IsAnswered end.OutOfMemory said written = Unit {0}
IsAnswered e said written = length (said_bytes (before_last said)) ≤ length written

-- It is a first part of what was said, and each answer but the last is whole in it.
abbrev pub IsSaidSoFar : List (List Frame) → List ℕ → Type 0
IsSaidSoFar said written = IsPrefixOf written (said_bytes said) × (length (said_bytes (before_last said)) ≤ length written)

-- ---- what it left

-- It is as the first of these bytes leave it, and so is its log. It wrote no more than it says to them.
pub record StandsBefore (tells : Bool) (before : Standing) (read written : List ℕ) (after : Standing) : Type 0 where
  pub first : List ℕ
  pub part : List ℕ
  pub split : read ≡ first ++ part
  pub state : after.node ≡ (served before.node first).state
  pub logs : Logs before.node after.node tells before.held after.held
  pub wrote : IsSaidSoFar (served before.node first).said written

-- The last frame's vertex was accepted, and its entry may be cut. All of these bytes leave the node that has that
-- vertex with its whole entry. It wrote what it says to the bytes before that frame, and nothing after it.
pub record StandsCut (tells : Bool) (before : Standing) (read written : List ℕ) (after : Standing) : Type 0 where
  pub first : List ℕ
  pub part : List ℕ
  pub vertex : Vertex
  pub split : read ≡ first ++ part
  pub has : HasFrame (length first) part (frame.Vertex vertex)
  pub whole : (served before.node read).state ≡ with_entry (served before.node first).state vertex
  pub logs : LogsAllBut before.node (served before.node first).state vertex after.node tells before.held after.held
  pub wrote : written ≡ said_bytes (served before.node first).said

-- The node is as the bytes leave it, and so is its log. Where an append failed the last entry may be cut. Out of memory
-- the node may be as it was before the last bytes. Then what it wrote says how it and its log are.
abbrev pub Leaves : SessionEnd → Bool → Standing → List ℕ → List ℕ → Standing → Type 0
Leaves end.AppendFault tells before read written after = StandsCut tells before read written after
Leaves end.OutOfMemory tells before read written after = StandsBefore tells before read written after ⊎ StandsCut tells before read written after
Leaves e tells before read written after = (after.node ≡ (served before.node read).state) × Logs before.node after.node tells before.held after.held

-- ---- one session

-- A node served a peer that sent these bytes: how the session ended, what was written, and what it left of the node.
pub record Serves (tells : Bool) (before : Standing) (read written : List ℕ) (after : Standing) (ends_old ends_new : ℕ) (e : SessionEnd) : Type 0 where
  pub within : length read ≤ byte_limit
  pub ended : EndsAs e (served before.node read).end
  pub end_counted : IsEndOf before.node read ends_old ends_new e
  pub no_further : StopsReading e (λ (bytes : List ℕ). (served before.node bytes).end) read
  pub wrote : IsWritten e (served before.node read).said written
  pub answered : IsAnswered e (served before.node read).said written
  pub left : Leaves e tells before read written after

-- A node served the peer of the session that is there.
pub record ServesThere (tells : Bool) (before after : Standing) (old new : DoorTold) (e : SessionEnd) : Type 0 where
  pub read : List ℕ
  pub written : List ℕ
  pub serves : Serves tells before read written after old.ends new.ends e
  pub told : new.sessions ≡ after_part read written (is_link_fault {T = Unit {0}} (Err e)) old.sessions

-- A session in which these bytes were read and those written. A call failed in it where it ended by that.
abbrev pub session_of : List ℕ → List ℕ → SessionEnd → Session
session_of read written e = record { address = None; read = read; written = written; failed = is_link_fault {T = Unit {0}} (Err e) }

-- A node served a peer, in a session that the door reports after the others.
pub record ServesPeer (tells : Bool) (before after : Standing) (old new : DoorTold) (e : SessionEnd) : Type 0 where
  pub read : List ℕ
  pub written : List ℕ
  pub serves : Serves tells before read written after old.ends new.ends e
  pub told : new.sessions ≡ option_map (λ (sessions : List Session). sessions ++ session_of read written e ∷ []) old.sessions

-- it was out of memory before it took a peer, and nothing was done
pub record ServesNone (tells : Bool) (before after : Standing) (old new : Option (List Session)) (e : SessionEnd) : Type 0 where
  pub ended : e ≡ end.OutOfMemory
  pub state : after.node ≡ before.node
  pub files : IsTrue tells → SameFiles before.held after.held
  pub told : new ≡ old
