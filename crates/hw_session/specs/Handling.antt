-- What a node did at a frame.
-- Source: ours.
use Rattle.std.specs.Prelude.{◌≡◌, ◌⊎◌, ℕ, ◌+◌, ◌≤◌, Bool, true, false, IsTrue, List, [], ◌∷◌, ◌++◌, length, Option, Some, None, Result, Ok, Err, IfOk}
use Rattle.hw_types.specs.declared.unit.Digest.{Digest}
use Rattle.hw_types.specs.declared.unit.Vertex.{Vertex}
use Rattle.hw_types.specs.declared.answers.Frame.{Frame}
use Rattle.hw_types.specs.declared.answers.Frame.TheVariants as frame
use Rattle.hw_types.specs.declared.answers.Receipt.{Receipt}
use Rattle.hw_types.specs.declared.answers.Receipt.TheVariants as receipt
use Rattle.hw_types.specs.declared.answers.Cause.{Cause}
use Rattle.hw_types.specs.Graph.{digest_eq}
use Rattle.hw_types.specs.Spelling.{instance_of}
use Rattle.hw_io.specs.Doors.{Session}
use Rattle.hw_io.specs.Faults.{Rose}
use Rattle.hw_io.specs.Files.{SameFiles}
use Rattle.hw_link.specs.declared.end.SessionEnd.{SessionEnd}
use Rattle.hw_link.specs.declared.end.SessionEnd.TheVariants as end
use Rattle.hw_link.specs.declared.read.Heard.{Heard}
use Rattle.hw_link.specs.Frames.{sent_bytes, byte_limit}
use Rattle.hw_link.specs.Talk.{Reaction, IsPrefixOf}
use Rattle.hw_link.specs.Links.{after_part, IsLinkCounted}
use Rattle.hw_link.specs.UnderWay.{HasFrame}
use Rattle.hw_link.specs.Heard.{Hears, IsHeard}
use Rattle.hw_link.specs.Told.{DoorTold}
use Rattle.hw_session.specs.declared.fault.AcceptFault.{AcceptFault}
use Rattle.hw_session.specs.declared.fault.AcceptFault.TheVariants as fault
use Rattle.hw_session.specs.Node.{NodeState}
use Rattle.hw_session.specs.Make.{with_entry}
use Rattle.hw_session.specs.Accept.{Accepts, WritesAccepted}
use Rattle.hw_session.specs.Grows.{Logs, LogsAllBut}
use Rattle.hw_session.specs.Serving.{is_clash, serve_step}
use Rattle.hw_session.specs.Standing.{Standing}

-- ---- what it did by a reaction

-- it is what the reaction leaves, with its log, and sent this
pub record Took (tells : Bool) (before : Standing) (r : Reaction NodeState) (sent : List ℕ) (failed : Bool) (after : Standing) (old new : Option (List Session)) : Type 0 where
  pub state : after.node ≡ r.state
  pub logs : Logs before.node after.node tells before.held after.held
  pub told : new ≡ after_part [] sent failed old

-- it did nothing
pub record Stayed (tells : Bool) (before after : Standing) (old new : Option (List Session)) : Type 0 where
  pub state : after.node ≡ before.node
  pub files : IsTrue tells → SameFiles before.held after.held
  pub told : new ≡ old

-- It accepted the frame's vertex, whose entry may be cut, and sent nothing. With all of the entry it would be what the
-- reaction leaves.
pub record WasCut (tells : Bool) (before : Standing) (f : Frame) (r : Reaction NodeState) (after : Standing) (old new : Option (List Session)) : Type 0 where
  pub vertex : Vertex
  pub frame_is : f ≡ frame.Vertex vertex
  pub whole : r.state ≡ with_entry before.node vertex
  pub logs : LogsAllBut before.node before.node vertex after.node tells before.held after.held
  pub told : new ≡ old

-- It did what the reaction says, and sent all of the answer. Or a fault of the link cut that short, or memory ran out.
abbrev pub Reacts : {T : Type 0} → Bool → Standing → Frame → Reaction NodeState → Standing → Option (List Session) → Option (List Session) → Result T SessionEnd → Type 0
Reacts tells before f r after old new (Ok x) = (r.end ≡ None) × Took tells before r (sent_bytes r.says) false after old new
Reacts tells before f r after old new (Err end.LinkFault) = (part : List ℕ) × IsPrefixOf part (sent_bytes r.says) × Took tells before r part true after old new
Reacts tells before f r after old new (Err end.AppendFault) = WasCut tells before f r after old new
Reacts tells before f r after old new (Err end.OutOfMemory) =
    Stayed tells before after old new
    ⊎ ((part : List ℕ) × IsPrefixOf part (sent_bytes r.says) × Took tells before r part false after old new)
    ⊎ WasCut tells before f r after old new
Reacts tells before f r after old new (Err e) = (r.end ≡ Some e) × Took tells before r (sent_bytes r.says) false after old new

-- The same of a reaction that leaves the node as it is: what was sent, and how that ended.
abbrev pub Answers : {T : Type 0} → Reaction NodeState → Option (List Session) → Option (List Session) → Result T SessionEnd → Type 0
Answers r old new (Ok x) = (r.end ≡ None) × (new ≡ after_part [] (sent_bytes r.says) false old)
Answers r old new (Err end.LinkFault) = (part : List ℕ) × IsPrefixOf part (sent_bytes r.says) × (new ≡ after_part [] part true old)
Answers r old new (Err end.AppendFault) = ⊥
Answers r old new (Err end.OutOfMemory) = (part : List ℕ) × IsPrefixOf part (sent_bytes r.says) × (new ≡ after_part [] part false old)
Answers r old new (Err e) = (r.end ≡ Some e) × (new ≡ after_part [] (sent_bytes r.says) false old)

-- ---- what it did alike, whether it serves or drives

-- the peer is of another instance, or memory ran out
abbrev pub IsOfOther : NodeState → Digest → SessionEnd → Type 0
IsOfOther n peers end.WrongInstance = digest_eq peers (instance_of n.core.config) ≡ false
IsOfOther n peers end.OutOfMemory = Unit {0}
IsOfOther n peers e = ⊥

-- this was its answer to the vertex, and the log shows it
pub record Takes (n : NodeState) (v : Vertex) (m : NodeState) (tells : Bool) (held_old held_new : List ℕ → Option (List ℕ)) (answer : Result Receipt AcceptFault) : Type 0 where
  pub accepts : Accepts n v m answer
  pub writes : IsTrue tells → WritesAccepted n v m held_old held_new answer

-- A session goes on with the receipt of an accepted vertex, and with none where it was refused. A clash ends it, and so
-- does a fault of the log.
abbrev pub Receives : NodeState → Vertex → NodeState → Bool → (List ℕ → Option (List ℕ)) → (List ℕ → Option (List ℕ)) → Result (Option Receipt) SessionEnd → Type 0
Receives n v m tells held_old held_new (Ok (Some r)) = Takes n v m tells held_old held_new (Ok r)
Receives n v m tells held_old held_new (Ok None) = (c : Cause) × (is_clash c ≡ false) × Takes n v m tells held_old held_new (Err (fault.Refused c))
Receives n v m tells held_old held_new (Err end.Clash) = (c : Cause) × (is_clash c ≡ true) × Takes n v m tells held_old held_new (Err (fault.Refused c))
Receives n v m tells held_old held_new (Err end.AppendFault) = Takes n v m tells held_old held_new (Err fault.AppendFault)
Receives n v m tells held_old held_new (Err end.OutOfMemory) = Takes n v m tells held_old held_new (Err fault.OutOfMemory)
Receives n v m tells held_old held_new (Err e) = ⊥

-- ---- frames

-- the instance of a Hello
abbrev pub hello_of : Frame → Option Digest
hello_of (frame.Hello instance) = Some instance
hello_of f = None

-- a vertex of which more is wanted is the journal's last one
abbrev pub StandsLast : Receipt → Vertex → List Vertex → Type 0
StandsLast (receipt.Parked count) v journal = (before : List Vertex) × (journal ≡ before ++ v ∷ [])
StandsLast r v journal = Unit {0}

-- ---- what it did at a place of the session

-- there was no frame
pub record Quits {T : Type 0} (tells : Bool) (before : Standing) (place : ℕ) (after : Standing) (old new : DoorTold) (result : Result T SessionEnd) : Type 0 where
  pub how : SessionEnd
  pub is : result ≡ Err how
  pub state : after.node ≡ before.node
  pub files : IsTrue tells → SameFiles before.held after.held
  pub heard : Hears {T = Heard} IsHeard place [] old.sessions new.sessions old.ends new.ends (Err how)

-- there was a frame, and it reacted as a node that serves
pub record Handles (tells : Bool) (before : Standing) (place : ℕ) (after : Standing) (old new : DoorTold) (result : Result ℕ SessionEnd) : Type 0 where
  pub part : List ℕ
  pub frame : Frame
  pub has : HasFrame place part frame
  pub within : place + length part ≤ byte_limit
  pub ends : new.ends ≡ old.ends
  pub next : IfOk result (λ next. next ≡ place + length part)
  pub reacts : Reacts tells before frame (serve_step before.node (record { at = place; frame = frame })) after (after_part part [] false old.sessions) new.sessions result

-- ---- causes

-- a failed append raises the append count, and nothing else changes it
abbrev pub IsLogCounted : {T : Type 0} → ℕ → ℕ → Result T SessionEnd → Type 0
IsLogCounted before now (Err end.AppendFault) = Rose before now
IsLogCounted before now _ = now ≡ before

-- the same of a session that ended so
abbrev pub IsLogEnd : ℕ → ℕ → SessionEnd → Type 0
IsLogEnd before now e = IsLogCounted {T = Unit {0}} before now (Err e)

-- a failed call of the door raises its count, and nothing else changes it
abbrev pub IsLinkEnd : ℕ → ℕ → SessionEnd → Type 0
IsLinkEnd before now e = IsLinkCounted {T = Unit {0}} before now (Err e)
