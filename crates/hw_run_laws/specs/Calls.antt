-- A node with a log through its calls, its stops and its starts: the statements.
-- Source: ours.
use Rattle.std.specs.Prelude.{◌≡◌, ◌⊎◌, ℕ, ◌<◌, true, List, [], ◌∷◌, length, Option, Some, Result, Ok, Err}
use Rattle.hw_types.specs.declared.unit.SignedUnit.{SignedUnit}
use Rattle.hw_types.specs.declared.unit.Vertex.{Vertex}
use Rattle.hw_types.specs.declared.unit.WireUnit.{WireUnit}
use Rattle.hw_types.specs.declared.answers.Frame.{Frame}
use Rattle.hw_types.specs.declared.answers.Frame.TheVariants as frame
use Rattle.hw_types.specs.declared.answers.Plan.{Plan}
use Rattle.hw_types.specs.declared.answers.Receipt.{Receipt}
use Rattle.hw_types.specs.Below.{Among}
use Rattle.hw_types.specs.Culprits.{signed_in}
use Rattle.hw_types.specs.Real.{setting_of}
use Rattle.hw_types.specs.Spelling.{VertexFits}
use Rattle.hw_io.specs.Files.{bytes_of}
use Rattle.hw_codec.specs.Ranges.{VertexInRange}
use Rattle.hw_keys.specs.Signed.{verdict_of}
use Rattle.hw_honest.specs.OneLine.{OneLine}
use Rattle.hw_honest.specs.Restart.{AreFair, MayGoOut}
use Rattle.hw_link.specs.declared.end.SessionEnd.{SessionEnd}
use Rattle.hw_log.specs.declared.rewritten.Rewritten.{Rewritten}
use Rattle.hw_log.specs.Rewritten.{mended_of}
use Rattle.hw_session.specs.declared.stage.PeerMark.{PeerMark}
use Rattle.hw_session.specs.declared.fault.MakeFault.{MakeFault}
use Rattle.hw_session.specs.declared.fault.MakeFault.TheVariants as fault
use Rattle.hw_session.specs.declared.fault.AcceptFault.{AcceptFault}
use Rattle.hw_session.specs.Node.{NodeState, IsSound}
use Rattle.hw_session.specs.Make.{planned_by, with_entry, Makes, WritesOwn}
use Rattle.hw_session.specs.Accept.{Accepts, WritesAccepted}
use Rattle.hw_session.specs.Restart.{HasLog, logged_of}
use Rattle.hw_session.specs.Serving.{served}
use Rattle.hw_session.specs.Sessions.{Serves}
use Rattle.hw_session.specs.Driving.{driven}
use Rattle.hw_session.specs.Drives.{Drives}
use Rattle.hw_session.specs.Start.{GoesOn}
use Rattle.hw_session.specs.Standing.{Standing, driver_standing}
use Rattle.hw_meeting.specs.declared.frame.MeetingFrame.TheVariants as meeting
use Rattle.hw_meeting_node.specs.declared.end.MeetEnd.{MeetEnd}
use Rattle.hw_meeting_node.specs.declared.meeter.Side.{Side}
use Rattle.hw_meeting_node.specs.Meeting.{met}
use Rattle.hw_service.specs.Scene.{DoorSeen}
use Rattle.hw_service.specs.Talk.{Talker}
use Rattle.hw_service.specs.Meets.{vertices_of, NodeMeets}
use Rattle.hw_run_laws.specs.Restart.{arrivals, IsLogged, IsMetLogged, IsJudged, HasCutLog}
use Rattle.hw_run_laws.specs.Taken.{taken_served, taken_driven}

-- ---- calls

-- The node serves a peer that sends these bytes. No vertex that it takes, and that it accepts in its turn, brings a new
-- unit by the validator.
abbrev pub IsFairServed : ℕ → NodeState → List ℕ → Type 0
IsFairServed me n read = AreFair (setting_of n.core.config) me (logged_of n) (arrivals n (taken_served n read))

-- The same of the vertices that it takes where it drives one,
abbrev pub IsFairDriven : ℕ → NodeState → PeerMark → List ℕ → Type 0
IsFairDriven me n mark read = AreFair (setting_of n.core.config) me (logged_of n) (arrivals n (taken_driven n mark read))

-- and in a meeting with another node that sends these bytes.
abbrev pub IsFairMet : ℕ → Side → NodeState → List ℕ → Type 0
IsFairMet me side n read = AreFair (setting_of n.core.config) me (logged_of n) (arrivals n (vertices_of side n read))

-- The same of a vertex that a host hands over.
abbrev pub IsFairVertex : ℕ → NodeState → Vertex → Type 0
IsFairVertex me n v = AreFair (setting_of n.core.config) me (logged_of n) (arrivals n (v ∷ []))

-- a node with its files, whose door reports this
abbrev pub at_door : Standing → DoorSeen → Talker
at_door a door = record { node = a.node; files = a.held; door = door }

-- What a node does over files that report what they hold, however it ends. It is the validator's `make`, an `accept` of
-- a fair vertex, or a session that it serves or drives with a fair peer. Or it is a meeting with one, which it hosts or
-- dials.
pub data Attempt (me : ℕ) (a b : Standing) : Type 0 where
  makes : (now : ℕ) (value : List ℕ) (result : Result (Option Plan) MakeFault) → Makes a.node (planned_by a.node me now value) b.node result → WritesOwn a.node (planned_by a.node me now value) b.node a.held b.held result → Attempt me a b
  accepts : (v : Vertex) (result : Result Receipt AcceptFault) → Accepts a.node v b.node result → WritesAccepted a.node v b.node a.held b.held result → IsFairVertex me a.node v → Attempt me a b
  serves : (read written : List ℕ) (ends_old ends_new : ℕ) (e : SessionEnd) → Serves true a read written b ends_old ends_new e → IsFairServed me a.node read → Attempt me a b
  drives : (mark now : PeerMark) (read written : List ℕ) (ends_old ends_new : ℕ) (e : SessionEnd) → Drives true (driver_standing a.node mark a.held) read written (driver_standing b.node now b.held) ends_old ends_new e → IsFairDriven me a.node mark read → Attempt me a b
  meets : (side : Side) (address : Option (List ℕ)) (from to : DoorSeen) (e : MeetEnd) → (does : NodeMeets side address true (at_door a from) (at_door b to) e) → IsFairMet me side a.node does.meets.read → Attempt me a b

-- no append failed in a `make`, and it wasn't out of memory
abbrev pub IsMade : Result (Option Plan) MakeFault → Type 0
IsMade (Err fault.AppendFault) = ⊥
IsMade (Err fault.OutOfMemory) = ⊥
IsMade result = Unit {0}

-- so it is of what the node did
abbrev pub IsWhole : {me : ℕ} {a b : Standing} → Attempt me a b → Type 0
IsWhole (makes now value result does wrote) = IsMade result
IsWhole (accepts v result does wrote fair) = IsJudged result
IsWhole (serves read written ends_old ends_new e does fair) = IsLogged e
IsWhole (drives mark now read written ends_old ends_new e does fair) = IsLogged e
IsWhole (meets side address from to e does fair) = IsMetLogged e

-- The node is given up and started again, with its configuration and keys: from its log, or from what that is mended
-- to.
pub record StartsAgain (a b : Standing) : Type 0 where
  pub bytes : List ℕ
  pub from : (a.held a.node.log ≡ Some bytes) ⊎ ((mended : Rewritten) × (mended_of (bytes_of (a.held a.node.log)) ≡ Ok mended) × (bytes ≡ mended.bytes))
  pub there : b.held b.node.log ≡ Some bytes
  pub on : GoesOn a.node.core.config a.node.keys b.node.log bytes b.node

-- One call after which there is a node.
pub data Call (me : ℕ) (a b : Standing) : Type 0 where
  -- no append failed, it wasn't out of memory, and the node goes on
  goes_on : (attempt : Attempt me a b) → IsWhole attempt → Call me a b
  -- the node stops, and starts again
  starts : StartsAgain a b → Call me a b
  -- however it ended, the node is given up, and starts again
  gives_up : (c : Standing) → Attempt me a c → IsSound c.node → StartsAgain c b → Call me a b

-- one call after the other, from the first node with its files through the others
abbrev pub AreCalls : ℕ → Standing → List Standing → Type 0
AreCalls me a [] = Unit {0}
AreCalls me a (b ∷ more) = Call me a b × IsSound b.node × AreCalls me b more

-- ---- one line

-- the node's own units are on one line, and its log is that of its journal
pub record IsReady (me : ℕ) (a : Standing) : Type 0 where
  pub line : OneLine (setting_of a.node.core.config) a.node.core.journal me
  pub log : HasLog a.node (a.held a.node.log)

-- A node that begins so is so after each call and each start,
abbrev pub CallsKeepOneLine : Type 0
CallsKeepOneLine = (me : ℕ) (a : Standing) (more : List Standing) → me < length a.node.core.config.weights → IsSound a.node → IsReady me a → AreCalls me a more
    → (b : Standing) → Among b more → IsReady me b

-- and where it is given up its own units are on one line too. The last of them may be in its journal alone.
abbrev pub AttemptsKeepOneLine : Type 0
AttemptsKeepOneLine = (me : ℕ) (a b : Standing) → me < length a.node.core.config.weights → IsSound a.node → IsReady me a → Attempt me a b
    → OneLine (setting_of b.node.core.config) b.node.core.journal me

-- ---- what goes out

-- the vertex is in a frame that the node says in it
abbrev pub IsSaid : {me : ℕ} {a b : Standing} → Attempt me a b → Vertex → Type 0
IsSaid (makes now value result does wrote) v = ⊥
IsSaid (accepts w result does wrote fair) v = ⊥
IsSaid {me} {a} {b} (serves read written ends_old ends_new e does fair) v = (frames : List Frame) × Among frames (served a.node read).said × Among (frame.Vertex v) frames
IsSaid {me} {a} {b} (drives mark now read written ends_old ends_new e does fair) v = (frames : List Frame) × Among frames (driven a.node mark read).said × Among (frame.Vertex v) frames
IsSaid {me} {a} {b} (meets side address from to e does fair) v = Among (meeting.Vertex v) (met side a.node.core (verdict_of a.node.keys) does.meets.read).said

-- the unit could go out of the node's log, inside evidence or not
abbrev pub CouldGoOut : NodeState → WireUnit → Type 0
CouldGoOut n u = (v : Vertex) × MayGoOut (logged_of n) v × (x : SignedUnit) × Among x (signed_in v) × (x.unit ≡ u)

-- What it says, however that ends, has no unit of its own that couldn't go out of its log before.
abbrev pub AttemptsSayNoNew : Type 0
AttemptsSayNoNew = (me : ℕ) (a b : Standing) → me < length a.node.core.config.weights → IsSound a.node → IsReady me a → (attempt : Attempt me a b)
    → (v : Vertex) → IsSaid attempt v → (x : SignedUnit) → Among x (signed_in v) → x.unit.creator ≡ me → CouldGoOut a.node x.unit

-- the vertex was in the node's log at one of these, or could go out of it there
abbrev pub WentOut : List Standing → Vertex → Type 0
WentOut all v = (b : Standing) × Among b all × MayGoOut (logged_of b.node) v

-- No two different units by it of one number were ever in its log or went out, inside evidence or not.
abbrev pub CallsKeepApart : Type 0
CallsKeepApart = (me : ℕ) (a : Standing) (more : List Standing) → me < length a.node.core.config.weights → IsSound a.node → IsReady me a → AreCalls me a more
    → (v w : Vertex) → WentOut (a ∷ more) v → WentOut (a ∷ more) w
    → (x y : SignedUnit) → Among x (signed_in v) → Among y (signed_in w) → x.unit.creator ≡ me → y.unit.creator ≡ me → x.unit.seq ≡ y.unit.seq → x.unit ≡ y.unit

-- ---- a log that was cut

-- the file mended is the node's log
pub record MendsTo (n : NodeState) (file : Option (List ℕ)) : Type 0 where
  pub mended : Rewritten
  pub is : mended_of (bytes_of file) ≡ Ok mended
  pub log : HasLog n (Some mended.bytes)

-- A log that was cut in the entry after it, mended, is the node's log. Where all of that entry is there, it is the log
-- of the node with its vertex.
abbrev pub CutLogIsMended : Type 0
CutLogIsMended = (n : NodeState) (v : Vertex) (file : Option (List ℕ)) → IsSound n → HasCutLog n v file → VertexInRange v → VertexFits v → MendsTo n file ⊎ MendsTo (with_entry n v) file
