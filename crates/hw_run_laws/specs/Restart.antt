-- What sessions and meetings do to a node with a log from which it starts again: the statements.
-- Source: ours.
use Rattle.std.specs.Prelude.{◌≡◌, ◌⊎◌, ℕ, ◌<◌, Bool, true, IsTrue, List, [], ◌∷◌, ◌++◌, length, take, map, filter_map, Option, Some, None, Result, Err}
use Rattle.hw_types.specs.declared.unit.Vertex.{Vertex}
use Rattle.hw_types.specs.declared.answers.Frame.{Frame}
use Rattle.hw_types.specs.declared.answers.Frame.TheVariants as frame
use Rattle.hw_types.specs.declared.answers.Plan.{Plan}
use Rattle.hw_types.specs.declared.answers.Receipt.{Receipt}
use Rattle.hw_types.specs.Below.{Among}
use Rattle.hw_types.specs.Journal.{is_accepted}
use Rattle.hw_types.specs.Real.{setting_of, answer_in}
use Rattle.hw_keys.specs.Signed.{verdict_of}
use Rattle.hw_honest.specs.Restart.{Logged, Event, take as arrives, life_of, MayGoOut}
use Rattle.hw_link.specs.declared.end.SessionEnd.{SessionEnd}
use Rattle.hw_link.specs.declared.end.SessionEnd.TheVariants as end
use Rattle.hw_link.specs.Frames.{Placed, frames_of}
use Rattle.hw_link.specs.Talk.{said_bytes, IsPrefixOf}
use Rattle.hw_session.specs.declared.stage.PeerMark.{PeerMark}
use Rattle.hw_session.specs.declared.fault.MakeFault.{MakeFault}
use Rattle.hw_session.specs.declared.fault.AcceptFault.{AcceptFault}
use Rattle.hw_session.specs.declared.fault.AcceptFault.TheVariants as accept_fault
use Rattle.hw_session.specs.Node.{NodeState, IsKept}
use Rattle.hw_session.specs.Make.{planned_by, own_vertex, entry_for, with_vertex, with_entry, IsToMake, Makes, WritesOwn}
use Rattle.hw_session.specs.Accept.{Accepts, WritesAccepted}
use Rattle.hw_session.specs.Restart.{HasLog, logged_of}
use Rattle.hw_session.specs.Serving.{served}
use Rattle.hw_session.specs.Sessions.{Serves}
use Rattle.hw_session.specs.Driving.{driven}
use Rattle.hw_session.specs.Drives.{Drives}
use Rattle.hw_session.specs.Standing.{standing, driver_standing}
use Rattle.hw_meeting.specs.declared.frame.MeetingFrame.{MeetingFrame}
use Rattle.hw_meeting.specs.declared.frame.MeetingFrame.TheVariants as meeting
use Rattle.hw_meeting_node.specs.declared.end.MeetEnd.{MeetEnd}
use Rattle.hw_meeting_node.specs.declared.end.MeetEnd.TheVariants as met_end
use Rattle.hw_meeting_node.specs.declared.meeter.Side.{Side}
use Rattle.hw_meeting_node.specs.Meeting.{met}
use Rattle.hw_meeting_node.specs.Laws.{vertices_sent as sent_to}
use Rattle.hw_service.specs.Talk.{Talker}
use Rattle.hw_service.specs.Meets.{after_meeting, NodeMeets}

-- ---- sessions are lives

-- the vertex of a frame, if it brings one
abbrev pub vertex_in : Frame → Option Vertex
vertex_in (frame.Vertex v) = Some v
vertex_in (frame.Hello instance) = None
vertex_in (frame.Have place) = None
vertex_in (frame.Want needs) = None
vertex_in frame.Done = None
vertex_in (frame.Missing need) = None

-- the vertices of these frames, in order
abbrev pub vertices_among : List Placed → List Vertex
vertices_among frames = filter_map (λ (f : Placed). vertex_in f.frame) frames

-- the vertices that a peer sends by these bytes, in order
abbrev pub vertices_sent : List ℕ → List Vertex
vertices_sent bytes = vertices_among (frames_of bytes).given

-- these vertices reach the node, one after the other, each with the verdict of its keys
abbrev pub arrivals : NodeState → List Vertex → List Event
arrivals n vs = map (λ v. arrives v (verdict_of n.keys v)) vs

-- After these events the node is the other one, as far as journal and log go. Its configuration, its keys and the name
-- of its log stay.
pub record LivesOn (me : ℕ) (n : NodeState) (events : List Event) (m : NodeState) : Type 0 where
  pub config : m.core.config ≡ n.core.config
  pub keys : m.keys ≡ n.keys
  pub name : m.log ≡ n.log
  pub life : logged_of m ≡ life_of (setting_of n.core.config) me (logged_of n) events

-- This many of these vertices, the first ones, reached the node, and nothing else happened to it.
abbrev pub TakesSome : NodeState → List Vertex → NodeState → Type 0
TakesSome n vs m = (count : ℕ) × ((me : ℕ) → LivesOn me n (arrivals n (take count vs)) m)

-- Where a node serves a peer that sends these bytes, the first of their vertices reach it, and nothing else happens to
-- it;
abbrev pub ServedIsALife : Type 0
ServedIsALife = (n : NodeState) (bytes : List ℕ) → TakesSome n (vertices_sent bytes) (served n bytes).state

-- and so it is where the node drives.
abbrev pub DrivenIsALife : Type 0
DrivenIsALife = (n : NodeState) (mark : PeerMark) (bytes : List ℕ) → TakesSome n (vertices_sent bytes) (driven n mark bytes).state.node

-- no append failed, and it wasn't out of memory
abbrev pub IsLogged : SessionEnd → Type 0
IsLogged end.AppendFault = ⊥
IsLogged end.OutOfMemory = ⊥
IsLogged e = Unit {0}

-- So it is of the bytes that were read in a session, where no append failed and it wasn't out of memory.
abbrev pub ServesIsALife : Type 0
ServesIsALife = (n m : NodeState) (read written : List ℕ) (tells : Bool) (held_old held_new : List ℕ → Option (List ℕ)) (ends_old ends_new : ℕ) (e : SessionEnd)
    → Serves tells (standing n held_old) read written (standing m held_new) ends_old ends_new e → IsLogged e → TakesSome n (vertices_sent read) m

-- The same of a session that the node dialled.
abbrev pub DrivesIsALife : Type 0
DrivesIsALife = (n m : NodeState) (mark now : PeerMark) (read written : List ℕ) (tells : Bool) (held_old held_new : List ℕ → Option (List ℕ)) (ends_old ends_new : ℕ) (e : SessionEnd)
    → Drives tells (driver_standing n mark held_old) read written (driver_standing m now held_new) ends_old ends_new e → IsLogged e → TakesSome n (vertices_sent read) m

-- ---- meetings are lives

-- the vertices that another node sends by these bytes to a node that meets it, in order
abbrev pub vertices_told : NodeState → List ℕ → List Vertex
vertices_told n bytes = sent_to (length n.core.config.weights) bytes

-- A node meets another that sends these bytes. The first of their vertices reach it, and nothing else happens to it,
-- whichever dialled.
abbrev pub MetIsALife : Type 0
MetIsALife = (side : Side) (n : NodeState) (bytes : List ℕ) → TakesSome n (vertices_told n bytes) (after_meeting side n bytes)

-- no append failed in a meeting, and it wasn't out of memory
abbrev pub IsMetLogged : MeetEnd → Type 0
IsMetLogged met_end.AppendFault = ⊥
IsMetLogged met_end.OutOfMemory = ⊥
IsMetLogged e = Unit {0}

-- So it is of the bytes that were read in a meeting, where no append failed and it wasn't out of memory.
abbrev pub MeetsIsALife : Type 0
MeetsIsALife = (side : Side) (address : Option (List ℕ)) (tells : Bool) (old new : Talker) (e : MeetEnd) → (m : NodeMeets side address tells old new e) → IsMetLogged e
    → TakesSome old.node (vertices_told old.node m.meets.read) new.node

-- ---- a vertex that is handed over

-- no append failed in an `accept`, and it wasn't out of memory
abbrev pub IsJudged : Result Receipt AcceptFault → Type 0
IsJudged (Err accept_fault.AppendFault) = ⊥
IsJudged (Err accept_fault.OutOfMemory) = ⊥
IsJudged result = Unit {0}

-- A vertex that a host hands over reaches the node, and nothing else happens to it. It is so where no append failed and
-- it wasn't out of memory.
abbrev pub AcceptsIsALife : Type 0
AcceptsIsALife = (n m : NodeState) (v : Vertex) (result : Result Receipt AcceptFault) → Accepts n v m result → IsJudged result → TakesSome n (v ∷ []) m

-- ---- the log

-- Such a session keeps the log of the node's journal, whether the node serves
abbrev pub ServesKeepsLog : Type 0
ServesKeepsLog = (n m : NodeState) (read written : List ℕ) (tells : Bool) (held_old held_new : List ℕ → Option (List ℕ)) (ends_old ends_new : ℕ) (e : SessionEnd)
    → Serves tells (standing n held_old) read written (standing m held_new) ends_old ends_new e → IsLogged e → IsTrue tells → HasLog n (held_old n.log) → HasLog m (held_new m.log)

-- or drives,
abbrev pub DrivesKeepsLog : Type 0
DrivesKeepsLog = (n m : NodeState) (mark now : PeerMark) (read written : List ℕ) (tells : Bool) (held_old held_new : List ℕ → Option (List ℕ)) (ends_old ends_new : ℕ) (e : SessionEnd)
    → Drives tells (driver_standing n mark held_old) read written (driver_standing m now held_new) ends_old ends_new e → IsLogged e → IsTrue tells → HasLog n (held_old n.log) → HasLog m (held_new m.log)

-- and so does such a meeting.
abbrev pub MeetsKeepsLog : Type 0
MeetsKeepsLog = (side : Side) (address : Option (List ℕ)) (tells : Bool) (old new : Talker) (e : MeetEnd) → NodeMeets side address tells old new e → IsMetLogged e → IsTrue tells
    → HasLog old.node (old.files old.node.log) → HasLog new.node (new.files new.node.log)

-- So does an `accept`.
abbrev pub AcceptsKeepsLog : Type 0
AcceptsKeepsLog = (n m : NodeState) (v : Vertex) (result : Result Receipt AcceptFault) (old new : List ℕ → Option (List ℕ)) → Accepts n v m result → WritesAccepted n v m old new result → IsJudged result
    → HasLog n (old n.log) → HasLog m (new m.log)

-- ---- calls that were cut

-- the file holds the node's log, and after it a first part of the entry of this vertex, which the node accepts
pub record HasCutLog (n : NodeState) (v : Vertex) (file : Option (List ℕ)) : Type 0 where
  pub whole : List ℕ
  pub count : ℕ
  pub has : HasLog n (Some whole)
  pub accepted : is_accepted (answer_in n.core v true) ≡ true
  pub holds : file ≡ Some (whole ++ take count (entry_for n v))

-- The node took one vertex more, whose entry may be cut: it is in the journal alone. The first of these vertices
-- reached the node before it, and so they did the one that has that vertex with its whole entry.
pub record WasCut (n : NodeState) (vs : List Vertex) (m : NodeState) (file : Option (List ℕ)) : Type 0 where
  pub before : NodeState
  pub vertex : Vertex
  pub takes : TakesSome n vs before
  pub whole : TakesSome n vs (with_entry before vertex)
  pub unlogged : m ≡ with_vertex before vertex
  pub log : HasCutLog before vertex file

-- the first of these vertices reached the node, and the file holds its log, or was cut
abbrev pub LeavesLog : NodeState → List Vertex → NodeState → Option (List ℕ) → Type 0
LeavesLog n vs m file = (TakesSome n vs m × HasLog m file) ⊎ WasCut n vs m file

-- However a session or a meeting ends, what it leaves in the files is such a log, where the node serves,
abbrev pub ServesLeavesLog : Type 0
ServesLeavesLog = (n m : NodeState) (read written : List ℕ) (tells : Bool) (held_old held_new : List ℕ → Option (List ℕ)) (ends_old ends_new : ℕ) (e : SessionEnd)
    → Serves tells (standing n held_old) read written (standing m held_new) ends_old ends_new e → IsTrue tells → HasLog n (held_old n.log) → LeavesLog n (vertices_sent read) m (held_new m.log)

-- where it drives,
abbrev pub DrivesLeavesLog : Type 0
DrivesLeavesLog = (n m : NodeState) (mark now : PeerMark) (read written : List ℕ) (tells : Bool) (held_old held_new : List ℕ → Option (List ℕ)) (ends_old ends_new : ℕ) (e : SessionEnd)
    → Drives tells (driver_standing n mark held_old) read written (driver_standing m now held_new) ends_old ends_new e → IsTrue tells → HasLog n (held_old n.log) → LeavesLog n (vertices_sent read) m (held_new m.log)

-- where it meets another node,
abbrev pub MeetsLeavesLog : Type 0
MeetsLeavesLog = (side : Side) (address : Option (List ℕ)) (tells : Bool) (old new : Talker) (e : MeetEnd) → (m : NodeMeets side address tells old new e) → IsTrue tells
    → HasLog old.node (old.files old.node.log) → LeavesLog old.node (vertices_told old.node m.meets.read) new.node (new.files new.node.log)

-- where it accepts a vertex that is handed over,
abbrev pub AcceptsLeavesLog : Type 0
AcceptsLeavesLog = (n m : NodeState) (v : Vertex) (result : Result Receipt AcceptFault) (old new : List ℕ → Option (List ℕ)) → Accepts n v m result → WritesAccepted n v m old new result
    → HasLog n (old n.log) → LeavesLog n (v ∷ []) m (new m.log)

-- And so it is, whatever it answers, where it makes a unit. The log is that of the node, or the one of the node before
-- it, cut in the unit's entry.
abbrev pub MakeLeavesLog : Type 0
MakeLeavesLog = (n m : NodeState) (me now : ℕ) (value : List ℕ) (result : Result (Option Plan) MakeFault) (old new : List ℕ → Option (List ℕ)) → IsKept n → me < length n.core.config.weights
    → Makes n (planned_by n me now value) m result → WritesOwn n (planned_by n me now value) m old new result → HasLog n (old n.log)
    → HasLog m (new m.log) ⊎ ((p : Plan) × IsToMake n (planned_by n me now value) p × (m ≡ with_vertex n (own_vertex n p)) × HasCutLog n (own_vertex n p) (new m.log))

-- ---- what goes out

-- each vertex that was said may go out: it is one of the log, or evidence of two units of the log
abbrev pub SaysOfLog : Logged → List (List Frame) → Type 0
SaysOfLog l said = (frames : List Frame) (v : Vertex) → Among frames said → Among (frame.Vertex v) frames → MayGoOut l v

-- What a node says in a session is of what is in its log after it, where the node serves
abbrev pub ServedSaysOfLog : Type 0
ServedSaysOfLog = (n : NodeState) (bytes : List ℕ) → SaysOfLog (logged_of (served n bytes).state) (served n bytes).said

-- and where it drives.
abbrev pub DrivenSaysOfLog : Type 0
DrivenSaysOfLog = (n : NodeState) (mark : PeerMark) (bytes : List ℕ) → SaysOfLog (logged_of (driven n mark bytes).state.node) (driven n mark bytes).said

-- So it is of the bytes that were read in a session, where no append failed and it wasn't out of memory.
abbrev pub ServesSaysOfLog : Type 0
ServesSaysOfLog = (n m : NodeState) (read written : List ℕ) (tells : Bool) (held_old held_new : List ℕ → Option (List ℕ)) (ends_old ends_new : ℕ) (e : SessionEnd)
    → Serves tells (standing n held_old) read written (standing m held_new) ends_old ends_new e → IsLogged e → SaysOfLog (logged_of m) (served n read).said

-- The same of a session that the node dialled.
abbrev pub DrivesSaysOfLog : Type 0
DrivesSaysOfLog = (n m : NodeState) (mark now : PeerMark) (read written : List ℕ) (tells : Bool) (held_old held_new : List ℕ → Option (List ℕ)) (ends_old ends_new : ℕ) (e : SessionEnd)
    → Drives tells (driver_standing n mark held_old) read written (driver_standing m now held_new) ends_old ends_new e → IsLogged e → SaysOfLog (logged_of m) (driven n mark read).said

-- The node is this one, and the file holds its log. Or it took one vertex more, of whose entry a first part is after
-- that log.
abbrev pub StandsWith : NodeState → NodeState → Option (List ℕ) → Type 0
StandsWith logged m file = ((m ≡ logged) × HasLog logged file) ⊎ ((v : Vertex) × (m ≡ with_vertex logged v) × HasCutLog logged v file)

-- What a session wrote is a first part of what is said in it to the first of the bytes that were read. Each vertex of
-- that is of the log of the node that those bytes leave.
pub record WroteOfLog (node : List ℕ → NodeState) (said : List ℕ → List (List Frame)) (read written : List ℕ) : Type 0 where
  pub first : List ℕ
  pub part : List ℕ
  pub split : read ≡ first ++ part
  pub wrote : IsPrefixOf written (said_bytes (said first))
  pub of_log : SaysOfLog (logged_of (node first)) (said first)

-- However a session ends, what it wrote is of the log that is in the file after it, where the node serves,
abbrev pub ServesWritesOfLog : Type 0
ServesWritesOfLog = (n m : NodeState) (read written : List ℕ) (tells : Bool) (held_old held_new : List ℕ → Option (List ℕ)) (ends_old ends_new : ℕ) (e : SessionEnd)
    → Serves tells (standing n held_old) read written (standing m held_new) ends_old ends_new e
    → (w : WroteOfLog (λ bytes. (served n bytes).state) (λ bytes. (served n bytes).said) read written) × (IsTrue tells → HasLog n (held_old n.log) → StandsWith (served n w.first).state m (held_new m.log))

-- and where it drives.
abbrev pub DrivesWritesOfLog : Type 0
DrivesWritesOfLog = (n m : NodeState) (mark now : PeerMark) (read written : List ℕ) (tells : Bool) (held_old held_new : List ℕ → Option (List ℕ)) (ends_old ends_new : ℕ) (e : SessionEnd)
    → Drives tells (driver_standing n mark held_old) read written (driver_standing m now held_new) ends_old ends_new e
    → (w : WroteOfLog (λ bytes. (driven n mark bytes).state.node) (λ bytes. (driven n mark bytes).said) read written) × (IsTrue tells → HasLog n (held_old n.log) → StandsWith (driven n mark w.first).state.node m (held_new m.log))

-- each vertex that was said in a meeting may go out
abbrev pub MetSaysOf : Logged → List MeetingFrame → Type 0
MetSaysOf l said = (v : Vertex) → Among (meeting.Vertex v) said → MayGoOut l v

-- What a node says in a meeting is of what was in its log before it,
abbrev pub MetSaysOfLog : Type 0
MetSaysOfLog = (side : Side) (n : NodeState) (bytes : List ℕ) → MetSaysOf (logged_of n) (met side n.core (verdict_of n.keys) bytes).said

-- and is there after a meeting, however that ended.
abbrev pub MeetsSaysOfLog : Type 0
MeetsSaysOfLog = (side : Side) (address : Option (List ℕ)) (tells : Bool) (old new : Talker) (e : MeetEnd) → (m : NodeMeets side address tells old new e)
    → MetSaysOf (logged_of new.node) (met side old.node.core (verdict_of old.node.keys) m.meets.read).said
