-- What a taker takes in a meeting.
-- Source: ours.
use Rattle.std.specs.Prelude.{◌≡◌, ◌⊎◌, ℕ, Bool, List, [], ◌∷◌, ◌++◌, length, Option, Some, None, Result, Ok, Err}
use Rattle.hw_types.specs.declared.unit.Vertex.{Vertex}
use Rattle.hw_types.specs.declared.answers.Receipt.{Receipt}
use Rattle.hw_types.specs.Real.{CoreState}
use Rattle.hw_io.specs.Doors.{Session}
use Rattle.hw_link.specs.declared.end.SessionEnd.{SessionEnd}
use Rattle.hw_link.specs.declared.end.SessionEnd.TheVariants as by
use Rattle.hw_link.specs.Told.{DoorTold}
use Rattle.hw_meeting.specs.declared.frame.MeetingFrame.{MeetingFrame}
use Rattle.hw_meeting.specs.declared.frame.MeetingFrame.TheVariants as frame
use Rattle.hw_meeting_node.specs.Frames.{Placed}
use Rattle.hw_meeting_node.specs.declared.end.MeetEnd.{MeetEnd}
use Rattle.hw_meeting_node.specs.declared.end.MeetEnd.TheVariants as end
use Rattle.hw_meeting_node.specs.declared.meeter.Side.{Side}
use Rattle.hw_meeting_node.specs.declared.meeter.Stage.{Stage}
use Rattle.hw_meeting_node.specs.declared.meeter.Stage.TheVariants.{Taking}
use Rattle.hw_meeting_node.specs.declared.taker.TakeFault.{TakeFault}
use Rattle.hw_meeting_node.specs.declared.taker.TakeFault.TheVariants as fault
use Rattle.hw_meeting_node.specs.Talk.{Reaction, talk_over}
use Rattle.hw_meeting_node.specs.Meeting.{Meeting, begun, first_word, meet_step}
use Rattle.hw_meeting_node.specs.Sessions.{MeetsThere, MeetsPeer, MeetsNone}
use Rattle.hw_meeting_node.specs.Handling.{Quits, Handles}

-- ---- the vertices of a peer

-- a meeting, and the vertices that were taken in it
pub record TakingMeeting : Type 0 where
  pub meeting : Meeting
  pub taken : List Vertex

-- the vertex of a frame, where one is due
abbrev pub vertex_at : Stage → MeetingFrame → Option Vertex
vertex_at Taking (frame.Vertex v) = Some v
vertex_at stage f = None

-- vertices, and one more if there is one
abbrev pub taken_then : List Vertex → Option Vertex → List Vertex
taken_then taken None = taken
taken_then taken (Some v) = taken ++ v ∷ []

-- a reaction of the meeting, after which these vertices were taken
abbrev pub with_taken : Reaction Meeting → List Vertex → Reaction TakingMeeting
with_taken r taken = record { state = record { meeting = r.state; taken = taken }; says = r.says; end = r.end }

-- a frame, whose vertex is taken if one is due
abbrev pub taking_step : Side → (Vertex → Bool) → TakingMeeting → Placed → Reaction TakingMeeting
taking_step side judge t f = with_taken (meet_step side judge t.meeting f) (taken_then t.taken (vertex_at t.meeting.stage f.frame))

-- before anything was read
abbrev pub taking_nothing : CoreState → TakingMeeting
taking_nothing c = record { meeting = begun c; taken = [] }

-- The vertices that a node takes in a meeting with a peer that sends these bytes, in order.
unfoldable pub taken_in : Side → CoreState → (Vertex → Bool) → List ℕ → List Vertex
taken_in side c judge bytes = (talk_over (length c.config.weights) (first_word side c) (taking_step side judge) (taking_nothing c) bytes).state.taken

-- ---- what becomes of a taker

-- what a taker was, a vertex, the answer to it, and what the taker is then
abbrev pub TakeStep : Type 0 → Type 1
TakeStep T = T → Vertex → Result Receipt TakeFault → T → Type 0

-- the vertex was accepted or refused
abbrev pub IsAnswered : Result Receipt TakeFault → Type 0
IsAnswered (Ok receipt) = Unit {0}
IsAnswered (Err (fault.Refused cause)) = Unit {0}
IsAnswered (Err fault.AppendFault) = ⊥
IsAnswered (Err fault.OutOfMemory) = ⊥

-- it took these vertices one after the other, and each was accepted or refused
unfoldable pub TakesAll : {T : Type 0} → TakeStep T → T → List Vertex → T → Type 0
TakesAll step t [] u = u ≡ t
TakesAll {T} step t (v ∷ vs) u = (answer : Result Receipt TakeFault) × (next : T) × IsAnswered answer × step t v answer next × TakesAll step next vs u

-- It took the vertices of the first of these bytes, but not all.
pub record TakesFirst {T : Type 0} (step : TakeStep T) (taken : List ℕ → List Vertex) (read : List ℕ) (t u : T) : Type 0 where
  pub first : List ℕ
  pub part : List ℕ
  pub split : read ≡ first ++ part
  pub takes : TakesAll step t (taken first) u

-- It took the vertices of these bytes, and the last of them met this fault.
pub record TakesUntil {T : Type 0} (step : TakeStep T) (taken : List ℕ → List Vertex) (read : List ℕ) (why : TakeFault) (t u : T) : Type 0 where
  pub first : List ℕ
  pub part : List ℕ
  pub split : read ≡ first ++ part
  pub vertex : Vertex
  pub last : taken read ≡ taken first ++ vertex ∷ []
  pub before : T
  pub takes : TakesAll step t (taken first) before
  pub stops : step before vertex (Err why) u

-- It took the vertices of these bytes, in order. Where an append failed, it failed for the last one. Where it was out
-- of memory, it was so for the last one, or before some of the bytes were handled.
abbrev pub Took : {T : Type 0} → TakeStep T → (List ℕ → List Vertex) → List ℕ → MeetEnd → T → T → Type 0
Took step taken read end.AppendFault t u = TakesUntil step taken read fault.AppendFault t u
Took step taken read end.OutOfMemory t u = TakesFirst step taken read t u ⊎ TakesUntil step taken read fault.OutOfMemory t u
Took step taken read e t u = TakesAll step t (taken read) u

-- ---- one session

-- what a node has received, and what takes its vertices
pub record WithTaker (T : Type 0) : Type 0 where
  pub core : CoreState
  pub taker : T

-- these together
abbrev pub with_taker : {T : Type 0} → CoreState → T → WithTaker T
with_taker core taker = record { core = core; taker = taker }

-- A node met the peer of the session that is there, and the taker took the peer's vertices.
pub record TakesThere {T : Type 0} (step : TakeStep T) (side : Side) (judge : Vertex → Bool) (before after : WithTaker T) (old new : DoorTold) (e : MeetEnd) : Type 0 where
  pub meets : MeetsThere side before.core judge after.core old new e
  pub took : Took step (taken_in side before.core judge) meets.read e before.taker after.taker

-- The same in a session that the door reports after the others, with the address that was dialled, if one was.
pub record TakesPeer {T : Type 0} (step : TakeStep T) (side : Side) (address : Option (List ℕ)) (judge : Vertex → Bool) (before after : WithTaker T) (old new : DoorTold) (e : MeetEnd) : Type 0 where
  pub meets : MeetsPeer side address before.core judge after.core old new e
  pub took : Took step (taken_in side before.core judge) meets.read e before.taker after.taker

-- memory ran out before a peer was accepted or dialled, and nothing was done
pub record TakesNone {T : Type 0} (before after : WithTaker T) (old new : Option (List Session)) (e : MeetEnd) : Type 0 where
  pub meets : MeetsNone before.core after.core old new e
  pub stays : after.taker ≡ before.taker

-- ---- a frame

-- how a taker's answer shows in what becomes of the session
abbrev pub ShowsAnswer : {R : Type 0} → Result Receipt TakeFault → Result R SessionEnd → Type 0
ShowsAnswer answer (Err by.AppendFault) = answer ≡ Err fault.AppendFault
ShowsAnswer answer (Err by.OutOfMemory) = answer ≡ Err fault.OutOfMemory
ShowsAnswer answer result = IsAnswered answer

-- no vertex was stored in vain
abbrev pub StoresNone : {R : Type 0} → Result R SessionEnd → Type 0
StoresNone (Err by.AppendFault) = ⊥
StoresNone result = Unit {0}

-- the taker took the vertex of a frame, if one was due
abbrev pub TakesOf : {T R : Type 0} → TakeStep T → Option Vertex → T → T → Result R SessionEnd → Type 0
TakesOf step None t u result = (u ≡ t) × StoresNone result
TakesOf step (Some v) t u result = (answer : Result Receipt TakeFault) × step t v answer u × ShowsAnswer answer result

-- the state of a node in a meeting, and what takes its vertices
pub record MeetingWith (T : Type 0) : Type 0 where
  pub meeting : Meeting
  pub taker : T

-- these together
abbrev pub meeting_with : {T : Type 0} → Meeting → T → MeetingWith T
meeting_with meeting taker = record { meeting = meeting; taker = taker }

-- Either no frame was at a place of the session, and nothing changed. Or one was, it was handled, and its vertex taken
-- if one was due.
abbrev pub GoesNext : {T : Type 0} → TakeStep T → ℕ → ℕ → (Placed → Reaction Meeting) → MeetingWith T → MeetingWith T → DoorTold → DoorTold → Result ℕ SessionEnd → Type 0
GoesNext taking validators place step before after old new result =
    (Quits {T = ℕ} validators place before.meeting after.meeting old new result × (after.taker ≡ before.taker))
    ⊎ ((h : Handles validators place before.meeting step after.meeting old new result) × TakesOf {R = ℕ} taking (vertex_at before.meeting.stage h.frame) before.taker after.taker result)
