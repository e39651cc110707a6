-- What these laws say of nodes in hand, by what public calls promise of them: the statements.
-- Source: ours.
use Rattle.std.specs.Prelude.{◌≡◌, ◌⊎◌, ℕ, ◌<◌, ◌≤◌, List, [], ◌∷◌, ◌++◌, length, Option, Some, None, Result, Ok, Err}
use Rattle.std.specs.Option.{option_map}
use Rattle.hw_types.specs.declared.unit.Signature.{Signature}
use Rattle.hw_types.specs.declared.unit.SignedUnit.{SignedUnit}
use Rattle.hw_types.specs.declared.unit.Vertex.{Vertex}
use Rattle.hw_types.specs.declared.answers.Plan.{Plan}
use Rattle.hw_types.specs.declared.answers.Receipt.TheVariants as receipt
use Rattle.hw_types.specs.declared.answers.Cause.TheVariants as cause
use Rattle.hw_types.specs.Below.{Among}
use Rattle.hw_types.specs.Culprits.{signed_in}
use Rattle.hw_types.specs.Journal.{received_of}
use Rattle.hw_types.specs.Real.{CoreState, setting_of}
use Rattle.hw_types.specs.laws.StateLaws.{SaysTheSame, HasSameState}
use Rattle.hw_io.specs.Doors.{Session}
use Rattle.hw_io.specs.Files.{bytes_of}
use Rattle.hw_honest.specs.Plans.{HasNamesake, delivered}
use Rattle.hw_agree.specs.Converge.{UnitsClash}
use Rattle.hw_link.specs.declared.end.SessionEnd.{SessionEnd}
use Rattle.hw_log.specs.declared.rewritten.Rewritten.{Rewritten}
use Rattle.hw_log.specs.Rewritten.{mended_of}
use Rattle.hw_replay.specs.declared.fault.StartFault.{StartFault}
use Rattle.hw_session.specs.declared.stage.PeerMark.{PeerMark}
use Rattle.hw_session.specs.Node.{NodeState, IsSound}
use Rattle.hw_session.specs.Drives.{dialled}
use Rattle.hw_session.specs.Sessions.{session_of}
use Rattle.hw_session.specs.Standing.{Standing}
use Rattle.hw_session.specs.Start.{Starts}
use Rattle.hw_meeting_node.specs.declared.end.MeetEnd.{MeetEnd}
use Rattle.hw_meeting_node.specs.declared.end.MeetEnd.TheVariants as met_end
use Rattle.hw_meeting_node.specs.declared.meeter.Side.{Side}
use Rattle.hw_meeting_node.specs.Sessions.{is_link_end}
use Rattle.hw_run_laws.specs.Calls.{IsFairServed, IsFairDriven, IsFairMet, IsReady, WentOut}

-- ---- a planned unit

-- Below the limit of records the core takes the unit of the plan, under whatever signature, or has another unit of its
-- name.
abbrev pub MayTake : CoreState → Plan → Type 0
MayTake c p = length c.journal < c.config.max_records → (signature : Signature)
    → ((n : ℕ) × (1 ≤ n) × (delivered (setting_of c.config) c.journal p signature ≡ Ok (receipt.Admitted n)))
    ⊎ (HasNamesake (setting_of c.config) c.journal p × (delivered (setting_of c.config) c.journal p signature ≡ Err (cause.Clash ((setting_of c.config).name p.unit))))

-- ---- a call

-- After a call the validator's own units are on one line again, and the log is that of the journal. No two different
-- units by it of one number were in the log before or after it, or went out of it there.
pub record StaysOnLine (me : ℕ) (a b : Standing) : Type 0 where
  pub ready : IsReady me b
  pub apart : (v w : Vertex) → WentOut (a ∷ b ∷ []) v → WentOut (a ∷ b ∷ []) w
      → (x y : SignedUnit) → Among x (signed_in v) → Among y (signed_in w) → x.unit.creator ≡ me → y.unit.creator ≡ me → x.unit.seq ≡ y.unit.seq → x.unit ≡ y.unit

-- the door reports this session after the others, if it reports its sessions
abbrev pub TellsOne : Option (List Session) → Option (List Session) → Session → Type 0
TellsOne old new session = new ≡ option_map (λ (sessions : List Session). sessions ++ session ∷ []) old

-- A node served a peer, in the session that the door reports. It took no vertex of it that brings a new unit by the
-- validator.
abbrev pub IsFairTold : ℕ → NodeState → Option (List Session) → Option (List Session) → SessionEnd → Type 0
IsFairTold me n old new e = (read written : List ℕ) → TellsOne old new (session_of read written e) → IsFairServed me n read

-- The same of a node that drove the peer of this address,
abbrev pub IsFairDialled : ℕ → NodeState → PeerMark → List ℕ → Option (List Session) → Option (List Session) → SessionEnd → Type 0
IsFairDialled me n mark address old new e = (read written : List ℕ) → TellsOne old new (dialled address read written e) → IsFairDriven me n mark read

-- a session of a meeting that ended so, with the address that was dialled, if one was
abbrev pub meeting_session : Option (List ℕ) → List ℕ → List ℕ → MeetEnd → Session
meeting_session address read written e = record { address = address; read = read; written = written; failed = is_link_end e }

-- and of one that met another node, with the address that was dialled, if one was.
abbrev pub IsFairMeeting : ℕ → Side → Option (List ℕ) → NodeState → Option (List Session) → Option (List Session) → MeetEnd → Type 0
IsFairMeeting me side address n old new e = (read written : List ℕ) → TellsOne old new (meeting_session address read written e) → IsFairMet me side n read

-- ---- a node that is given up

-- The node's log was mended into a file of this name, which the files hold now, and a start from that came to this.
pub record StartsMended (n : NodeState) (name : List ℕ) (old new : List ℕ → Option (List ℕ)) (result : Result NodeState StartFault) : Type 0 where
  pub mended : Rewritten
  pub says : mended_of (bytes_of (old n.log)) ≡ Ok mended
  pub there : new name ≡ Some mended.bytes
  pub starts : Starts n.core.config n.keys name (Some mended.bytes) result

-- ---- two nodes that met

-- By the reports of the doors of a caller, who dialled this address, and of a host, each read what the other wrote.
abbrev pub AreCrossed : List ℕ → Option (List Session) → Option (List Session) → Option (List Session) → Option (List Session) → Type 0
AreCrossed address caller_old caller_new host_old host_new =
    (read written heard said : List ℕ) → TellsOne caller_old caller_new (meeting_session (Some address) read written (met_end.Done 0)) → TellsOne host_old host_new (meeting_session None heard said (met_end.Done 0))
    → (read ≡ said) × (heard ≡ written)

-- the two journals say the same and leave one state, or two different units of one digest are in them
pub record Agree (left right : CoreState) : Type 0 where
  pub same : SaysTheSame (setting_of left.config) left.journal right.journal ⊎ UnitsClash (setting_of left.config) left.journal right.journal
  pub state : HasSameState left.config (received_of (setting_of left.config) left.journal) (received_of (setting_of left.config) right.journal) ⊎ UnitsClash (setting_of left.config) left.journal right.journal

-- both meetings ended as done, with nothing refused
abbrev pub AreDone : MeetEnd → MeetEnd → Type 0
AreDone one other = (one ≡ met_end.Done 0) × (other ≡ met_end.Done 0)

-- ---- what these ask for is there

-- A node that does nothing stays on its line.
abbrev pub RestsOnLine : Type 0
RestsOnLine = (me : ℕ) (a : Standing) → me < length a.node.core.config.weights → IsSound a.node → IsReady me a → StaysOnLine me a a

-- A door that reported no session, and then one in which the peer sent nothing, reports a fair one, where the node
-- serves,
abbrev pub QuietIsFair : Type 0
QuietIsFair = (me : ℕ) (n : NodeState) (written : List ℕ) (e : SessionEnd) → IsFairTold me n (Some []) (Some (session_of [] written e ∷ [])) e

-- where it drives,
abbrev pub QuietDialIsFair : Type 0
QuietDialIsFair = (me : ℕ) (n : NodeState) (mark : PeerMark) (address written : List ℕ) (e : SessionEnd) → IsFairDialled me n mark address (Some []) (Some (dialled address [] written e ∷ [])) e

-- and where it meets another.
abbrev pub QuietMeetingIsFair : Type 0
QuietMeetingIsFair = (me : ℕ) (side : Side) (address : Option (List ℕ)) (n : NodeState) (written : List ℕ) (e : MeetEnd)
    → IsFairMeeting me side address n (Some []) (Some (meeting_session address [] written e ∷ [])) e

-- Two doors that reported no session, and then one each, in which the one read what the other wrote, are crossed.
abbrev pub CrossedAreThere : Type 0
CrossedAreThere = (address read written : List ℕ)
    → AreCrossed address (Some []) (Some (meeting_session (Some address) read written (met_end.Done 0) ∷ [])) (Some []) (Some (meeting_session None written read (met_end.Done 0) ∷ []))
