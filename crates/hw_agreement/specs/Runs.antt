-- A run of a validator's node is part of its life: the statements.
-- Source: ours.
use Rattle.std.specs.Prelude.{◌≡◌, ◌⊎◌, ℕ, ◌<◌, Bool, true, List, [], ◌∷◌, length, string_bytes, Option, Some, None, Result, Ok, Err}
use Rattle.hw_io.specs.Files.{bytes_of}
use Rattle.hw_log.specs.declared.rewritten.Rewritten.{Rewritten}
use Rattle.hw_log.specs.Rewritten.{mended_of}
use Rattle.hw_replay.specs.Fates.{Sight}
use Rattle.hw_session.specs.Node.{IsSound}
use Rattle.hw_meeting_node.specs.declared.meeter.Side.TheVariants.{Caller, Host}
use Rattle.hw_session.specs.Standing.{Standing}
use Rattle.hw_service.specs.declared.fault.ServiceFault.{ServiceFault}
use Rattle.hw_service.specs.declared.peer.Peer.{Peer}
use Rattle.hw_service.specs.Scene.{Outside, Scene}
use Rattle.hw_service.specs.Serve.{serves_session}
use Rattle.hw_service.specs.Runs.{hosts_session, calls_peer}
use Rattle.hw_service.specs.Begin.{Names, HasBegun}
use Rattle.hw_service.specs.Steps.{Takes}
use Rattle.hw_service.specs.Turns.{MakesUnit, DrivesSession, Turning, TakesTurn}
use Rattle.hw_run_laws.specs.Calls.{Attempt, AreCalls}
use Rattle.hw_run_laws.specs.InHand.{IsFairTold, IsFairDialled, IsFairMeeting}
use Rattle.hw_agreement.specs.Lives.{Life}

-- ---- a run whose peers are fair

-- the node of a scene, with what the files hold
abbrev pub standing_of : {B : Type 0} → Scene B → Standing
standing_of now = record { node = now.node; held = now.around.files }

-- A session with a peer that the node dialled. By what the door reports, the node took no vertex of the peer that brings
-- a new unit by the validator. It leaves a node that is sound, as each node is.
pub record DrivesFairly {B K : Type 0} (sight : Sight B K) (me place : ℕ) (old new : Scene B × List Peer) (result : Result Bool ServiceFault) : Type 0 where
  pub drives : DrivesSession sight true place old new result
  pub fair : IsFairDialled me old.0.node drives.before.mark (string_bytes drives.before.address) old.0.around.door.sessions new.0.around.door.sessions drives.drives.end
  pub sound : IsSound new.0.node

-- the validator's unit was reported, and its node had such a session with each of its peers
pub record DrivesAllFairly {B K : Type 0} (sight : Sight B K) (me moment : ℕ) (old new : Scene B) (before after : List Peer) (result : Result Bool ServiceFault) : Type 0 where
  pub between : Scene B
  pub makes : MakesUnit sight true me moment old between (Ok tt)
  pub sound : IsSound between.node
  pub drives : Takes (DrivesFairly sight me) 0 (length before) (between, before) (new, after) result

-- or its unit ended the run
pub record MakesLast {B K : Type 0} (sight : Sight B K) (me moment : ℕ) (old new : Scene B) (result : Result Bool ServiceFault) : Type 0 where
  pub fault : ServiceFault
  pub is : result ≡ Err fault
  pub makes : MakesUnit sight true me moment old new (Err fault)

-- a turn, in which that happened
pub record TurnsFairly {B K : Type 0} (sight : Sight B K) (me number : ℕ) (old new : Scene B × Turning) (result : Result Bool ServiceFault) : Type 0 where
  pub turn : TakesTurn sight true me number old new result
  pub fair : DrivesAllFairly sight me turn.moment old.0 new.0 old.1.peers new.1.peers result ⊎ MakesLast sight me turn.moment old.0 new.0 result

-- a session in which the node served such a peer,
pub record ServesFairly {B K : Type 0} (sight : Sight B K) (me number : ℕ) (old new : Scene B × Unit {0}) (result : Result Bool ServiceFault) : Type 0 where
  pub serves : serves_session sight true number old new result
  pub fair : IsFairTold me old.0.node old.0.around.door.sessions new.0.around.door.sessions serves.end
  pub sound : IsSound new.0.node

-- one in which such a node dialled it and the two met,
pub record HostsFairly {B K : Type 0} (sight : Sight B K) (me number : ℕ) (old new : Scene B × Unit {0}) (result : Result Bool ServiceFault) : Type 0 where
  pub hosts : hosts_session sight true number old new result
  pub fair : IsFairMeeting me Host None old.0.node old.0.around.door.sessions new.0.around.door.sessions hosts.talked.end
  pub sound : IsSound new.0.node

-- and one in which it dialled such a node.
pub record CallsFairly {B K : Type 0} (sight : Sight B K) (address : List ℕ) (me number : ℕ) (old new : Scene B × Unit {0}) (result : Result Bool ServiceFault) : Type 0 where
  pub calls : calls_peer sight true address number old new result
  pub fair : IsFairMeeting me Caller (Some address) old.0.node old.0.around.door.sessions new.0.around.door.sessions calls.talked.end
  pub sound : IsSound new.0.node

-- ---- what it is

-- the last of these moments
abbrev pub last_of : Standing → List Standing → Standing
last_of a [] = a
last_of a (b ∷ more) = last_of b more

-- From the one moment to the other the node made calls that went on. The last call may be one after which the node is
-- given up.
pub record LeadsTo (me : ℕ) (a c : Standing) : Type 0 where
  pub more : List Standing
  pub calls : AreCalls me a more
  pub ends : (last_of a more ≡ c) ⊎ Attempt me (last_of a more) c

-- All turns of such a run, or the turns until one ends it, are calls of the node.
abbrev pub TurnsAreCalls : {B K : Type 0} → Sight B K → Type 0
TurnsAreCalls {B} {K} sight = (me number count : ℕ) (first last : Scene B × Turning) (result : Result Bool ServiceFault)
    → Takes (TurnsFairly sight me) number count first last result → LeadsTo me (standing_of first.0) (standing_of last.0)

-- So are all sessions of such a run, or the sessions until one ends it, where the node serves,
abbrev pub ServesAreCalls : {B K : Type 0} → Sight B K → Type 0
ServesAreCalls {B} {K} sight = (me number count : ℕ) (first last : Scene B × Unit {0}) (result : Result Bool ServiceFault)
    → Takes (ServesFairly sight me) number count first last result → LeadsTo me (standing_of first.0) (standing_of last.0)

-- where others dial it and it meets them,
abbrev pub HostsAreCalls : {B K : Type 0} → Sight B K → Type 0
HostsAreCalls {B} {K} sight = (me number count : ℕ) (first last : Scene B × Unit {0}) (result : Result Bool ServiceFault)
    → Takes (HostsFairly sight me) number count first last result → LeadsTo me (standing_of first.0) (standing_of last.0)

-- and where it dials another and meets it.
abbrev pub MeetsAreCalls : {B K : Type 0} → Sight B K → Type 0
MeetsAreCalls {B} {K} sight = (address : List ℕ) (me number count : ℕ) (first last : Scene B × Unit {0}) (result : Result Bool ServiceFault)
    → Takes (CallsFairly sight address me) number count first last result → LeadsTo me (standing_of first.0) (standing_of last.0)

-- ---- one run after another

-- A run over a new log begins a life,
abbrev pub NewRunsBegin : {B K : Type 0} → Sight B K → Type 0
NewRunsBegin {B} {K} sight = (names : Names) (maker : Option ℕ) (me : ℕ) (before : Outside B) (now : Scene B) → HasBegun sight true names maker before now
    → before.files names.log ≡ None → me < length now.node.core.config.weights → IsSound now.node → (life : Life me) × (life.first ≡ standing_of now) × (life.more ≡ [])

-- the file has what is in the log of the node that was there last, or what that is mended to
pub record FindsLog (c : Standing) (file : Option (List ℕ)) : Type 0 where
  pub bytes : List ℕ
  pub there : file ≡ Some bytes
  pub from : (c.held c.node.log ≡ Some bytes) ⊎ ((mended : Rewritten) × (mended_of (bytes_of (c.held c.node.log)) ≡ Ok mended) × (bytes ≡ mended.bytes))

-- and one over the log that a life came to goes on with it, by the same settings and keys.
abbrev pub LaterRunsGoOn : {B K : Type 0} → Sight B K → Type 0
LaterRunsGoOn {B} {K} sight = (names : Names) (maker : Option ℕ) (me : ℕ) (before : Outside B) (now : Scene B) (life : Life me) (c : Standing) → HasBegun sight true names maker before now
    → LeadsTo me (last_of life.first life.more) c → IsSound c.node → FindsLog c (before.files names.log) → now.node.core.config ≡ c.node.core.config → now.node.keys ≡ c.node.keys → IsSound now.node
    → (longer : Life me) × (longer.first ≡ life.first) × (last_of longer.first longer.more ≡ standing_of now)
