-- A validator that takes turns. In each it makes its unit at the clock's moment, if there is one to make. Then it dials
-- each peer once.
-- Source: ours.
use Rattle.std.specs.Prelude.{◌≡◌, ◌⊎◌, ℕ, ◌<◌, ◌^◌, Bool, IsTrue, List, ◌∷◌, [], length, set, codes, string_bytes, slice_get, Option, Some, None, Result, Ok, Err}
use Rattle.hw_types.specs.declared.answers.Plan.{Plan}
use Rattle.hw_types.specs.declared.answers.PlanKind.{PlanKind}
use Rattle.hw_types.specs.declared.answers.PlanKind.TheVariants as kind
use Rattle.hw_types.specs.Spelling.{digest_of}
use Rattle.hw_types.specs.Real.{setting_of}
use Rattle.hw_text.specs.Text.{digest_text}
use Rattle.hw_text.specs.Lines.{line_of}
use Rattle.hw_io.specs.Faults.{raised}
use Rattle.hw_io.specs.Moments.{GivesMoment}
use Rattle.hw_honest.specs.Cluster.{value_at}
use Rattle.hw_link.specs.declared.end.SessionEnd.{SessionEnd}
use Rattle.hw_replay.specs.Fates.{Sight}
use Rattle.hw_replay.specs.Feed.{IsPassed}
use Rattle.hw_session.specs.declared.fault.MakeFault.{MakeFault}
use Rattle.hw_session.specs.declared.fault.MakeFault.TheVariants as make
use Rattle.hw_session.specs.Make.{planned_by, Makes, WritesOwn}
use Rattle.hw_session.specs.Drives.{DrivesPeer, DrivesNone}
use Rattle.hw_session.specs.Standing.{driver_standing}
use Rattle.hw_service.specs.declared.fault.ServiceFault.{ServiceFault}
use Rattle.hw_service.specs.declared.fault.ServiceFault.TheVariants as fault
use Rattle.hw_service.specs.declared.ended.Served.{Served}
use Rattle.hw_service.specs.declared.peer.Peer.{Peer}
use Rattle.hw_service.specs.Scene.{sessions_told, Outside, Scene, moment_of}
use Rattle.hw_service.specs.Begin.{Names}
use Rattle.hw_service.specs.Steps.{Takes}
use Rattle.hw_service.specs.Told.{TellsEnd}
use Rattle.hw_service.specs.Written.{Writes, IsOfOutput}
use Rattle.hw_service.specs.Run.{Runs, course, runner}

-- ---- its own unit

-- the kind of a unit, in a word
abbrev pub kind_word : PlanKind → List ℕ
kind_word kind.Propose = codes "propose"
kind_word kind.Confirm = codes "confirm"
kind_word kind.Witness = codes "witness"

-- the line of an own unit, and none where there is none
unfoldable pub made_line : Option Plan → List ℕ
made_line None = []
made_line (Some p) = line_of (codes "made" ∷ kind_word p.kind ∷ digest_text (digest_of p.unit) ∷ [])

-- nothing was reported of it
pub record TellsNothing {B : Type 0} (old new : Scene B) : Type 0 where
  pub kept : new.kept ≡ old.kept
  pub consumers : new.around.consumers ≡ old.around.consumers
  pub written : new.around.written ≡ old.around.written

-- The consumers are passed what is decided now, and then the line of the unit is written. Where the unit isn't in the
-- log, nothing is reported.
abbrev pub TellsMade : {B K : Type 0} → Sight B K → Result (Option Plan) MakeFault → Scene B → Scene B → Result (Unit {0}) ServiceFault → Type 0
TellsMade sight (Ok p) old new (Ok x) = IsPassed sight (moment_of old) (moment_of new) × Writes {T = Unit {0}} old.around.written new.around.written (made_line p) (Ok x)
TellsMade sight (Ok p) old new (Err e) = IsPassed sight (moment_of old) (moment_of new) × IsOfOutput e × Writes {T = Unit {0}} old.around.written new.around.written (made_line p) (Err e)
TellsMade sight (Err make.RecordsFull) old new result = (result ≡ Ok tt) × IsPassed sight (moment_of old) (moment_of new) × (new.around.written ≡ old.around.written)
TellsMade sight (Err make.AppendFault) old new result = (result ≡ Err fault.Append) × TellsNothing old new
TellsMade sight (Err make.OutOfMemory) old new result = (result ≡ Err fault.OutOfMemory) × TellsNothing old new

-- The validator made its unit of this moment, with this value for a block, if there was one to make. The unit was
-- reported.
pub record MakesWith {B K : Type 0} (sight : Sight B K) (tells : Bool) (me moment : ℕ) (value : List ℕ) (old new : Scene B) (result : Result (Unit {0}) ServiceFault) : Type 0 where
  pub made : Result (Option Plan) MakeFault
  pub makes : Makes old.node (planned_by old.node me moment value) new.node made
  pub log : IsTrue tells → WritesOwn old.node (planned_by old.node me moment value) new.node old.around.files new.around.files made
  pub told : TellsMade sight made old new result
  pub door : new.around.door ≡ old.around.door

-- The value of a block is the validator's number as four bytes and its round as eight.
abbrev pub MakesUnit : {B K : Type 0} → Sight B K → Bool → ℕ → ℕ → Scene B → Scene B → Result (Unit {0}) ServiceFault → Type 0
MakesUnit sight tells me moment old new result = MakesWith sight tells me moment (value_at (setting_of old.node.core.config) me moment) old new result

-- ---- a peer

-- the node dialled the peer of this address, or memory ran out before; the peer has the marks that this left
abbrev pub DrivesOne : {B : Type 0} → Bool → Scene B → Scene B → Peer → Peer → SessionEnd → Type 0
DrivesOne tells old new before after e =
    DrivesPeer tells (string_bytes before.address) (driver_standing old.node before.mark old.around.files) (driver_standing new.node after.mark new.around.files) (sessions_told old.around.door) (sessions_told new.around.door) e
    ⊎ DrivesNone tells (driver_standing old.node before.mark old.around.files) (driver_standing new.node after.mark new.around.files) old.around.door.sessions new.around.door.sessions e

-- a session with the peer of this number, and what was reported of it
pub record DrivesAt {B K : Type 0} (sight : Sight B K) (tells : Bool) (number : ℕ) (old new : Scene B) (before after : Peer) (result : Result Bool ServiceFault) : Type 0 where
  pub end : SessionEnd
  pub driven : DrivesOne tells old new before after end
  pub address : after.address ≡ before.address
  pub dials : new.around.door.dials ≡ raised old.around.door.dials
  pub accepts : new.around.door.accepts ≡ old.around.door.accepts
  pub passed : IsPassed sight (moment_of old) (moment_of new)
  pub told : TellsEnd (codes "peer") number end new.node old.around.written new.around.written result

-- the session with the peer of this place, counted from 0
pub record DrivesSession {B K : Type 0} (sight : Sight B K) (tells : Bool) (place : ℕ) (old new : Scene B × List Peer) (result : Result Bool ServiceFault) : Type 0 where
  pub before : Peer
  pub is_at : slice_get old.1 place ≡ Some before
  pub after : Peer
  pub peers : new.1 ≡ set old.1 place after
  pub drives : DrivesAt sight tells place old.0 new.0 before after result

-- ---- a turn

-- what moves beside the scene: the peers with their marks, and the moments that the clock gave, where they are known
pub record Turning : Type 0 where
  pub peers : List Peer
  pub given : Option (List ℕ)

-- the two together
abbrev pub turning : List Peer → Option (List ℕ) → Turning
turning peers given = record { peers = peers; given = given }

-- the validator's unit was reported, and the validator dialled its peers one after the other
pub record DrivesPeers {B K : Type 0} (sight : Sight B K) (tells : Bool) (me moment : ℕ) (old new : Scene B) (before after : List Peer) (result : Result Bool ServiceFault) : Type 0 where
  pub between : Scene B
  pub makes : MakesUnit sight tells me moment old between (Ok tt)
  pub drives : Takes (DrivesSession sight tells) 0 (length before) (between, before) (new, after) result

-- or its unit ended the run
pub record MakesNot {B K : Type 0} (sight : Sight B K) (tells : Bool) (me moment : ℕ) (old new : Scene B) (before after : List Peer) (e : ServiceFault) : Type 0 where
  pub makes : MakesUnit sight tells me moment old new (Err e)
  pub peers : after ≡ before

-- a turn: the validator makes its unit, and then dials each peer once
abbrev pub Turns : {B K : Type 0} → Sight B K → Bool → ℕ → ℕ → Scene B → Scene B → List Peer → List Peer → Result Bool ServiceFault → Type 0
Turns sight tells me moment old new before after (Ok failed) = DrivesPeers sight tells me moment old new before after (Ok failed)
Turns sight tells me moment old new before after (Err e) = MakesNot sight tells me moment old new before after e ⊎ DrivesPeers sight tells me moment old new before after (Err e)

-- A turn, at the moment that the clock gave for it.
pub record TakesTurn {B K : Type 0} (sight : Sight B K) (tells : Bool) (me : ℕ) (number : ℕ) (old new : Scene B × Turning) (result : Result Bool ServiceFault) : Type 0 where
  pub moment : ℕ
  pub early : moment < 2 ^ 63
  pub given : GivesMoment old.1.given new.1.given moment
  pub turns : Turns sight tells me moment old.0 new.0 old.1.peers new.1.peers result

-- ---- the run

-- The outcome of a run in which a validator takes this number of turns.
abbrev pub RunsTurns : {B K : Type 0} → Sight B K → Bool → Names → ℕ → ℕ → Outside B × Turning → Outside B × Turning → Result Served ServiceFault → Type 0
RunsTurns sight tells names me count before after result = Runs (runner sight tells names (Some me)) (course (TakesTurn sight tells me) 1 count) before after result
