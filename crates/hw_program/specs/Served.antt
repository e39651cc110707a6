-- What a run of a node comes to, and how it ends: its status, and the line of what stopped it behind what was written before.
-- Source: ours.
use Rattle.std.specs.Prelude.{◌≡◌, ◌≢◌, ◌≤◌, ◌*◌, ◌⊎◌, ℕ, nat_lt, Bool, IsTrue, List, [], ◌++◌, length, map, All, codes, string_bytes, Option, Some, None, IfSome, Result, Ok, Err, OnOk, IfOk, IfErr, if◌then◌else◌}
use Rattle.hw_types.specs.declared.config.Config.{Config}
use Rattle.hw_io.specs.Consumers.{Consumed}
use Rattle.hw_io.specs.Faults.{raised}
use Rattle.hw_settings.specs.declared.fault.SettingsFault.{SettingsFault}
use Rattle.hw_settings.specs.declared.fault.SettingsFault.TheVariants as settings
use Rattle.hw_replay.specs.Taken.{Taken}
use Rattle.hw_replay.specs.Replay.{replay_of}
use Rattle.hw_text.specs.Text.{number_text}
use Rattle.hw_text.specs.Errors.{limit_text}
use Rattle.hw_replay.specs.Fates.{Sight}
use Rattle.hw_session.specs.declared.stage.PeerMark.{PeerMark}
use Rattle.hw_service.specs.declared.fault.ServiceFault.{ServiceFault}
use Rattle.hw_service.specs.declared.fault.ServiceFault.TheVariants as fault
use Rattle.hw_service.specs.declared.ended.Served.{Served}
use Rattle.hw_service.specs.declared.peer.Peer.{Peer}
use Rattle.hw_service.specs.Scene.{DoorSeen, Outside, outside}
use Rattle.hw_service.specs.Begin.{Names, StaysAs, file_settings, HoldsKeys, IsValidator}
use Rattle.hw_service.specs.Begun.{IsAbout}
use Rattle.hw_service.specs.Counts.{IsReadCounted, IsAppendCounted, IsWriteCounted, IsDoorCounted, raised_by}
use Rattle.hw_service.specs.Serve.{Serves}
use Rattle.hw_service.specs.Turns.{turning, RunsTurns}
use Rattle.hw_service.specs.Runs.{Hosts, Calls}
use Rattle.hw_commands.specs.declared.ended.Ended.{Ended}
use Rattle.hw_commands.specs.Commands.{Word}
use Rattle.hw_commands.specs.Program.{Held}
use Rattle.hw_commands.specs.Texts.{usage_line, input_ended, read_fault_ended, append_fault_line, memory_ended, clash_ended, stopped_ended}
use Rattle.hw_commands.specs.Run.{Output, Finishes, WritesMemoryLine}
use Rattle.hw_program.specs.Services.{Service, Serve, Run, Host, Meet, names_in, maker_in}

-- ---- the status

-- of a run that came to its report: a limit was met, or else a call of a link failed in a session, or neither
abbrev pub reported_status : Served → ℕ
reported_status s = if nat_lt 0 s.limits then 8 else if s.link_failed then 6 else 0

-- ---- the line of what stopped it

-- what is wrong with settings
unfoldable pub settings_text : SettingsFault → List ℕ
settings_text settings.Form = codes "config form"
settings_text (settings.Fault f) = codes "config " ++ limit_text f
settings_text settings.OutOfMemory = []

-- the status and the line; a fault of the output has no line
abbrev pub service_stopped : Names → ServiceFault → Ended
service_stopped names (fault.Settings f) = input_ended names.config (settings_text f)
service_stopped names fault.NoValidator = record { status = 1; text = usage_line }
service_stopped names (fault.Keys at) = input_ended names.keys (codes "keys at " ++ number_text at)
service_stopped names (fault.Log e) = stopped_ended names.log e
service_stopped names (fault.Clash units) = clash_ended units.known units.other
service_stopped names fault.Read = read_fault_ended
service_stopped names fault.Append = record { status = 5; text = append_fault_line }
service_stopped names fault.Write = record { status = 5; text = [] }
service_stopped names fault.OutOfMemory = memory_ended

-- The line is written behind what was written before, as far as the output takes it, and the status is the line's; or there was no memory for it.
abbrev pub Tells : Ended → ℕ → Output → Output → Type 0
Tells e status old new = Finishes e.status e.text status old new ⊎ ((status ≡ 7) × WritesMemoryLine old new)

-- How a run ends that came to this. Behind a report, and behind a write that failed, nothing is written.
abbrev pub EndsBy : Names → Result Served ServiceFault → ℕ → Output → Output → Type 0
EndsBy names (Ok served) status old new = (status ≡ reported_status served) × (new ≡ old)
EndsBy names (Err fault.Write) status old new = (status ≡ 5) × (new ≡ old)
EndsBy names (Err fault.OutOfMemory) status old new = (status ≡ 7) × WritesMemoryLine old new
EndsBy names (Err e) status old new = Tells (service_stopped names e) status old new

-- ---- what it came to

-- nothing was told or heard yet
abbrev pub no_mark : PeerMark
no_mark = record { pushed = 0; pulled = 0 }

-- peers at these addresses, each with a mark of its own, which have told nothing and were told nothing
pub record AreNew (addresses : List Word) (peers : List Peer) : Type 0 where
  pub addresses_are : map (λ (p : Peer). string_bytes p.address) peers ≡ addresses
  pub marks : All (λ (p : Peer). p.mark ≡ no_mark) peers

-- The validator took its turns with such peers.
pub record TakesTurns {B K : Type 0} (sight : Sight B K) (tells : Bool) (names : Names) (me turns : ℕ) (addresses : List Word) (before after : Outside B × Option (List ℕ)) (came_to : Result Served ServiceFault) : Type 0 where
  pub first : List Peer
  pub are_new : AreNew addresses first
  pub last : List Peer
  pub runs : RunsTurns sight tells names me turns (before.0, turning first before.1) (after.0, turning last after.1) came_to

-- or there was no memory to make them, and nothing changed
pub record HasNoPeers {B : Type 0} (before after : Outside B) (given given_now : Option (List ℕ)) (came_to : Result Served ServiceFault) : Type 0 where
  pub memory : came_to ≡ Err fault.OutOfMemory
  pub stays : StaysAs before after
  pub clock : given_now ≡ given

-- what came of the outside, and of the moments that the clock gave
abbrev pub RunsAsAsked : {B K : Type 0} → Sight B K → Bool → Service → Outside B → Outside B → Option (List ℕ) → Option (List ℕ) → Result Served ServiceFault → Type 0
RunsAsAsked sight tells (Serve names address sessions) before after given given_now came_to = Serves sight tells names sessions before after came_to × (given_now ≡ given)
RunsAsAsked sight tells (Run names me turns peers) before after given given_now came_to =
    TakesTurns sight tells names me turns peers (before, given) (after, given_now) came_to ⊎ HasNoPeers before after given given_now came_to
RunsAsAsked sight tells (Host names address sessions) before after given given_now came_to = Hosts sight tells names sessions before after came_to × (given_now ≡ given)
RunsAsAsked sight tells (Meet names peer) before after given given_now came_to = Calls sight tells names peer before after came_to × (given_now ≡ given)

-- One that serves or hosts accepted as often as it has sessions and dialled nobody. One that takes turns dialled each peer once in each, one that
-- meets its peer once, and neither accepted anybody.
abbrev pub CallsDoor : Service → DoorSeen → DoorSeen → Type 0
CallsDoor (Serve names address sessions) before after = (after.accepts ≡ raised_by sessions before.accepts) × (after.dials ≡ before.dials)
CallsDoor (Run names me turns peers) before after = (after.dials ≡ raised_by (turns * length peers) before.dials) × (after.accepts ≡ before.accepts)
CallsDoor (Host names address sessions) before after = (after.accepts ≡ raised_by sessions before.accepts) × (after.dials ≡ before.dials)
CallsDoor (Meet names peer) before after = (after.dials ≡ raised before.dials) × (after.accepts ≡ before.accepts)

-- each of them was finished so often, where it tells that
abbrev pub WereFinished : {B K : Type 0} → Sight B K → ℕ → List B → Type 0
WereFinished sight count consumers = All (λ b. IfSome (sight.consumed b) (λ (c : Consumed). c.finishes ≡ count)) consumers

-- ---- what it may begin from

-- there is no log, or one of the configuration, in whose replay no limit is met and no two different units have one digest
abbrev pub IsFitLog : Config → Option (List ℕ) → Type 0
IsFitLog config None = Unit {0}
IsFitLog config (Some bytes) = (t : Taken) × (replay_of (Some config) bytes ≡ Ok t)

-- The settings say a configuration, of which the validator that is asked for is one, the keys are those of its validators, and so is the log.
pub record MayBegin (s : Service) (held : Held) : Type 0 where
  pub config : Config
  pub settings : file_settings (held (names_in s).config) ≡ Some (Ok config)
  pub validator : IsValidator (maker_in s) config
  pub keys : List (List ℕ)
  pub keys_are : HoldsKeys (length config.weights) (held (names_in s).keys) keys
  pub log : IsFitLog config (held (names_in s).log)

-- a run that has what it needs is stopped by the outside, by want of memory, or by a peer's unit that has the digest of another
abbrev pub IsMidway : ServiceFault → Type 0
IsMidway fault.Read = Unit {0}
IsMidway fault.Append = Unit {0}
IsMidway fault.Write = Unit {0}
IsMidway fault.OutOfMemory = Unit {0}
IsMidway (fault.Clash units) = Unit {0}
IsMidway e = ⊥

-- ---- the run

-- how often calls failed: reads and appends of files, calls about each file, and calls of the door
pub record Counts : Type 0 where
  pub reads : ℕ
  pub appends : ℕ
  pub about : List ℕ → ℕ
  pub link : ℕ

-- these together
abbrev pub counts : ℕ → ℕ → (List ℕ → ℕ) → ℕ → Counts
counts reads appends about link = record { reads = reads; appends = appends; about = about; link = link }

-- all that a run of a node may move: the outside, the moments that the clock gave, the output and the counts
pub record Around (B : Type 0) : Type 0 where
  pub whole : Outside B
  pub given : Option (List ℕ)
  pub output : Output
  pub counts : Counts

-- these together
abbrev pub around : {B : Type 0} → (List ℕ → Option (List ℕ)) → DoorSeen → Option (List ℕ) → Output → Counts → List B → Around B
around files door given output counts consumers = record { whole = outside files door output.taken consumers; given = given; output = output; counts = counts }

-- what a sink tells
abbrev pub output : Option (List ℕ) → ℕ → ℕ → Output
output taken faults wants = record { taken = taken; faults = faults; wants = wants }

-- A run of a node. It came to its report or was stopped, and left the output so; then the line of what stopped it, if that has one, was written
-- behind what was written before.
pub record RunsNode {B K : Type 0} (sight : Sight B K) (tells : Bool) (s : Service) (status : ℕ) (old new : Around B) : Type 0 where
  pub came_to : Result Served ServiceFault
  pub between : Output
  pub runs : RunsAsAsked sight tells s old.whole (record new.whole { written = between.taken }) old.given new.given came_to
  pub ends : EndsBy (names_in s) came_to status between new.output
  -- which counts rose
  pub writes : IsWriteCounted old.output.faults between.faults came_to
  pub reads : IsReadCounted old.counts.reads new.counts.reads came_to
  pub appends : IsAppendCounted old.counts.appends new.counts.appends came_to
  pub about : IsTrue tells → IfErr came_to (λ e. e ≡ fault.Read → IsAbout (names_in s) (maker_in s) old.whole.files old.counts.about new.counts.about)
  pub link : IfOk came_to (λ (served : Served). IsDoorCounted served.link_failed old.counts.link new.counts.link)
  -- behind a report
  pub calls : OnOk came_to (CallsDoor s old.whole.door new.whole.door)
  pub finished : WereFinished sight 0 old.whole.consumers → OnOk came_to (WereFinished sight 1 new.whole.consumers)
  -- where it may begin, all is written, or the run is stopped midway
  pub fit : IsTrue tells → MayBegin s old.whole.files → IfErr came_to IsMidway

-- ---- clauses of the top call

-- a run is asked for that may begin
abbrev pub CanRun : Option Service → Held → Type 0
CanRun None held = ⊥
CanRun (Some s) held = MayBegin s held

-- It came to its report, whole, with 0, 6 or 8; or there was no memory; or a peer brought a unit that has the digest of another.
abbrev pub IsRunEnd : ℕ → Type 0
IsRunEnd status = (status ≡ 0) ⊎ (status ≡ 6) ⊎ (status ≡ 7) ⊎ (status ≡ 8) ⊎ (status ≡ 9)

-- turns are asked for of a validator that the settings, which were read, don't have
abbrev pub AsksNoValidator : Bool → Option Service → Held → Type 0
AsksNoValidator tells (Some (Run names me turns peers)) held = (config : Config) × (IsTrue tells → file_settings (held names.config) ≡ Some (Ok config)) × (length config.weights ≤ me)
AsksNoValidator tells service held = ⊥

-- no file but the log has changed
abbrev pub OnlyLogChanges : Option Service → Held → Held → Type 0
OnlyLogChanges None before now = Unit {0}
OnlyLogChanges (Some s) before now = (name : List ℕ) → name ≢ (names_in s).log → now name ≡ before name
