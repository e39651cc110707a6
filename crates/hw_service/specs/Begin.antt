-- How a node begins: its settings, its keys and its log are read, in this order.
-- Source: ours.
use Rattle.std.specs.Prelude.{◌≡◌, ◌<◌, ◌≤◌, ◌⊎◌, ℕ, Bool, IsTrue, List, length, Option, Some, None, Result, Ok, Err}
use Rattle.hw_types.specs.declared.config.Config.{Config}
use Rattle.hw_core.specs.Promises.{begun}
use Rattle.hw_io.specs.Files.{SameFiles}
use Rattle.hw_settings.specs.declared.fault.SettingsFault.{SettingsFault}
use Rattle.hw_settings.specs.Settings.{settings_of}
use Rattle.hw_keys.specs.Keys.{IsTextOf, IsFirstFault}
use Rattle.hw_log.specs.declared.error.LogError.TheVariants as log
use Rattle.hw_replay.specs.declared.fault.StartFault.{StartFault}
use Rattle.hw_replay.specs.declared.fault.StartFault.TheVariants as start
use Rattle.hw_replay.specs.State.{FanoutState}
use Rattle.hw_replay.specs.Fates.{Sight}
use Rattle.hw_replay.specs.Midway.{file_begun}
use Rattle.hw_replay.specs.Feed.{moment, AreFed, AreFedSome, AreFedPart, file_replayed}
use Rattle.hw_session.specs.Start.{Starts, StartsLog}
use Rattle.hw_service.specs.declared.begin.Sources.{Sources}
use Rattle.hw_service.specs.declared.fault.ServiceFault.{ServiceFault}
use Rattle.hw_service.specs.declared.fault.ServiceFault.TheVariants as fault
use Rattle.hw_service.specs.Scene.{Outside, Scene, moment_of, none_told}

-- the files that a node is started from, by their names
pub record Names : Type 0 where
  pub config : List ℕ
  pub keys : List ℕ
  pub log : List ℕ

-- the names that its sources have
abbrev pub names_of : Sources → Names
names_of s = record { config = s.config.now; keys = s.keys.now; log = s.log.now }

-- ---- what is read

-- what the settings in a file give, if the file exists
abbrev pub file_settings : Option (List ℕ) → Option (Result Config SettingsFault)
file_settings (Some bytes) = Some (settings_of bytes)
file_settings None = None

-- the file holds the text of these keys
abbrev pub HoldsKeys : ℕ → Option (List ℕ) → List (List ℕ) → Type 0
HoldsKeys validators (Some bytes) keys = IsTextOf validators bytes keys
HoldsKeys validators None keys = ⊥

-- the text in the file is wrong first at this byte
abbrev pub HoldsFault : ℕ → Option (List ℕ) → ℕ → Type 0
HoldsFault validators (Some bytes) place = IsFirstFault validators bytes place
HoldsFault validators None place = ⊥

-- no validator is asked for, or one that is in the configuration
abbrev pub IsValidator : Option ℕ → Config → Type 0
IsValidator None config = Unit {0}
IsValidator (Some me) config = me < length config.weights

-- one is asked for that isn't in it
abbrev pub IsNoValidator : Option ℕ → Config → Type 0
IsNoValidator None config = ⊥
IsNoValidator (Some me) config = length config.weights ≤ me

-- The settings give this configuration, which has the validator, and these are the keys.
pub record Reads (tells : Bool) (names : Names) (me : Option ℕ) (files : List ℕ → Option (List ℕ)) (config : Config) (keys : List (List ℕ)) : Type 0 where
  pub settings : IsTrue tells → file_settings (files names.config) ≡ Some (Ok config)
  pub validator : IsValidator me config
  pub keys_are : IsTrue tells → HoldsKeys (length config.weights) (files names.keys) keys

-- They aren't read: the first thing that is wrong says why, or a read failed, or there was no memory.
abbrev pub ReadsNot : Bool → Names → Option ℕ → (List ℕ → Option (List ℕ)) → ServiceFault → Type 0
ReadsNot tells names me files (fault.Settings f) = IsTrue tells → file_settings (files names.config) ≡ Some (Err f)
ReadsNot tells names me files fault.NoValidator = (config : Config) × (IsTrue tells → file_settings (files names.config) ≡ Some (Ok config)) × IsNoValidator me config
ReadsNot tells names me files (fault.Keys at) =
    (config : Config) × (IsTrue tells → file_settings (files names.config) ≡ Some (Ok config)) × IsValidator me config × (IsTrue tells → HoldsFault (length config.weights) (files names.keys) at)
ReadsNot tells names me files fault.Read = Unit {0}
ReadsNot tells names me files fault.OutOfMemory = Unit {0}
ReadsNot tells names me files (fault.Log e) = ⊥
ReadsNot tells names me files (fault.Clash units) = ⊥
ReadsNot tells names me files fault.Append = ⊥
ReadsNot tells names me files fault.Write = ⊥

-- ---- a node that has begun

-- The node is the one that its settings, its keys and its log give. After each entry of the log the consumers were
-- passed what was decided. A new log was begun where there was none.
pub record HasBegun {B K : Type 0} (sight : Sight B K) (tells : Bool) (names : Names) (me : Option ℕ) (before : Outside B) (now : Scene B) : Type 0 where
  pub reads : Reads tells names me before.files now.node.core.config now.node.keys
  pub starts : IsTrue tells → Starts now.node.core.config now.node.keys names.log (before.files names.log) (Ok now.node)
  pub log : IsTrue tells → StartsLog now.node.core.config names.log before.files now.around.files (before.files names.log) (Ok now.node)
  pub fed : AreFed sight (moment (begun now.node.core.config) before.consumers (none_told before.consumers)) (moment_of now)
  pub door : now.around.door ≡ before.door
  pub written : now.around.written ≡ before.written

-- ---- a node that has not begun

-- nothing outside changed
pub record StaysAs {B : Type 0} (before after : Outside B) : Type 0 where
  pub files : SameFiles before.files after.files
  pub door : after.door ≡ before.door
  pub written : after.written ≡ before.written
  pub consumers : after.consumers ≡ before.consumers

-- Settings and keys were read, and the log gave no node. The consumers were passed what was decided after each entry
-- before the one that stopped it, and after no later one.
pub record StartFails {B K : Type 0} (sight : Sight B K) (tells : Bool) (names : Names) (me : Option ℕ) (before after : Outside B) (e : StartFault) : Type 0 where
  pub config : Config
  pub keys : List (List ℕ)
  pub reads : Reads tells names me before.files config keys
  pub starts : IsTrue tells → Starts config keys names.log (before.files names.log) (Err e)
  pub log : IsTrue tells → StartsLog config names.log before.files after.files (before.files names.log) (Err e)
  pub kept : FanoutState B
  pub fed : AreFedSome sight tells (file_replayed (Some config) (before.files names.log)) before.consumers after.consumers (none_told before.consumers) kept
  pub part : AreFedPart sight tells (file_begun (Some config) (before.files names.log)) e before.consumers after.consumers (none_told before.consumers) kept
  pub door : after.door ≡ before.door
  pub written : after.written ≡ before.written

-- the answer for that
abbrev pub fault_of_start : StartFault → ServiceFault
fault_of_start (start.Log log.ReadFault) = fault.Read
fault_of_start (start.Log log.WriteFault) = fault.Append
fault_of_start (start.Log log.OutOfMemory) = fault.OutOfMemory
fault_of_start start.OutOfMemory = fault.OutOfMemory
fault_of_start e = fault.Log e

-- The node hasn't begun: the settings and keys weren't read, and nothing changed, or the log gave no node.
abbrev pub BeginsNot : {B K : Type 0} → Sight B K → Bool → Names → Option ℕ → Outside B → Outside B → ServiceFault → Type 0
BeginsNot sight tells names me before after e =
    (ReadsNot tells names me before.files e × StaysAs before after)
    ⊎ ((f : StartFault) × (e ≡ fault_of_start f) × StartFails sight tells names me before after f)
