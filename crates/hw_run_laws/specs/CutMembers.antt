-- That there are replays and runs that are cut short, with consumers that were passed blocks by then: the statements.
-- Source: ours.
use Rattle.std.specs.Prelude.{◌≡◌, ℕ, true, List, [], length, map, Option, Some, None, Ok, Err}
use Rattle.std.specs.List.{range_with_len}
use Rattle.hw_types.specs.declared.config.Config.{Config}
use Rattle.hw_types.specs.Real.{CoreState}
use Rattle.hw_io.specs.Consumers.{Consumed, after_finish}
use Rattle.hw_io.specs.Faults.{raised}
use Rattle.hw_log.specs.declared.entry.LogEntry.{LogEntry}
use Rattle.hw_log.specs.Log.{Entries}
use Rattle.hw_log.specs.Reader.{behind_given}
use Rattle.hw_replay.specs.declared.fault.StartFault.{StartFault}
use Rattle.hw_replay.specs.State.{FanoutState}
use Rattle.hw_replay.specs.Chain.{told_chain}
use Rattle.hw_replay.specs.Fates.{Sight, seen, answer_of}
use Rattle.hw_replay.specs.Told.{with_more}
use Rattle.hw_replay.specs.Taken.{Taken, nothing_taken, entries_taken, rest_taken}
use Rattle.hw_replay.specs.Midway.{midway, next_taken}
use Rattle.hw_replay.specs.Feed.{first_moment, AreFedUntil, AreFedTo}
use Rattle.hw_session.specs.Restart.{HasLog}
use Rattle.hw_session.specs.Node.{IsSound}
use Rattle.hw_session.specs.Standing.{Standing}
use Rattle.hw_service.specs.declared.fault.ServiceFault.TheVariants as fault
use Rattle.hw_service.specs.Scene.{DoorSeen, door_seen, Outside, outside, none_told}
use Rattle.hw_service.specs.Begin.{Names, Reads}
use Rattle.hw_service.specs.Run.{StepOver, RunsPart, course, runner}
use Rattle.hw_service.specs.Serve.{serves_session}
use Rattle.hw_service.specs.Turns.{TakesTurn}
use Rattle.hw_service.specs.Runs.{hosts_session, calls_peer}

-- ---- consumers

-- a consumer is what it took, and never fails
abbrev pub plain_sight : Sight Consumed (Unit {0})
plain_sight = seen (λ b. Some b) (λ b. 0) (λ b. 0) (λ b. tt)

-- each of them took these blocks too
abbrev pub all_took : List (ℕ × List ℕ) → List Consumed → List Consumed
all_took blocks consumers = map (with_more blocks) consumers

-- each of them took these blocks too, and then its `finish` was called
abbrev pub all_finished : List (ℕ × List ℕ) → List Consumed → List Consumed
all_finished blocks consumers = map (λ c. after_finish (answer_of None) (with_more blocks c)) consumers

-- what is kept of consumers that were passed this many blocks, and are all left
abbrev pub none_dropped : List Consumed → ℕ → FanoutState Consumed
none_dropped consumers count = record { passed = count; places = range_with_len 0 (length consumers); drops = []; gone = [] }

-- ---- replays

-- Wherever a replay comes to, consumers that take what they are passed were fed up to there.
abbrev pub ReplaysAreFed : Type 0
ReplaysAreFed = (taken : Taken) (rest : Entries) (consumers : List Consumed) → (let chain = told_chain taken.core in
    AreFedUntil plain_sight true (rest_taken taken rest) (λ (core : CoreState). first_moment core.config consumers (none_told consumers)) (all_took chain consumers) (none_dropped consumers (length chain)))

-- Wherever an entry or the log's error stops a replay, they were fed up to there and no further.
abbrev pub ReplaysStop : Type 0
ReplaysStop = (config : Config) (read : List LogEntry) (taken : Taken) (rest : Entries) (e : StartFault) (consumers : List Consumed)
    → entries_taken (nothing_taken config) read ≡ Ok taken → next_taken (midway taken rest) ≡ Err e → (let chain = told_chain taken.core in
    AreFedTo plain_sight true (Some (midway (nothing_taken config) (behind_given read rest))) e (λ (core : CoreState). first_moment core.config consumers (none_told consumers)) (all_took chain consumers) (none_dropped consumers (length chain)))

-- ---- runs

-- these settings and keys, and the log of the node
abbrev pub named_as : List ℕ → List ℕ → Standing → Names
named_as config keys a = record { config = config; keys = keys; log = a.node.log }

-- a door that was asked this often
abbrev pub door_asked : ℕ → ℕ → DoorSeen
door_asked accepts ends = door_seen None accepts 0 ends

-- what is outside, where the output took these bytes, and these consumers are left
abbrev pub outside_at : Standing → DoorSeen → List ℕ → List Consumed → Outside Consumed
outside_at a door written consumers = outside a.held door (Some written) consumers

-- A run of these steps begins over the files of any node that has its log, where these settings and keys are read. Its
-- report is cut before its first byte. Its consumers took all that is decided.
abbrev pub IsCutAtReport : {X : Type 0} → Option ℕ → StepOver Consumed X → Type 0
IsCutAtReport {X} me step = (a : Standing) (config keys written : List ℕ) (consumers : List Consumed) (door : DoorSeen) (number : ℕ) (x : X)
    → IsSound a.node → HasLog a.node (a.held a.node.log) → Reads true (named_as config keys a) me a.held a.node.core.config a.node.keys
    → RunsPart (runner plain_sight true (named_as config keys a) me) (course step number 0) ((outside_at a door written consumers), x) ((outside_at a door written (all_finished (told_chain a.node.core) consumers)), x) fault.Write

-- A node that serves began so, a peer came that sent nothing, and the line of that session is cut before its first
-- byte. Its consumers took what is decided, and no end was reported to them.
abbrev pub ServicesAreCut : Type 0
ServicesAreCut = (a : Standing) (config keys written : List ℕ) (consumers : List Consumed) (number : ℕ)
    → IsSound a.node → HasLog a.node (a.held a.node.log) → Reads true (named_as config keys a) None a.held a.node.core.config a.node.keys
    → RunsPart (runner plain_sight true (named_as config keys a) None) (course (serves_session plain_sight true) number 1) (outside_at a (door_asked 0 0) written consumers, tt)
    (outside_at a (door_asked (raised 0) (raised 0)) written (all_took (told_chain a.node.core) consumers), tt) fault.Write

-- So it may be of each kind of run.
pub record RunsAreCut : Type 0 where
  pub services : IsCutAtReport None (serves_session plain_sight true)
  pub turns : (me : ℕ) → IsCutAtReport (Some me) (TakesTurn plain_sight true me)
  pub hosts : IsCutAtReport None (hosts_session plain_sight true)
  pub calls : (address : List ℕ) → IsCutAtReport None (calls_peer plain_sight true address)
  pub at_a_session : ServicesAreCut
