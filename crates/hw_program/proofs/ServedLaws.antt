-- How a run of a node ends: which statuses it may have, by what it came to, and what it may be stopped by.
use Rattle.std.proofs.Common.{◌≡◌, ℕ, List, Bool, true, false, Option, Some, None, Result, Ok, Err, refl, sym, ap, subst, ◌∙◌, inl, inr, arith}
use Rattle.std.specs.Prelude.{◌⊎◌, ◌==◌, ◌||◌, nat_lt, codes, length, IsTrue, IfErr, if◌then◌else◌}
use Rattle.hw_types.specs.declared.answers.Plan.{Plan}
use Rattle.hw_types.specs.declared.config.Config.{Config}
use Rattle.hw_log.specs.declared.error.LogError.{LogError}
use Rattle.hw_log.specs.declared.error.LogError.TheVariants as log
use Rattle.hw_replay.specs.declared.fault.StartFault.{StartFault}
use Rattle.hw_replay.specs.declared.fault.StartFault.TheVariants as start
use Rattle.hw_replay.specs.Replay.{IsOutside}
use Rattle.hw_settings.specs.declared.fault.SettingsFault.{SettingsFault}
use Rattle.hw_keys.proofs.TextLaws.{text_has_no_fault, no_first_fault}
use Rattle.hw_link.specs.declared.end.SessionEnd.{SessionEnd}
use Rattle.hw_session.specs.Node.{NodeState}
use Rattle.hw_session.specs.Start.{Starts, IsUnmade}
use Rattle.hw_session.specs.declared.fault.MakeFault.{MakeFault}
use Rattle.hw_session.specs.declared.fault.MakeFault.TheVariants as make
use Rattle.hw_replay.specs.Fates.{Sight}
use Rattle.hw_service.specs.declared.fault.ServiceFault.{ServiceFault}
use Rattle.hw_service.specs.declared.fault.ServiceFault.TheVariants as fault
use Rattle.hw_service.specs.declared.ended.Served.{Served}
use Rattle.hw_service.specs.declared.peer.Peer.{Peer}
use Rattle.hw_service.specs.Scene.{Outside, Scene}
use Rattle.hw_service.specs.Begin.{Names, file_settings, HoldsKeys, HoldsFault, IsValidator, IsNoValidator, ReadsNot, fault_of_start, BeginsNot}
use Rattle.hw_service.specs.Steps.{Step, TakesUntil}
use Rattle.hw_service.specs.Told.{TellsEnd}
use Rattle.hw_service.specs.Written.{IsOfOutput}
use Rattle.hw_service.specs.Run.{StepOver, ReportsNot, RunsPart, Runs, course, runner}
use Rattle.hw_service.specs.Turns.{Turning, turning, TellsMade, DrivesSession, Turns, TakesTurn}
use Rattle.hw_service.specs.Serve.{serves_session}
use Rattle.hw_service.specs.Runs.{hosts_session, calls_peer}
use Rattle.hw_commands.specs.declared.ended.Ended.{Ended}
use Rattle.hw_commands.specs.Program.{Held}
use Rattle.hw_commands.specs.Texts.{append_fault_line, input_ended, limit_ended, clash_ended, stopped_ended}
use Rattle.hw_commands.specs.Run.{Output, Finishes, IsServiceStatus}
use Rattle.hw_program.specs.Services.{Service, Serve, Run, Host, Meet, names_in, maker_in}
use Rattle.hw_program.specs.Served.{service_stopped, Tells, EndsBy, RunsAsAsked, IsFitLog, MayBegin, IsMidway}

-- ---- the statuses

zero : IsServiceStatus 0
zero = inl refl

one : IsServiceStatus 1
one = inr (inl refl)

two : IsServiceStatus 2
two = inr (inr (inl refl))

four : IsServiceStatus 4
four = inr (inr (inr (inl refl)))

five : IsServiceStatus 5
five = inr (inr (inr (inr (inl refl))))

six : IsServiceStatus 6
six = inr (inr (inr (inr (inr (inl refl)))))

seven : IsServiceStatus 7
seven = inr (inr (inr (inr (inr (inr (inl refl))))))

eight : IsServiceStatus 8
eight = inr (inr (inr (inr (inr (inr (inr (inl refl)))))))

nine : IsServiceStatus 9
nine = inr (inr (inr (inr (inr (inr (inr (inr refl)))))))

reported : (limits failed : Bool) → IsServiceStatus (if limits then 8 else if failed then 6 else 0)
reported true failed = eight
reported false true = six
reported false false = zero

-- of a log that can't be read on
log_status : (name : List ℕ) (e : LogError) → IsServiceStatus (stopped_ended name (start.Log e)).status
unfolding input_ended
log_status name log.ReadFault = four
log_status name log.OutOfMemory = seven
log_status name log.WriteFault = two
log_status name log.BadMagic = two
log_status name (log.Version v) = two
log_status name (log.Torn at) = two
log_status name (log.TooLong at) = two
log_status name (log.BadConfig f) = two
log_status name (log.ConfigFault f) = two
log_status name (log.BadEvent at) = two
log_status name (log.BadVerdict at) = two
log_status name (log.BadVertex at f) = two

start_status : (name : List ℕ) (e : StartFault) → IsServiceStatus (stopped_ended name e).status
unfolding input_ended limit_ended clash_ended
start_status name (start.Log e) = log_status name e
start_status name start.OtherConfig = two
start_status name (start.Clash known other) = nine
start_status name (start.RecordsFull at) = eight
start_status name (start.ParkFull at) = eight
start_status name start.OutOfMemory = seven

-- of what stopped a run
stopped_status : (names : Names) (e : ServiceFault) → IsServiceStatus (service_stopped names e).status
unfolding input_ended clash_ended
stopped_status names (fault.Settings f) = two
stopped_status names fault.NoValidator = one
stopped_status names (fault.Keys at) = two
stopped_status names (fault.Log e) = start_status names.log e
stopped_status names (fault.Clash units) = nine
stopped_status names fault.Read = four
stopped_status names fault.Append = five
stopped_status names fault.Write = five
stopped_status names fault.OutOfMemory = seven

-- The line is told with its status, or with 5 in place of 0 and 3, or there was no memory.
told_status : (e : Ended) (status : ℕ) (old new : Output) → IsServiceStatus e.status → Tells e status old new → IsServiceStatus status
told_status e status old new is (inl (inl whole)) = subst IsServiceStatus (sym whole.0) is
told_status e status old new is (inl (inr (inl cut))) = go ((e.status == 0) || (e.status == 3)) cut.0
  where
    go : (b : Bool) → status ≡ (if b then 5 else e.status) → IsServiceStatus status
    go true e5 = subst IsServiceStatus (sym e5) five
    go false kept = subst IsServiceStatus (sym kept) is
told_status e status old new is (inl (inr (inr want))) = subst IsServiceStatus (sym want.0) seven
told_status e status old new is (inr memory) = subst IsServiceStatus (sym memory.0) seven

pub ends_status : (names : Names) (came_to : Result Served ServiceFault) (status : ℕ) (old new : Output) → EndsBy names came_to status old new → IsServiceStatus status
ends_status names (Ok served) status old new ends = subst IsServiceStatus (sym ends.0) (reported (nat_lt 0 served.limits) served.link_failed)
ends_status names (Err fault.Write) status old new ends = subst IsServiceStatus (sym ends.0) five
ends_status names (Err fault.OutOfMemory) status old new ends = subst IsServiceStatus (sym ends.0) seven
ends_status names (Err (fault.Settings f)) status old new ends = told_status (service_stopped names (fault.Settings f)) status old new (stopped_status names (fault.Settings f)) ends
ends_status names (Err fault.NoValidator) status old new ends = told_status (service_stopped names fault.NoValidator) status old new one ends
ends_status names (Err (fault.Keys at)) status old new ends = told_status (service_stopped names (fault.Keys at)) status old new (stopped_status names (fault.Keys at)) ends
ends_status names (Err (fault.Log e)) status old new ends = told_status (service_stopped names (fault.Log e)) status old new (stopped_status names (fault.Log e)) ends
ends_status names (Err (fault.Clash units)) status old new ends = told_status (service_stopped names (fault.Clash units)) status old new (stopped_status names (fault.Clash units)) ends
ends_status names (Err fault.Read) status old new ends = told_status (service_stopped names fault.Read) status old new four ends
ends_status names (Err fault.Append) status old new ends = told_status (service_stopped names fault.Append) status old new five ends

-- ---- a step of a node that runs

-- it may be stopped by the outside, by want of memory, or by a clash
abbrev pub IsStepFault : ServiceFault → Type 0
IsStepFault fault.Append = Unit {0}
IsStepFault fault.Write = Unit {0}
IsStepFault fault.OutOfMemory = Unit {0}
IsStepFault (fault.Clash units) = Unit {0}
IsStepFault e = ⊥

told_fault : (who : List ℕ) (number : ℕ) (e : SessionEnd) (n : NodeState) (old new : Option (List ℕ)) (f : ServiceFault) → TellsEnd who number e n old new (Err f) → IsStepFault f
told_fault who number e n old new fault.Write told = tt
told_fault who number e n old new fault.Append told = tt
told_fault who number e n old new (fault.Clash units) told = tt
told_fault who number e n old new fault.OutOfMemory told = tt
told_fault who number e n old new (fault.Settings f) told = absurd told
told_fault who number e n old new (fault.Keys at) told = absurd told
told_fault who number e n old new (fault.Log f) told = absurd told
told_fault who number e n old new fault.NoValidator told = absurd told
told_fault who number e n old new fault.Read told = absurd told

output_fault : (f : ServiceFault) → IsOfOutput f → IsStepFault f
output_fault fault.Write of = tt
output_fault fault.OutOfMemory of = tt
output_fault (fault.Settings f) of = absurd of
output_fault fault.NoValidator of = absurd of
output_fault (fault.Keys at) of = absurd of
output_fault (fault.Log f) of = absurd of
output_fault (fault.Clash units) of = absurd of
output_fault fault.Read of = absurd of
output_fault fault.Append of = absurd of

-- what stops steps stops one of them
until_fault : {S : Type 0} (step : Step S) (number count : ℕ) (first last : S) (e : ServiceFault) → ((k : ℕ) (old new : S) → step k old new (Err e) → IsStepFault e) → TakesUntil step number count first last e → IsStepFault e
until_fault step number count first last e each until = each _ _ _ until.ends

pub session_fault : {B K : Type 0} (sight : Sight B K) (tells : Bool) (e : ServiceFault) (number : ℕ) (old new : Scene B × Unit {0}) → serves_session sight tells number old new (Err e) → IsStepFault e
session_fault sight tells e number old new s = told_fault (codes "session") number s.end new.0.node old.0.around.written new.0.around.written e s.told

pub host_fault : {B K : Type 0} (sight : Sight B K) (tells : Bool) (e : ServiceFault) (number : ℕ) (old new : Scene B × Unit {0}) → hosts_session sight tells number old new (Err e) → IsStepFault e
host_fault sight tells e number old new s = told_fault (codes "session") number s.end new.0.node old.0.around.written new.0.around.written e s.told

pub meet_fault : {B K : Type 0} (sight : Sight B K) (tells : Bool) (address : List ℕ) (e : ServiceFault) (number : ℕ) (old new : Scene B × Unit {0}) → calls_peer sight tells address number old new (Err e) → IsStepFault e
meet_fault sight tells address e number old new s = told_fault (codes "peer") number s.end new.0.node old.0.around.written new.0.around.written e s.told

append_step : (e : ServiceFault) → ◌≡◌ {A = Result (Unit {0}) ServiceFault} (Err e) (Err fault.Append) → IsStepFault e
append_step e is = let same : e ≡ fault.Append = cc in subst IsStepFault (sym same) tt

memory_step : (e : ServiceFault) → ◌≡◌ {A = Result (Unit {0}) ServiceFault} (Err e) (Err fault.OutOfMemory) → IsStepFault e
memory_step e is = let same : e ≡ fault.OutOfMemory = cc in subst IsStepFault (sym same) tt

made_fault : {B K : Type 0} (sight : Sight B K) (made : Result (Option Plan) MakeFault) (old new : Scene B) (e : ServiceFault) → TellsMade sight made old new (Err e) → IsStepFault e
made_fault sight (Ok p) old new e told = output_fault e told.1
made_fault sight (Err make.RecordsFull) old new e told = absurd (let never : Err e ≡ Ok tt = told.0 in cc)
made_fault sight (Err make.AppendFault) old new e told = append_step e told.0
made_fault sight (Err make.OutOfMemory) old new e told = memory_step e told.0

peer_fault : {B K : Type 0} (sight : Sight B K) (tells : Bool) (e : ServiceFault) (place : ℕ) (old new : Scene B × List Peer) → DrivesSession sight tells place old new (Err e) → IsStepFault e
peer_fault sight tells e place old new d = told_fault (codes "peer") place d.drives.end new.0.node old.0.around.written new.0.around.written e d.drives.told

turns_fault : {B K : Type 0} (sight : Sight B K) (tells : Bool) (me moment : ℕ) (old new : Scene B) (before after : List Peer) (e : ServiceFault) → Turns sight tells me moment old new before after (Err e) → IsStepFault e
turns_fault sight tells me moment old new before after e (inl not) = made_fault sight not.makes.made old new e not.makes.told
turns_fault sight tells me moment old new before after e (inr d) = until_fault (DrivesSession sight tells) _ _ _ _ e (peer_fault sight tells e) d.drives

pub turn_fault : {B K : Type 0} (sight : Sight B K) (tells : Bool) (me : ℕ) (e : ServiceFault) (number : ℕ) (old new : Scene B × Turning) → TakesTurn sight tells me number old new (Err e) → IsStepFault e
turn_fault sight tells me e number old new t = turns_fault sight tells me t.moment old.0 new.0 old.1.peers new.1.peers e t.turns

report_fault : {B K : Type 0} (sight : Sight B K) (last : Scene B) (after : Outside B) (e : ServiceFault) → ReportsNot sight last after e → IsStepFault e
report_fault sight last after fault.Write r = tt
report_fault sight last after fault.OutOfMemory r = tt
report_fault sight last after (fault.Settings f) r = absurd r
report_fault sight last after fault.NoValidator r = absurd r
report_fault sight last after (fault.Keys at) r = absurd r
report_fault sight last after (fault.Log f) r = absurd r
report_fault sight last after (fault.Clash units) r = absurd r
report_fault sight last after fault.Read r = absurd r
report_fault sight last after fault.Append r = absurd r

-- A node that has begun is stopped so.
pub part_fault : {B K X : Type 0} (sight : Sight B K) (tells : Bool) (names : Names) (me : Option ℕ) (step : StepOver B X) (number count : ℕ) (before after : Outside B) (x y : X) (e : ServiceFault)
    → ((k : ℕ) (old new : Scene B × X) → step k old new (Err e) → IsStepFault e) → RunsPart (runner sight tells names me) (course step number count) (before, x) (after, y) e → IsStepFault e
part_fault sight tells names me step number count before after x y e each p = elim p.stops [
  | inl s ↦ until_fault step number count _ _ e each s.steps
  | inr s ↦ report_fault sight s.last after e s.reports
]

-- ---- a run that has what it needs

step_midway : (e : ServiceFault) → IsStepFault e → IsMidway e
step_midway fault.Append is = tt
step_midway fault.Write is = tt
step_midway fault.OutOfMemory is = tt
step_midway (fault.Clash units) is = tt
step_midway (fault.Settings f) is = absurd is
step_midway fault.NoValidator is = absurd is
step_midway (fault.Keys at) is = absurd is
step_midway (fault.Log f) is = absurd is
step_midway fault.Read is = absurd is

valid : (me : Option ℕ) (config : Config) → IsValidator me config → IsNoValidator me config → ⊥
valid None config is not = not
valid (Some me) config is not = omega (arith, is, not)

keys_fit : (n : ℕ) (file : Option (List ℕ)) (keys : List (List ℕ)) (at : ℕ) → HoldsKeys n file keys → HoldsFault n file at → ⊥
keys_fit n (Some text) keys at is wrong = no_first_fault n text at (text_has_no_fault n text keys is) wrong
keys_fit n None keys at is wrong = is

pub one_config : (file : Option (Result Config SettingsFault)) (a b : Config) → file ≡ Some (Ok a) → file ≡ Some (Ok b) → a ≡ b
one_config file a b is so = let both : Some (Ok a) ≡ Some (Ok b) = sym is ∙ so in cc

-- what isn't read
reads_midway : (s : Service) (tells : Bool) (held : Held) (e : ServiceFault) → IsTrue tells → MayBegin s held → ReadsNot tells (names_in s) (maker_in s) held e → IsMidway e
reads_midway s tells held (fault.Settings f) t may not = absurd (let both : Some (Ok may.config) ≡ Some (Err f) = sym may.settings ∙ not t in cc)
reads_midway s tells held fault.NoValidator t may (config, said, none) =
    absurd (valid (maker_in s) config (subst (IsValidator (maker_in s)) (one_config (file_settings (held (names_in s).config)) may.config config may.settings (said t)) may.validator) none)
reads_midway s tells held (fault.Keys at) t may (config, said, is, wrong) =
    let same = one_config (file_settings (held (names_in s).config)) config may.config (said t) may.settings in
    absurd (keys_fit (length may.config.weights) (held (names_in s).keys) may.keys at may.keys_are (subst (λ (c : Config). HoldsFault (length c.weights) (held (names_in s).keys) at) same (wrong t)))
reads_midway s tells held fault.Read t may not = tt
reads_midway s tells held fault.OutOfMemory t may not = tt
reads_midway s tells held (fault.Log e) t may not = absurd not
reads_midway s tells held (fault.Clash units) t may not = absurd not
reads_midway s tells held fault.Append t may not = absurd not
reads_midway s tells held fault.Write t may not = absurd not

-- a log of which a call failed, or for which there was no memory
unmade_midway : (f : StartFault) → IsUnmade f → IsMidway (fault_of_start f)
unmade_midway (start.Log log.ReadFault) is = tt
unmade_midway (start.Log log.WriteFault) is = tt
unmade_midway start.OutOfMemory is = tt
unmade_midway (start.Log log.OutOfMemory) is = tt
unmade_midway (start.Log log.BadMagic) is = absurd is
unmade_midway (start.Log (log.Version v)) is = absurd is
unmade_midway (start.Log (log.Torn at)) is = absurd is
unmade_midway (start.Log (log.TooLong at)) is = absurd is
unmade_midway (start.Log (log.BadConfig f)) is = absurd is
unmade_midway (start.Log (log.ConfigFault f)) is = absurd is
unmade_midway (start.Log (log.BadEvent at)) is = absurd is
unmade_midway (start.Log (log.BadVerdict at)) is = absurd is
unmade_midway (start.Log (log.BadVertex at f)) is = absurd is
unmade_midway start.OtherConfig is = absurd is
unmade_midway (start.Clash known other) is = absurd is
unmade_midway (start.RecordsFull at) is = absurd is
unmade_midway (start.ParkFull at) is = absurd is

outside_unmade : (f : StartFault) → IsOutside f → IsUnmade f
outside_unmade (start.Log log.ReadFault) is = tt
outside_unmade start.OutOfMemory is = tt
outside_unmade (start.Log log.WriteFault) is = absurd is
outside_unmade (start.Log log.OutOfMemory) is = absurd is
outside_unmade (start.Log log.BadMagic) is = absurd is
outside_unmade (start.Log (log.Version v)) is = absurd is
outside_unmade (start.Log (log.Torn at)) is = absurd is
outside_unmade (start.Log (log.TooLong at)) is = absurd is
outside_unmade (start.Log (log.BadConfig f)) is = absurd is
outside_unmade (start.Log (log.ConfigFault f)) is = absurd is
outside_unmade (start.Log (log.BadEvent at)) is = absurd is
outside_unmade (start.Log (log.BadVerdict at)) is = absurd is
outside_unmade (start.Log (log.BadVertex at f)) is = absurd is
outside_unmade start.OtherConfig is = absurd is
outside_unmade (start.Clash known other) is = absurd is
outside_unmade (start.RecordsFull at) is = absurd is
outside_unmade (start.ParkFull at) is = absurd is

start_midway : (config : Config) (keys : List (List ℕ)) (name : List ℕ) (file : Option (List ℕ)) (f : StartFault) → IsFitLog config file → Starts config keys name file (Err f) → IsMidway (fault_of_start f)
start_midway config keys name None f fit starts = unmade_midway f starts
start_midway config keys name (Some bytes) f (t, is) (inl outside) = unmade_midway f (outside_unmade f outside)
start_midway config keys name (Some bytes) f (t, is) (inr said) = absurd (let both : Ok t ≡ Err f = sym is ∙ said in cc)

begins_midway : {B K : Type 0} (sight : Sight B K) (s : Service) (tells : Bool) (before after : Outside B) (e : ServiceFault) → IsTrue tells → MayBegin s before.files
    → BeginsNot sight tells (names_in s) (maker_in s) before after e → IsMidway e
begins_midway sight s tells before after e t may (inl not) = reads_midway s tells before.files e t may not.0
begins_midway sight s tells before after e t may (inr (f, is, fails)) =
    let same = one_config (file_settings (before.files (names_in s).config)) may.config fails.config may.settings (fails.reads.settings t) in
    subst IsMidway (sym is) (start_midway fails.config fails.keys (names_in s).log (before.files (names_in s).log) f (subst (λ (c : Config). IsFitLog c (before.files (names_in s).log)) same may.log) (fails.starts t))

-- A run that may begin is stopped only midway.
pub runs_midway : {B K X : Type 0} (sight : Sight B K) (s : Service) (tells : Bool) (step : StepOver B X) (number count : ℕ) (before after : Outside B) (x y : X) (came_to : Result Served ServiceFault)
    → ((e : ServiceFault) (k : ℕ) (old new : Scene B × X) → step k old new (Err e) → IsStepFault e) → IsTrue tells → MayBegin s before.files
    → Runs (runner sight tells (names_in s) (maker_in s)) (course step number count) (before, x) (after, y) came_to → IfErr came_to IsMidway
runs_midway sight s tells step number count before after x y (Ok served) each t may runs = tt
runs_midway sight s tells step number count before after x y (Err e) each t may (inl not) = begins_midway sight s tells before after e t may not.begins_not
runs_midway sight s tells step number count before after x y (Err e) each t may (inr part) = step_midway e (part_fault sight tells (names_in s) (maker_in s) step number count before after x y e (each e) part)

pub asked_midway : {B K : Type 0} (sight : Sight B K) (s : Service) (tells : Bool) (before after : Outside B) (given given_now : Option (List ℕ)) (came_to : Result Served ServiceFault)
    → RunsAsAsked sight tells s before after given given_now came_to → IsTrue tells → MayBegin s before.files → IfErr came_to IsMidway
asked_midway sight (Serve names address sessions) tells before after given given_now came_to runs t may =
    runs_midway sight (Serve names address sessions) tells (serves_session sight tells) 1 sessions before after tt tt came_to (session_fault sight tells) t may runs.0
asked_midway sight (Run names me turns peers) tells before after given given_now came_to (inl runs) t may =
    runs_midway sight (Run names me turns peers) tells (TakesTurn sight tells me) 1 turns before after (turning runs.first given) (turning runs.last given_now) came_to (turn_fault sight tells me) t may runs.runs
asked_midway sight (Run names me turns peers) tells before after given given_now came_to (inr none) t may =
    subst (λ (r : Result Served ServiceFault). IfErr r IsMidway) (sym none.memory) tt
asked_midway sight (Host names address sessions) tells before after given given_now came_to runs t may =
    runs_midway sight (Host names address sessions) tells (hosts_session sight tells) 1 sessions before after tt tt came_to (host_fault sight tells) t may runs.0
asked_midway sight (Meet names peer) tells before after given given_now came_to runs t may =
    runs_midway sight (Meet names peer) tells (calls_peer sight tells peer) 0 1 before after tt tt came_to (meet_fault sight tells peer) t may runs.0

-- ---- which fault has which status

-- a line of a fault is told with its status, or there was no memory
pub told_kept : (e : Ended) (status : ℕ) (old new : Output) → (e.status ≡ 0 → ⊥) → (e.status ≡ 3 → ⊥) → Tells e status old new → (status ≡ e.status) ⊎ (status ≡ 7)
told_kept e status old new not_zero not_three (inl (inl whole)) = inl whole.0
told_kept e status old new not_zero not_three (inl (inr (inl cut))) = go (e.status == 0) (e.status == 3) refl refl cut.0
  where
    go : (a b : Bool) → (e.status == 0) ≡ a → (e.status == 3) ≡ b → status ≡ (if a || b then 5 else e.status) → (status ≡ e.status) ⊎ (status ≡ 7)
    go true b is other five = absurd (not_zero (grind (arith, is)))
    go false true is other five = absurd (not_three (grind (arith, other)))
    go false false is other kept = inl kept
told_kept e status old new not_zero not_three (inl (inr (inr want))) = inr want.0
told_kept e status old new not_zero not_three (inr memory) = inr memory.0

-- the log's bytes are wrong, or its replay meets a limit or a clash; a call of the outside didn't fail
abbrev pub IsLogFault : StartFault → Type 0
IsLogFault (start.Log log.ReadFault) = ⊥
IsLogFault (start.Log log.WriteFault) = ⊥
IsLogFault (start.Log log.OutOfMemory) = ⊥
IsLogFault start.OutOfMemory = ⊥
IsLogFault e = Unit {0}

-- such a one ends with 2, 8 or 9
pub log_fault_status : (name : List ℕ) (e : StartFault) → IsLogFault e → ((stopped_ended name e).status ≡ 2) ⊎ ((stopped_ended name e).status ≡ 8) ⊎ ((stopped_ended name e).status ≡ 9)
unfolding input_ended limit_ended clash_ended
log_fault_status name (start.Log log.ReadFault) is = absurd is
log_fault_status name (start.Log log.WriteFault) is = absurd is
log_fault_status name (start.Log log.OutOfMemory) is = absurd is
log_fault_status name start.OutOfMemory is = absurd is
log_fault_status name (start.Log log.BadMagic) is = inl refl
log_fault_status name (start.Log (log.Version v)) is = inl refl
log_fault_status name (start.Log (log.Torn at)) is = inl refl
log_fault_status name (start.Log (log.TooLong at)) is = inl refl
log_fault_status name (start.Log (log.BadConfig f)) is = inl refl
log_fault_status name (start.Log (log.ConfigFault f)) is = inl refl
log_fault_status name (start.Log (log.BadEvent at)) is = inl refl
log_fault_status name (start.Log (log.BadVerdict at)) is = inl refl
log_fault_status name (start.Log (log.BadVertex at f)) is = inl refl
log_fault_status name start.OtherConfig is = inl refl
log_fault_status name (start.RecordsFull at) is = inr (inl refl)
log_fault_status name (start.ParkFull at) is = inr (inl refl)
log_fault_status name (start.Clash known other) is = inr (inr refl)

kept_fault : (f e : StartFault) → fault.Log f ≡ fault.Log e → IsLogFault f → IsLogFault e
kept_fault f e is plain = subst IsLogFault (let same : f ≡ e = cc in same) plain

-- what a start is answered as has no fault of the outside inside
start_log_fault : (f e : StartFault) → fault_of_start f ≡ fault.Log e → IsLogFault e
start_log_fault (start.Log log.ReadFault) e is = absurd (let never : fault.Read ≡ fault.Log e = is in cc)
start_log_fault (start.Log log.WriteFault) e is = absurd (let never : fault.Append ≡ fault.Log e = is in cc)
start_log_fault (start.Log log.OutOfMemory) e is = absurd (let never : fault.OutOfMemory ≡ fault.Log e = is in cc)
start_log_fault start.OutOfMemory e is = absurd (let never : fault.OutOfMemory ≡ fault.Log e = is in cc)
start_log_fault (start.Log log.BadMagic) e is = kept_fault (start.Log log.BadMagic) e is tt
start_log_fault (start.Log (log.Version v)) e is = kept_fault (start.Log (log.Version v)) e is tt
start_log_fault (start.Log (log.Torn at)) e is = kept_fault (start.Log (log.Torn at)) e is tt
start_log_fault (start.Log (log.TooLong at)) e is = kept_fault (start.Log (log.TooLong at)) e is tt
start_log_fault (start.Log (log.BadConfig f)) e is = kept_fault (start.Log (log.BadConfig f)) e is tt
start_log_fault (start.Log (log.ConfigFault f)) e is = kept_fault (start.Log (log.ConfigFault f)) e is tt
start_log_fault (start.Log (log.BadEvent at)) e is = kept_fault (start.Log (log.BadEvent at)) e is tt
start_log_fault (start.Log (log.BadVerdict at)) e is = kept_fault (start.Log (log.BadVerdict at)) e is tt
start_log_fault (start.Log (log.BadVertex at f)) e is = kept_fault (start.Log (log.BadVertex at f)) e is tt
start_log_fault start.OtherConfig e is = kept_fault start.OtherConfig e is tt
start_log_fault (start.RecordsFull at) e is = kept_fault (start.RecordsFull at) e is tt
start_log_fault (start.ParkFull at) e is = kept_fault (start.ParkFull at) e is tt
start_log_fault (start.Clash known other) e is = kept_fault (start.Clash known other) e is tt

-- a fault that a run may have, whatever step it takes
abbrev pub IsPlainFault : ServiceFault → Type 0
IsPlainFault (fault.Log e) = IsLogFault e
IsPlainFault e = Unit {0}

step_plain : (e : ServiceFault) → IsStepFault e → IsPlainFault e
step_plain fault.Append is = tt
step_plain fault.Write is = tt
step_plain fault.OutOfMemory is = tt
step_plain (fault.Clash units) is = tt
step_plain (fault.Settings f) is = tt
step_plain fault.NoValidator is = tt
step_plain (fault.Keys at) is = tt
step_plain (fault.Log f) is = absurd is
step_plain fault.Read is = tt

start_plain : (f : StartFault) (e : ServiceFault) → e ≡ fault_of_start f → IsPlainFault e
start_plain f (fault.Log e) is = start_log_fault f e (sym is)
start_plain f fault.Append is = tt
start_plain f fault.Write is = tt
start_plain f fault.OutOfMemory is = tt
start_plain f (fault.Clash units) is = tt
start_plain f (fault.Settings g) is = tt
start_plain f fault.NoValidator is = tt
start_plain f (fault.Keys at) is = tt
start_plain f fault.Read is = tt

reads_plain : (tells : Bool) (names : Names) (me : Option ℕ) (held : Held) (e : ServiceFault) → ReadsNot tells names me held e → IsPlainFault e
reads_plain tells names me held (fault.Log e) not = absurd not
reads_plain tells names me held fault.Append not = tt
reads_plain tells names me held fault.Write not = tt
reads_plain tells names me held fault.OutOfMemory not = tt
reads_plain tells names me held (fault.Clash units) not = tt
reads_plain tells names me held (fault.Settings f) not = tt
reads_plain tells names me held fault.NoValidator not = tt
reads_plain tells names me held (fault.Keys at) not = tt
reads_plain tells names me held fault.Read not = tt

begins_plain : {B K : Type 0} (sight : Sight B K) (tells : Bool) (names : Names) (me : Option ℕ) (before after : Outside B) (e : ServiceFault) → BeginsNot sight tells names me before after e → IsPlainFault e
begins_plain sight tells names me before after e (inl not) = reads_plain tells names me before.files e not.0
begins_plain sight tells names me before after e (inr (f, is, fails)) = start_plain f e is

runs_plain : {B K X : Type 0} (sight : Sight B K) (tells : Bool) (names : Names) (me : Option ℕ) (step : StepOver B X) (number count : ℕ) (before after : Outside B) (x y : X) (came_to : Result Served ServiceFault)
    → ((e : ServiceFault) (k : ℕ) (old new : Scene B × X) → step k old new (Err e) → IsStepFault e) → Runs (runner sight tells names me) (course step number count) (before, x) (after, y) came_to → IfErr came_to IsPlainFault
runs_plain sight tells names me step number count before after x y (Ok served) each runs = tt
runs_plain sight tells names me step number count before after x y (Err e) each (inl not) = begins_plain sight tells names me before after e not.begins_not
runs_plain sight tells names me step number count before after x y (Err e) each (inr part) = step_plain e (part_fault sight tells names me step number count before after x y e (each e) part)

pub asked_plain : {B K : Type 0} (sight : Sight B K) (s : Service) (tells : Bool) (before after : Outside B) (given given_now : Option (List ℕ)) (came_to : Result Served ServiceFault)
    → RunsAsAsked sight tells s before after given given_now came_to → IfErr came_to IsPlainFault
asked_plain sight (Serve names address sessions) tells before after given given_now came_to runs =
    runs_plain sight tells names None (serves_session sight tells) 1 sessions before after tt tt came_to (session_fault sight tells) runs.0
asked_plain sight (Run names me turns peers) tells before after given given_now came_to (inl runs) =
    runs_plain sight tells names (Some me) (TakesTurn sight tells me) 1 turns before after (turning runs.first given) (turning runs.last given_now) came_to (turn_fault sight tells me) runs.runs
asked_plain sight (Run names me turns peers) tells before after given given_now came_to (inr none) =
    subst (λ (r : Result Served ServiceFault). IfErr r IsPlainFault) (sym none.memory) tt
asked_plain sight (Host names address sessions) tells before after given given_now came_to runs =
    runs_plain sight tells names None (hosts_session sight tells) 1 sessions before after tt tt came_to (host_fault sight tells) runs.0
asked_plain sight (Meet names peer) tells before after given given_now came_to runs =
    runs_plain sight tells names None (calls_peer sight tells peer) 0 1 before after tt tt came_to (meet_fault sight tells peer) runs.0

-- ---- the line of a fault that has one

pub ends_told : (names : Names) (e : ServiceFault) (status : ℕ) (old new : Output) → (e ≡ fault.Write → ⊥) → (e ≡ fault.OutOfMemory → ⊥) → Tells (service_stopped names e) status old new → EndsBy names (Err e) status old new
ends_told names fault.Write status old new write memory told = absurd (write refl)
ends_told names fault.OutOfMemory status old new write memory told = absurd (memory refl)
ends_told names (fault.Settings f) status old new write memory told = told
ends_told names fault.NoValidator status old new write memory told = told
ends_told names (fault.Keys at) status old new write memory told = told
ends_told names (fault.Log e) status old new write memory told = told
ends_told names (fault.Clash units) status old new write memory told = told
ends_told names fault.Read status old new write memory told = told
ends_told names fault.Append status old new write memory told = told

-- a line that is written with its status tells what stopped the run
pub line_of_fault : (e line : Ended) (status : ℕ) (old new : Output) → e ≡ line → Finishes line.status line.text status old new → Tells e status old new
line_of_fault e line status old new is written = subst (λ (x : Ended). Tells x status old new) (sym is) (inl written)

pub append_stopped : (names : Names) (e : ServiceFault) → e ≡ fault.Append → service_stopped names e ≡ record { status = 5; text = append_fault_line }
append_stopped names e is = ap (service_stopped names) is
