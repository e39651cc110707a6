-- A run of a node changes no file but its log.
use Rattle.std.proofs.Common.{◌≡◌, ℕ, ◌+◌, List, [], ◌∷◌, Bool, Option, Some, None, Result, Ok, Err, sym, ap, subst, ◌∙◌, inl, inr}
use Rattle.std.specs.Prelude.{◌⊎◌, ◌≢◌, IsTrue, length}
use Rattle.hw_types.specs.declared.config.Config.{Config}
use Rattle.hw_types.specs.declared.answers.Plan.{Plan}
use Rattle.hw_types.specs.declared.unit.Vertex.{Vertex}
use Rattle.hw_link.specs.declared.end.SessionEnd.{SessionEnd}
use Rattle.hw_link.specs.declared.end.SessionEnd.TheVariants as end
use Rattle.hw_replay.specs.declared.fault.StartFault.{StartFault}
use Rattle.hw_session.specs.declared.stage.PeerMark.{PeerMark}
use Rattle.hw_session.specs.declared.fault.MakeFault.{MakeFault}
use Rattle.hw_session.specs.declared.fault.MakeFault.TheVariants as make
use Rattle.hw_session.specs.Node.{NodeState}
use Rattle.hw_session.specs.Grows.{Logs, LogsAllBut}
use Rattle.hw_session.specs.Sessions.{Leaves, ServesPeer, ServesNone}
use Rattle.hw_session.specs.Drives.{LeavesDriven}
use Rattle.hw_session.specs.Make.{Makes, WritesOwn}
use Rattle.hw_session.specs.Start.{Starts, StartsLog}
use Rattle.hw_session.specs.Standing.{standing, driver_standing}
use Rattle.hw_replay.specs.Fates.{Sight}
use Rattle.hw_service.specs.declared.fault.ServiceFault.{ServiceFault}
use Rattle.hw_service.specs.declared.fault.ServiceFault.TheVariants as fault
use Rattle.hw_service.specs.declared.ended.Served.{Served}
use Rattle.hw_service.specs.declared.peer.Peer.{Peer}
use Rattle.hw_service.specs.Scene.{sessions_told, Outside, Scene}
use Rattle.hw_service.specs.Begin.{Names, HasBegun, BeginsNot}
use Rattle.hw_service.specs.Talk.{talker_in}
use Rattle.hw_service.specs.Steps.{Taken, AreTaken, TakesAll, TakesUntil, Takes}
use Rattle.hw_service.specs.Run.{StepOver, ReportsNot, Runs, course, runner}
use Rattle.hw_service.specs.Serve.{serves_session}
use Rattle.hw_meeting_node.specs.declared.end.MeetEnd.{MeetEnd}
use Rattle.hw_meeting_node.specs.declared.end.MeetEnd.TheVariants as meet
use Rattle.hw_meeting_node.specs.declared.meeter.Side.{Side}
use Rattle.hw_service.specs.Meets.{Leaves as LeavesMet, NodeMeets, NodeMeetsNone}
use Rattle.hw_service.specs.Runs.{hosts_session, calls_peer}
use Rattle.hw_service.specs.Turns.{turning, MakesUnit, DrivesOne, DrivesSession, Turns, TakesTurn}
use Rattle.hw_commands.specs.Program.{Held}
use Rattle.hw_program.specs.Services.{Service, Serve, Run, Host, Meet, names_in}
use Rattle.hw_program.specs.Served.{RunsAsAsked, Around, RunsNode, OnlyLogChanges}

-- ---- a node

-- no file but the node's log changed, and its log is the same
abbrev pub IsAlone : NodeState → NodeState → Held → Held → Type 0
IsAlone n m old new = ((other : List ℕ) → other ≢ n.log → new other ≡ old other) × (m.log ≡ n.log)

nothing_done : (n m : NodeState) (old new : Held) → m ≡ n → ((name : List ℕ) → new name ≡ old name) → IsAlone n m old new
nothing_done n m old new same files = (λ other not. files other, ap (λ (x : NodeState). x.log) same)

logs_alone : (n m : NodeState) (tells : Bool) (old new : Held) → IsTrue tells → Logs n m tells old new → IsAlone n m old new
logs_alone n m tells old new t l = ((l.log t).others, l.gains.name)

cut_alone : (n before : NodeState) (v : Vertex) (m : NodeState) (tells : Bool) (old new : Held) → IsTrue tells → LogsAllBut n before v m tells old new → IsAlone n m old new
cut_alone n before v m tells old new t l = ((l.log t).1.others, ap (λ (x : NodeState). x.log) l.unlogged.1 ∙ l.gains.name)

leaves_alone : (e : SessionEnd) (n : NodeState) (read written : List ℕ) (m : NodeState) (tells : Bool) (old new : Held) → IsTrue tells → Leaves e tells (standing n old) read written (standing m new) → IsAlone n m old new
leaves_alone end.AppendFault n read written m tells old new t l = cut_alone n _ _ m tells old new t l.logs
leaves_alone end.OutOfMemory n read written m tells old new t (inl l) = logs_alone n m tells old new t l.logs
leaves_alone end.OutOfMemory n read written m tells old new t (inr l) = cut_alone n _ _ m tells old new t l.logs
leaves_alone end.Done n read written m tells old new t l = logs_alone n m tells old new t l.1
leaves_alone end.EndOfInput n read written m tells old new t l = logs_alone n m tells old new t l.1
leaves_alone end.WrongInstance n read written m tells old new t l = logs_alone n m tells old new t l.1
leaves_alone (end.BadFrame at) n read written m tells old new t l = logs_alone n m tells old new t l.1
leaves_alone end.LinkFault n read written m tells old new t l = logs_alone n m tells old new t l.1
leaves_alone end.ByteLimit n read written m tells old new t l = logs_alone n m tells old new t l.1
leaves_alone end.Clash n read written m tells old new t l = logs_alone n m tells old new t l.1

driven_alone : (e : SessionEnd) (n : NodeState) (mark : PeerMark) (read written : List ℕ) (m : NodeState) (now : PeerMark) (tells : Bool) (old new : Held) → IsTrue tells → LeavesDriven e tells (driver_standing n mark old) read written (driver_standing m now new) → IsAlone n m old new
driven_alone end.AppendFault n mark read written m now tells old new t l = cut_alone n _ _ m tells old new t l.logs
driven_alone end.OutOfMemory n mark read written m now tells old new t (inl l) = logs_alone n m tells old new t l.logs
driven_alone end.OutOfMemory n mark read written m now tells old new t (inr l) = cut_alone n _ _ m tells old new t l.logs
driven_alone end.Done n mark read written m now tells old new t l = logs_alone n m tells old new t l.1
driven_alone end.EndOfInput n mark read written m now tells old new t l = logs_alone n m tells old new t l.1
driven_alone end.WrongInstance n mark read written m now tells old new t l = logs_alone n m tells old new t l.1
driven_alone (end.BadFrame at) n mark read written m now tells old new t l = logs_alone n m tells old new t l.1
driven_alone end.LinkFault n mark read written m now tells old new t l = logs_alone n m tells old new t l.1
driven_alone end.ByteLimit n mark read written m now tells old new t l = logs_alone n m tells old new t l.1
driven_alone end.Clash n mark read written m now tells old new t l = logs_alone n m tells old new t l.1

met_alone : (e : MeetEnd) (side : Side) (n : NodeState) (read : List ℕ) (m : NodeState) (tells : Bool) (old new : Held) → IsTrue tells → LeavesMet e side n read m tells old new → IsAlone n m old new
met_alone meet.AppendFault side n read m tells old new t l = cut_alone n _ _ m tells old new t l.logs
met_alone meet.OutOfMemory side n read m tells old new t (inl l) = logs_alone n m tells old new t l.logs
met_alone meet.OutOfMemory side n read m tells old new t (inr l) = cut_alone n _ _ m tells old new t l.logs
met_alone (meet.Done refused) side n read m tells old new t l = logs_alone n m tells old new t l.1
met_alone meet.EndOfInput side n read m tells old new t l = logs_alone n m tells old new t l.1
met_alone meet.WrongInstance side n read m tells old new t l = logs_alone n m tells old new t l.1
met_alone (meet.BadFrame at) side n read m tells old new t l = logs_alone n m tells old new t l.1
met_alone meet.LinkFault side n read m tells old new t l = logs_alone n m tells old new t l.1
met_alone meet.ByteLimit side n read m tells old new t l = logs_alone n m tells old new t l.1
met_alone meet.Clash side n read m tells old new t l = logs_alone n m tells old new t l.1

own_alone : (n m : NodeState) (planned : Option Plan) (old new : Held) (made : Result (Option Plan) MakeFault) → Makes n planned m made → WritesOwn n planned m old new made → IsAlone n m old new
own_alone n m planned old new (Ok (Some p)) makes log = (log.others, ap (λ (x : NodeState). x.log) makes.1)
own_alone n m planned old new (Ok None) makes log = nothing_done n m old new makes.1 log
own_alone n m planned old new (Err make.RecordsFull) makes log = (λ other not. log other, ap (λ (x : NodeState). x.log) makes.1)
own_alone n m planned old new (Err make.AppendFault) (p, is, same) (q, planned_is, log) = (log.others, ap (λ (x : NodeState). x.log) same)
own_alone n m planned old new (Err make.OutOfMemory) makes log = (elim log [ inl same ↦ λ other not. same.1 other | inr l ↦ l.3.others ], elim makes [ inl same ↦ ap (λ (x : NodeState). x.log) same | inr mk ↦ ap (λ (x : NodeState). x.log) mk.2 ])

-- ---- a run

module _ {B K : Type 0} (sight : Sight B K) (tells : Bool) (t : IsTrue tells) (name : List ℕ) (start : Held) where
  -- the log has this name, and every other file is as it was at the start
  abbrev IsOnly : Scene B → Type 0
  IsOnly s = (s.node.log ≡ name) × ((other : List ℕ) → other ≢ name → s.around.files other ≡ start other)

  only_then : (old new : Scene B) → IsAlone old.node new.node old.around.files new.around.files → IsOnly old → IsOnly new
  only_then old new alone is =
      (alone.1 ∙ is.0, λ other not. alone.0 other (λ same. not (same ∙ is.0)) ∙ is.1 other not)

  abbrev Keeps : {X : Type 0} → StepOver B X → Type 0
  Keeps {X} step = (k : ℕ) (old new : Scene B × X) (result : Result Bool ServiceFault) → step k old new result → IsOnly old.0 → IsOnly new.0

  taken_only : {X : Type 0} (step : StepOver B X) → Keeps step → (number : ℕ) (first : Scene B × X) (taken : Taken (Scene B × X)) (last : Scene B × X) → AreTaken step number first taken last → IsOnly first.0 → IsOnly last.0
  unfolding AreTaken
  taken_only {X} step keeps number first [] last is h = subst (λ (s : Scene B × X). IsOnly s.0) (sym is) h
  taken_only step keeps number first (s ∷ ss) last are h = taken_only step keeps (number + 1) s.0 ss last are.1 (keeps number first s.0 (Ok s.1) are.0 h)

  all_only : {X : Type 0} (step : StepOver B X) → Keeps step → (number count : ℕ) (first last : Scene B × X) (failed : Bool) → TakesAll step number count first last failed → IsOnly first.0 → IsOnly last.0
  all_only step keeps number count first last failed all h = taken_only step keeps number first all.taken last all.each h

  until_only : {X : Type 0} (step : StepOver B X) → Keeps step → (number count : ℕ) (first last : Scene B × X) (e : ServiceFault) → TakesUntil step number count first last e → IsOnly first.0 → IsOnly last.0
  until_only step keeps number count first last e u h = keeps _ u.before last (Err e) u.ends (taken_only step keeps number first u.taken u.before u.each h)

  takes_only : {X : Type 0} (step : StepOver B X) → Keeps step → (number count : ℕ) (first last : Scene B × X) (result : Result Bool ServiceFault) → Takes step number count first last result → IsOnly first.0 → IsOnly last.0
  takes_only step keeps number count first last (Ok failed) all h = all_only step keeps number count first last failed all h
  takes_only step keeps number count first last (Err e) u h = until_only step keeps number count first last e u h

  served_only : (old new : Scene B) (e : SessionEnd)
      → ServesPeer tells (standing old.node old.around.files) (standing new.node new.around.files) (sessions_told old.around.door) (sessions_told new.around.door) e
      ⊎ ServesNone tells (standing old.node old.around.files) (standing new.node new.around.files) old.around.door.sessions new.around.door.sessions e
      → IsOnly old → IsOnly new
  served_only old new e (inl s) h = only_then old new (leaves_alone e old.node s.read s.written new.node tells old.around.files new.around.files t s.serves.left) h
  served_only old new e (inr s) h = only_then old new (nothing_done old.node new.node old.around.files new.around.files s.state (s.files t)) h

  driven_only : (old new : Scene B) (before after : Peer) (e : SessionEnd) → DrivesOne tells old new before after e → IsOnly old → IsOnly new
  driven_only old new before after e (inl d) h = only_then old new (driven_alone e old.node before.mark d.read d.written new.node after.mark tells old.around.files new.around.files t d.drives.left) h
  driven_only old new before after e (inr d) h = only_then old new (nothing_done old.node new.node old.around.files new.around.files d.state (d.files t)) h

  met_only : (side : Side) (address : Option (List ℕ)) (old new : Scene B) (e : MeetEnd)
      → NodeMeets side address tells (talker_in old) (talker_in new) e ⊎ NodeMeetsNone tells (talker_in old) (talker_in new) e
      → IsOnly old → IsOnly new
  met_only side address old new e (inl s) h = only_then old new (met_alone e side old.node s.meets.read new.node tells old.around.files new.around.files t s.left) h
  met_only side address old new e (inr s) h = only_then old new (nothing_done old.node new.node old.around.files new.around.files s.state (s.files t)) h

  host_only : Keeps (hosts_session sight tells)
  host_only k old new result s h = met_only _ _ old.0 new.0 s.talked.end s.talked.met h

  meet_only : (address : List ℕ) → Keeps (calls_peer sight tells address)
  meet_only address k old new result s h = met_only _ _ old.0 new.0 s.talked.end s.talked.met h

  session_only : Keeps (serves_session sight tells)
  session_only k old new result s h = served_only old.0 new.0 s.end s.talked.served h

  peer_only : Keeps (DrivesSession sight tells)
  peer_only k old new result d h = driven_only old.0 new.0 d.before d.after d.drives.end d.drives.driven h

  made_only : (me moment : ℕ) (old new : Scene B) (result : Result (Unit {0}) ServiceFault) → MakesUnit sight tells me moment old new result → IsOnly old → IsOnly new
  made_only me moment old new result m h = only_then old new (own_alone old.node new.node _ old.around.files new.around.files m.made m.makes (m.log t)) h

  turns_only : (me moment : ℕ) (old new : Scene B) (before after : List Peer) (result : Result Bool ServiceFault) → Turns sight tells me moment old new before after result → IsOnly old → IsOnly new
  turns_only me moment old new before after (Ok failed) d h =
      takes_only (DrivesSession sight tells) peer_only 0 (length before) (d.between, before) (new, after) (Ok failed) d.drives (made_only me moment old d.between (Ok tt) d.makes h)
  turns_only me moment old new before after (Err e) (inl m) h = made_only me moment old new (Err e) m.makes h
  turns_only me moment old new before after (Err e) (inr d) h =
      takes_only (DrivesSession sight tells) peer_only 0 (length before) (d.between, before) (new, after) (Err e) d.drives (made_only me moment old d.between (Ok tt) d.makes h)

  turn_only : (me : ℕ) → Keeps (TakesTurn sight tells me)
  turn_only me k old new result s h = turns_only me s.moment old.0 new.0 old.1.peers new.1.peers result s.turns h

-- ---- its beginning and its end

started_name : (config : Config) (keys : List (List ℕ)) (name : List ℕ) (file : Option (List ℕ)) (n : NodeState) → Starts config keys name file (Ok n) → n.log ≡ name
started_name config keys name (Some bytes) n s = s.log_is
started_name config keys name None n s = ap (λ (x : NodeState). x.log) s

started_others : (config : Config) (name : List ℕ) (old new : Held) (file : Option (List ℕ)) (result : Result NodeState StartFault) → StartsLog config name old new file result → (other : List ℕ) → other ≢ name → new other ≡ old other
started_others config name old new (Some bytes) result same other not = same other
started_others config name old new None result appended other not = appended.others other not

abbrev IsLeft : {B : Type 0} → List ℕ → Outside B → Outside B → Type 0
IsLeft name before after = (other : List ℕ) → other ≢ name → after.files other ≡ before.files other

begins_not_left : {B K : Type 0} (sight : Sight B K) (tells : Bool) (names : Names) (me : Option ℕ) (before after : Outside B) (e : ServiceFault) → IsTrue tells → BeginsNot sight tells names me before after e → IsLeft names.log before after
begins_not_left sight tells names me before after e t (inl n) other not = n.1.files other
begins_not_left sight tells names me before after e t (inr n) other not = started_others n.2.config names.log before.files after.files (before.files names.log) (Err n.0) (n.2.log t) other not

begun_only : {B K : Type 0} (sight : Sight B K) (tells : Bool) (names : Names) (me : Option ℕ) (before : Outside B) (now : Scene B) → (t : IsTrue tells) → HasBegun sight tells names me before now → IsOnly sight tells t names.log before.files now
begun_only sight tells names me before now t b = (
  started_name now.node.core.config now.node.keys names.log (before.files names.log) now.node (b.starts t),
  started_others now.node.core.config names.log before.files now.around.files (before.files names.log) (Ok now.node) (b.log t),
)

reports_not_files : {B K : Type 0} (sight : Sight B K) (last : Scene B) (after : Outside B) (e : ServiceFault) → ReportsNot sight last after e → after.files ≡ last.around.files
reports_not_files sight last after fault.Write r = r.closes.files
reports_not_files sight last after fault.OutOfMemory r = r.closes.files
reports_not_files sight last after (fault.Settings f) r = absurd r
reports_not_files sight last after fault.NoValidator r = absurd r
reports_not_files sight last after (fault.Keys at) r = absurd r
reports_not_files sight last after (fault.Log f) r = absurd r
reports_not_files sight last after (fault.Clash units) r = absurd r
reports_not_files sight last after fault.Read r = absurd r
reports_not_files sight last after fault.Append r = absurd r

-- what stood behind the last step still stands
left_by : {B : Type 0} (name : List ℕ) (before after : Outside B) (files : Held) → after.files ≡ files → ((other : List ℕ) → other ≢ name → files other ≡ before.files other) → IsLeft name before after
left_by name before after files same is = subst (λ (f : Held). (other : List ℕ) → other ≢ name → f other ≡ before.files other) (sym same) is

runs_left : {B K X : Type 0} (sight : Sight B K) (tells : Bool) (names : Names) (me : Option ℕ) (step : StepOver B X) (number count : ℕ) (before after : Outside B) (x y : X) (came_to : Result Served ServiceFault) (t : IsTrue tells)
    → Keeps sight tells t names.log before.files step → Runs (runner sight tells names me) (course step number count) (before, x) (after, y) came_to → IsLeft names.log before after
runs_left sight tells names me step number count before after x y (Ok served) t keeps r =
    let last = r.completes.last in
    left_by names.log before after last.around.files r.completes.reports.closes.files
    ((all_only sight tells t names.log before.files step keeps number count (r.first, x) (last, y) served.link_failed r.completes.steps (begun_only sight tells names me before r.first t r.begins)).1)
runs_left sight tells names me step number count before after x y (Err e) t keeps (inl n) = begins_not_left sight tells names me before after e t n.begins_not
runs_left sight tells names me step number count before after x y (Err e) t keeps (inr p) = elim p.stops [
  | inl s ↦ left_by names.log before after s.last.around.files (ap (λ o. o.files) s.left)
      ((until_only sight tells t names.log before.files step keeps number count (p.first, x) (s.last, y) e s.steps (begun_only sight tells names me before p.first t p.begins)).1)
  | inr s ↦ left_by names.log before after s.last.around.files (reports_not_files sight s.last after e s.reports)
      ((all_only sight tells t names.log before.files step keeps number count (p.first, x) (s.last, y) s.failed s.steps (begun_only sight tells names me before p.first t p.begins)).1)
]

asked_left : {B K : Type 0} (sight : Sight B K) (s : Service) (tells : Bool) (before after : Outside B) (given given_now : Option (List ℕ)) (came_to : Result Served ServiceFault) → IsTrue tells
    → RunsAsAsked sight tells s before after given given_now came_to → IsLeft (names_in s).log before after
asked_left sight (Serve names address sessions) tells before after given given_now came_to t runs =
    runs_left sight tells names None (serves_session sight tells) 1 sessions before after tt tt came_to t (session_only sight tells t names.log before.files) runs.0
asked_left sight (Run names me turns peers) tells before after given given_now came_to t (inl runs) =
    runs_left sight tells names (Some me) (TakesTurn sight tells me) 1 turns before after (turning runs.first given) (turning runs.last given_now) came_to t (turn_only sight tells t names.log before.files me) runs.runs
asked_left sight (Run names me turns peers) tells before after given given_now came_to t (inr none) = λ other not. none.stays.files other
asked_left sight (Host names address sessions) tells before after given given_now came_to t runs =
    runs_left sight tells names None (hosts_session sight tells) 1 sessions before after tt tt came_to t (host_only sight tells t names.log before.files) runs.0
asked_left sight (Meet names peer) tells before after given given_now came_to t runs =
    runs_left sight tells names None (calls_peer sight tells peer) 0 1 before after tt tt came_to t (meet_only sight tells t names.log before.files peer) runs.0

pub node_log : {B K : Type 0} (sight : Sight B K) (tells : Bool) (s : Service) (status : ℕ) (old new : Around B) → RunsNode sight tells s status old new → IsTrue tells → OnlyLogChanges (Some s) old.whole.files new.whole.files
node_log sight tells s status old new r t = asked_left sight s tells old.whole (record new.whole { written = r.between.taken }) old.given new.given r.came_to t r.runs
