-- The laws of nodes in hand, by what public calls promise of them.
use Rattle.std.specs.Prelude.{IfOk, IfSome}
use Rattle.std.specs.List.{All}
use Rattle.std.proofs.Common.{◌≡◌, ◌⊎◌, ℕ, ◌<◌, ◌≤◌, ◌^◌, Bool, List, [], ◌∷◌, ◌++◌, length, Option, Some, None, Result, Ok, Err, IsTrue, inl, inr, refl, sym, ap, subst, ◌∙◌, arith}
use Rattle.hw_types.specs.declared.config.Config.{Config}
use Rattle.hw_types.specs.declared.unit.Signature.{Signature}
use Rattle.hw_types.specs.declared.unit.Vertex.{Vertex}
use Rattle.hw_types.specs.declared.answers.Plan.{Plan}
use Rattle.hw_types.specs.declared.answers.Receipt.TheVariants as receipt
use Rattle.hw_types.specs.declared.answers.Cause.TheVariants as cause
use Rattle.hw_types.specs.Below.{Among}
use Rattle.hw_types.specs.Journal.{Setting, received_of}
use Rattle.hw_types.specs.Limits.{config_fault}
use Rattle.hw_types.specs.Real.{CoreState, setting_of, received_in}
use Rattle.hw_types.specs.Step.{step}
use Rattle.hw_types.specs.laws.StateLaws.{SaysTheSame, HasSameState}
use Rattle.hw_types.proofs.LimitLaws.{within_limits}
use Rattle.hw_types.proofs.BoundLaws.{journal_bounded}
use Rattle.hw_io.specs.Doors.{Session}
use Rattle.hw_io.specs.Faults.{raised}
use Rattle.hw_io.specs.Files.{SameFiles, Appended, bytes_of}
use Rattle.hw_codec.specs.Ranges.{VertexInRange}
use Rattle.hw_log.specs.Log.{header_bytes}
use Rattle.hw_log.specs.Rewritten.{mended_of, HasRewritten}
use Rattle.hw_link.specs.Told.{DoorTold}
use Rattle.hw_admit.specs.State.{NodeState as Admitted}
use Rattle.hw_core.specs.Deliver.{HasCome}
use Rattle.hw_honest.specs.Plans.{IsPlanned, HasNamesake, delivered}
use Rattle.hw_honest.proofs.NewLaws.{plan_is_admitted}
use Rattle.hw_agree.specs.Converge.{UnitsClash}
use Rattle.hw_validator.specs.Step.{step_of}
use Rattle.hw_validator.specs.Laws.{IsStateOf}
use Rattle.hw_validator.proofs.JournalLaws.{step_is}
use Rattle.hw_types.specs.declared.answers.Receipt.{Receipt}
use Rattle.hw_link.specs.declared.end.SessionEnd.{SessionEnd}
use Rattle.hw_link.specs.declared.end.SessionEnd.TheVariants as end
use Rattle.hw_replay.specs.declared.fault.StartFault.{StartFault}
use Rattle.hw_replay.specs.Ends.{IsReached}
use Rattle.hw_session.specs.declared.stage.PeerMark.{PeerMark}
use Rattle.hw_session.specs.declared.fault.AcceptFault.{AcceptFault}
use Rattle.hw_session.specs.declared.fault.MakeFault.{MakeFault}
use Rattle.hw_session.specs.Accept.{Accepts, WritesAccepted}
use Rattle.hw_session.specs.Drives.{Drives, DrivesPeer, DrivesNone}
use Rattle.hw_session.specs.Make.{planned_by, Makes, WritesOwn}
use Rattle.hw_session.specs.Node.{NodeState, IsSound, new_node}
use Rattle.hw_session.specs.Restart.{journal_log}
use Rattle.hw_session.specs.Sessions.{Serves, ServesPeer, ServesNone}
use Rattle.hw_session.specs.Standing.{Standing, standing, driver_standing}
use Rattle.hw_session.specs.Start.{GoesOn, Starts, StartsLog}
use Rattle.hw_session.proofs.MakeLaws.{journal_is}
use Rattle.hw_meeting_node.specs.declared.end.MeetEnd.{MeetEnd}
use Rattle.hw_meeting_node.specs.declared.end.MeetEnd.TheVariants as met_end
use Rattle.hw_meeting_node.specs.declared.meeter.Side.{Side}
use Rattle.hw_meeting_node.specs.declared.meeter.Side.TheVariants.{Caller, Host}
use Rattle.hw_meeting_node.specs.Meeting.{met}
use Rattle.hw_meeting_node.specs.Sessions.{Meets, CallsPeer, HostsPeer, MeetsNone}
use Rattle.hw_meeting_node.specs.Laws.{node_of, HaveMet}
use Rattle.hw_meeting_node.proofs.ConvergeLaws.{by_bytes, converge, states}
use Rattle.hw_meeting_node.proofs.RangeLaws.{said_in_range}
use Rattle.hw_service.specs.Scene.{DoorSeen}
use Rattle.hw_service.specs.Meets.{Leaves, NodeMeets, NodeMeetsNone}
use Rattle.hw_run_laws.specs.Calls.{at_door, Attempt, makes, accepts, serves, drives, meets, IsFairServed, IsFairDriven, IsFairMet, IsFairVertex, IsMade, StartsAgain, Call, goes_on, starts, gives_up, IsReady}
use Rattle.hw_run_laws.specs.Restart.{IsJudged, IsLogged, IsMetLogged}
use Rattle.hw_run_laws.specs.InHand.{MayTake, StaysOnLine, StartsMended, IsFairTold, IsFairDialled, IsFairMeeting, AreCrossed, Agree, AreDone, RestsOnLine, QuietIsFair, QuietDialIsFair, QuietMeetingIsFair, CrossedAreThere}
use Rattle.hw_run_laws.proofs.BeginLaws.{new_ready}
use Rattle.hw_run_laws.proofs.CallLaws.{calls_keep, calls_apart}
use Rattle.hw_run_laws.proofs.QuietLaws.{quiet_serves, fair_to_server, fair_to_driver, fair_met}

-- ---- a planned unit

abbrev TakesOrHas : Setting → Plan → Signature → List Vertex → Type 0
TakesOrHas s p signature journal =
    ((n : ℕ) × (1 ≤ n) × (delivered s journal p signature ≡ Ok (receipt.Admitted n)))
    ⊎ (HasNamesake s journal p × (delivered s journal p signature ≡ Err (cause.Clash (s.name p.unit))))

plan_taken : (c : CoreState) (me now : ℕ) (value : List ℕ) (p : Plan) → HasCome c.config c.journal → IsPlanned (setting_of c.config) c.journal me now value p → MayTake c p
plan_taken c me now value p (deliveries, is) planned room signature =
    let s = setting_of c.config in
    subst (λ (j : List Vertex). TakesOrHas s p signature j) (sym is)
    (plan_is_admitted s deliveries me now value p signature
    (subst (λ (j : List Vertex). IsPlanned s j me now value p) is planned)
    (subst (λ (j : List Vertex). length j < c.config.max_records) is room))

-- what the step over a core's state plans is what its journal plans,
pub next_is : {E : Type 0} (c : CoreState) (st : Admitted) (me now : ℕ) (value : List ℕ) (result : Result (Option Plan) E)
    → IsStateOf c st → IfOk result (λ plan. plan ≡ step_of st me now value) → IfOk result (λ plan. plan ≡ step (setting_of c.config) (received_in c) me now value)
next_is c st me now value (Ok plan) of is = is ∙ step_is c st me now value of
next_is c st me now value (Err e) of is = tt

-- and may be taken
pub next_taken : {E : Type 0} (c : CoreState) (st : Admitted) (me now : ℕ) (value : List ℕ) (result : Result (Option Plan) E)
    → HasCome c.config c.journal → config_fault c.config ≡ None → IsStateOf c st → me < length c.config.weights
    → IfOk result (λ plan. plan ≡ step_of st me now value) → IfOk result (λ plan. IfSome plan (MayTake c))
next_taken c st me now value (Ok (Some p)) come lawful of validator is =
    plan_taken c me now value p come (record { sound = lawful; validator = validator; is = sym (step_is c st me now value of) ∙ sym is })
next_taken c st me now value (Ok None) come lawful of validator is = tt
next_taken c st me now value (Err e) come lawful of validator is = tt

-- ---- calls

call_keeps : (me : ℕ) (a b : Standing) → me < length a.node.core.config.weights → IsSound a.node → IsSound b.node → IsReady me a → Call me a b → StaysOnLine me a b
call_keeps me a b validator sound sound_behind ready call = record {
  ready = calls_keep me a (b ∷ []) validator sound ready (call, sound_behind, tt) b (inl refl);
  apart = calls_apart me a (b ∷ []) validator sound ready (call, sound_behind, tt);
}

-- a `make`
pub make_keeps : (me now : ℕ) (value : List ℕ) (a b : Standing) (result : Result (Option Plan) MakeFault) → me < length a.node.core.config.weights → IsSound a.node → IsSound b.node
    → Makes a.node (planned_by a.node me now value) b.node result → WritesOwn a.node (planned_by a.node me now value) b.node a.held b.held result → IsReady me a → IsMade result → StaysOnLine me a b
make_keeps me now value a b result validator sound sound_behind does wrote ready made =
    call_keeps me a b validator sound sound_behind ready (goes_on (makes now value result does wrote) made)

-- an `accept`
pub accept_keeps : (me : ℕ) (v : Vertex) (a b : Standing) (result : Result Receipt AcceptFault) → me < length a.node.core.config.weights → IsSound a.node → IsSound b.node
    → Accepts a.node v b.node result → WritesAccepted a.node v b.node a.held b.held result → IsReady me a → IsFairVertex me a.node v → IsJudged result → StaysOnLine me a b
accept_keeps me v a b result validator sound sound_behind does wrote ready fair judged =
    call_keeps me a b validator sound sound_behind ready (goes_on (accepts v result does wrote fair) judged)

-- a session
pub serve_keeps : (me : ℕ) (a b : Standing) (tells : Bool) (old new : DoorTold) (e : SessionEnd) → me < length a.node.core.config.weights → IsSound a.node → IsSound b.node
    → ServesPeer tells a b old new e ⊎ ServesNone tells a b old.sessions new.sessions e → IsTrue tells → IsReady me a → IsFairTold me a.node old.sessions new.sessions e → IsLogged e → StaysOnLine me a b
serve_keeps me a b tells old new e validator sound sound_behind (inl peer) telling ready fair logged =
    let does = subst (λ (t : Bool). Serves t a peer.read peer.written b old.ends new.ends e) telling peer.serves in
    call_keeps me a b validator sound sound_behind ready (goes_on (serves peer.read peer.written old.ends new.ends e does (fair peer.read peer.written peer.told)) logged)
serve_keeps me a b tells old new e validator sound sound_behind (inr none) telling ready fair logged = absurd (subst (λ (x : SessionEnd). IsLogged x) none.ended logged)

-- one that it drives
pub drive_keeps : (me : ℕ) (mark now : PeerMark) (address : List ℕ) (a b : Standing) (tells : Bool) (old new : DoorTold) (e : SessionEnd) → me < length a.node.core.config.weights → IsSound a.node → IsSound b.node
    → DrivesPeer tells address (driver_standing a.node mark a.held) (driver_standing b.node now b.held) old new e ⊎ DrivesNone tells (driver_standing a.node mark a.held) (driver_standing b.node now b.held) old.sessions new.sessions e
    → IsTrue tells → IsReady me a → IsFairDialled me a.node mark address old.sessions new.sessions e → IsLogged e → StaysOnLine me a b
drive_keeps me mark now address a b tells old new e validator sound sound_behind (inl peer) telling ready fair logged =
    let does = subst (λ (t : Bool). Drives t (driver_standing a.node mark a.held) peer.read peer.written (driver_standing b.node now b.held) old.ends new.ends e) telling peer.drives in
    call_keeps me a b validator sound sound_behind ready (goes_on (drives mark now peer.read peer.written old.ends new.ends e does (fair peer.read peer.written peer.told)) logged)
drive_keeps me mark now address a b tells old new e validator sound sound_behind (inr none) telling ready fair logged = absurd (subst (λ (x : SessionEnd). IsLogged x) none.ended logged)

-- a meeting
pub meet_keeps : (me : ℕ) (side : Side) (address : Option (List ℕ)) (a b : Standing) (tells : Bool) (from to : DoorSeen) (e : MeetEnd) → me < length a.node.core.config.weights → IsSound a.node → IsSound b.node
    → NodeMeets side address tells (at_door a from) (at_door b to) e ⊎ NodeMeetsNone tells (at_door a from) (at_door b to) e
    → IsTrue tells → IsReady me a → IsFairMeeting me side address a.node from.sessions to.sessions e → IsMetLogged e → StaysOnLine me a b
meet_keeps me side address a b tells from to e validator sound sound_behind (inl peer) telling ready fair logged =
    let left = subst (λ (t : Bool). Leaves e side a.node peer.meets.read b.node t a.held b.held) telling peer.left in
    call_keeps me a b validator sound sound_behind ready
    (goes_on (meets side address from to e (record { meets = peer.meets; left = left }) (fair peer.meets.read peer.meets.written peer.meets.told)) logged)
meet_keeps me side address a b tells from to e validator sound sound_behind (inr none) telling ready fair logged = absurd (subst (λ (x : MeetEnd). IsMetLogged x) none.ended logged)

-- a start
pub start_keeps : (me : ℕ) (n m : NodeState) (config : Config) (keys : List (List ℕ)) (name : List ℕ) (old new : List ℕ → Option (List ℕ))
    → me < length n.core.config.weights → IsSound n → IsSound m → config ≡ n.core.config → keys ≡ n.keys → name ≡ n.log
    → Starts config keys name (old name) (Ok m) → StartsLog config name old new (old name) (Ok m) → IsReady me (standing n old) → StaysOnLine me (standing n old) (standing m new)
start_keeps me n m config keys name old new validator sound sound_behind config_is keys_are name_is said wrote ready =
    let bytes = journal_log ready.log.version n.core.config n.core.journal in
    let by_config = subst (λ (k : Config). Starts k keys name (old name) (Ok m)) config_is said in
    let by_keys = subst (λ (ks : List (List ℕ)). Starts n.core.config ks name (old name) (Ok m)) keys_are by_config in
    let by_name = subst (λ (x : List ℕ). Starts n.core.config n.keys x (old x) (Ok m)) name_is by_keys in
    let on : GoesOn n.core.config n.keys n.log bytes m = subst (λ (file : Option (List ℕ)). Starts n.core.config n.keys n.log file (Ok m)) ready.log.holds by_name in
    let by_log = subst (λ (x : List ℕ). StartsLog config x old new (old x) (Ok m)) name_is wrote in
    let same : SameFiles old new = subst (λ (file : Option (List ℕ)). StartsLog config n.log old new file (Ok m)) ready.log.holds by_log in
    let again : StartsAgain (standing n old) (standing m new) = record {
      bytes = bytes;
      from = inl ready.log.holds;
      there = same m.log ∙ ap old on.log_is ∙ ready.log.holds;
      on = subst (λ (x : List ℕ). GoesOn n.core.config n.keys x bytes m) (sym on.log_is) on;
    } in
    call_keeps me (standing n old) (standing m new) validator sound sound_behind ready (starts again)

-- a start from the log, mended
pub starts_mended : (n : NodeState) (config : Config) (keys : List (List ℕ)) (log name : List ℕ) (old mid new : List ℕ → Option (List ℕ)) (count : ℕ) (result : Result NodeState StartFault)
    → log ≡ n.log → config ≡ n.core.config → keys ≡ n.keys → HasRewritten mended_of (old log) (old name) (mid name) count
    → Starts config keys name (mid name) result → StartsLog config name mid new (mid name) result → StartsMended n name old new result
starts_mended n config keys log name old mid new count result log_is config_is keys_are has said wrote =
    let by_config = subst (λ (k : Config). Starts k keys name (mid name) result) config_is said in
    let by_keys = subst (λ (ks : List (List ℕ)). Starts n.core.config ks name (mid name) result) keys_are by_config in
    let same : SameFiles mid new = subst (λ (file : Option (List ℕ)). StartsLog config name mid new file result) has.holds wrote in
    record {
      mended = has.rewritten;
      says = ap (λ (file : Option (List ℕ)). mended_of (bytes_of file)) (ap old (sym log_is) ∙ has.there) ∙ has.says;
      there = same name ∙ has.holds;
      starts = subst (λ (file : Option (List ℕ)). Starts n.core.config n.keys name file result) has.holds by_keys;
    }

-- of a node that was given up
pub given_up_keeps : (me : ℕ) (a c : Standing) (name : List ℕ) (new : List ℕ → Option (List ℕ)) (result : Result NodeState StartFault)
    → me < length a.node.core.config.weights → IsSound a.node → IsSound c.node → IfOk result (λ m. IsSound m) → IsReady me a → Attempt me a c → StartsMended c.node name c.held new result
    → IfOk result (λ m. StaysOnLine me a (standing m new))
given_up_keeps me a c name new (Ok m) validator sound left sound_behind ready attempt again =
    let bytes = again.mended.bytes in
    let on : GoesOn c.node.core.config c.node.keys name bytes m = again.starts in
    let next : StartsAgain c (standing m new) = record {
      bytes = bytes;
      from = inr (again.mended, again.says, refl);
      there = ap new on.log_is ∙ again.there;
      on = subst (λ (x : List ℕ). GoesOn c.node.core.config c.node.keys x bytes m) (sym on.log_is) on;
    } in
    call_keeps me a (standing m new) validator sound sound_behind ready (gives_up c attempt left next)
given_up_keeps me a c name new (Err e) validator sound left sound_behind ready attempt again = tt

-- a beginning
pub begin_ready : (me : ℕ) (config : Config) (keys : List (List ℕ)) (name : List ℕ) (old new : List ℕ → Option (List ℕ)) (m : NodeState)
    → m ≡ new_node config keys name → IsSound m → Appended {E = StartFault} old new name (header_bytes 2 config) (Ok m) → old name ≡ None → IsReady me (standing m new)
begin_ready me config keys name old new m is sound wrote none =
    let new_sound : IsSound (new_node config keys name) = subst (λ (n : NodeState). IsSound n) is sound in
    let there : new name ≡ Some (header_bytes 2 config) = wrote.whole ∙ ap (λ (file : Option (List ℕ)). Some (bytes_of file ++ header_bytes 2 config)) none in
    subst (λ (n : NodeState). IsReady me (standing n new)) (sym is) (new_ready config keys name new me new_sound.kept.lawful new_sound.config new_sound.kept.keys there).1

-- ---- two nodes that met

-- what holds of a core in hand
pub record IsHeld (c : CoreState) : Type 0 where
  pub reached : IsReached c
  pub lawful : config_fault c.config ≡ None
  pub vertices : All VertexInRange c.journal

node_is : (c : CoreState) (r : IsReached c) → c ≡ node_of c.config r.deliveries c.asked
node_is c r = ap (λ (j : List Vertex). let k : CoreState = record { config = c.config; journal = j; asked = c.asked } in k) (journal_is c r)

short : (c : CoreState) → IsHeld c → length c.journal < 2 ^ 64
short c held =
    let records : length c.journal ≤ c.config.max_records = subst (λ (j : List Vertex). length j ≤ c.config.max_records) (sym (journal_is c held.reached)) (journal_bounded (setting_of c.config) held.reached.deliveries).records in
    let most = (within_limits c.config held.lawful).records.1 in
    omega arith

module _ (address : List ℕ) (c d : CoreState) (config : c.config ≡ d.config) (left : IsHeld c) (right : IsHeld d) (judge_left judge_right : Vertex → Bool) (one other : CoreState) (one_config : one.config ≡ c.config) where
  module _ (caller_old caller_new host_old host_new : DoorTold) (l : CallsPeer address c judge_left one caller_old caller_new (met_end.Done 0)) (r : HostsPeer d judge_right other host_old host_new (met_end.Done 0))
      (crossed : AreCrossed address caller_old.sessions caller_new.sessions host_old.sessions host_new.sessions) where
    abbrev caller : CoreState
    caller = node_of c.config left.reached.deliveries c.asked

    abbrev host : CoreState
    host = node_of c.config right.reached.deliveries d.asked

    c_is : c ≡ caller
    c_is = node_is c left.reached

    d_is : d ≡ host
    d_is = subst (λ (k : Config). d ≡ node_of k right.reached.deliveries d.asked) (sym config) (node_is d right.reached)

    each_read : (l.read ≡ r.written) × (r.read ≡ l.written)
    each_read = crossed l.read l.written r.read r.written l.told r.told

    left_met : Meets Caller caller judge_left l.read r.read one caller_old.ends caller_new.ends (met_end.Done 0)
    left_met = subst (λ (written : List ℕ). Meets Caller caller judge_left l.read written one caller_old.ends caller_new.ends (met_end.Done 0)) (sym each_read.1)
        (subst (λ (k : CoreState). Meets Caller k judge_left l.read l.written one caller_old.ends caller_new.ends (met_end.Done 0)) c_is l.meets)

    right_met : Meets Host host judge_right r.read l.read other host_old.ends host_new.ends (met_end.Done 0)
    right_met = subst (λ (written : List ℕ). Meets Host host judge_right r.read written other host_old.ends host_new.ends (met_end.Done 0)) (sym each_read.0)
        (subst (λ (k : CoreState). Meets Host k judge_right r.read r.written other host_old.ends host_new.ends (met_end.Done 0)) d_is r.meets)

    have_met : HaveMet c.config left.reached.deliveries right.reached.deliveries judge_left judge_right one other
    have_met = record {
      asked_left = c.asked;
      asked_right = d.asked;
      read_left = l.read;
      read_right = r.read;
      ends_left = (caller_old.ends, caller_new.ends);
      ends_right = (host_old.ends, host_new.ends);
      left_met = left_met;
      right_met = right_met;
      lawful = left.lawful;
      left_fit = λ v m. left.reached.fit v (subst (λ (k : CoreState). Among v k.journal) (sym c_is) m);
      right_fit = λ v m. right.reached.fit v (subst (λ (k : CoreState). Among v k.journal) (sym d_is) m);
      left_in_range = said_in_range Caller caller judge_left l.read left.lawful (subst (λ (k : CoreState). length k.journal < 2 ^ 64) c_is (short c left)) (subst (λ (k : CoreState). All VertexInRange k.journal) c_is left.vertices)
          (by_bytes (met Caller caller judge_left l.read) left_met.ended).0;
      right_in_range = said_in_range Host host judge_right r.read left.lawful (subst (λ (k : CoreState). length k.journal < 2 ^ 64) d_is (short d right)) (subst (λ (k : CoreState). All VertexInRange k.journal) d_is right.vertices)
          (by_bytes (met Host host judge_right r.read) right_met.ended).0;
    }

    both_agree : Agree one other
    both_agree = record {
      same = subst (λ (k : Config). SaysTheSame (setting_of k) one.journal other.journal ⊎ UnitsClash (setting_of k) one.journal other.journal) (sym one_config)
          (converge c.config left.reached.deliveries right.reached.deliveries judge_left judge_right one other have_met);
      state = subst (λ (k : Config). HasSameState k (received_of (setting_of k) one.journal) (received_of (setting_of k) other.journal) ⊎ UnitsClash (setting_of k) one.journal other.journal) (sym one_config)
          (states c.config left.reached.deliveries right.reached.deliveries judge_left judge_right one other have_met);
    }

  no_memory : (e : MeetEnd) → e ≡ met_end.OutOfMemory → e ≡ met_end.Done 0 → ⊥
  no_memory e is also = let both : met_end.OutOfMemory ≡ met_end.Done 0 = sym is ∙ also in cc

  pub met_agree : (caller_old caller_new host_old host_new : DoorTold) (e f : MeetEnd)
      → CallsPeer address c judge_left one caller_old caller_new e ⊎ MeetsNone c one caller_old.sessions caller_new.sessions e
      → HostsPeer d judge_right other host_old host_new f ⊎ MeetsNone d other host_old.sessions host_new.sessions f
      → AreDone e f → AreCrossed address caller_old.sessions caller_new.sessions host_old.sessions host_new.sessions → Agree one other
  met_agree caller_old caller_new host_old host_new e f (inl l) (inl r) ends crossed =
      both_agree caller_old caller_new host_old host_new
      (subst (λ (x : MeetEnd). CallsPeer address c judge_left one caller_old caller_new x) ends.0 l)
      (subst (λ (x : MeetEnd). HostsPeer d judge_right other host_old host_new x) ends.1 r)
      crossed
  met_agree caller_old caller_new host_old host_new e f (inl l) (inr none) ends crossed = absurd (no_memory f none.ended ends.1)
  met_agree caller_old caller_new host_old host_new e f (inr none) r ends crossed = absurd (no_memory e none.ended ends.0)

-- ---- what the laws ask for

-- nothing
pub rests : RestsOnLine
rests me a validator sound ready =
    call_keeps me a a validator sound sound ready (goes_on (serves [] [] 0 (raised 0) end.EndOfInput (quiet_serves a.node a.held 0) (fair_to_server me a.node)) tt)

-- what was read and written in the first session of these
abbrev first_read : Option (List Session) → List ℕ
first_read None = []
first_read (Some []) = []
first_read (Some (s ∷ more)) = s.read

abbrev first_written : Option (List Session) → List ℕ
first_written None = []
first_written (Some []) = []
first_written (Some (s ∷ more)) = s.written

pub quiet_fair : QuietIsFair
quiet_fair me n sent e read written told = subst (λ (bytes : List ℕ). IsFairServed me n bytes) (ap first_read told) (fair_to_server me n)

pub quiet_dial_fair : QuietDialIsFair
quiet_dial_fair me n mark address sent e read written told = subst (λ (bytes : List ℕ). IsFairDriven me n mark bytes) (ap first_read told) (fair_to_driver me n mark)

pub quiet_meeting_fair : QuietMeetingIsFair
quiet_meeting_fair me side address n sent e read written told = subst (λ (bytes : List ℕ). IsFairMet me side n bytes) (ap first_read told) (fair_met me side n)

pub crossed_there : CrossedAreThere
crossed_there address sent back read written heard said one other = (sym (ap first_read one) ∙ ap first_written other, sym (ap first_read other) ∙ ap first_written one)
