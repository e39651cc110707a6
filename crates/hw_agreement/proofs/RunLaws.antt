-- A run of a validator's node is part of its life.
use Rattle.std.proofs.Common.{◌≡◌, ◌⊎◌, ℕ, ◌+◌, inl, inr, Bool, true, List, [], ◌∷◌, ◌++◌, length, Option, Some, None, Result, Ok, Err, refl, sym, ap, subst, ◌∙◌}
use Rattle.std.specs.Prelude.{string_bytes}
use Rattle.hw_types.specs.declared.config.Config.{Config}
use Rattle.hw_types.specs.declared.answers.Plan.{Plan}
use Rattle.hw_types.specs.Real.{setting_of}
use Rattle.hw_honest.specs.Cluster.{value_at}
use Rattle.hw_honest.specs.OneLine.{OneLine}
use Rattle.hw_honest.proofs.OneLineLaws.{begins}
use Rattle.hw_io.specs.Files.{bytes_of, SameFiles}
use Rattle.hw_link.specs.declared.end.SessionEnd.{SessionEnd}
use Rattle.hw_link.specs.declared.end.SessionEnd.TheVariants as end
use Rattle.hw_log.specs.Log.{header_bytes}
use Rattle.hw_replay.specs.Fates.{Sight}
use Rattle.hw_session.specs.declared.fault.MakeFault.{MakeFault}
use Rattle.hw_session.specs.declared.fault.MakeFault.TheVariants as make
use Rattle.hw_session.specs.Node.{NodeState, IsSound, new_node}
use Rattle.hw_session.specs.Restart.{HasLog}
use Rattle.hw_meeting_node.specs.declared.end.MeetEnd.{MeetEnd}
use Rattle.hw_meeting_node.specs.declared.end.MeetEnd.TheVariants as met_end
use Rattle.hw_meeting_node.specs.declared.meeter.Side.{Side}
use Rattle.hw_meeting_node.specs.declared.meeter.Side.TheVariants.{Caller, Host}
use Rattle.hw_session.specs.Sessions.{ServesPeer, ServesNone}
use Rattle.hw_session.specs.Standing.{Standing, standing}
use Rattle.hw_session.specs.Start.{GoesOn, Starts, StartsLog}
use Rattle.hw_session.proofs.RestartLaws.{new_node_has_log}
use Rattle.hw_service.specs.declared.fault.ServiceFault.{ServiceFault}
use Rattle.hw_service.specs.declared.fault.ServiceFault.TheVariants as fault
use Rattle.hw_service.specs.declared.peer.Peer.{Peer}
use Rattle.hw_service.specs.Scene.{Outside, Scene, sessions_told}
use Rattle.hw_service.specs.Talk.{talker_in}
use Rattle.hw_service.specs.Ends.{session_end}
use Rattle.hw_service.specs.Meets.{NodeMeets, NodeMeetsNone}
use Rattle.hw_service.specs.Begin.{Names, HasBegun}
use Rattle.hw_service.specs.Told.{GoesOn as SessionGoesOn}
use Rattle.hw_service.specs.Steps.{Step, Taken, AreTaken, Takes}
use Rattle.hw_service.specs.Turns.{TellsMade, MakesUnit, DrivesOne, Turning}
use Rattle.hw_run_laws.specs.Restart.{IsLogged, IsMetLogged}
use Rattle.hw_run_laws.specs.Calls.{Attempt, makes, serves, drives, meets, IsMade, IsWhole, StartsAgain, Call, goes_on, starts, gives_up, AreCalls, IsReady}
use Rattle.hw_run_laws.specs.InHand.{IsFairTold, IsFairDialled, IsFairMeeting}
use Rattle.hw_agreement.specs.Runs.{standing_of, DrivesFairly, DrivesAllFairly, MakesLast, TurnsFairly, ServesFairly, HostsFairly, CallsFairly, last_of, LeadsTo, TurnsAreCalls, ServesAreCalls, HostsAreCalls, MeetsAreCalls, NewRunsBegin, FindsLog, LaterRunsGoOn}

-- ---- calls, one list after the other

calls_both : (me : ℕ) (a : Standing) (xs ys : List Standing) → AreCalls me a xs → AreCalls me (last_of a xs) ys → AreCalls me a (xs ++ ys)
calls_both me a [] ys p q = q
calls_both me a (b ∷ xs) ys (call, sound, rest) q = (call, sound, calls_both me b xs ys rest q)

last_both : (a : Standing) (xs ys : List Standing) → last_of a (xs ++ ys) ≡ last_of (last_of a xs) ys
last_both a [] ys = refl
last_both a (b ∷ xs) ys = last_both b xs ys

-- calls that all went on
record Reaches (me : ℕ) (a c : Standing) : Type 0 where
  more : List Standing
  calls : AreCalls me a more
  ends : last_of a more ≡ c

one_call : (me : ℕ) (a b : Standing) → Call me a b → IsSound b.node → Reaches me a b
one_call me a b call sound = record { more = b ∷ []; calls = (call, sound, tt); ends = refl }

reach_both : (me : ℕ) (a b c : Standing) → Reaches me a b → Reaches me b c → Reaches me a c
reach_both me a b c p q = record {
  more = p.more ++ q.more;
  calls = calls_both me a p.more q.more p.calls (subst (λ (z : Standing). AreCalls me z q.more) (sym p.ends) q.calls);
  ends = last_both a p.more q.more ∙ ap (λ (z : Standing). last_of z q.more) p.ends ∙ q.ends;
}

reach_lead : (me : ℕ) (a b c : Standing) → Reaches me a b → LeadsTo me b c → LeadsTo me a c
reach_lead me a b c p q = record {
  more = p.more ++ q.more;
  calls = calls_both me a p.more q.more p.calls (subst (λ (z : Standing). AreCalls me z q.more) (sym p.ends) q.calls);
  ends = subst (λ (z : Standing). (z ≡ c) ⊎ Attempt me z c) (sym (last_both a p.more q.more ∙ ap (λ (z : Standing). last_of z q.more) p.ends)) q.ends;
}

whole : (me : ℕ) (a c : Standing) → Reaches me a c → LeadsTo me a c
whole me a c p = record { more = p.more; calls = p.calls; ends = inl p.ends }

tried : (me : ℕ) (a c : Standing) → Attempt me a c → LeadsTo me a c
tried me a c attempt = record { more = []; calls = tt; ends = inr attempt }

-- ---- what goes on

never_ok : {T E : Type 0} (x : T) (e : E) → Ok x ≡ Err e → ⊥
never_ok x e h = cc

logged : (e : SessionEnd) → SessionGoesOn e → IsLogged e
logged end.AppendFault goes = absurd goes
logged end.OutOfMemory goes = absurd goes
logged e goes = tt

met_logged : (e : MeetEnd) → SessionGoesOn (session_end e) → IsMetLogged e
met_logged met_end.AppendFault goes = absurd goes
met_logged met_end.OutOfMemory goes = absurd goes
met_logged e goes = tt

-- ---- steps, one after the other

module _ {B X : Type 0} (me : ℕ) (step : Step (Scene B × X))
    (goes : (number : ℕ) (old new : Scene B × X) (failed : Bool) → step number old new (Ok failed) → Reaches me (standing_of old.0) (standing_of new.0))
    (ends : (number : ℕ) (old new : Scene B × X) (e : ServiceFault) → step number old new (Err e) → LeadsTo me (standing_of old.0) (standing_of new.0)) where
  steps_reach : (number : ℕ) (first : Scene B × X) (taken : Taken (Scene B × X)) (last : Scene B × X) → AreTaken step number first taken last → Reaches me (standing_of first.0) (standing_of last.0)
  unfolding AreTaken
  steps_reach number first [] last is = record { more = []; calls = tt; ends = ap (λ (s : Scene B × X). standing_of s.0) (sym is) }
  steps_reach number first (t ∷ ts) last (one, rest) =
      reach_both me (standing_of first.0) (standing_of t.0.0) (standing_of last.0) (goes number first t.0 t.1 one) (steps_reach (number + 1) t.0 ts last rest)

  steps_lead : (number count : ℕ) (first last : Scene B × X) (result : Result Bool ServiceFault) → Takes step number count first last result → LeadsTo me (standing_of first.0) (standing_of last.0)
  steps_lead number count first last (Ok failed) all = whole me (standing_of first.0) (standing_of last.0) (steps_reach number first all.taken last all.each)
  steps_lead number count first last (Err e) until =
      reach_lead me (standing_of first.0) (standing_of until.before.0) (standing_of last.0) (steps_reach number first until.taken until.before until.each)
      (ends (number + length until.taken) until.before last e until.ends)

module _ {B K : Type 0} (sight : Sight B K) (me : ℕ) where
  -- nothing was done, for want of memory
  nothing : (a b : Standing) → b.node ≡ a.node → SameFiles a.held b.held → Attempt me a b
  nothing a b state files = makes 0 [] (Err make.OutOfMemory) (inl state) (inl (state, files))

  -- ---- peers that are dialled

  module _ (old new : Scene B) (before after : Peer) (e : SessionEnd)
      (fair : IsFairDialled me old.node before.mark (string_bytes before.address) old.around.door.sessions new.around.door.sessions e) where
    drive_tried : DrivesOne true old new before after e → Attempt me (standing_of old) (standing_of new)
    drive_tried (inl peer) = drives before.mark after.mark peer.read peer.written old.around.door.ends new.around.door.ends e peer.drives (fair peer.read peer.written peer.told)
    drive_tried (inr none) = nothing (standing_of old) (standing_of new) none.state (none.files refl)

    drive_whole : (d : DrivesOne true old new before after e) → SessionGoesOn e → IsWhole (drive_tried d)
    unfolding drive_tried
    drive_whole (inl peer) goes = logged e goes
    drive_whole (inr none) goes = absurd (subst SessionGoesOn none.ended goes)

  drive_goes : (number : ℕ) (old new : Scene B × List Peer) (failed : Bool) → DrivesFairly sight me number old new (Ok failed) → Reaches me (standing_of old.0) (standing_of new.0)
  drive_goes number old new failed one =
      let d = one.drives.drives in
      one_call me (standing_of old.0) (standing_of new.0)
      (goes_on (drive_tried old.0 new.0 one.drives.before one.drives.after d.end one.fair d.driven) (drive_whole old.0 new.0 one.drives.before one.drives.after d.end one.fair d.driven d.told.0)) one.sound

  drive_ends : (number : ℕ) (old new : Scene B × List Peer) (e : ServiceFault) → DrivesFairly sight me number old new (Err e) → LeadsTo me (standing_of old.0) (standing_of new.0)
  drive_ends number old new e one =
      let d = one.drives.drives in tried me (standing_of old.0) (standing_of new.0) (drive_tried old.0 new.0 one.drives.before one.drives.after d.end one.fair d.driven)

  -- ---- own units

  is_made : (old new : Scene B) (made : Result (Option Plan) MakeFault) → TellsMade sight made old new (Ok tt) → IsMade made
  is_made old new (Ok p) told = tt
  is_made old new (Err make.RecordsFull) told = tt
  is_made old new (Err make.AppendFault) told = absurd (never_ok tt fault.Append told.0)
  is_made old new (Err make.OutOfMemory) told = absurd (never_ok tt fault.OutOfMemory told.0)

  make_tried : (moment : ℕ) (old new : Scene B) (result : Result (Unit {0}) ServiceFault) → MakesUnit sight true me moment old new result → Attempt me (standing_of old) (standing_of new)
  make_tried moment old new result m = makes moment (value_at (setting_of old.node.core.config) me moment) m.made m.makes (m.log refl)

  make_goes : (moment : ℕ) (old new : Scene B) → MakesUnit sight true me moment old new (Ok tt) → IsSound new.node → Reaches me (standing_of old) (standing_of new)
  unfolding make_tried
  make_goes moment old new m sound = one_call me (standing_of old) (standing_of new) (goes_on (make_tried moment old new (Ok tt) m) (is_made old new m.made m.told)) sound

  -- ---- turns

  turn_reach : (moment : ℕ) (old new : Scene B) (before after : List Peer) (failed : Bool) → DrivesAllFairly sight me moment old new before after (Ok failed) ⊎ MakesLast sight me moment old new (Ok failed) → Reaches me (standing_of old) (standing_of new)
  turn_reach moment old new before after failed (inl turn) =
      reach_both me (standing_of old) (standing_of turn.between) (standing_of new) (make_goes moment old turn.between turn.makes turn.sound)
      (steps_reach me (DrivesFairly sight me) drive_goes drive_ends 0 (turn.between, before) turn.drives.taken (new, after) turn.drives.each)
  turn_reach moment old new before after failed (inr last) = absurd (never_ok failed last.fault last.is)

  turn_lead : (moment : ℕ) (old new : Scene B) (before after : List Peer) (e : ServiceFault) → DrivesAllFairly sight me moment old new before after (Err e) ⊎ MakesLast sight me moment old new (Err e) → LeadsTo me (standing_of old) (standing_of new)
  turn_lead moment old new before after e (inl turn) =
      reach_lead me (standing_of old) (standing_of turn.between) (standing_of new) (make_goes moment old turn.between turn.makes turn.sound)
      (steps_lead me (DrivesFairly sight me) drive_goes drive_ends 0 (length before) (turn.between, before) (new, after) (Err e) turn.drives)
  turn_lead moment old new before after e (inr last) = tried me (standing_of old) (standing_of new) (make_tried moment old new (Err last.fault) last.makes)

  turn_goes : (number : ℕ) (old new : Scene B × Turning) (failed : Bool) → TurnsFairly sight me number old new (Ok failed) → Reaches me (standing_of old.0) (standing_of new.0)
  turn_goes number old new failed one = turn_reach one.turn.moment old.0 new.0 old.1.peers new.1.peers failed one.fair

  turn_ends : (number : ℕ) (old new : Scene B × Turning) (e : ServiceFault) → TurnsFairly sight me number old new (Err e) → LeadsTo me (standing_of old.0) (standing_of new.0)
  turn_ends number old new e one = turn_lead one.turn.moment old.0 new.0 old.1.peers new.1.peers e one.fair

  pub turns_lead : (number count : ℕ) (first last : Scene B × Turning) (result : Result Bool ServiceFault) → Takes (TurnsFairly sight me) number count first last result → LeadsTo me (standing_of first.0) (standing_of last.0)
  turns_lead = steps_lead me (TurnsFairly sight me) turn_goes turn_ends

  -- ---- peers that are served

  module _ (old new : Scene B) (e : SessionEnd) (fair : IsFairTold me old.node old.around.door.sessions new.around.door.sessions e) where
    abbrev Serving : Type 0
    Serving = ServesPeer true (standing old.node old.around.files) (standing new.node new.around.files) (sessions_told old.around.door) (sessions_told new.around.door) e
        ⊎ ServesNone true (standing old.node old.around.files) (standing new.node new.around.files) old.around.door.sessions new.around.door.sessions e

    serve_tried : Serving → Attempt me (standing_of old) (standing_of new)
    serve_tried (inl peer) = serves peer.read peer.written old.around.door.ends new.around.door.ends e peer.serves (fair peer.read peer.written peer.told)
    serve_tried (inr none) = nothing (standing_of old) (standing_of new) none.state (none.files refl)

    serve_whole : (d : Serving) → SessionGoesOn e → IsWhole (serve_tried d)
    unfolding serve_tried
    serve_whole (inl peer) goes = logged e goes
    serve_whole (inr none) goes = absurd (subst SessionGoesOn none.ended goes)

  serve_goes : (number : ℕ) (old new : Scene B × Unit {0}) (failed : Bool) → ServesFairly sight me number old new (Ok failed) → Reaches me (standing_of old.0) (standing_of new.0)
  serve_goes number old new failed one =
      let s = one.serves in
      one_call me (standing_of old.0) (standing_of new.0) (goes_on (serve_tried old.0 new.0 s.end one.fair s.talked.served) (serve_whole old.0 new.0 s.end one.fair s.talked.served s.told.0)) one.sound

  serve_ends : (number : ℕ) (old new : Scene B × Unit {0}) (e : ServiceFault) → ServesFairly sight me number old new (Err e) → LeadsTo me (standing_of old.0) (standing_of new.0)
  serve_ends number old new e one = tried me (standing_of old.0) (standing_of new.0) (serve_tried old.0 new.0 one.serves.end one.fair one.serves.talked.served)

  pub serves_lead : (number count : ℕ) (first last : Scene B × Unit {0}) (result : Result Bool ServiceFault) → Takes (ServesFairly sight me) number count first last result → LeadsTo me (standing_of first.0) (standing_of last.0)
  serves_lead = steps_lead me (ServesFairly sight me) serve_goes serve_ends

  -- ---- nodes that are met

  module _ (side : Side) (address : Option (List ℕ)) (old new : Scene B) (e : MeetEnd) (fair : IsFairMeeting me side address old.node old.around.door.sessions new.around.door.sessions e) where
    abbrev Meeting : Type 0
    Meeting = NodeMeets side address true (talker_in old) (talker_in new) e ⊎ NodeMeetsNone true (talker_in old) (talker_in new) e

    meet_tried : Meeting → Attempt me (standing_of old) (standing_of new)
    meet_tried (inl does) = meets side address old.around.door new.around.door e does (fair does.meets.read does.meets.written does.meets.told)
    meet_tried (inr none) = nothing (standing_of old) (standing_of new) none.state (none.files refl)

    meet_whole : (d : Meeting) → SessionGoesOn (session_end e) → IsWhole (meet_tried d)
    unfolding meet_tried
    meet_whole (inl does) goes = met_logged e goes
    meet_whole (inr none) goes = absurd (subst (λ (z : MeetEnd). SessionGoesOn (session_end z)) none.ended goes)

  host_goes : (number : ℕ) (old new : Scene B × Unit {0}) (failed : Bool) → HostsFairly sight me number old new (Ok failed) → Reaches me (standing_of old.0) (standing_of new.0)
  host_goes number old new failed one =
      let h = one.hosts.talked in
      one_call me (standing_of old.0) (standing_of new.0)
      (goes_on (meet_tried Host None old.0 new.0 h.end one.fair h.met) (meet_whole Host None old.0 new.0 h.end one.fair h.met (subst SessionGoesOn h.is one.hosts.told.0))) one.sound

  host_ends : (number : ℕ) (old new : Scene B × Unit {0}) (e : ServiceFault) → HostsFairly sight me number old new (Err e) → LeadsTo me (standing_of old.0) (standing_of new.0)
  host_ends number old new e one = let h = one.hosts.talked in tried me (standing_of old.0) (standing_of new.0) (meet_tried Host None old.0 new.0 h.end one.fair h.met)

  pub hosts_lead : (number count : ℕ) (first last : Scene B × Unit {0}) (result : Result Bool ServiceFault) → Takes (HostsFairly sight me) number count first last result → LeadsTo me (standing_of first.0) (standing_of last.0)
  hosts_lead = steps_lead me (HostsFairly sight me) host_goes host_ends

  module _ (address : List ℕ) where
    call_goes : (number : ℕ) (old new : Scene B × Unit {0}) (failed : Bool) → CallsFairly sight address me number old new (Ok failed) → Reaches me (standing_of old.0) (standing_of new.0)
    call_goes number old new failed one =
        let h = one.calls.talked in
        one_call me (standing_of old.0) (standing_of new.0)
        (goes_on (meet_tried Caller (Some address) old.0 new.0 h.end one.fair h.met) (meet_whole Caller (Some address) old.0 new.0 h.end one.fair h.met (subst SessionGoesOn h.is one.calls.told.0))) one.sound

    call_ends : (number : ℕ) (old new : Scene B × Unit {0}) (e : ServiceFault) → CallsFairly sight address me number old new (Err e) → LeadsTo me (standing_of old.0) (standing_of new.0)
    call_ends number old new e one = let h = one.calls.talked in tried me (standing_of old.0) (standing_of new.0) (meet_tried Caller (Some address) old.0 new.0 h.end one.fair h.met)

    pub calls_lead : (number count : ℕ) (first last : Scene B × Unit {0}) (result : Result Bool ServiceFault) → Takes (CallsFairly sight address me) number count first last result → LeadsTo me (standing_of first.0) (standing_of last.0)
    calls_lead = steps_lead me (CallsFairly sight address me) call_goes call_ends

pub turns_are_calls : {B K : Type 0} (sight : Sight B K) → TurnsAreCalls sight
turns_are_calls sight me = turns_lead sight me

pub serves_are_calls : {B K : Type 0} (sight : Sight B K) → ServesAreCalls sight
serves_are_calls sight me = serves_lead sight me

pub hosts_are_calls : {B K : Type 0} (sight : Sight B K) → HostsAreCalls sight
hosts_are_calls sight me = hosts_lead sight me

pub meets_are_calls : {B K : Type 0} (sight : Sight B K) → MeetsAreCalls sight
meets_are_calls sight address me = calls_lead sight me address

-- ---- one run after another

pub new_runs_begin : {B K : Type 0} (sight : Sight B K) → NewRunsBegin sight
new_runs_begin sight names maker me before now b none validator sound =
    let config = now.node.core.config in
    let new : NodeState = new_node config now.node.keys names.log in
    let is : now.node ≡ new = subst (λ (file : Option (List ℕ)). Starts config now.node.keys names.log file (Ok now.node)) none (b.starts refl) in
    let wrote = subst (λ (file : Option (List ℕ)). StartsLog config names.log before.files now.around.files file (Ok now.node)) none (b.log refl) in
    let there : now.around.files names.log ≡ Some (header_bytes 2 config) = wrote.whole ∙ ap (λ (file : Option (List ℕ)). Some (bytes_of file ++ header_bytes 2 config)) none in
    let P : NodeState → Type 0 = λ n. HasLog n (now.around.files n.log) in
    let Q : NodeState → Type 0 = λ n. OneLine (setting_of n.core.config) n.core.journal me in
    let has : P new = subst (λ (file : Option (List ℕ)). HasLog new file) (sym there) (new_node_has_log config now.node.keys names.log) in
    let line : Q new = begins (setting_of config) me in
    let ready : IsReady me (standing_of now) = record { line = subst Q (sym is) line; log = subst P (sym is) has } in
    (record { first = standing_of now; more = []; validator = validator; sound = sound; ready = ready; calls = tt }, refl, refl)

-- a node that begins from the log of another starts again as it
again : {B K : Type 0} (sight : Sight B K) (names : Names) (maker : Option ℕ) (before : Outside B) (now : Scene B) (c : Standing) → HasBegun sight true names maker before now → FindsLog c (before.files names.log)
    → now.node.core.config ≡ c.node.core.config → now.node.keys ≡ c.node.keys → StartsAgain c (standing_of now)
again sight names maker before now c b finds config keys =
    let n = now.node in
    let on : GoesOn n.core.config n.keys names.log finds.bytes n = subst (λ (file : Option (List ℕ)). Starts n.core.config n.keys names.log file (Ok n)) finds.there (b.starts refl) in
    let on_config : GoesOn c.node.core.config n.keys names.log finds.bytes n = subst (λ (k : Config). GoesOn k n.keys names.log finds.bytes n) config on in
    let on_keys : GoesOn c.node.core.config c.node.keys names.log finds.bytes n = subst (λ (ks : List (List ℕ)). GoesOn c.node.core.config ks names.log finds.bytes n) keys on_config in
    let same : SameFiles before.files now.around.files = subst (λ (file : Option (List ℕ)). StartsLog n.core.config names.log before.files now.around.files file (Ok n)) finds.there (b.log refl) in
    record {
      bytes = finds.bytes;
      from = finds.from;
      there = ap (λ (name : List ℕ). now.around.files name) on.log_is ∙ same names.log ∙ finds.there;
      on = subst (λ (name : List ℕ). GoesOn c.node.core.config c.node.keys name finds.bytes n) (sym on.log_is) on_keys;
    }

-- from where the last run was left
next : (me : ℕ) (a c b : Standing) → (a ≡ c) ⊎ Attempt me a c → IsSound c.node → StartsAgain c b → Call me a b
next me a c b (inl is) sound start = starts (subst (λ (z : Standing). StartsAgain z b) (sym is) start)
next me a c b (inr attempt) sound start = gives_up c attempt sound start

pub later_runs_go_on : {B K : Type 0} (sight : Sight B K) → LaterRunsGoOn sight
later_runs_go_on sight names maker me before now life c b leads left finds config keys sound =
    let start = again sight names maker before now c b finds config keys in
    let now_is = standing_of now in
    let last = last_of (last_of life.first life.more) leads.more in
    let call : Call me last now_is = next me last c now_is leads.ends left start in
    let on : AreCalls me (last_of life.first life.more) (leads.more ++ now_is ∷ []) = calls_both me (last_of life.first life.more) leads.more (now_is ∷ []) leads.calls (call, sound, tt) in (
      record {
        first = life.first;
        more = life.more ++ (leads.more ++ now_is ∷ []);
        validator = life.validator;
        sound = life.sound;
        ready = life.ready;
        calls = calls_both me life.first life.more (leads.more ++ now_is ∷ []) life.calls on;
      },
      refl,
      last_both life.first life.more (leads.more ++ now_is ∷ []) ∙ last_both (last_of life.first life.more) leads.more (now_is ∷ []),
    )
