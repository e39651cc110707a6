-- What a call that was cut leaves in the log.
use Rattle.std.specs.Prelude.{IsSome, take}
use Rattle.std.proofs.Common.{◌≡◌, ◌⊎◌, ℕ, ◌<◌, ◌≤◌, Bool, true, List, ◌++◌, length, Option, Some, None, Result, Ok, Err, IsTrue, inl, inr, refl, sym, ap, subst, ◌∙◌}
use Rattle.std.proofs.lemmas.List.{append_assoc}
use Rattle.hw_types.specs.declared.unit.Vertex.{Vertex}
use Rattle.hw_types.specs.declared.answers.Plan.{Plan}
use Rattle.hw_types.specs.Journal.{is_accepted}
use Rattle.hw_types.specs.Real.{CoreState, setting_of, answer_in}
use Rattle.hw_types.proofs.OrderLaws.{verdict_is}
use Rattle.hw_keys.specs.Signed.{verdict_of}
use Rattle.hw_io.specs.Files.{bytes_of, SameFiles, Appended}
use Rattle.hw_link.specs.declared.end.SessionEnd.{SessionEnd}
use Rattle.hw_link.specs.declared.end.SessionEnd.TheVariants as end
use Rattle.hw_link.specs.Frames.{byte_limit}
use Rattle.hw_session.specs.declared.stage.PeerMark.{PeerMark}
use Rattle.hw_session.specs.declared.fault.MakeFault.{MakeFault}
use Rattle.hw_session.specs.declared.fault.MakeFault.TheVariants as fault
use Rattle.hw_session.specs.Node.{NodeState, IsKept}
use Rattle.hw_session.specs.Make.{planned_by, own_vertex, entry_for, with_vertex, IsToMake, Makes, WritesOwn}
use Rattle.hw_session.specs.Accept.{IsTakenIn}
use Rattle.hw_session.specs.Restart.{journal_log, journal_lasts, HasLog}
use Rattle.hw_session.specs.Grows.{entries_for, Logs, LogsAllBut}
use Rattle.hw_session.specs.Serving.{serve_step, served}
use Rattle.hw_session.specs.Sessions.{StandsBefore, StandsCut, Leaves, Serves}
use Rattle.hw_session.specs.Driving.{greeting, drive_step, driven}
use Rattle.hw_session.specs.Drives.{StandsDriven, StandsDrivenCut, LeavesDriven, Drives}
use Rattle.hw_session.specs.Standing.{standing, driver_standing}
use Rattle.hw_session.proofs.ConfigLaws.{driven_config}
use Rattle.hw_session.proofs.MakeLaws.{own_accepted}
use Rattle.hw_session.proofs.RestartLaws.{make_keeps_log}
use Rattle.hw_service.proofs.GrowLaws.{served_config}
use Rattle.hw_run_laws.specs.Calls.{IsMade}
use Rattle.hw_run_laws.specs.Restart.{vertices_sent, TakesSome, HasCutLog, LeavesLog, ServesLeavesLog, DrivesLeavesLog, MakeLeavesLog}
use Rattle.hw_run_laws.specs.Taken.{taken_served, taken_driven}
use Rattle.hw_run_laws.proofs.LifeLaws.{served_these, served_takes}
use Rattle.hw_run_laws.proofs.DriverLaws.{driven_these, driven_takes}
use Rattle.hw_run_laws.proofs.KeepLaws.{file_is, file_grew, gained_log, logs_keep}
use Rattle.hw_run_laws.proofs.TakingLaws.{taken_before, takes_more, leaves_more}

-- ---- logs

-- a vertex that is accepted by its keys is accepted with a true verdict
pub taken_true : (n : NodeState) (v : Vertex) → IsTakenIn n v → is_accepted (answer_in n.core v true) ≡ true
taken_true n v is = subst (λ (b : Bool). is_accepted (answer_in n.core v b) ≡ true) (verdict_is (setting_of n.core.config) n.core.journal v (verdict_of n.keys v) is) is

module _ (n : NodeState) (tells : Bool) (old new : List ℕ → Option (List ℕ)) (told : IsTrue tells) (has : HasLog n (old n.log)) where
  -- a node that stands with its log
  pub stands : (m : NodeState) → m.core.config ≡ n.core.config → Logs n m tells old new → HasLog m (new m.log)
  stands m config logs = logs_keep n m tells old new config logs told has

  -- one whose log may be cut behind it
  pub cut : (before m : NodeState) (v : Vertex) → before.core.config ≡ n.core.config → LogsAllBut n before v m tells old new → HasCutLog before v (new m.log)
  cut before m v config logs =
      let part = logs.log told in
      let text = journal_log has.version n.core.config n.core.journal in
      let more = entries_for n logs.vertices in
      let first : List ℕ = take part.0 (entry_for before v) in
      let name : m.log ≡ n.log = ap (λ (k : NodeState). k.log) logs.unlogged.1 ∙ logs.gains.name in
      record {
        whole = text ++ more;
        count = part.0;
        has = gained_log n before logs.vertices (old n.log) (Some (text ++ more)) config logs.gains has refl;
        accepted = taken_true before v logs.unlogged.0;
        holds = ap new name ∙ file_grew old new n.log (more ++ first) text part.1 has.holds ∙ ap Some (sym (append_assoc text more first));
      }

-- ---- serving

module _ (n m : NodeState) (read written : List ℕ) (few : length read ≤ byte_limit) (tells : Bool) (old new : List ℕ → Option (List ℕ)) (told : IsTrue tells) (has : HasLog n (old n.log)) where
  abbrev LeftServed : Type 0
  LeftServed = LeavesLog n (taken_served n read) m (new m.log)

  -- what is taken of the first bytes comes first
  served_on : (k : NodeState) (first part : List ℕ) → read ≡ first ++ part → TakesSome n (taken_served n first) k → TakesSome n (taken_served n read) k
  served_on k first part split = takes_more n k (taken_served n first) (taken_served n read) (taken_before serve_step n read first part split few)

  served_whole : (m ≡ (served n read).state) × Logs n m tells old new → LeftServed
  served_whole (is, logs) =
      inl (subst (λ (k : NodeState). TakesSome n (taken_served n read) k) (sym is) (served_takes n read), stands n tells old new told has m (ap (λ (k : NodeState). k.core.config) is ∙ served_config n read) logs)

  served_before : StandsBefore tells (standing n old) read written (standing m new) → LeftServed
  served_before s =
      inl (
        served_on m s.first s.part s.split (subst (λ (k : NodeState). TakesSome n (taken_served n s.first) k) (sym s.state) (served_takes n s.first)),
        stands n tells old new told has m (ap (λ (k : NodeState). k.core.config) s.state ∙ served_config n s.first) s.logs,
      )

  served_cut : StandsCut tells (standing n old) read written (standing m new) → LeftServed
  served_cut s =
      let before = (served n s.first).state in
      inr (record {
        before = before;
        vertex = s.vertex;
        takes = served_on before s.first s.part s.split (served_takes n s.first);
        whole = subst (λ (k : NodeState). TakesSome n (taken_served n read) k) s.whole (served_takes n read);
        unlogged = s.logs.unlogged.1;
        log = cut n tells old new told has before m s.vertex (served_config n s.first) s.logs;
      })

  served_leaves : (e : SessionEnd) → Leaves e tells (standing n old) read written (standing m new) → LeftServed
  served_leaves end.Done left = served_whole left
  served_leaves end.EndOfInput left = served_whole left
  served_leaves end.WrongInstance left = served_whole left
  served_leaves (end.BadFrame at) left = served_whole left
  served_leaves end.LinkFault left = served_whole left
  served_leaves end.ByteLimit left = served_whole left
  served_leaves end.Clash left = served_whole left
  served_leaves end.AppendFault left = served_cut left
  served_leaves end.OutOfMemory (inl s) = served_before s
  served_leaves end.OutOfMemory (inr s) = served_cut s

pub serves_leave_taken : (n m : NodeState) (read written : List ℕ) (tells : Bool) (held_old held_new : List ℕ → Option (List ℕ)) (ends_old ends_new : ℕ) (e : SessionEnd)
    → Serves tells (standing n held_old) read written (standing m held_new) ends_old ends_new e → IsTrue tells → HasLog n (held_old n.log) → LeavesLog n (taken_served n read) m (held_new m.log)
serves_leave_taken n m read written tells held_old held_new ends_old ends_new e s told has = served_leaves n m read written s.within tells held_old held_new told has e s.left

pub serves_leave : ServesLeavesLog
serves_leave n m read written tells held_old held_new ends_old ends_new e s told has =
    leaves_more n m (taken_served n read) (vertices_sent read) (held_new m.log) (served_these n read).1 (serves_leave_taken n m read written tells held_old held_new ends_old ends_new e s told has)

-- ---- driving

module _ (n m : NodeState) (mark now : PeerMark) (read written : List ℕ) (few : length read ≤ byte_limit) (tells : Bool) (old new : List ℕ → Option (List ℕ)) (told : IsTrue tells) (has : HasLog n (old n.log)) where
  abbrev LeftDriven : Type 0
  LeftDriven = LeavesLog n (taken_driven n mark read) m (new m.log)

  driven_on : (k : NodeState) (first part : List ℕ) → read ≡ first ++ part → TakesSome n (taken_driven n mark first) k → TakesSome n (taken_driven n mark read) k
  driven_on k first part split = takes_more n k (taken_driven n mark first) (taken_driven n mark read) (taken_before drive_step (greeting n mark) read first part split few)

  driven_whole : (m ≡ (driven n mark read).state.node) × Logs n m tells old new → LeftDriven
  driven_whole (is, logs) =
      inl (subst (λ (k : NodeState). TakesSome n (taken_driven n mark read) k) (sym is) (driven_takes n mark read), stands n tells old new told has m (ap (λ (k : NodeState). k.core.config) is ∙ driven_config n mark read) logs)

  driven_before : StandsDriven tells (driver_standing n mark old) read written (driver_standing m now new) → LeftDriven
  driven_before s =
      inl (
        driven_on m s.first s.part s.split (subst (λ (k : NodeState). TakesSome n (taken_driven n mark s.first) k) (sym s.state) (driven_takes n mark s.first)),
        stands n tells old new told has m (ap (λ (k : NodeState). k.core.config) s.state ∙ driven_config n mark s.first) s.logs,
      )

  driven_cut : StandsDrivenCut tells (driver_standing n mark old) read written (driver_standing m now new) → LeftDriven
  driven_cut s =
      let before = (driven n mark s.first).state.node in
      inr (record {
        before = before;
        vertex = s.vertex;
        takes = driven_on before s.first s.part s.split (driven_takes n mark s.first);
        whole = subst (λ (k : NodeState). TakesSome n (taken_driven n mark read) k) s.whole (driven_takes n mark read);
        unlogged = s.logs.unlogged.1;
        log = cut n tells old new told has before m s.vertex (driven_config n mark s.first) s.logs;
      })

  driven_leaves : (e : SessionEnd) → LeavesDriven e tells (driver_standing n mark old) read written (driver_standing m now new) → LeftDriven
  driven_leaves end.Done left = driven_whole left
  driven_leaves end.EndOfInput left = driven_whole left
  driven_leaves end.WrongInstance left = driven_whole left
  driven_leaves (end.BadFrame at) left = driven_whole left
  driven_leaves end.LinkFault left = driven_whole left
  driven_leaves end.ByteLimit left = driven_whole left
  driven_leaves end.Clash left = driven_whole left
  driven_leaves end.AppendFault left = driven_cut left
  driven_leaves end.OutOfMemory (inl s) = driven_before s
  driven_leaves end.OutOfMemory (inr s) = driven_cut s

pub drives_leave_taken : (n m : NodeState) (mark now : PeerMark) (read written : List ℕ) (tells : Bool) (held_old held_new : List ℕ → Option (List ℕ)) (ends_old ends_new : ℕ) (e : SessionEnd)
    → Drives tells (driver_standing n mark held_old) read written (driver_standing m now held_new) ends_old ends_new e → IsTrue tells → HasLog n (held_old n.log) → LeavesLog n (taken_driven n mark read) m (held_new m.log)
drives_leave_taken n m mark now read written tells held_old held_new ends_old ends_new e s told has = driven_leaves n m mark now read written s.within tells held_old held_new told has e s.left

pub drives_leave : DrivesLeavesLog
drives_leave n m mark now read written tells held_old held_new ends_old ends_new e s told has =
    leaves_more n m (taken_driven n mark read) (vertices_sent read) (held_new m.log) (driven_these n mark read).1 (drives_leave_taken n m mark now read written tells held_old held_new ends_old ends_new e s told has)

-- ---- own units

module _ (n : NodeState) (me now : ℕ) (value : List ℕ) (old new : List ℕ → Option (List ℕ)) (kept : IsKept n) (validator : me < length n.core.config.weights) (has : HasLog n (old n.log)) where
  -- where the unit's entry is cut
  abbrev OwnCut : NodeState → Type 0
  OwnCut m = (p : Plan) × IsToMake n (planned_by n me now value) p × (m ≡ with_vertex n (own_vertex n p)) × HasCutLog n (own_vertex n p) (new m.log)

  -- a node with the same journal, of which the files stay
  same_log : (m : NodeState) → m.core ≡ n.core → m.lasts ≡ n.lasts → m.log ≡ n.log → SameFiles old new → HasLog m (new m.log)
  same_log m core lasts name same = record {
    version = has.version;
    known = has.known;
    holds = ap new name ∙ same n.log ∙ has.holds ∙ ap (λ (c : CoreState). Some (journal_log has.version c.config c.journal)) (sym core);
    lasts = lasts ∙ has.lasts ∙ ap (λ (c : CoreState). journal_lasts has.version c.config c.journal) (sym core);
  }

  same_node : (m : NodeState) → m ≡ n → SameFiles old new → HasLog m (new m.log)
  same_node m is same = same_log m (ap (λ (k : NodeState). k.core) is) (ap (λ (k : NodeState). k.lasts) is) (ap (λ (k : NodeState). k.log) is) same

  -- the entry of the unit may be cut
  own_cut : {T E : Type 0} (e : E) (m : NodeState) (p : Plan) → IsToMake n (planned_by n me now value) p → m ≡ with_vertex n (own_vertex n p) → Appended {T = T} old new n.log (entry_for n (own_vertex n p)) (Err e) → OwnCut m
  own_cut e m p make is wrote =
      let text = journal_log has.version n.core.config n.core.journal in
      let there = wrote.stays (subst (λ (f : Option (List ℕ)). IsSome f) (sym has.holds) refl) in
      let first : List ℕ = take wrote.cut.0 (entry_for n (own_vertex n p)) in (
        p,
        make,
        is,
        record {
          whole = text;
          count = wrote.cut.0;
          has = subst (λ (f : Option (List ℕ)). HasLog n f) has.holds has;
          accepted = own_accepted n p kept.reached (me, now, value, record { sound = kept.lawful; validator = validator; is = make.is }) make.apart make.room;
          holds = ap (λ (k : NodeState). new k.log) is ∙ file_is (new n.log) there ∙ ap Some (wrote.cut.1 ∙ ap (λ (f : Option (List ℕ)). bytes_of f ++ first) has.holds);
        },
      )

  same_plan : (o : Option Plan) (p q : Plan) → o ≡ Some p → o ≡ Some q → p ≡ q
  same_plan o p q is also = let both : Some p ≡ Some q = sym is ∙ also in cc

  -- no append failed, and there was memory
  pub make_keeps : (m : NodeState) (result : Result (Option Plan) MakeFault) → Makes n (planned_by n me now value) m result → WritesOwn n (planned_by n me now value) m old new result → IsMade result → HasLog m (new m.log)
  make_keeps m (Ok (Some p)) makes writes made = make_keeps_log n m (planned_by n me now value) (Some p) old new makes writes has
  make_keeps m (Ok None) makes same made = same_node m makes.1 same
  make_keeps m (Err fault.RecordsFull) makes same made = same_log m (ap (λ (k : NodeState). k.core) makes.1) (ap (λ (k : NodeState). k.lasts) makes.1) (ap (λ (k : NodeState). k.log) makes.1) same
  make_keeps m (Err fault.AppendFault) makes writes made = absurd made
  make_keeps m (Err fault.OutOfMemory) makes writes made = absurd made

  by_result : (m : NodeState) (result : Result (Option Plan) MakeFault) → Makes n (planned_by n me now value) m result → WritesOwn n (planned_by n me now value) m old new result → HasLog m (new m.log) ⊎ OwnCut m
  by_result m (Ok (Some p)) makes writes = inl (make_keeps m (Ok (Some p)) makes writes tt)
  by_result m (Ok None) makes writes = inl (make_keeps m (Ok None) makes writes tt)
  by_result m (Err fault.RecordsFull) makes writes = inl (make_keeps m (Err fault.RecordsFull) makes writes tt)
  by_result m (Err fault.AppendFault) (p, make, left) (q, is, wrote) =
      inr (own_cut fault.AppendFault m p make left (subst (λ (x : Plan). Appended {T = Plan} old new n.log (entry_for n (own_vertex n x)) (Err fault.AppendFault)) (same_plan (planned_by n me now value) q p is make.is) wrote))
  by_result m (Err fault.OutOfMemory) makes (inl (is, same)) = inl (same_node m is same)
  by_result m (Err fault.OutOfMemory) makes (inr (p, make, left, wrote)) = inr (own_cut fault.OutOfMemory m p make left wrote)

pub make_leaves : MakeLeavesLog
make_leaves n m me now value result old new kept validator makes writes has = by_result n me now value old new kept validator has m result makes writes
