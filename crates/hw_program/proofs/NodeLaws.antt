-- What the clauses of the top call say of a run of a node, from what the run came to.
use Rattle.std.proofs.Common.{◌≡◌, ℕ, List, Bool, true, false, Option, Some, None, Result, Ok, Err, refl, sym, ap, subst, ◌∙◌, inl, inr, arith}
use Rattle.std.specs.Prelude.{◌⊎◌, ◌≢◌, ◌≤◌, ◌<◌, nat_lt, length, IsTrue, IfOk, IfErr, if◌then◌else◌}
use Rattle.std.specs.Io.KnownBytes.{Appends}
use Rattle.hw_types.specs.declared.config.Config.{Config}
use Rattle.hw_io.specs.Faults.{Rose}
use Rattle.hw_io.specs.Sinks.{AppendsPrefix}
use Rattle.hw_log.specs.declared.error.LogError.TheVariants as log
use Rattle.hw_replay.specs.declared.fault.StartFault.{StartFault}
use Rattle.hw_replay.specs.declared.fault.StartFault.TheVariants as start
use Rattle.hw_replay.specs.Fates.{Sight}
use Rattle.hw_service.specs.declared.fault.ServiceFault.{ServiceFault}
use Rattle.hw_service.specs.declared.fault.ServiceFault.TheVariants as fault
use Rattle.hw_service.specs.declared.ended.Served.{Served}
use Rattle.hw_service.specs.Scene.{Outside, Scene}
use Rattle.hw_service.specs.Begin.{Names, file_settings, ReadsNot, Reads, fault_of_start, BeginsNot}
use Rattle.hw_service.specs.Begun.{IsAbout}
use Rattle.hw_service.specs.Run.{StepOver, Runs, course, runner}
use Rattle.hw_service.specs.Serve.{serves_session}
use Rattle.hw_service.specs.Runs.{hosts_session, calls_peer}
use Rattle.hw_service.specs.Turns.{turning, TakesTurn}
use Rattle.hw_service.specs.Counts.{IsReadCounted, IsAppendCounted, IsWriteCounted, IsDoorCounted}
use Rattle.hw_commands.specs.declared.ended.Ended.{Ended}
use Rattle.hw_commands.specs.Program.{Held}
use Rattle.hw_commands.specs.Texts.{usage_line, read_fault_line, input_ended, clash_ended}
use Rattle.hw_commands.specs.Run.{Output, WritesLine, IsStatus, IsWorkedStatus, IsServiceStatus}
use Rattle.hw_program.specs.Services.{Service, Serve, Run, Host, Meet, names_in, maker_in}
use Rattle.hw_program.specs.Served.{service_stopped, Tells, EndsBy, RunsAsAsked, Around, RunsNode, MayBegin, IsMidway, CanRun, IsRunEnd, AsksNoValidator}
use Rattle.hw_program.proofs.ServedLaws.{ends_status, one_config, told_kept, log_fault_status, IsPlainFault, asked_plain, IsStepFault, session_fault, host_fault, meet_fault, turn_fault, part_fault}

-- ---- the status of what stopped a run

abbrev pub IsCode : ServiceFault → ℕ → Type 0
IsCode (fault.Settings f) k = k ≡ 2
IsCode fault.NoValidator k = k ≡ 1
IsCode (fault.Keys at) k = k ≡ 2
IsCode (fault.Log e) k = (k ≡ 2) ⊎ (k ≡ 8) ⊎ (k ≡ 9)
IsCode (fault.Clash units) k = k ≡ 9
IsCode fault.Read k = k ≡ 4
IsCode fault.Append k = k ≡ 5
IsCode fault.Write k = k ≡ 5
IsCode fault.OutOfMemory k = k ≡ 7

code_of : (names : Names) (e : ServiceFault) → IsPlainFault e → IsCode e (service_stopped names e).status
unfolding input_ended clash_ended
code_of names (fault.Settings f) plain = refl
code_of names fault.NoValidator plain = refl
code_of names (fault.Keys at) plain = refl
code_of names (fault.Log e) plain = log_fault_status names.log e plain
code_of names (fault.Clash units) plain = refl
code_of names fault.Read plain = refl
code_of names fault.Append plain = refl
code_of names fault.Write plain = refl
code_of names fault.OutOfMemory plain = refl

code_not_zero : (e : ServiceFault) (k : ℕ) → IsCode e k → k ≡ 0 → ⊥
code_not_zero (fault.Settings f) k is z = omega (arith, is, z)
code_not_zero fault.NoValidator k is z = omega (arith, is, z)
code_not_zero (fault.Keys at) k is z = omega (arith, is, z)
code_not_zero (fault.Log e) k (inl is) z = omega (arith, is, z)
code_not_zero (fault.Log e) k (inr (inl is)) z = omega (arith, is, z)
code_not_zero (fault.Log e) k (inr (inr is)) z = omega (arith, is, z)
code_not_zero (fault.Clash units) k is z = omega (arith, is, z)
code_not_zero fault.Read k is z = omega (arith, is, z)
code_not_zero fault.Append k is z = omega (arith, is, z)
code_not_zero fault.Write k is z = omega (arith, is, z)
code_not_zero fault.OutOfMemory k is z = omega (arith, is, z)

code_not_three : (e : ServiceFault) (k : ℕ) → IsCode e k → k ≡ 3 → ⊥
code_not_three (fault.Settings f) k is z = omega (arith, is, z)
code_not_three fault.NoValidator k is z = omega (arith, is, z)
code_not_three (fault.Keys at) k is z = omega (arith, is, z)
code_not_three (fault.Log e) k (inl is) z = omega (arith, is, z)
code_not_three (fault.Log e) k (inr (inl is)) z = omega (arith, is, z)
code_not_three (fault.Log e) k (inr (inr is)) z = omega (arith, is, z)
code_not_three (fault.Clash units) k is z = omega (arith, is, z)
code_not_three fault.Read k is z = omega (arith, is, z)
code_not_three fault.Append k is z = omega (arith, is, z)
code_not_three fault.Write k is z = omega (arith, is, z)
code_not_three fault.OutOfMemory k is z = omega (arith, is, z)

told_code : (names : Names) (e : ServiceFault) (status : ℕ) (old new : Output) → IsPlainFault e → Tells (service_stopped names e) status old new → IsCode e status ⊎ (status ≡ 7)
told_code names e status old new plain told =
    let code = code_of names e plain in
    elim (told_kept (service_stopped names e) status old new (code_not_zero e (service_stopped names e).status code) (code_not_three e (service_stopped names e).status code) told) [
      | inl kept ↦ inl (subst (IsCode e) (sym kept) code)
      | inr seven ↦ inr seven
    ]

-- The status is that of what stopped the run, or there was no memory for the line.
coded : (names : Names) (e : ServiceFault) (status : ℕ) (old new : Output) → IsPlainFault e → EndsBy names (Err e) status old new → IsCode e status ⊎ (status ≡ 7)
coded names fault.Write status old new plain ends = inl ends.0
coded names fault.OutOfMemory status old new plain ends = inr ends.0
coded names (fault.Settings f) status old new plain ends = told_code names (fault.Settings f) status old new plain ends
coded names fault.NoValidator status old new plain ends = told_code names fault.NoValidator status old new plain ends
coded names (fault.Keys at) status old new plain ends = told_code names (fault.Keys at) status old new plain ends
coded names (fault.Log e) status old new plain ends = told_code names (fault.Log e) status old new plain ends
coded names (fault.Clash units) status old new plain ends = told_code names (fault.Clash units) status old new plain ends
coded names fault.Read status old new plain ends = told_code names fault.Read status old new plain ends
coded names fault.Append status old new plain ends = told_code names fault.Append status old new plain ends

-- behind a report
reported_is : (limits failed : Bool) (n : ℕ) → n ≡ (if limits then 8 else if failed then 6 else 0) → (n ≡ 8) ⊎ ((n ≡ 6) × (failed ≡ true)) ⊎ (n ≡ 0)
reported_is true failed n is = inl is
reported_is false true n is = inr (inl (is, refl))
reported_is false false n is = inr (inr is)

reported_not : (limits failed : Bool) (n k : ℕ) → n ≡ (if limits then 8 else if failed then 6 else 0) → n ≡ k → (k ≡ 8 → ⊥) → (k ≡ 6 → ⊥) → (k ≡ 0 → ⊥) → ⊥
reported_not limits failed n k is at eight six zero = elim (reported_is limits failed n is) [
  | inl e ↦ eight (sym at ∙ e)
  | inr (inl e) ↦ six (sym at ∙ e.0)
  | inr (inr e) ↦ zero (sym at ∙ e)
]

-- ---- one, four, five, six

code_four : (e : ServiceFault) (k : ℕ) → IsCode e k ⊎ (k ≡ 7) → k ≡ 4 → e ≡ fault.Read
code_four e k (inr seven) at = absurd (omega (arith, seven, at))
code_four fault.Read k (inl is) at = refl
code_four (fault.Settings f) k (inl is) at = absurd (omega (arith, is, at))
code_four fault.NoValidator k (inl is) at = absurd (omega (arith, is, at))
code_four (fault.Keys p) k (inl is) at = absurd (omega (arith, is, at))
code_four (fault.Log e) k (inl (inl is)) at = absurd (omega (arith, is, at))
code_four (fault.Log e) k (inl (inr (inl is))) at = absurd (omega (arith, is, at))
code_four (fault.Log e) k (inl (inr (inr is))) at = absurd (omega (arith, is, at))
code_four (fault.Clash units) k (inl is) at = absurd (omega (arith, is, at))
code_four fault.Append k (inl is) at = absurd (omega (arith, is, at))
code_four fault.Write k (inl is) at = absurd (omega (arith, is, at))
code_four fault.OutOfMemory k (inl is) at = absurd (omega (arith, is, at))

code_one : (e : ServiceFault) (k : ℕ) → IsCode e k ⊎ (k ≡ 7) → k ≡ 1 → e ≡ fault.NoValidator
code_one e k (inr seven) at = absurd (omega (arith, seven, at))
code_one fault.NoValidator k (inl is) at = refl
code_one (fault.Settings f) k (inl is) at = absurd (omega (arith, is, at))
code_one fault.Read k (inl is) at = absurd (omega (arith, is, at))
code_one (fault.Keys p) k (inl is) at = absurd (omega (arith, is, at))
code_one (fault.Log e) k (inl (inl is)) at = absurd (omega (arith, is, at))
code_one (fault.Log e) k (inl (inr (inl is))) at = absurd (omega (arith, is, at))
code_one (fault.Log e) k (inl (inr (inr is))) at = absurd (omega (arith, is, at))
code_one (fault.Clash units) k (inl is) at = absurd (omega (arith, is, at))
code_one fault.Append k (inl is) at = absurd (omega (arith, is, at))
code_one fault.Write k (inl is) at = absurd (omega (arith, is, at))
code_one fault.OutOfMemory k (inl is) at = absurd (omega (arith, is, at))

code_five : (e : ServiceFault) (k : ℕ) → IsCode e k ⊎ (k ≡ 7) → k ≡ 5 → (e ≡ fault.Append) ⊎ (e ≡ fault.Write)
code_five e k (inr seven) at = absurd (omega (arith, seven, at))
code_five fault.Append k (inl is) at = inl refl
code_five fault.Write k (inl is) at = inr refl
code_five (fault.Settings f) k (inl is) at = absurd (omega (arith, is, at))
code_five fault.NoValidator k (inl is) at = absurd (omega (arith, is, at))
code_five (fault.Keys p) k (inl is) at = absurd (omega (arith, is, at))
code_five (fault.Log e) k (inl (inl is)) at = absurd (omega (arith, is, at))
code_five (fault.Log e) k (inl (inr (inl is))) at = absurd (omega (arith, is, at))
code_five (fault.Log e) k (inl (inr (inr is))) at = absurd (omega (arith, is, at))
code_five (fault.Clash units) k (inl is) at = absurd (omega (arith, is, at))
code_five fault.Read k (inl is) at = absurd (omega (arith, is, at))
code_five fault.OutOfMemory k (inl is) at = absurd (omega (arith, is, at))

code_not_six : (e : ServiceFault) (k : ℕ) → IsCode e k ⊎ (k ≡ 7) → k ≡ 6 → ⊥
code_not_six e k (inr seven) at = omega (arith, seven, at)
code_not_six fault.NoValidator k (inl is) at = omega (arith, is, at)
code_not_six (fault.Settings f) k (inl is) at = omega (arith, is, at)
code_not_six fault.Read k (inl is) at = omega (arith, is, at)
code_not_six (fault.Keys p) k (inl is) at = omega (arith, is, at)
code_not_six (fault.Log e) k (inl (inl is)) at = omega (arith, is, at)
code_not_six (fault.Log e) k (inl (inr (inl is))) at = omega (arith, is, at)
code_not_six (fault.Log e) k (inl (inr (inr is))) at = omega (arith, is, at)
code_not_six (fault.Clash units) k (inl is) at = omega (arith, is, at)
code_not_six fault.Append k (inl is) at = omega (arith, is, at)
code_not_six fault.Write k (inl is) at = omega (arith, is, at)
code_not_six fault.OutOfMemory k (inl is) at = omega (arith, is, at)

module _ (names : Names) (status : ℕ) (old new : Output) where
  at_four : (came_to : Result Served ServiceFault) → IfErr came_to IsPlainFault → EndsBy names came_to status old new → status ≡ 4 → came_to ≡ Err fault.Read
  at_four (Ok served) plain ends at = absurd (reported_not (nat_lt 0 served.limits) served.link_failed status 4 ends.0 at (λ h. omega (arith, h)) (λ h. omega (arith, h)) (λ h. omega (arith, h)))
  at_four (Err e) plain ends at = ap Err (code_four e status (coded names e status old new plain ends) at)

  at_one : (came_to : Result Served ServiceFault) → IfErr came_to IsPlainFault → EndsBy names came_to status old new → status ≡ 1 → came_to ≡ Err fault.NoValidator
  at_one (Ok served) plain ends at = absurd (reported_not (nat_lt 0 served.limits) served.link_failed status 1 ends.0 at (λ h. omega (arith, h)) (λ h. omega (arith, h)) (λ h. omega (arith, h)))
  at_one (Err e) plain ends at = ap Err (code_one e status (coded names e status old new plain ends) at)

  at_five : (came_to : Result Served ServiceFault) → IfErr came_to IsPlainFault → EndsBy names came_to status old new → status ≡ 5 → (came_to ≡ Err fault.Append) ⊎ (came_to ≡ Err fault.Write)
  at_five (Ok served) plain ends at = absurd (reported_not (nat_lt 0 served.limits) served.link_failed status 5 ends.0 at (λ h. omega (arith, h)) (λ h. omega (arith, h)) (λ h. omega (arith, h)))
  at_five (Err e) plain ends at = elim (code_five e status (coded names e status old new plain ends) at) [ inl append ↦ inl (ap Err append) | inr write ↦ inr (ap Err write) ]

  -- 6: a call of the door failed in a session
  at_six : (came_to : Result Served ServiceFault) (before now : ℕ) → IfErr came_to IsPlainFault → EndsBy names came_to status old new → status ≡ 6
      → IfOk came_to (λ (served : Served). IsDoorCounted served.link_failed before now) → Rose before now
  at_six (Ok served) before now plain ends at link = elim (reported_is (nat_lt 0 served.limits) served.link_failed status ends.0) [
    | inl eight ↦ absurd (omega (arith, eight, at))
    | inr (inl six) ↦ subst (λ (b : Bool). IsDoorCounted b before now) six.1 link
    | inr (inr zero) ↦ absurd (omega (arith, zero, at))
  ]
  at_six (Err e) before now plain ends at link = absurd (code_not_six e status (coded names e status old new plain ends) at)

-- ---- clauses

module _ {B K : Type 0} (sight : Sight B K) (tells : Bool) (s : Service) (status : ℕ) (old new : Around B) (r : RunsNode sight tells s status old new) where
  plain : IfErr r.came_to IsPlainFault
  plain = asked_plain sight s tells old.whole (record new.whole { written = r.between.taken }) old.given new.given r.came_to r.runs

  pub node_status : IsServiceStatus status
  node_status = ends_status (names_in s) r.came_to status r.between new.output r.ends

  pub node_link : status ≡ 6 → Rose old.counts.link new.counts.link
  node_link at = at_six (names_in s) status r.between new.output r.came_to old.counts.link new.counts.link plain r.ends at r.link

  read_at : status ≡ 4 → r.came_to ≡ Err fault.Read
  read_at at = at_four (names_in s) status r.between new.output r.came_to plain r.ends at

  pub node_read_fault : status ≡ 4 → Rose old.counts.reads new.counts.reads
  node_read_fault at = subst (λ (c : Result Served ServiceFault). IsReadCounted old.counts.reads new.counts.reads c) (read_at at) r.reads

  pub node_about : IsTrue tells → status ≡ 4 → IsAbout (names_in s) (maker_in s) old.whole.files old.counts.about new.counts.about
  node_about t at = subst (λ (c : Result Served ServiceFault). IfErr c (λ e. e ≡ fault.Read → IsAbout (names_in s) (maker_in s) old.whole.files old.counts.about new.counts.about)) (read_at at) (r.about t) refl

-- ---- a run that may begin

-- where no count rose, a run that has what it needs comes to its report, or ends by want of memory or a clash
run_end_of : (names : Names) (came_to : Result Served ServiceFault) (status reads reads_now appends appends_now writes : ℕ) (old new : Output) → IfErr came_to IsMidway → EndsBy names came_to status old new
    → IsReadCounted reads reads_now came_to → IsAppendCounted appends appends_now came_to → IsWriteCounted writes old.faults came_to
    → (Rose reads reads_now → ⊥) → (Rose appends appends_now → ⊥) → (Rose writes new.faults → ⊥) → IsRunEnd status
run_end_of names (Ok served) status reads reads_now appends appends_now writes old new fit ends rc ac wc nr na nw = elim (reported_is (nat_lt 0 served.limits) served.link_failed status ends.0) [
  | inl eight ↦ inr (inr (inr (inl eight)))
  | inr (inl six) ↦ inr (inl six.0)
  | inr (inr zero) ↦ inl zero
]
run_end_of names (Err fault.Read) status reads reads_now appends appends_now writes old new fit ends rc ac wc nr na nw = absurd (nr rc)
run_end_of names (Err fault.Append) status reads reads_now appends appends_now writes old new fit ends rc ac wc nr na nw = absurd (na ac)
run_end_of names (Err fault.Write) status reads reads_now appends appends_now writes old new fit ends rc ac wc nr na nw = absurd (nw (subst (λ (o : Output). Rose writes o.faults) (sym ends.1) wc))
run_end_of names (Err fault.OutOfMemory) status reads reads_now appends appends_now writes old new fit ends rc ac wc nr na nw = inr (inr (inl ends.0))
run_end_of names (Err (fault.Clash units)) status reads reads_now appends appends_now writes old new fit ends rc ac wc nr na nw =
    elim (coded names (fault.Clash units) status old new tt ends) [ inl nine ↦ inr (inr (inr (inr nine))) | inr seven ↦ inr (inr (inl seven)) ]
run_end_of names (Err (fault.Settings f)) status reads reads_now appends appends_now writes old new fit ends rc ac wc nr na nw = absurd fit
run_end_of names (Err fault.NoValidator) status reads reads_now appends appends_now writes old new fit ends rc ac wc nr na nw = absurd fit
run_end_of names (Err (fault.Keys at)) status reads reads_now appends appends_now writes old new fit ends rc ac wc nr na nw = absurd fit
run_end_of names (Err (fault.Log e)) status reads reads_now appends appends_now writes old new fit ends rc ac wc nr na nw = absurd fit

run_end_in : {B K : Type 0} (sight : Sight B K) (tells : Bool) (s : Service) (status : ℕ) (old new : Around B) (r : RunsNode sight tells s status old new) → IsTrue tells → MayBegin s old.whole.files
    → (Rose old.counts.reads new.counts.reads → ⊥) → (Rose old.output.faults new.output.faults → ⊥) → (Rose old.counts.appends new.counts.appends → ⊥) → IsRunEnd status
run_end_in sight tells s status old new r t may reads writes appends =
    run_end_of (names_in s) r.came_to status old.counts.reads new.counts.reads old.counts.appends new.counts.appends old.output.faults r.between new.output (r.fit t may) r.ends r.reads r.appends r.writes reads appends writes

-- of a run that is asked for
pub run_end : {B K : Type 0} (sight : Sight B K) (tells : Bool) (s : Service) (status : ℕ) (old new : Around B) → RunsNode sight tells s status old new → IsTrue tells → CanRun (Some s) old.whole.files
    → (Rose old.counts.reads new.counts.reads → ⊥) → (Rose old.output.faults new.output.faults → ⊥) → (Rose old.counts.appends new.counts.appends → ⊥) → IsRunEnd status
run_end sight tells s status old new r t may reads writes appends = run_end_in sight tells s status old new r t may reads writes appends

-- ---- which counts rose

write_fault_of : (names : Names) (came_to : Result Served ServiceFault) (status appends appends_now writes : ℕ) (old new : Output) → IfErr came_to IsPlainFault → EndsBy names came_to status old new
    → IsAppendCounted appends appends_now came_to → IsWriteCounted writes old.faults came_to → status ≡ 5 → Rose writes new.faults ⊎ Rose appends appends_now
write_fault_of names (Ok served) status appends appends_now writes old new plain ends ac wc at =
    absurd (reported_not (nat_lt 0 served.limits) served.link_failed status 5 ends.0 at (λ h. omega (arith, h)) (λ h. omega (arith, h)) (λ h. omega (arith, h)))
write_fault_of names (Err fault.Append) status appends appends_now writes old new plain ends ac wc at = inr ac
write_fault_of names (Err fault.Write) status appends appends_now writes old new plain ends ac wc at = inl (subst (λ (o : Output). Rose writes o.faults) (sym ends.1) wc)
write_fault_of names (Err fault.OutOfMemory) status appends appends_now writes old new plain ends ac wc at = absurd (let seven = ends.0 in omega (arith, seven, at))
write_fault_of names (Err (fault.Settings f)) status appends appends_now writes old new plain ends ac wc at = absurd (elim (code_five (fault.Settings f) status (coded names (fault.Settings f) status old new plain ends) at) [ inl e ↦ cc | inr e ↦ cc ])
write_fault_of names (Err fault.NoValidator) status appends appends_now writes old new plain ends ac wc at = absurd (elim (code_five fault.NoValidator status (coded names fault.NoValidator status old new plain ends) at) [ inl e ↦ cc | inr e ↦ cc ])
write_fault_of names (Err (fault.Keys k)) status appends appends_now writes old new plain ends ac wc at = absurd (elim (code_five (fault.Keys k) status (coded names (fault.Keys k) status old new plain ends) at) [ inl e ↦ cc | inr e ↦ cc ])
write_fault_of names (Err (fault.Log f)) status appends appends_now writes old new plain ends ac wc at = absurd (elim (code_five (fault.Log f) status (coded names (fault.Log f) status old new plain ends) at) [ inl e ↦ cc | inr e ↦ cc ])
write_fault_of names (Err (fault.Clash u)) status appends appends_now writes old new plain ends ac wc at = absurd (elim (code_five (fault.Clash u) status (coded names (fault.Clash u) status old new plain ends) at) [ inl e ↦ cc | inr e ↦ cc ])
write_fault_of names (Err fault.Read) status appends appends_now writes old new plain ends ac wc at = absurd (elim (code_five fault.Read status (coded names fault.Read status old new plain ends) at) [ inl e ↦ cc | inr e ↦ cc ])

pub node_write_fault : {B K : Type 0} (sight : Sight B K) (tells : Bool) (s : Service) (status : ℕ) (old new : Around B) (r : RunsNode sight tells s status old new) → status ≡ 5
    → Rose old.output.faults new.output.faults ⊎ Rose old.counts.appends new.counts.appends
node_write_fault sight tells s status old new r at =
    write_fault_of (names_in s) r.came_to status old.counts.appends new.counts.appends old.output.faults r.between new.output (plain sight tells s status old new r) r.ends r.appends r.writes at

-- a failed read is told, or there was no memory
reads_of : (names : Names) (came_to : Result Served ServiceFault) (status reads reads_now : ℕ) (old new : Output) → IfErr came_to IsPlainFault → EndsBy names came_to status old new → IsReadCounted reads reads_now came_to → status ≢ 4
    → (reads_now ≡ reads) ⊎ (status ≡ 7)
reads_of names (Err fault.Read) status reads reads_now old new fine ends rc not = elim (coded names fault.Read status old new fine ends) [ inl four ↦ absurd (not four) | inr seven ↦ inr seven ]
reads_of names (Ok served) status reads reads_now old new fine ends rc not = inl rc
reads_of names (Err (fault.Settings f)) status reads reads_now old new fine ends rc not = inl rc
reads_of names (Err fault.NoValidator) status reads reads_now old new fine ends rc not = inl rc
reads_of names (Err (fault.Keys k)) status reads reads_now old new fine ends rc not = inl rc
reads_of names (Err (fault.Log f)) status reads reads_now old new fine ends rc not = inl rc
reads_of names (Err (fault.Clash u)) status reads reads_now old new fine ends rc not = inl rc
reads_of names (Err fault.Append) status reads reads_now old new fine ends rc not = inl rc
reads_of names (Err fault.Write) status reads reads_now old new fine ends rc not = inl rc
reads_of names (Err fault.OutOfMemory) status reads reads_now old new fine ends rc not = inl rc

pub node_reads : {B K : Type 0} (sight : Sight B K) (tells : Bool) (s : Service) (status : ℕ) (old new : Around B) (r : RunsNode sight tells s status old new) → status ≢ 4 → (new.counts.reads ≡ old.counts.reads) ⊎ (status ≡ 7)
node_reads sight tells s status old new r not = reads_of (names_in s) r.came_to status old.counts.reads new.counts.reads r.between new.output (plain sight tells s status old new r) r.ends r.reads not

appended_of : (names : Names) (came_to : Result Served ServiceFault) (status appends appends_now : ℕ) (old new : Output) → IfErr came_to IsPlainFault → EndsBy names came_to status old new → IsAppendCounted appends appends_now came_to → status ≢ 5
    → (appends_now ≡ appends) ⊎ (status ≡ 7)
appended_of names (Err fault.Append) status appends appends_now old new fine ends ac not = elim (coded names fault.Append status old new fine ends) [ inl five ↦ absurd (not five) | inr seven ↦ inr seven ]
appended_of names (Ok served) status appends appends_now old new fine ends ac not = inl ac
appended_of names (Err (fault.Settings f)) status appends appends_now old new fine ends ac not = inl ac
appended_of names (Err fault.NoValidator) status appends appends_now old new fine ends ac not = inl ac
appended_of names (Err (fault.Keys k)) status appends appends_now old new fine ends ac not = inl ac
appended_of names (Err (fault.Log f)) status appends appends_now old new fine ends ac not = inl ac
appended_of names (Err (fault.Clash u)) status appends appends_now old new fine ends ac not = inl ac
appended_of names (Err fault.Read) status appends appends_now old new fine ends ac not = inl ac
appended_of names (Err fault.Write) status appends appends_now old new fine ends ac not = inl ac
appended_of names (Err fault.OutOfMemory) status appends appends_now old new fine ends ac not = inl ac

pub node_appended : {B K : Type 0} (sight : Sight B K) (tells : Bool) (s : Service) (status : ℕ) (old new : Around B) (r : RunsNode sight tells s status old new) → status ≢ 5 → (new.counts.appends ≡ old.counts.appends) ⊎ (status ≡ 7)
node_appended sight tells s status old new r not = appended_of (names_in s) r.came_to status old.counts.appends new.counts.appends r.between new.output (plain sight tells s status old new r) r.ends r.appends not

-- ---- a run that hasn't begun has written nothing

-- the read count and the validator are found wrong only before the first step
runs_unwritten : {B K X : Type 0} (sight : Sight B K) (tells : Bool) (names : Names) (me : Option ℕ) (step : StepOver B X) (number count : ℕ) (before after : Outside B) (x y : X) (e : ServiceFault)
    → ((f : ServiceFault) (k : ℕ) (old new : Scene B × X) → step k old new (Err f) → IsStepFault f) → (IsStepFault e → ⊥) → Runs (runner sight tells names me) (course step number count) (before, x) (after, y) (Err e) → after.written ≡ before.written
runs_unwritten sight tells names me step number count before after x y e each not (inl none) = elim none.begins_not [ inl n ↦ n.1.written | inr n ↦ n.2.written ]
runs_unwritten sight tells names me step number count before after x y e each not (inr part) = absurd (not (part_fault sight tells names me step number count before after x y e (each e) part))

asked_unwritten : {B K : Type 0} (sight : Sight B K) (s : Service) (tells : Bool) (before after : Outside B) (given given_now : Option (List ℕ)) (e : ServiceFault) → (IsStepFault e → ⊥)
    → RunsAsAsked sight tells s before after given given_now (Err e) → after.written ≡ before.written
asked_unwritten sight (Serve names address sessions) tells before after given given_now e not runs =
    runs_unwritten sight tells names None (serves_session sight tells) 1 sessions before after tt tt e (session_fault sight tells) not runs.0
asked_unwritten sight (Run names me turns peers) tells before after given given_now e not (inl runs) =
    runs_unwritten sight tells names (Some me) (TakesTurn sight tells me) 1 turns before after (turning runs.first given) (turning runs.last given_now) e (turn_fault sight tells me) not runs.runs
asked_unwritten sight (Run names me turns peers) tells before after given given_now e not (inr none) = none.stays.written
asked_unwritten sight (Host names address sessions) tells before after given given_now e not runs =
    runs_unwritten sight tells names None (hosts_session sight tells) 1 sessions before after tt tt e (host_fault sight tells) not runs.0
asked_unwritten sight (Meet names peer) tells before after given given_now e not runs =
    runs_unwritten sight tells names None (calls_peer sight tells peer) 0 1 before after tt tt e (meet_fault sight tells peer) not runs.0

-- so its line is all that is written
line_told : (e : Ended) (status : ℕ) (old between new : Output) → between.taken ≡ old.taken → between.faults ≡ old.faults → (status ≡ 7 → ⊥) → Tells e status between new → WritesLine old.taken new.taken e.text old.faults new.faults
line_told e status old between new taken faults not (inl (inl whole)) = inl (subst (λ (t : Option (List ℕ)). Appends t new.taken e.text) taken whole.1)
line_told e status old between new taken faults not (inl (inr (inl cut))) =
    inr (subst (λ (n : ℕ). Rose n new.faults) faults cut.1, subst (λ (t : Option (List ℕ)). AppendsPrefix t new.taken e.text) taken cut.2)
line_told e status old between new taken faults not (inl (inr (inr want))) = absurd (not want.0)
line_told e status old between new taken faults not (inr memory) = absurd (not memory.0)

line_at : {B K : Type 0} (sight : Sight B K) (tells : Bool) (s : Service) (status : ℕ) (old new : Around B) (between : Output) (e : ServiceFault) → (IsStepFault e → ⊥) → (status ≡ 7 → ⊥)
    → RunsAsAsked sight tells s old.whole (record new.whole { written = between.taken }) old.given new.given (Err e) → between.faults ≡ old.output.faults → Tells (service_stopped (names_in s) e) status between new.output
    → old.whole.written ≡ old.output.taken → WritesLine old.output.taken new.output.taken (service_stopped (names_in s) e).text old.output.faults new.output.faults
line_at sight tells s status old new between e not seven runs faults told same =
    line_told (service_stopped (names_in s) e) status old.output between new.output
    (asked_unwritten sight s tells old.whole (record new.whole { written = between.taken }) old.given new.given e not runs ∙ same) faults seven told

-- `old.whole.written` is what the output has taken, where the two are of one moment
pub node_read_line : {B K : Type 0} (sight : Sight B K) (tells : Bool) (s : Service) (status : ℕ) (old new : Around B) (r : RunsNode sight tells s status old new) → old.whole.written ≡ old.output.taken → status ≡ 4
    → WritesLine old.output.taken new.output.taken read_fault_line old.output.faults new.output.faults
node_read_line sight tells s status old new r same at =
    let is = at_four (names_in s) status r.between new.output r.came_to (plain sight tells s status old new r) r.ends at in
    line_at sight tells s status old new r.between fault.Read (λ never. never) (λ seven. omega (arith, seven, at))
    (subst (λ (c : Result Served ServiceFault). RunsAsAsked sight tells s old.whole (record new.whole { written = r.between.taken }) old.given new.given c) is r.runs)
    (subst (λ (c : Result Served ServiceFault). IsWriteCounted old.output.faults r.between.faults c) is r.writes)
    (subst (λ (c : Result Served ServiceFault). EndsBy (names_in s) c status r.between new.output) is r.ends) same

pub node_usage_line : {B K : Type 0} (sight : Sight B K) (tells : Bool) (s : Service) (status : ℕ) (old new : Around B) (r : RunsNode sight tells s status old new) → old.whole.written ≡ old.output.taken → status ≡ 1
    → WritesLine old.output.taken new.output.taken usage_line old.output.faults new.output.faults
node_usage_line sight tells s status old new r same at =
    let is = at_one (names_in s) status r.between new.output r.came_to (plain sight tells s status old new r) r.ends at in
    line_at sight tells s status old new r.between fault.NoValidator (λ never. never) (λ seven. omega (arith, seven, at))
    (subst (λ (c : Result Served ServiceFault). RunsAsAsked sight tells s old.whole (record new.whole { written = r.between.taken }) old.given new.given c) is r.runs)
    (subst (λ (c : Result Served ServiceFault). IsWriteCounted old.output.faults r.between.faults c) is r.writes)
    (subst (λ (c : Result Served ServiceFault). EndsBy (names_in s) c status r.between new.output) is r.ends) same

-- ---- no validator

-- why a log gives no node
abbrev pub IsStartKind : ServiceFault → Type 0
IsStartKind (fault.Log e) = Unit {0}
IsStartKind fault.Read = Unit {0}
IsStartKind fault.Append = Unit {0}
IsStartKind fault.OutOfMemory = Unit {0}
IsStartKind e = ⊥

start_kind : (f : StartFault) → IsStartKind (fault_of_start f)
start_kind (start.Log log.ReadFault) = tt
start_kind (start.Log log.WriteFault) = tt
start_kind (start.Log log.OutOfMemory) = tt
start_kind (start.Log log.BadMagic) = tt
start_kind (start.Log (log.Version v)) = tt
start_kind (start.Log (log.Torn at)) = tt
start_kind (start.Log (log.TooLong at)) = tt
start_kind (start.Log (log.BadConfig f)) = tt
start_kind (start.Log (log.ConfigFault f)) = tt
start_kind (start.Log (log.BadEvent at)) = tt
start_kind (start.Log (log.BadVerdict at)) = tt
start_kind (start.Log (log.BadVertex at f)) = tt
start_kind start.OtherConfig = tt
start_kind (start.Clash known other) = tt
start_kind (start.RecordsFull at) = tt
start_kind (start.ParkFull at) = tt
start_kind start.OutOfMemory = tt

-- the settings say a configuration, and a validator is asked for that is none of it
abbrev pub IsAskedInVain : Bool → Names → Option ℕ → Held → Type 0
IsAskedInVain tells names None held = ⊥
IsAskedInVain tells names (Some me) held = (config : Config) × (IsTrue tells → file_settings (held names.config) ≡ Some (Ok config)) × (length config.weights ≤ me)

begins_in_vain : {B K : Type 0} (sight : Sight B K) (tells : Bool) (names : Names) (me : Option ℕ) (before after : Outside B) → BeginsNot sight tells names me before after fault.NoValidator → IsAskedInVain tells names me before.files
begins_in_vain sight tells names None before after (inl ((config, said, none), stays)) = none
begins_in_vain sight tells names (Some me) before after (inl ((config, said, none), stays)) = (config, said, none)
begins_in_vain sight tells names me before after (inr (f, is, fails)) = absurd (subst IsStartKind (sym is) (start_kind f))

runs_in_vain : {B K X : Type 0} (sight : Sight B K) (tells : Bool) (names : Names) (me : Option ℕ) (step : StepOver B X) (number count : ℕ) (before after : Outside B) (x y : X)
    → ((f : ServiceFault) (k : ℕ) (old new : Scene B × X) → step k old new (Err f) → IsStepFault f) → Runs (runner sight tells names me) (course step number count) (before, x) (after, y) (Err fault.NoValidator) → IsAskedInVain tells names me before.files
runs_in_vain sight tells names me step number count before after x y each (inl not) = begins_in_vain sight tells names me before after not.begins_not
runs_in_vain sight tells names me step number count before after x y each (inr part) = absurd (part_fault sight tells names me step number count before after x y fault.NoValidator (each fault.NoValidator) part)

asked_in_vain : {B K : Type 0} (sight : Sight B K) (s : Service) (tells : Bool) (before after : Outside B) (given given_now : Option (List ℕ)) → RunsAsAsked sight tells s before after given given_now (Err fault.NoValidator)
    → AsksNoValidator tells (Some s) before.files
asked_in_vain sight (Serve names address sessions) tells before after given given_now runs =
    absurd (runs_in_vain sight tells names None (serves_session sight tells) 1 sessions before after tt tt (session_fault sight tells) runs.0)
asked_in_vain sight (Run names me turns peers) tells before after given given_now (inl runs) =
    runs_in_vain sight tells names (Some me) (TakesTurn sight tells me) 1 turns before after (turning runs.first given) (turning runs.last given_now) (turn_fault sight tells me) runs.runs
asked_in_vain sight (Run names me turns peers) tells before after given given_now (inr none) = absurd (let never : Err fault.NoValidator ≡ Err fault.OutOfMemory = none.memory in cc)
asked_in_vain sight (Host names address sessions) tells before after given given_now runs =
    absurd (runs_in_vain sight tells names None (hosts_session sight tells) 1 sessions before after tt tt (host_fault sight tells) runs.0)
asked_in_vain sight (Meet names peer) tells before after given given_now runs =
    absurd (runs_in_vain sight tells names None (calls_peer sight tells peer) 0 1 before after tt tt (meet_fault sight tells peer) runs.0)

pub node_usage : {B K : Type 0} (sight : Sight B K) (tells : Bool) (s : Service) (status : ℕ) (old new : Around B) (r : RunsNode sight tells s status old new) → status ≡ 1 → AsksNoValidator tells (Some s) old.whole.files
node_usage sight tells s status old new r at =
    let is = at_one (names_in s) status r.between new.output r.came_to (plain sight tells s status old new r) r.ends at in
    asked_in_vain sight s tells old.whole (record new.whole { written = r.between.taken }) old.given new.given
    (subst (λ (c : Result Served ServiceFault). RunsAsAsked sight tells s old.whole (record new.whole { written = r.between.taken }) old.given new.given c) is r.runs)

-- where one is asked for in vain, nothing else can be found wrong before it
vain_reads : (tells : Bool) (names : Names) (me : ℕ) (held : Held) (e : ServiceFault) → IsTrue tells → IsAskedInVain tells names (Some me) held → ReadsNot tells names (Some me) held e
    → (e ≡ fault.NoValidator) ⊎ (e ≡ fault.Read) ⊎ (e ≡ fault.OutOfMemory)
vain_reads tells names me held (fault.Settings f) t (config, said, none) not = absurd (let both : Some (Ok config) ≡ Some (Err f) = sym (said t) ∙ not t in cc)
vain_reads tells names me held fault.NoValidator t vain not = inl refl
vain_reads tells names me held (fault.Keys at) t (config, said, none) (other, so, is, wrong) =
    let same : config ≡ other = one_config (file_settings (held names.config)) config other (said t) (so t) in
    absurd (let none_too : length other.weights ≤ me = subst (λ (c : Config). length c.weights ≤ me) same none in omega (arith, is, none_too))
vain_reads tells names me held fault.Read t vain not = inr (inl refl)
vain_reads tells names me held fault.OutOfMemory t vain not = inr (inr refl)
vain_reads tells names me held (fault.Log e) t vain not = absurd not
vain_reads tells names me held (fault.Clash units) t vain not = absurd not
vain_reads tells names me held fault.Append t vain not = absurd not
vain_reads tells names me held fault.Write t vain not = absurd not

vain_not_read : (tells : Bool) (names : Names) (me : ℕ) (held : Held) (config : Config) (keys : List (List ℕ)) → IsTrue tells → IsAskedInVain tells names (Some me) held → Reads tells names (Some me) held config keys → ⊥
vain_not_read tells names me held config keys t (other, said, none) reads =
    let same : other ≡ config = one_config (file_settings (held names.config)) other config (said t) (reads.settings t) in
    let valid : me < length config.weights = reads.validator in
    let none_too : length config.weights ≤ me = subst (λ (c : Config). length c.weights ≤ me) same none in
    omega (arith, valid, none_too)

-- what such a run comes to
abbrev pub IsInVain : Result Served ServiceFault → Type 0
IsInVain (Ok served) = ⊥
IsInVain (Err e) = (e ≡ fault.NoValidator) ⊎ (e ≡ fault.Read) ⊎ (e ≡ fault.OutOfMemory)

runs_vainly : {B K X : Type 0} (sight : Sight B K) (tells : Bool) (names : Names) (me : ℕ) (step : StepOver B X) (number count : ℕ) (before after : Outside B) (x y : X) (came_to : Result Served ServiceFault) → IsTrue tells
    → IsAskedInVain tells names (Some me) before.files → Runs (runner sight tells names (Some me)) (course step number count) (before, x) (after, y) came_to → IsInVain came_to
runs_vainly sight tells names me step number count before after x y (Ok served) t vain runs = vain_not_read tells names me before.files _ _ t vain runs.begins.reads
runs_vainly sight tells names me step number count before after x y (Err e) t vain (inl none) = elim none.begins_not [
  | inl n ↦ vain_reads tells names me before.files e t vain n.0
  | inr n ↦ absurd (vain_not_read tells names me before.files _ _ t vain n.2.reads)
]
runs_vainly sight tells names me step number count before after x y (Err e) t vain (inr part) = absurd (vain_not_read tells names me before.files _ _ t vain part.begins.reads)

asked_vainly : {B K : Type 0} (sight : Sight B K) (s : Service) (tells : Bool) (before after : Outside B) (given given_now : Option (List ℕ)) (came_to : Result Served ServiceFault) → IsTrue tells → AsksNoValidator tells (Some s) before.files
    → RunsAsAsked sight tells s before after given given_now came_to → IsInVain came_to
asked_vainly sight (Serve names address sessions) tells before after given given_now came_to t vain runs = absurd vain
asked_vainly sight (Run names me turns peers) tells before after given given_now came_to t vain (inl runs) =
    runs_vainly sight tells names me (TakesTurn sight tells me) 1 turns before after (turning runs.first given) (turning runs.last given_now) came_to t vain runs.runs
asked_vainly sight (Run names me turns peers) tells before after given given_now came_to t vain (inr none) = subst IsInVain (sym none.memory) (inr (inr refl))
asked_vainly sight (Host names address sessions) tells before after given given_now came_to t vain runs = absurd vain
asked_vainly sight (Meet names peer) tells before after given given_now came_to t vain runs = absurd vain

vain_status : (names : Names) (came_to : Result Served ServiceFault) (status : ℕ) (old new : Output) → IsInVain came_to → EndsBy names came_to status old new → (status ≡ 1) ⊎ (status ≡ 4) ⊎ (status ≡ 7)
vain_status names (Ok served) status old new vain ends = absurd vain
vain_status names (Err e) status old new (inl is) ends =
    elim (coded names fault.NoValidator status old new tt (subst (λ (f : ServiceFault). EndsBy names (Err f) status old new) is ends)) [ inl one ↦ inl one | inr seven ↦ inr (inr seven) ]
vain_status names (Err e) status old new (inr (inl is)) ends =
    elim (coded names fault.Read status old new tt (subst (λ (f : ServiceFault). EndsBy names (Err f) status old new) is ends)) [ inl four ↦ inr (inl four) | inr seven ↦ inr (inr seven) ]
vain_status names (Err e) status old new (inr (inr is)) ends =
    let told : EndsBy names (Err fault.OutOfMemory) status old new = subst (λ (f : ServiceFault). EndsBy names (Err f) status old new) is ends in inr (inr told.0)

pub node_validator : {B K : Type 0} (sight : Sight B K) (tells : Bool) (s : Service) (status : ℕ) (old new : Around B) (r : RunsNode sight tells s status old new) → IsTrue tells → AsksNoValidator tells (Some s) old.whole.files
    → (status ≡ 1) ⊎ (status ≡ 4) ⊎ (status ≡ 7)
node_validator sight tells s status old new r t vain =
    vain_status (names_in s) r.came_to status r.between new.output (asked_vainly sight s tells old.whole (record new.whole { written = r.between.taken }) old.given new.given r.came_to t vain r.runs) r.ends

-- ---- statuses

-- each status of a run of a node is one of the program
pub service_is_status : (n : ℕ) → IsServiceStatus n → IsStatus n
service_is_status n (inl h) = inl (inl h)
service_is_status n (inr (inl h)) = inl (inr (inl h))
service_is_status n (inr (inr (inl h))) = inl (inr (inr (inl h)))
service_is_status n (inr (inr (inr (inl h)))) = inl (inr (inr (inr (inr (inl h)))))
service_is_status n (inr (inr (inr (inr (inl h))))) = inl (inr (inr (inr (inr (inr (inl h))))))
service_is_status n (inr (inr (inr (inr (inr (inl h)))))) = inr h
service_is_status n (inr (inr (inr (inr (inr (inr (inl h))))))) = inl (inr (inr (inr (inr (inr (inr (inl h)))))))
service_is_status n (inr (inr (inr (inr (inr (inr (inr (inl h)))))))) = inl (inr (inr (inr (inr (inr (inr (inr (inl h))))))))
service_is_status n (inr (inr (inr (inr (inr (inr (inr (inr h)))))))) = inl (inr (inr (inr (inr (inr (inr (inr (inr (inl h)))))))))

-- it reports no conflict
pub service_not_three : (n : ℕ) → IsServiceStatus n → n ≡ 3 → ⊥
service_not_three n (inl h) three = omega (arith, h, three)
service_not_three n (inr (inl h)) three = omega (arith, h, three)
service_not_three n (inr (inr (inl h))) three = omega (arith, h, three)
service_not_three n (inr (inr (inr (inl h)))) three = omega (arith, h, three)
service_not_three n (inr (inr (inr (inr (inl h))))) three = omega (arith, h, three)
service_not_three n (inr (inr (inr (inr (inr (inl h)))))) three = omega (arith, h, three)
service_not_three n (inr (inr (inr (inr (inr (inr (inl h))))))) three = omega (arith, h, three)
service_not_three n (inr (inr (inr (inr (inr (inr (inr (inl h)))))))) three = omega (arith, h, three)
service_not_three n (inr (inr (inr (inr (inr (inr (inr (inr h)))))))) three = omega (arith, h, three)

-- what is worked out doesn't end with 6
pub worked_not_six : (n : ℕ) → IsWorkedStatus n → n ≡ 6 → ⊥
worked_not_six n (inl h) six = omega (arith, h, six)
worked_not_six n (inr (inl h)) six = omega (arith, h, six)
worked_not_six n (inr (inr (inl h))) six = omega (arith, h, six)
worked_not_six n (inr (inr (inr (inl h)))) six = omega (arith, h, six)
worked_not_six n (inr (inr (inr (inr (inl h))))) six = omega (arith, h, six)
worked_not_six n (inr (inr (inr (inr (inr (inl h)))))) six = omega (arith, h, six)
worked_not_six n (inr (inr (inr (inr (inr (inr (inl h))))))) six = omega (arith, h, six)
worked_not_six n (inr (inr (inr (inr (inr (inr (inr (inl h)))))))) six = omega (arith, h, six)
worked_not_six n (inr (inr (inr (inr (inr (inr (inr (inr (inl h))))))))) six = omega (arith, h, six)
worked_not_six n (inr (inr (inr (inr (inr (inr (inr (inr (inr h))))))))) six = omega (arith, h, six)
