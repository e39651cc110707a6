-- What becomes of a node's own unit.
use Rattle.std.proofs.Common.{◌≡◌, ◌⊎◌, ℕ, ◌<◌, true, List, length, Option, Some, None, Result, Ok, Err, inl, inr, refl, sym, ap, subst, ◌∙◌}
use Rattle.std.proofs.lemmas.Bool.{cases_lt}
use Rattle.hw_types.specs.declared.unit.Signature.{Signature}
use Rattle.hw_types.specs.declared.unit.Vertex.{Vertex}
use Rattle.hw_types.specs.declared.answers.Plan.{Plan}
use Rattle.hw_types.specs.declared.answers.Receipt.{Receipt}
use Rattle.hw_types.specs.declared.answers.Receipt.TheVariants as receipt
use Rattle.hw_types.specs.declared.answers.Cause.{Cause}
use Rattle.hw_types.specs.declared.answers.Cause.TheVariants as cause
use Rattle.hw_types.specs.Journal.{Setting, is_accepted, journal_of}
use Rattle.hw_types.specs.Real.{CoreState, setting_of, answer_in, after_in}
use Rattle.hw_io.specs.Files.{Appended}
use Rattle.hw_log.specs.declared.error.LogError.{LogError}
use Rattle.hw_log.specs.declared.error.LogError.TheVariants as log
use Rattle.hw_log.specs.Causes.{HasAppendCause}
use Rattle.hw_honest.specs.Plans.{IsPlanned, IsAnswered}
use Rattle.hw_honest.proofs.NewLaws.{plan_is_answered}
use Rattle.hw_honest.proofs.CountLaws.{plan_follows_own}
use Rattle.hw_core.specs.Deliver.{IsRefusal}
use Rattle.hw_core.proofs.PromiseLaws.{deliveries_are}
use Rattle.hw_honest.proofs.ReplayLaws.{after_accepted}
use Rattle.hw_replay.specs.Ends.{IsReached}
use Rattle.hw_session.specs.declared.fault.MakeFault.{MakeFault}
use Rattle.hw_session.specs.declared.fault.MakeFault.TheVariants as fault
use Rattle.hw_types.specs.Spelling.{VertexFits}
use Rattle.hw_log.specs.Lasts.{LastUnits, with_noted}
use Rattle.hw_replay.proofs.EndLaws.{reached_after}
use Rattle.hw_session.specs.declared.entry.NewEntry.{NewEntry}
use Rattle.hw_session.specs.Entry.{IsEntryOf}
use Rattle.hw_session.specs.Node.{NodeState, IsKept}
use Rattle.hw_session.specs.Make.{own_unit, own_vertex, entry_for, with_vertex, with_entry, IsNamesake, IsToMake, IsTooMany, Makes, IsAStep, IsOfOwn, Refuses, PutsOwn, fault_of_append, WritesOwn, IsMakeCounted}
use Rattle.hw_session.proofs.AppendLaws.{as_ok, as_err}

-- the journal of a node that deliveries reached
pub journal_is : (c : CoreState) (reached : IsReached c) → c.journal ≡ journal_of (setting_of c.config) reached.deliveries
journal_is c reached = ap (λ (k : CoreState). k.journal) (reached.made ∙ (deliveries_are c.config reached.deliveries).0)

-- a step's unit is one of its validator, of which there is one
pub own_creator : (n : NodeState) (p : Plan) → IsAStep n p → p.unit.creator < length n.core.config.weights
own_creator n p (me, now, value, planned) =
    let own = (plan_follows_own (setting_of n.core.config) n.core.journal me now value p planned).0 in
    subst (λ (v : ℕ). v < length n.core.config.weights) (sym own.creator) planned.validator

module _ (n : NodeState) (p : Plan) (reached : IsReached n.core) (step : IsAStep n p) where
  abbrev s : Setting
  s = setting_of n.core.config

  abbrev signature : Signature
  signature = (own_unit n p).signature

  abbrev given : Result Receipt Cause
  given = answer_in n.core (own_vertex n p) true

  answered : IsAnswered s n.core.journal p signature
  answered =
      let is = journal_is n.core reached in
      subst (λ (j : List Vertex). IsAnswered s j p signature) (sym is)
      (plan_is_answered s reached.deliveries step.0 step.1 step.2 p signature (subst (λ (j : List Vertex). IsPlanned s j step.0 step.1 step.2 p) is step.3))

  -- its delivery is answered in one of three ways
  abbrev Told : Type 0
  Told =
      (IsNamesake n p × (given ≡ Err (cause.Clash (s.name p.unit))))
      ⊎ ((IsTooMany n (Some p) × (given ≡ Err cause.RecordsFull))
      ⊎ (IsToMake n (Some p) p × ((k : ℕ) × (given ≡ Ok (receipt.Admitted k)))))

  told : Told
  told = elim answered.decided [
    | inl other ↦ inl (other, answered.clash other)
    | inr free ↦ inr (elim (cases_lt (length n.core.journal) n.core.config.max_records) [
      | inl room ↦ inr (record { is = refl; apart = free; room = room }, let is = answered.admitted free room in (is.0, is.2))
      | inr full ↦ inl (record { plan = p; is = refl; apart = free; full = full }, answered.full free full)
    ])
  ]

  -- one that is taken is made, and goes last in the journal
  pub taken_is_made : (r : Receipt) → given ≡ Ok r → IsToMake n (Some p) p × (record n { core = after_in n.core (own_vertex n p) true } ≡ with_vertex n (own_vertex n p))
  taken_is_made r is = elim told [
    | inl other ↦ absurd (let e : Err (cause.Clash (s.name p.unit)) ≡ Ok r = sym other.1 ∙ is in cc)
    | inr (inl many) ↦ absurd (let e : Err cause.RecordsFull ≡ Ok r = sym many.1 ∙ is in cc)
    | inr (inr made) ↦ (made.0, ap (λ (j : List Vertex). let k : CoreState = record { config = n.core.config; journal = j; asked = n.core.asked } in record n { core = k }) (after_accepted s n.core.journal (own_vertex n p) true (ap is_accepted made.1.1)))
  ]

  -- where no other unit has its name and there is room, it is accepted
  pub own_accepted : (IsNamesake n p → ⊥) → length n.core.journal < n.core.config.max_records → is_accepted given ≡ true
  own_accepted free room = ap is_accepted (answered.admitted free room).2

  -- and where another has, it clashes
  pub own_clashes : IsNamesake n p → given ≡ Err (cause.Clash (s.name p.unit))
  own_clashes other = answered.clash other

  -- by no other cause it is refused
  not_by : (c : Cause) → given ≡ Err c → (c ≡ cause.Clash (s.name p.unit)) ⊎ (c ≡ cause.RecordsFull)
  not_by c is = elim told [
    | inl other ↦ inl (let e : Err (cause.Clash (s.name p.unit)) ≡ Err c = sym other.1 ∙ is in cc)
    | inr (inl many) ↦ inr (let e : Err cause.RecordsFull ≡ Err c = sym many.1 ∙ is in cc)
    | inr (inr made) ↦ absurd (let e : Ok (receipt.Admitted made.1.0) ≡ Err c = sym made.1.1 ∙ is in cc)
  ]

  pub refused_as_own : (c : Cause) → IsRefusal c given → IsOfOwn c
  refused_as_own cause.BadSignature is = elim (not_by cause.BadSignature is) [ inl e ↦ absurd cc | inr e ↦ absurd cc ]
  refused_as_own (cause.Local rule) is = elim (not_by (cause.Local rule) is) [ inl e ↦ absurd cc | inr e ↦ absurd cc ]
  refused_as_own (cause.Pair f) is = elim (not_by (cause.Pair f) is) [ inl e ↦ absurd cc | inr e ↦ absurd cc ]
  refused_as_own (cause.Clash d) is = tt
  refused_as_own cause.RecordsFull is = tt
  refused_as_own cause.ParkFull is = elim (not_by cause.ParkFull is) [ inl e ↦ absurd cc | inr e ↦ absurd cc ]
  refused_as_own cause.OutOfMemory is = tt

  clash_is : (d : _) → given ≡ Err (cause.Clash d) → IsNamesake n p
  clash_is d is = elim told [
    | inl other ↦ other.0
    | inr (inl many) ↦ absurd (let e : Err cause.RecordsFull ≡ Err (cause.Clash d) = sym many.1 ∙ is in cc)
    | inr (inr made) ↦ absurd (let e : Ok (receipt.Admitted made.1.0) ≡ Err (cause.Clash d) = sym made.1.1 ∙ is in cc)
  ]

  full_is : given ≡ Err cause.RecordsFull → IsTooMany n (Some p)
  full_is is = elim told [
    | inl other ↦ absurd (let e : Err (cause.Clash (s.name p.unit)) ≡ Err cause.RecordsFull = sym other.1 ∙ is in cc)
    | inr (inl many) ↦ many.0
    | inr (inr made) ↦ absurd (let e : Ok (receipt.Admitted made.1.0) ≡ Err cause.RecordsFull = sym made.1.1 ∙ is in cc)
  ]

  -- what is refused makes nothing
  pub refused_makes : (c : Cause) (m : NodeState) (result : Result (Option Plan) MakeFault) → IsRefusal c given → Refuses n c m result → Makes n (Some p) m result
  refused_makes cause.BadSignature m result is left = absurd left
  refused_makes (cause.Local rule) m result is left = absurd left
  refused_makes (cause.Pair f) m result is left = absurd left
  refused_makes (cause.Clash d) m result is left = subst (λ (r : Result (Option Plan) MakeFault). Makes n (Some p) m r) (sym left.1) (inr (p, refl, clash_is d is), left.0)
  refused_makes cause.RecordsFull m result is left = subst (λ (r : Result (Option Plan) MakeFault). Makes n (Some p) m r) (sym left.1) (full_is is, left.0)
  refused_makes cause.ParkFull m result is left = absurd left
  refused_makes cause.OutOfMemory m result is left = subst (λ (r : Result (Option Plan) MakeFault). Makes n (Some p) m r) (sym left.1) (inl left.0)

  -- and writes nothing
  pub refused_writes : (c : Cause) (m : NodeState) (result : Result (Option Plan) MakeFault) (files : List ℕ → Option (List ℕ)) → Refuses n c m result → WritesOwn n (Some p) m files files result
  refused_writes cause.BadSignature m result files left = absurd left
  refused_writes (cause.Local rule) m result files left = absurd left
  refused_writes (cause.Pair f) m result files left = absurd left
  refused_writes (cause.Clash d) m result files left = subst (λ (r : Result (Option Plan) MakeFault). WritesOwn n (Some p) m files files r) (sym left.1) (λ name. refl)
  refused_writes cause.RecordsFull m result files left = subst (λ (r : Result (Option Plan) MakeFault). WritesOwn n (Some p) m files files r) (sym left.1) (λ name. refl)
  refused_writes cause.ParkFull m result files left = absurd left
  refused_writes cause.OutOfMemory m result files left = subst (λ (r : Result (Option Plan) MakeFault). WritesOwn n (Some p) m files files r) (sym left.1) (inl (left.0, λ name. refl))

-- ---- appends that fail

-- the last units stay
pub cut_puts : (lasts new : LastUnits) (entry : NewEntry) (p : Plan) (e : LogError) → new ≡ lasts → PutsOwn lasts new entry p (Err (fault_of_append e))
cut_puts lasts new entry p log.WriteFault same = same
cut_puts lasts new entry p log.OutOfMemory same = same
cut_puts lasts new entry p log.ReadFault same = same
cut_puts lasts new entry p log.BadMagic same = same
cut_puts lasts new entry p (log.Version v) same = same
cut_puts lasts new entry p (log.Torn at) same = same
cut_puts lasts new entry p (log.TooLong at) same = same
cut_puts lasts new entry p (log.BadConfig f) same = same
cut_puts lasts new entry p (log.ConfigFault f) same = same
cut_puts lasts new entry p (log.BadEvent at) same = same
cut_puts lasts new entry p (log.BadVerdict at) same = same
cut_puts lasts new entry p (log.BadVertex at f) same = same

-- a failed append was counted
pub cut_counted : (T S : Type 0) (before now : ℕ) (e : LogError) → HasAppendCause {T = T} before now (Err e) → IsMakeCounted {T = S} before now (Err (fault_of_append e))
cut_counted T S before now log.WriteFault c = c.failed
cut_counted T S before now log.OutOfMemory c = c.failed
cut_counted T S before now log.ReadFault c = absurd c.failed
cut_counted T S before now log.BadMagic c = absurd c.failed
cut_counted T S before now (log.Version v) c = absurd c.failed
cut_counted T S before now (log.Torn at) c = absurd c.failed
cut_counted T S before now (log.TooLong at) c = absurd c.failed
cut_counted T S before now (log.BadConfig f) c = absurd c.failed
cut_counted T S before now (log.ConfigFault f) c = absurd c.failed
cut_counted T S before now (log.BadEvent at) c = absurd c.failed
cut_counted T S before now (log.BadVerdict at) c = absurd c.failed
cut_counted T S before now (log.BadVertex at f) c = absurd c.failed

-- ---- an own unit that is taken

module _ (n : NodeState) (p : Plan) (reached : IsReached n.core) (step : IsAStep n p) (e : NewEntry) (entry : IsEntryOf n.lasts (own_vertex n p) e) where
  abbrev v : Vertex
  v = own_vertex n p

  -- the node whose core and last units are these
  abbrev moved : NodeState → CoreState → LastUnits → NodeState
  moved m core lasts = record m { core = core; lasts = lasts }

  -- it stands in the journal alone
  unlogged : (r : Receipt) (core : CoreState) (lasts : LastUnits) → answer_in n.core v true ≡ Ok r → core ≡ after_in n.core v true → lasts ≡ n.lasts → moved n core lasts ≡ with_vertex n v
  unlogged r core lasts is after same =
      let core_is : core ≡ (with_vertex n v).core = after ∙ ap (λ (k : NodeState). k.core) (taken_is_made n p reached step r is).1 in
      λ i. moved n (core_is i) (same i)

  taken_puts : (r : Receipt) (core : CoreState) (lasts : LastUnits) (result : Result (Option Plan) MakeFault) → answer_in n.core v true ≡ Ok r → core ≡ after_in n.core v true
      → PutsOwn n.lasts lasts e p result → Makes n (Some p) (moved n core lasts) result
  taken_puts r core lasts (Ok (Some q)) is after puts =
      let made = taken_is_made n p reached step r is in
      let core_is : core ≡ (with_vertex n v).core = after ∙ ap (λ (k : NodeState). k.core) made.1 in
      let lasts_are : lasts ≡ (with_entry n v).lasts = puts.1 ∙ ap (with_noted n.lasts) entry.noted in
      subst (λ (x : Plan). Makes n (Some p) (moved n core lasts) (Ok (Some x))) (sym puts.0) (made.0, λ i. moved n (core_is i) (lasts_are i))
  taken_puts r core lasts (Ok None) is after puts = absurd puts
  taken_puts r core lasts (Err fault.RecordsFull) is after puts = absurd puts
  taken_puts r core lasts (Err fault.AppendFault) is after puts = (p, (taken_is_made n p reached step r is).0, unlogged r core lasts is after puts)
  taken_puts r core lasts (Err fault.OutOfMemory) is after puts = inr (p, (taken_is_made n p reached step r is).0, unlogged r core lasts is after puts)

  -- the same of the parts that the node is seen by
  pub taken_makes : (m : NodeState) (same : m ≡ n) (w : Vertex) (w_is : w ≡ v) (r : Receipt) (core : CoreState) (lasts : LastUnits) (result : Result (Option Plan) MakeFault)
      → answer_in m.core w true ≡ Ok r → core ≡ after_in m.core w true → PutsOwn m.lasts lasts e p result → Makes n (Some p) (moved m core lasts) result
  taken_makes m same w w_is r core lasts result =
      subst (λ (x : Vertex). answer_in m.core x true ≡ Ok r → core ≡ after_in m.core x true → PutsOwn m.lasts lasts e p result → Makes n (Some p) (moved m core lasts) result) (sym w_is)
      (subst (λ (k : NodeState). answer_in k.core v true ≡ Ok r → core ≡ after_in k.core v true → PutsOwn k.lasts lasts e p result → Makes n (Some p) (moved k core lasts) result) (sym same) (taken_puts r core lasts result))

  -- what was appended is its entry
  taken_appends : (r : Receipt) (core : CoreState) (lasts : LastUnits) (old new : List ℕ → Option (List ℕ)) (result : Result (Option Plan) MakeFault) → answer_in n.core v true ≡ Ok r → core ≡ after_in n.core v true
      → PutsOwn n.lasts lasts e p result → Appended old new n.log (entry_for n v) result → WritesOwn n (Some p) (moved n core lasts) old new result
  taken_appends r core lasts old new (Ok (Some q)) is after puts a =
      subst (λ (x : Plan). WritesOwn n (Some p) (moved n core lasts) old new (Ok (Some x))) (sym puts.0) (as_ok {T = Option Plan} {F = MakeFault} old new n.log (entry_for n v) (Some q) p a)
  taken_appends r core lasts old new (Ok None) is after puts a = absurd puts
  taken_appends r core lasts old new (Err fault.RecordsFull) is after puts a = absurd puts
  taken_appends r core lasts old new (Err fault.AppendFault) is after puts a = (p, refl, as_err {T = Option Plan} {S = Plan} old new n.log (entry_for n v) fault.AppendFault fault.AppendFault a)
  taken_appends r core lasts old new (Err fault.OutOfMemory) is after puts a =
      let made = taken_is_made n p reached step r is in
      inr (p, made.0, unlogged r core lasts is after puts, as_err {T = Option Plan} {S = Plan} old new n.log (entry_for n v) fault.OutOfMemory fault.OutOfMemory a)

  -- the same of the parts that the node is seen by
  pub taken_writes : (m : NodeState) (same : m ≡ n) (w : Vertex) (w_is : w ≡ v) (r : Receipt) (core : CoreState) (lasts : LastUnits) (result : Result (Option Plan) MakeFault) (name : List ℕ) (name_is : name ≡ n.log) (old new : List ℕ → Option (List ℕ))
      → answer_in m.core w true ≡ Ok r → core ≡ after_in m.core w true → PutsOwn m.lasts lasts e p result → Appended old new name e.bytes result → WritesOwn n (Some p) (moved m core lasts) old new result
  taken_writes m same w w_is r core lasts result name name_is old new is after puts a =
      subst (λ (x : Vertex). answer_in m.core x true ≡ Ok r → core ≡ after_in m.core x true → PutsOwn m.lasts lasts e p result → WritesOwn n (Some p) (moved m core lasts) old new result) (sym w_is)
      (subst (λ (k : NodeState). answer_in k.core v true ≡ Ok r → core ≡ after_in k.core v true → PutsOwn k.lasts lasts e p result → WritesOwn n (Some p) (moved k core lasts) old new result) (sym same)
      (λ is after puts. taken_appends r core lasts old new result is after puts there)) is after puts
    where
      there : Appended old new n.log (entry_for n v) result
      there = subst (λ (bytes : List ℕ). Appended old new n.log bytes result) entry.bytes (subst (λ (x : List ℕ). Appended old new x e.bytes result) name_is a)

-- ---- an own unit that is refused

module _ (n : NodeState) (p : Plan) (reached : IsReached n.core) (step : IsAStep n p) (m : NodeState) (same : m ≡ n) (w : Vertex) (w_is : w ≡ own_vertex n p) (c : Cause) (is : IsRefusal c (answer_in m.core w true)) where
  refusal_is : IsRefusal c (answer_in n.core (own_vertex n p) true)
  refusal_is = subst (λ (x : Vertex). IsRefusal c (answer_in n.core x true)) w_is (subst (λ (k : NodeState). IsRefusal c (answer_in k.core w true)) same is)

  pub refusal_of_own : IsOfOwn c
  refusal_of_own = refused_as_own n p reached step c refusal_is

  refuses_here : (core : CoreState) (k : NodeState) (result : Result (Option Plan) MakeFault) → core ≡ m.core → Refuses (record m { core = core }) c k result → Refuses n c k result
  refuses_here core k result unchanged refuses = subst (λ (j : NodeState). Refuses j c k result) same (subst (λ (j : CoreState). Refuses (record m { core = j }) c k result) unchanged refuses)

  pub refusal_makes : (core : CoreState) (k : NodeState) (result : Result (Option Plan) MakeFault) → core ≡ m.core → Refuses (record m { core = core }) c k result → Makes n (Some p) k result
  refusal_makes core k result unchanged refuses = refused_makes n p reached step c k result refusal_is (refuses_here core k result unchanged refuses)

  pub refusal_writes : (core : CoreState) (k : NodeState) (result : Result (Option Plan) MakeFault) (files : List ℕ → Option (List ℕ)) → core ≡ m.core → Refuses (record m { core = core }) c k result → WritesOwn n (Some p) k files files result
  refusal_writes core k result files unchanged refuses = refused_writes n p reached step c k result files (refuses_here core k result unchanged refuses)

-- ---- what is kept

-- a delivery keeps the node
pub kept_moved : (n : NodeState) (w : Vertex) (core : CoreState) (lasts : LastUnits) → IsKept n → VertexFits w → core ≡ after_in n.core w true → IsKept (record n { core = core; lasts = lasts })
kept_moved n w core lasts kept fits is =
    subst (λ (k : CoreState). IsKept (record n { core = k; lasts = lasts })) (sym is) (record { lawful = kept.lawful; keys = kept.keys; reached = reached_after n.core w true fits kept.reached })
