-- What becomes of a peer's vertex.
use Rattle.std.proofs.Common.{◌≡◌, ℕ, Bool, true, cond, List, [], ◌∷◌, ◌++◌, Option, Result, Ok, Err, inl, inr, refl, sym, ap, subst, ◌∙◌}
use Rattle.hw_types.specs.declared.unit.Vertex.{Vertex}
use Rattle.hw_types.specs.declared.answers.Receipt.{Receipt}
use Rattle.hw_types.specs.declared.answers.Receipt.TheVariants as receipt
use Rattle.hw_types.specs.declared.answers.Cause.{Cause}
use Rattle.hw_types.specs.declared.answers.Cause.TheVariants as cause
use Rattle.hw_types.specs.Journal.{is_accepted}
use Rattle.hw_types.specs.Real.{CoreState, answer_in, after_in}
use Rattle.hw_types.specs.Spelling.{VertexFits}
use Rattle.hw_io.specs.Files.{Appended}
use Rattle.hw_keys.specs.Signed.{verdict_of}
use Rattle.hw_log.specs.Lasts.{with_noted}
use Rattle.hw_core.specs.Deliver.{IsRefusal}
use Rattle.hw_replay.proofs.EndLaws.{reached_after}
use Rattle.hw_session.specs.declared.entry.NewEntry.{NewEntry}
use Rattle.hw_session.specs.declared.fault.AcceptFault.{AcceptFault}
use Rattle.hw_session.specs.declared.fault.AcceptFault.TheVariants as fault
use Rattle.hw_session.specs.Entry.{IsEntryOf}
use Rattle.hw_session.specs.Node.{NodeState, IsKept}
use Rattle.hw_session.specs.Make.{entry_for}
use Rattle.hw_session.specs.Accept.{given_to, refused_by, taken_by, IsUnlogged, IsOfNode, Accepts, WritesAccepted, kept_by, IsOfAccepted, Keeps, WritesReceipt, Counts}

-- ---- what a delivery leaves

-- a delivery keeps the node
pub kept_after : (n : NodeState) (v : Vertex) (verdict : Bool) (core : CoreState) → IsKept n → VertexFits v → core ≡ after_in n.core v verdict → IsKept (record n { core = core })
kept_after n v verdict core kept fits is =
    subst (λ (k : CoreState). IsKept (record n { core = k })) (sym is) (record { lawful = kept.lawful; keys = kept.keys; reached = reached_after n.core v verdict fits kept.reached })

module _ (n : NodeState) (v : Vertex) where
  abbrev after : CoreState
  after = after_in n.core v (verdict_of n.keys v)

  -- the core behind a vertex that was accepted or wasn't
  abbrev moved : Bool → CoreState
  moved b = record n.core { journal = cond b (n.core.journal ++ v ∷ []) n.core.journal }

  after_by : (a : Result Receipt Cause) → given_to n v ≡ a → after ≡ moved (is_accepted a)
  after_by a is = ap (λ (x : Result Receipt Cause). moved (is_accepted x)) is

  -- ---- a vertex that the node takes

  module _ (e : NewEntry) (entry : IsEntryOf n.lasts v e) (core : CoreState) (core_is : core ≡ after) where
    abbrev then : NodeState
    then = record n { core = core }

    kept_is : (r : Receipt) → given_to n v ≡ Ok r → kept_by then r e ≡ taken_by n v (Ok r)
    kept_is receipt.Repeat given = let is = core_is ∙ after_by (Ok receipt.Repeat) given in λ i. record n { core = is i; repeats = (kept_by then receipt.Repeat e).repeats }
    kept_is (receipt.Admitted k) given = let is = core_is ∙ after_by (Ok (receipt.Admitted k)) given in λ i. record n { core = is i; lasts = with_noted n.lasts (entry.noted i) }
    kept_is (receipt.Parked k) given = let is = core_is ∙ after_by (Ok (receipt.Parked k)) given in λ i. record n { core = is i; lasts = with_noted n.lasts (entry.noted i) }
    kept_is (receipt.Dropped rule) given = let is = core_is ∙ after_by (Ok (receipt.Dropped rule)) given in λ i. record n { core = is i; lasts = with_noted n.lasts (entry.noted i) }

    unlogged : (r : Receipt) (m : NodeState) → given_to n v ≡ Ok r → IsOfAccepted r → m ≡ then → IsUnlogged n v m
    unlogged r m given taken same =
        let is : core ≡ moved true = core_is ∙ after_by (Ok r) given ∙ ap moved taken in
        (ap is_accepted given ∙ taken, same ∙ ap (λ (k : CoreState). record n { core = k }) is)

    pub keeps_accepts : (r : Receipt) (m : NodeState) (result : Result Receipt AcceptFault) → given_to n v ≡ Ok r → Keeps then r e m result → Accepts n v m result
    keeps_accepts r m (Ok a) given keeps = subst (λ (x : Receipt). Accepts n v m (Ok x)) (sym keeps.0) (given, keeps.1 ∙ kept_is r given)
    keeps_accepts r m (Err (fault.Refused c)) given keeps = absurd keeps
    keeps_accepts r m (Err fault.AppendFault) given keeps = unlogged r m given keeps.0 keeps.1
    keeps_accepts r m (Err fault.OutOfMemory) given keeps = inr (unlogged r m given keeps.0 keeps.1)

    module _ (old new : List ℕ → Option (List ℕ)) where
      there : (result : Result Receipt AcceptFault) → Appended old new n.log e.bytes result → Appended old new n.log (entry_for n v) result
      there result a = subst (λ (bytes : List ℕ). Appended old new n.log bytes result) entry.bytes a

      whole : (r : Receipt) (m : NodeState) → WritesReceipt then r e old new (Ok r) → WritesAccepted n v m old new (Ok r)
      whole receipt.Repeat m w = w
      whole (receipt.Admitted k) m w = there (Ok (receipt.Admitted k)) w
      whole (receipt.Parked k) m w = there (Ok (receipt.Parked k)) w
      whole (receipt.Dropped rule) m w = there (Ok (receipt.Dropped rule)) w

      appended : (r : Receipt) (f : AcceptFault) → IsOfAccepted r → WritesReceipt then r e old new (Err f) → Appended {T = Receipt} old new n.log (entry_for n v) (Err f)
      appended receipt.Repeat f taken w = absurd cc
      appended (receipt.Admitted k) f taken w = there (Err f) w
      appended (receipt.Parked k) f taken w = there (Err f) w
      appended (receipt.Dropped rule) f taken w = there (Err f) w

      pub keeps_writes : (r : Receipt) (m : NodeState) (result : Result Receipt AcceptFault) → given_to n v ≡ Ok r → Keeps then r e m result → WritesReceipt then r e old new result → WritesAccepted n v m old new result
      keeps_writes r m (Ok a) given keeps w =
          subst (λ (x : Receipt). WritesAccepted n v m old new (Ok x)) (sym keeps.0) (whole r m (subst (λ (x : Receipt). WritesReceipt then r e old new (Ok x)) keeps.0 w))
      keeps_writes r m (Err (fault.Refused c)) given keeps w = absurd keeps
      keeps_writes r m (Err fault.AppendFault) given keeps w = appended r fault.AppendFault keeps.0 w
      keeps_writes r m (Err fault.OutOfMemory) given keeps w = inr (unlogged r m given keeps.0 keeps.1, appended r fault.OutOfMemory keeps.0 w)

  -- ---- a vertex that it refuses

  -- a refusal other than a clash and want of memory
  told : (c : Cause) (m : NodeState) (result : Result Receipt AcceptFault) → IsOfNode c → given_to n v ≡ Err c → (result ≡ Err (fault.Refused c)) × (m ≡ refused_by n v c) → Accepts n v m result
  told c m result node given counts = subst (λ (x : Result Receipt AcceptFault). Accepts n v m x) (sym counts.0) (node, given, counts.1)

  pub counts_accepts : (c : Cause) (m : NodeState) (result : Result Receipt AcceptFault) → IsRefusal c (given_to n v) → Counts n v c m result → Accepts n v m result
  counts_accepts cause.BadSignature m result given counts = told cause.BadSignature m result tt given counts
  counts_accepts (cause.Local rule) m result given counts = told (cause.Local rule) m result tt given counts
  counts_accepts (cause.Pair f) m result given counts = told (cause.Pair f) m result tt given counts
  counts_accepts (cause.Clash d) m result given (inl none) = subst (λ (x : Result Receipt AcceptFault). Accepts n v m x) (sym none.0) (inl none.1)
  counts_accepts (cause.Clash d) m result given (inr counts) = told (cause.Clash d) m result tt given counts
  counts_accepts cause.RecordsFull m result given counts = told cause.RecordsFull m result tt given counts
  counts_accepts cause.ParkFull m result given counts = told cause.ParkFull m result tt given counts
  counts_accepts cause.OutOfMemory m result given counts = subst (λ (x : Result Receipt AcceptFault). Accepts n v m x) (sym counts.0) (inl counts.1)

  module _ (files : List ℕ → Option (List ℕ)) where
    refused_writes : (c : Cause) (m : NodeState) (result : Result Receipt AcceptFault) → result ≡ Err (fault.Refused c) → WritesAccepted n v m files files result
    refused_writes c m result is = subst (λ (x : Result Receipt AcceptFault). WritesAccepted n v m files files x) (sym is) (λ name. refl)

    wanting_writes : (m : NodeState) (result : Result Receipt AcceptFault) → result ≡ Err fault.OutOfMemory → m ≡ n → WritesAccepted n v m files files result
    wanting_writes m result is same = subst (λ (x : Result Receipt AcceptFault). WritesAccepted n v m files files x) (sym is) (inl (same, λ name. refl))

    pub counts_writes : (c : Cause) (m : NodeState) (result : Result Receipt AcceptFault) → Counts n v c m result → WritesAccepted n v m files files result
    counts_writes cause.BadSignature m result counts = refused_writes cause.BadSignature m result counts.0
    counts_writes (cause.Local rule) m result counts = refused_writes (cause.Local rule) m result counts.0
    counts_writes (cause.Pair f) m result counts = refused_writes (cause.Pair f) m result counts.0
    counts_writes (cause.Clash d) m result (inl none) = wanting_writes m result none.0 none.1
    counts_writes (cause.Clash d) m result (inr counts) = refused_writes (cause.Clash d) m result counts.0
    counts_writes cause.RecordsFull m result counts = refused_writes cause.RecordsFull m result counts.0
    counts_writes cause.ParkFull m result counts = refused_writes cause.ParkFull m result counts.0
    counts_writes cause.OutOfMemory m result counts = wanting_writes m result counts.0 counts.1

-- ---- the same of the parts that a node is seen by

module _ (m n : NodeState) (same : m ≡ n) (v : Vertex) (verdict : Bool) (judged : verdict ≡ verdict_of n.keys v) where
  module _ (e : NewEntry) (entry : IsEntryOf n.lasts v e) (r : Receipt) (core : CoreState) (k : NodeState) (result : Result Receipt AcceptFault) where
    pub take_accepts : answer_in m.core v verdict ≡ Ok r → core ≡ after_in m.core v verdict → Keeps (record m { core = core }) r e k result → Accepts n v k result
    take_accepts =
        subst (λ (b : Bool). answer_in m.core v b ≡ Ok r → core ≡ after_in m.core v b → Keeps (record m { core = core }) r e k result → Accepts n v k result) (sym judged)
        (subst (λ (x : NodeState). answer_in x.core v (verdict_of n.keys v) ≡ Ok r → core ≡ after_in x.core v (verdict_of n.keys v) → Keeps (record x { core = core }) r e k result → Accepts n v k result) (sym same)
        (λ given is keeps. keeps_accepts n v e entry core is r k result given keeps))

    pub take_writes : (old new : List ℕ → Option (List ℕ)) → answer_in m.core v verdict ≡ Ok r → core ≡ after_in m.core v verdict → Keeps (record m { core = core }) r e k result → WritesReceipt (record m { core = core }) r e old new result
        → WritesAccepted n v k old new result
    take_writes old new =
        subst (λ (b : Bool). answer_in m.core v b ≡ Ok r → core ≡ after_in m.core v b → Keeps (record m { core = core }) r e k result → WritesReceipt (record m { core = core }) r e old new result → WritesAccepted n v k old new result) (sym judged)
        (subst (λ (x : NodeState). answer_in x.core v (verdict_of n.keys v) ≡ Ok r → core ≡ after_in x.core v (verdict_of n.keys v) → Keeps (record x { core = core }) r e k result → WritesReceipt (record x { core = core }) r e old new result → WritesAccepted n v k old new result) (sym same)
        (λ given is keeps writes. keeps_writes n v e entry core is old new r k result given keeps writes))

  module _ (w : Vertex) (returned : w ≡ v) (c : Cause) (core : CoreState) (k : NodeState) (result : Result Receipt AcceptFault) (unchanged : core ≡ m.core) (counts : Counts (record m { core = core }) w c k result) where
    counts_here : Counts n v c k result
    counts_here =
        subst (λ (x : NodeState). Counts x v c k result) same
        (subst (λ (x : CoreState). Counts (record m { core = x }) v c k result) unchanged
        (subst (λ (x : Vertex). Counts (record m { core = core }) x c k result) returned counts))

    pub refuse_accepts : IsRefusal c (answer_in m.core v verdict) → Accepts n v k result
    refuse_accepts refusal =
        counts_accepts n v c k result
        (subst (λ (b : Bool). IsRefusal c (answer_in n.core v b)) judged (subst (λ (x : NodeState). IsRefusal c (answer_in x.core v verdict)) same refusal)) counts_here

    pub refuse_writes : (files : List ℕ → Option (List ℕ)) → WritesAccepted n v k files files result
    refuse_writes files = counts_writes n v files c k result counts_here
