-- What a power failure leaves of a node.
use Rattle.std.specs.Prelude.{take, ◌+◌, not, ◌&&◌, ◌||◌, ◌==◌, nat_le, filter_map}
use Rattle.std.proofs.Common.{◌≡◌, ℕ, zero, suc, ◌<◌, ◌≤◌, ◌⊎◌, Bool, true, false, cond, List, [], ◌∷◌, ◌++◌, length, Option, Some, None, refl, sym, ap, subst, ◌∙◌, inl, inr, arith, eqb-true, leb-true, leb-false}
use Rattle.std.proofs.lemmas.List.{take_all, take-append-le, length-append, length-take, append-nil}
use Rattle.hw_types.specs.declared.unit.SignedUnit.{SignedUnit}
use Rattle.hw_types.specs.declared.unit.WireUnit.{WireUnit}
use Rattle.hw_types.specs.declared.unit.Evidence.{Evidence}
use Rattle.hw_types.specs.declared.unit.Vertex.{Vertex}
use Rattle.hw_types.specs.declared.unit.Vertex.TheVariants as vertex
use Rattle.hw_types.specs.declared.answers.Plan.{Plan}
use Rattle.hw_types.specs.declared.answers.PairFault.TheVariants as fault
use Rattle.hw_types.specs.Below.{Among}
use Rattle.hw_types.specs.Limits.{config_fault}
use Rattle.hw_types.specs.Same.{unit_eq}
use Rattle.hw_types.specs.Graph.{digest_eq}
use Rattle.hw_types.specs.Journal.{Setting, named, received_of, answer, is_accepted, journal_of, evidence_in, evidence_fault}
use Rattle.hw_types.specs.Step.{step}
use Rattle.hw_types.specs.Culprits.{signed_in}
use Rattle.hw_types.proofs.EntryLaws.{append_cases, among_mapped}
use Rattle.hw_safety.proofs.PairLaws.{delivered_pairs}
use Rattle.hw_honest.specs.OneLine.{BringsNoNew, units_by}
use Rattle.hw_honest.specs.Restart.{Logged, Event, make, take as arrives, restart, logged, trusted, signed_by, after_event, IsFair, MayGoOut}
use Rattle.hw_honest.specs.Laws.{IsSafeToStart}
use Rattle.hw_honest.proofs.OneLineLaws.{by_has}
use Rattle.hw_honest.proofs.ClusterLaws.{unit_known}
use Rattle.hw_honest.proofs.RestartLaws.{kept_life, logged_apart}
use Rattle.hw_crash.specs.Disk.{OnDisk, DiskEvent, runs, syncs, tells, fails, started_from, after_on_disk, life_on_disk, sure_part, WasTold, ComesBack, IsCareful, AreCareful}
use Rattle.hw_crash.specs.Laws.{Begins, CrashesKeepOneLine, NothingToldIsLost, ToldUnitsApart, WhatWasToldComesBack}

-- ---- lists

-- what is among the first of a list is in it
pub among_taken : (k : ℕ) (l : List Vertex) (v : Vertex) → Among v (take k l) → Among v l
among_taken zero l v m = absurd m
among_taken (suc k) [] v m = absurd m
among_taken (suc k) (x ∷ l) v (inl e) = inl e
among_taken (suc k) (x ∷ l) v (inr m) = inr (among_taken k l v m)

-- the first of the first
taken_twice : (n k : ℕ) (l : List Vertex) → n ≤ k → take n (take k l) ≡ take n l
taken_twice zero k l h = refl
taken_twice (suc n) zero l h = absurd (let no : suc n ≤ 0 = h in omega (arith, no))
taken_twice (suc n) (suc k) [] h = refl
taken_twice (suc n) (suc k) (x ∷ l) h = ap (λ t. x ∷ t) (taken_twice n k l (let le : suc n ≤ suc k = h in omega (arith, le)))

-- no more than these are among the first
taken_few : (k : ℕ) (l : List Vertex) → length (take k l) ≤ k
taken_few zero l = omega arith
taken_few (suc k) [] = omega arith
taken_few (suc k) (x ∷ l) = let le = taken_few k l in omega (arith, le)

-- so many are, if there are as many
taken_many : (n k : ℕ) (l : List Vertex) → n ≤ k → n ≤ length l → n ≤ length (take k l)
taken_many n k l h m = subst (λ i. n ≤ i) (sym (length-take k l)) (let le = h in let is = m in omega (arith, le, is))

-- a first part of a list that became longer by at most one, if it isn't of the list as it was, is all of it
taken_of_more : (l more : List Vertex) (k : ℕ) → length more ≤ 1 → (take k (l ++ more) ≡ take k l) ⊎ (take k (l ++ more) ≡ l ++ more)
taken_of_more l more k few = go (nat_le k (length l)) refl
  where
    go : (b : Bool) → nat_le k (length l) ≡ b → (take k (l ++ more) ≡ take k l) ⊎ (take k (l ++ more) ≡ l ++ more)
    go true h = inl (take-append-le k l more (leb-true k (length l) h))
    go false h = inr (take_all k (l ++ more) (let longer = leb-false k (length l) h in let sum = length-append l more in omega (arith, few)))

-- ---- the log

module _ (s : Setting) (me : ℕ) where
  -- an event adds at most one entry to the log
  pub log_more : (n : Logged) (e : Event) → (more : List Vertex) × ((after_event s me n e).log ≡ n.log ++ more) × (length more ≤ 1)
  unfolding after_event
  log_more n (make now value signature) = go (step s (received_of s n.journal) me now value)
    where
      put : (w : Vertex) (b : Bool) → (more : List Vertex) × (cond b (n.log ++ w ∷ []) n.log ≡ n.log ++ more) × (length more ≤ 1)
      put w true = (w ∷ [], refl, omega arith)
      put w false = ([], sym (append-nil n.log), omega arith)

      go : (o : Option Plan) → (more : List Vertex) × ((elim o as (λ z. Logged) [ None ↦ n | Some p ↦ logged s n (signed_by signature p.unit) true ]).log ≡ n.log ++ more) × (length more ≤ 1)
      go None = ([], sym (append-nil n.log), omega arith)
      go (Some p) = put (signed_by signature p.unit) (is_accepted (answer s n.journal (signed_by signature p.unit) true))
  log_more n (arrives w verdict) = put (is_accepted (answer s n.journal w verdict))
    where
      put : (b : Bool) → (more : List Vertex) × (cond b (n.log ++ w ∷ []) n.log ≡ n.log ++ more) × (length more ≤ 1)
      put true = (w ∷ [], refl, omega arith)
      put false = ([], sym (append-nil n.log), omega arith)
  log_more n restart = ([], sym (append-nil n.log), omega arith)

  -- ---- what goes out

  -- the two units of a pair are by one validator
  one_creator : (e : Evidence) → evidence_fault s e ≡ None → e.left.unit.creator ≡ e.right.unit.creator
  one_creator e = go (e.left.unit.creator == e.right.unit.creator) refl
    where
      go : (b : Bool) → (e.left.unit.creator == e.right.unit.creator) ≡ b
          → cond (not b || nat_le (length s.config.weights) e.left.unit.creator) (Some fault.Creator)
          (cond (not (e.left.unit.seq == e.right.unit.seq)) (Some fault.Sequence)
          (cond (not (digest_eq e.left.unit.instance s.instance && digest_eq e.right.unit.instance s.instance)) (Some fault.Instance)
          (cond (unit_eq e.left.unit e.right.unit) (Some fault.Same) None))) ≡ None → e.left.unit.creator ≡ e.right.unit.creator
      go true same h = eqb-true _ _ same
      go false same h = absurd (let no : Some fault.Creator ≡ None = h in cc)

  module _ (n : Logged) (kept : IsSafeToStart s me n) where
    -- no evidence of the log holds a unit by the node
    no_own_evidence : (e : Evidence) (x : SignedUnit) → Among (vertex.Evidence e) n.log → Among x (signed_in (vertex.Evidence e)) → x.unit.creator ≡ me → ⊥
    no_own_evidence e x m k by = kept.line.no_evidence (subst (λ v. Among v (filter_map evidence_in n.journal)) (left_by k) (among_mapped evidence_in (vertex.Evidence e) e.left.unit.creator n.journal there refl))
      where
        there : Among (vertex.Evidence e) n.journal
        there = subst (λ journal. Among (vertex.Evidence e) journal) kept.log m

        left_by : Among x (signed_in (vertex.Evidence e)) → e.left.unit.creator ≡ me
        left_by (inl same) = ap (λ (z : SignedUnit). z.unit.creator) same ∙ by
        left_by (inr (inl same)) = one_creator e (delivered_pairs s kept.deliveries e (subst (λ journal. Among (vertex.Evidence e) journal) kept.journal there)) ∙ ap (λ (z : SignedUnit). z.unit.creator) same ∙ by
        left_by (inr (inr never)) = absurd never

    -- a unit by the node that may go out stands in the log
    logged_own : (v : Vertex) → MayGoOut n v → (x : SignedUnit) → Among x (signed_in v) → x.unit.creator ≡ me → Among (vertex.Unit x) n.log
    logged_own (vertex.Unit u) (inl m) x (inl e) by = subst (λ (z : SignedUnit). Among (vertex.Unit z) n.log) e m
    logged_own (vertex.Unit u) (inl m) x (inr never) by = absurd never
    logged_own (vertex.Unit u) (inr e) x k by = absurd (let no : vertex.Unit u ≡ vertex.Evidence e.0 = e.1 in cc)
    logged_own (vertex.Evidence e) (inl m) x k by = absurd (no_own_evidence e x m k by)
    logged_own (vertex.Evidence e) (inr f) x k by = out f k
      where
        out : ((g : Evidence) × (vertex.Evidence e ≡ vertex.Evidence g) × Among (vertex.Unit g.left) n.log × Among (vertex.Unit g.right) n.log) → Among x (signed_in (vertex.Evidence e)) → Among (vertex.Unit x) n.log
        out g (inl same) = let is : e ≡ g.0 = (let h : vertex.Evidence e ≡ vertex.Evidence g.0 = g.1 in cc) in subst (λ (z : SignedUnit). Among (vertex.Unit z) n.log) (ap (λ (h : Evidence). h.left) (sym is) ∙ same) g.2
        out g (inr (inl same)) = let is : e ≡ g.0 = (let h : vertex.Evidence e ≡ vertex.Evidence g.0 = g.1 in cc) in subst (λ (z : SignedUnit). Among (vertex.Unit z) n.log) (ap (λ (h : Evidence). h.right) (sym is) ∙ same) g.3
        out g (inr (inr never)) = absurd never
    logged_own (vertex.Endorsement e) h x k by = absurd k

    -- and in the journal
    known_own : (v : Vertex) → MayGoOut n v → (x : SignedUnit) → Among x (signed_in v) → x.unit.creator ≡ me → Among (named s x.unit) (units_by s n.journal me)
    known_own v h x m by = by_has s n.journal me (named s x.unit)
        (subst (λ journal. Among (named s x.unit) (received_of s journal).units) (sym kept.journal)
        (unit_known s kept.deliveries x (subst (λ journal. Among (vertex.Unit x) journal) (kept.log ∙ kept.journal) (logged_own v h x m by)))) by

  -- what may go out of the first part of a log may go out of all of it
  goes_out_of_all : (n : Logged) (k : ℕ) (v : Vertex) → MayGoOut (record n { log = take k n.log }) v → MayGoOut n v
  goes_out_of_all n k v (inl m) = inl (among_taken k n.log v m)
  goes_out_of_all n k v (inr e) = inr (e.0, e.1, among_taken k n.log (vertex.Unit e.0.left) e.2, among_taken k n.log (vertex.Unit e.0.right) e.3)

  -- ---- a life

  -- what holds at each moment
  pub record IsKeptOnDisk (d : OnDisk) : Type 0 where
    pub safe : IsSafeToStart s me d.node
    pub within : d.durable ≤ length d.node.log
    pub left : (k : ℕ) → d.durable ≤ k → IsSafeToStart s me (started_from s d.node.log k)
    pub told : (v : Vertex) → Among v d.told → MayGoOut (sure_part d) v

  -- a unit by the validator that was told is in the journal
  told_is_known : (d : OnDisk) → IsKeptOnDisk d → (u : WireUnit) → WasTold d u → u.creator ≡ me → (x : SignedUnit) × Among (vertex.Unit x) d.node.log × (x.unit ≡ u)
  told_is_known d kept u t by = (t.1, logged_own d.node kept.safe t.0 (goes_out_of_all d.node d.durable t.0 (kept.told t.0 t.2)) t.1 t.3 (ap (λ (z : WireUnit). z.creator) t.4 ∙ by), t.4)

  -- a vertex in which each unit by the validator was told brings nothing new
  brings_no_new : (d : OnDisk) → IsKeptOnDisk d → (v : Vertex) → ComesBack d me v → BringsNoNew s d.node.journal me v
  brings_no_new d kept v back u m by =
      let t : WasTold d u.unit = back u m by in
      let x : SignedUnit = t.1 in
      let x_by : x.unit.creator ≡ me = ap (λ (z : WireUnit). z.creator) t.4 ∙ by in
      subst (λ (z : WireUnit). Among (named s z) (units_by s d.node.journal me)) t.4
      (known_own d.node kept.safe t.0 (goes_out_of_all d.node d.durable t.0 (kept.told t.0 t.2)) x t.3 x_by)

  -- what came back is fair
  fair_of : (d : OnDisk) → IsKeptOnDisk d → (e : Event) → IsCareful s me d (runs e) → IsFair s me d.node e
  fair_of d kept (make now value signature) careful = tt
  fair_of d kept (arrives v verdict) careful = λ h. brings_no_new d kept v (careful h)
  fair_of d kept restart careful = tt

  module _ (sound : config_fault s.config ≡ None) (validator : me < length s.config.weights) where
    restarted : (n : Logged) → IsSafeToStart s me n → IsSafeToStart s me (record { journal = journal_of s (trusted n.log); log = n.log })
    unfolding after_event
    restarted n safe = kept_life s me sound validator n (restart ∷ []) safe (tt, tt)

    -- a node that starts from its whole log
    started_whole : (n : Logged) → IsSafeToStart s me n → (k : ℕ) → length n.log ≤ k → IsSafeToStart s me (started_from s n.log k)
    started_whole n safe k h = subst (λ (l : List Vertex). IsSafeToStart s me (record { journal = journal_of s (trusted l); log = l })) (sym (take_all k n.log h)) (restarted n safe)

    -- after an event, whatever a power failure leaves
    left_after : (d : OnDisk) → IsKeptOnDisk d → (n : Logged) → IsSafeToStart s me n → (more : List Vertex) → n.log ≡ d.node.log ++ more → length more ≤ 1
        → (k : ℕ) → d.durable ≤ k → IsSafeToStart s me (started_from s n.log k)
    left_after d kept n safe more grown few k h = elim (taken_of_more d.node.log more k few) [
      | inl e ↦ subst start (sym (ap (take k) grown ∙ e)) (kept.left k h)
      | inr e ↦ subst start (sym (ap (take k) grown ∙ e ∙ sym grown)) (restarted n safe)
    ]
      where
        start : List Vertex → Type 0
        start l = IsSafeToStart s me (record { journal = journal_of s (trusted l); log = l })

    kept_runs : (d : OnDisk) → IsKeptOnDisk d → (e : Event) → IsCareful s me d (runs e) → IsKeptOnDisk (after_on_disk s me d (runs e))
    kept_runs d kept e careful =
        let one : IsSafeToStart s me (after_event s me d.node e) = kept_life s me sound validator d.node (e ∷ []) kept.safe (fair_of d kept e careful, tt) in
        let more = log_more d.node e in
        let longer : length (after_event s me d.node e).log ≡ length d.node.log + length more.0 = ap length more.1 ∙ length-append d.node.log more.0 in
        record {
          safe = one;
          within = (let le = kept.within in omega (arith, longer));
          left = left_after d kept (after_event s me d.node e) one more.0 more.1 more.2;
          told = λ v m. subst (λ (l : List Vertex). MayGoOut (record (after_event s me d.node e) { log = l }) v) (sym (ap (take d.durable) more.1 ∙ take-append-le d.durable d.node.log more.0 kept.within)) (same_part d.node (after_event s me d.node e) (take d.durable d.node.log) v (kept.told v m));
        }
      where
        same_part : (n m : Logged) (l : List Vertex) (v : Vertex) → MayGoOut (record n { log = l }) v → MayGoOut (record m { log = l }) v
        same_part n m l v h = h

    kept_after : (d : OnDisk) → IsKeptOnDisk d → (e : DiskEvent) → IsCareful s me d e → IsKeptOnDisk (after_on_disk s me d e)
    kept_after d kept (runs e) careful = kept_runs d kept e careful
    kept_after d kept syncs careful = record {
      safe = kept.safe;
      within = omega arith;
      left = started_whole d.node kept.safe;
      told = λ v m. subst (λ (l : List Vertex). MayGoOut (record d.node { log = l }) v) (sym (take_all (length d.node.log) d.node.log (omega arith))) (goes_out_of_all d.node d.durable v (kept.told v m));
    }
    kept_after d kept (tells vs) careful = record {
      safe = kept.safe;
      within = kept.within;
      left = kept.left;
      told = λ v m. elim (append_cases v d.told vs m) [ inl old ↦ kept.told v old | inr new ↦ careful v new ];
    }
    kept_after d kept (fails k) careful = record {
      safe = kept.left k careful;
      within = taken_many d.durable k d.node.log careful kept.within;
      left = λ j h. go j h (nat_le j k) refl;
      told = λ v m. subst (λ (l : List Vertex). MayGoOut (record (started_from s d.node.log k) { log = l }) v) (sym (taken_twice d.durable k d.node.log careful)) (kept.told v m);
    }
      where
        start : List Vertex → Type 0
        start l = IsSafeToStart s me (record { journal = journal_of s (trusted l); log = l })

        go : (j : ℕ) → d.durable ≤ j → (b : Bool) → nat_le j k ≡ b → start (take j (take k d.node.log))
        go j h true e = subst start (sym (taken_twice j k d.node.log (leb-true j k e))) (kept.left j h)
        go j h false e = subst start (sym (take_all j (take k d.node.log) (let over = leb-false j k e in let few = taken_few k d.node.log in omega (arith, over, few)))) (kept.left k careful)

    pub kept_on_disk : (d : OnDisk) (events : List DiskEvent) → IsKeptOnDisk d → AreCareful s me d events → IsKeptOnDisk (life_on_disk s me d events)
    kept_on_disk d [] kept careful = kept
    kept_on_disk d (e ∷ more) kept careful = kept_on_disk (after_on_disk s me d e) more (kept_after d kept e careful.0) careful.1

    -- it holds at the beginning
    begun_on_disk : (d : OnDisk) → Begins s me d → IsKeptOnDisk d
    begun_on_disk d begins = record {
      safe = begins.safe;
      within = (let is = begins.synced in omega (arith, is));
      left = λ k h. started_whole d.node begins.safe k (let is = begins.synced in omega (arith, is, h));
      told = λ v m. subst (λ (l : List Vertex). MayGoOut (record d.node { log = l }) v) (sym (take_all d.durable d.node.log (let is = begins.synced in omega (arith, is)))) (begins.told v m);
    }

-- ---- the laws

at_last : (s : Setting) (me : ℕ) (d : OnDisk) (events : List DiskEvent) → Begins s me d → AreCareful s me d events → IsKeptOnDisk s me (life_on_disk s me d events)
at_last s me d events begins careful = kept_on_disk s me begins.config begins.validator d events (begun_on_disk s me begins.config begins.validator d begins) careful

pub keep_one_line : CrashesKeepOneLine
keep_one_line s me d events begins careful = let kept = at_last s me d events begins careful in (kept.safe, kept.left)

pub nothing_lost : NothingToldIsLost
nothing_lost s me d events begins careful = (at_last s me d events begins careful).told

pub told_apart : ToldUnitsApart
told_apart s me d events begins careful u w tu tw u_by w_by number =
    let kept = at_last s me d events begins careful in
    let x = told_is_known s me (life_on_disk s me d events) kept u tu u_by in
    let y = told_is_known s me (life_on_disk s me d events) kept w tw w_by in
    sym x.2 ∙ logged_apart s me (life_on_disk s me d events).node kept.safe x.0 y.0 x.1 y.1 (ap (λ (z : WireUnit). z.creator) x.2 ∙ u_by) (ap (λ (z : WireUnit). z.creator) y.2 ∙ w_by)
    (ap (λ (z : WireUnit). z.seq) x.2 ∙ number ∙ sym (ap (λ (z : WireUnit). z.seq) y.2)) ∙ y.2

pub comes_back : WhatWasToldComesBack
comes_back s me d events begins careful = brings_no_new s me (life_on_disk s me d events) (at_last s me d events begins careful)
