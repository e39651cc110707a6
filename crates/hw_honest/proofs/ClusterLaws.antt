-- What holds of a cluster after each action.
use Rattle.std.proofs.Common.{◌≡◌, ◌≢◌, ℕ, zero, suc, ◌≤◌, ◌<◌, ◌⊎◌, inl, inr, Bool, true, false, cond, List, [], ◌∷◌, ◌++◌, length, get_or, Option, Some, None, Result, Ok, Err, refl, sym, ap, subst, ◌∙◌, arith, replicate, lt-ltb}
use Rattle.std.specs.Prelude.{slice_get, fold, nat_lt}
use Rattle.std.proofs.lemmas.Bool.{cases_eq}
use Rattle.std.proofs.lemmas.List.{get_or-set_same, get_or-set_other, length-set, length-replicate}
use Rattle.hw_types.specs.declared.unit.SignedUnit.{SignedUnit}
use Rattle.hw_types.specs.declared.unit.Evidence.{Evidence}
use Rattle.hw_types.specs.declared.unit.Vertex.{Vertex}
use Rattle.hw_types.specs.declared.unit.Vertex.TheVariants as vertex
use Rattle.hw_types.specs.declared.answers.Plan.{Plan}
use Rattle.hw_types.specs.declared.answers.PlanKind.{PlanKind}
use Rattle.hw_types.specs.declared.answers.Receipt.{Receipt}
use Rattle.hw_types.specs.declared.answers.Receipt.TheVariants as receipt
use Rattle.hw_types.specs.declared.answers.Cause.{Cause}
use Rattle.hw_types.specs.Below.{Among}
use Rattle.hw_types.specs.Journal.{Setting, named, received_of, unit_of_vertex, refusal, answer, is_accepted, journal_after, journal_of}
use Rattle.hw_types.specs.Culprits.{signed_in}
use Rattle.hw_types.specs.Limits.{config_fault}
use Rattle.hw_types.specs.laws.StateLaws.{units_in, NamesApart}
use Rattle.hw_types.proofs.PastLaws.{any_of}
use Rattle.hw_types.proofs.WordsLaws.{never_both, not_true}
use Rattle.hw_types.proofs.EntryLaws.{append_cases, among_mapped}
use Rattle.hw_types.proofs.UnionLaws.{from_left, from_right}
use Rattle.hw_types.proofs.OrderLaws.{accepted, journal_apart, in_known}
use Rattle.hw_honest.specs.declared.cluster.Action.{Action}
use Rattle.hw_honest.specs.declared.cluster.Action.TheVariants.{Step, Deliver, Forge}
use Rattle.hw_honest.specs.declared.cluster.Acted.{Acted}
use Rattle.hw_honest.specs.declared.cluster.Acted.TheVariants.{Idle, Received}
use Rattle.hw_honest.specs.Cluster.{Cluster, begun, journal_at, with_sent, answer_at, after_delivery, value_at, plan_at, signed, is_admitted, after_own, signers, is_foreign, outcome, acted, after, cluster_of}
use Rattle.hw_honest.specs.OneLine.{OneLine, units_by}
use Rattle.hw_honest.specs.Laws.{IsPossible, IsRun}
use Rattle.hw_honest.proofs.PlanLaws.{plan_is}
use Rattle.hw_honest.proofs.ReplayLaws.{journal_more, after_accepted}
use Rattle.hw_honest.proofs.OneLineLaws.{begins, by_has, delivery_keeps, Settles}
use Rattle.hw_honest.proofs.OwnUnitLaws.{step_keeps, settled_answer, plan_settles}
use Rattle.hw_types.proofs.ReceiptLaws.{local_none}

-- ---- a journal that deliveries made

-- each of its units keeps the rules of the unit alone
abbrev pub IsLocal : Setting → List Vertex → Type 0
IsLocal s journal = (u : SignedUnit) → Among (vertex.Unit u) journal → unit_of_vertex s (vertex.Unit u) ≡ Some (named s u.unit)

one_among : {A : Type 0} (x y : A) → Among x (y ∷ []) → y ≡ x
one_among x y (inl e) = e
one_among x y (inr never) = absurd never

local_from : (s : Setting) (journal : List Vertex) (deliveries : List (Vertex × Bool)) → IsLocal s journal → IsLocal s (fold (journal_after s) journal deliveries)
local_from s journal [] h = h
local_from s journal (d ∷ ds) h = local_from s (journal_after s journal d) ds (go (is_accepted (answer s journal d.0 d.1)) refl)
  where
    go : (b : Bool) → is_accepted (answer s journal d.0 d.1) ≡ b → IsLocal s (cond b (journal ++ d.0 ∷ []) journal)
    go false e = h
    go true e = λ u m. elim (append_cases (vertex.Unit u) journal (d.0 ∷ []) m) [
      | inl old ↦ h u old
      | inr new ↦ local_none s journal u (subst (λ w. refusal s journal w ≡ None) (one_among (vertex.Unit u) d.0 new) (accepted s journal d.0 d.1 e).not_refused)
    ]

-- so each of them is known
pub unit_known : (s : Setting) (deliveries : List (Vertex × Bool)) (u : SignedUnit) → Among (vertex.Unit u) (journal_of s deliveries) → Among (named s u.unit) (received_of s (journal_of s deliveries)).units
unit_known s deliveries u m =
    in_known s (journal_of s deliveries) (journal_apart s deliveries) (named s u.unit)
    (among_mapped (unit_of_vertex s) (vertex.Unit u) (named s u.unit) (journal_of s deliveries) m (local_from s [] deliveries (λ w n. absurd n) u m))

-- ---- a list with one place set

-- the member of a list at a place, by the place
pub place_of : {A : Type 0} (x : A) (xs : List A) → Among x xs → (i : ℕ) × (i < length xs) × ((d : A) → get_or xs i d ≡ x)
place_of x [] m = absurd m
place_of x (y ∷ ys) (inl e) = (0, omega arith, λ d. e)
place_of x (y ∷ ys) (inr m) = let rest = place_of x ys m in (suc rest.0, (let lt = rest.1 in omega arith), rest.2)

empty_at : (n i : ℕ) → get_or (replicate n (let none : List Vertex = [] in none)) i [] ≡ []
empty_at zero i = refl
empty_at (suc n) zero = refl
empty_at (suc n) (suc i) = empty_at n i

got : {A : Type 0} (xs : List A) (k : ℕ) (x : A) → slice_get xs k ≡ Some x → Among x xs
got [] k x e = absurd cc
got (y ∷ ys) zero x e = inl cc
got (y ∷ ys) (suc k) x e = inr (got ys k x e)

admitted_accepted : (r : Result Receipt Cause) → is_admitted r ≡ true → is_accepted r ≡ true
admitted_accepted (Err c) h = absurd cc
admitted_accepted (Ok receipt.Repeat) h = absurd cc
admitted_accepted (Ok (receipt.Admitted n)) h = refl
admitted_accepted (Ok (receipt.Parked n)) h = absurd cc
admitted_accepted (Ok (receipt.Dropped r)) h = absurd cc

-- what a step's unit is answered, where it isn't admitted
received_is : (kind : PlanKind) (r : Result Receipt Cause) (q : Receipt) → outcome kind r ≡ Received q → (r ≡ Ok q) × (is_admitted (Ok q) ≡ false)
received_is kind (Err c) q e = absurd cc
received_is kind (Ok receipt.Repeat) q e = let same : receipt.Repeat ≡ q = cc in (ap Ok same, ap (λ w. is_admitted (Ok w)) (sym same))
received_is kind (Ok (receipt.Admitted n)) q e = absurd cc
received_is kind (Ok (receipt.Parked n)) q e = let same : receipt.Parked n ≡ q = cc in (ap Ok same, ap (λ w. is_admitted (Ok w)) (sym same))
received_is kind (Ok (receipt.Dropped r)) q e = let same : receipt.Dropped r ≡ q = cc in (ap Ok same, ap (λ w. is_admitted (Ok w)) (sym same))

signer_of : (v : Vertex) (u : SignedUnit) → Among u (signed_in v) → Among u.unit.creator (signers v)
signer_of (vertex.Unit x) u (inl e) = inl (ap (λ (w : SignedUnit). w.unit.creator) e)
signer_of (vertex.Unit x) u (inr never) = absurd never
signer_of (vertex.Evidence x) u (inl e) = inl (ap (λ (w : SignedUnit). w.unit.creator) e)
signer_of (vertex.Evidence x) u (inr (inl e)) = inr (inl (ap (λ (w : SignedUnit). w.unit.creator) e))
signer_of (vertex.Evidence x) u (inr (inr never)) = absurd never
signer_of (vertex.Endorsement x) u m = absurd m

-- a foreign vertex holds no unit by a node
pub foreign_unit : (nodes : ℕ) (v : Vertex) (u : SignedUnit) → is_foreign nodes v ≡ true → Among u (signed_in v) → u.unit.creator < nodes → ⊥
foreign_unit nodes v u h m lt = never_both _ (any_of (λ w. nat_lt w nodes) u.unit.creator (signers v) (signer_of v u m) (lt-ltb _ _ lt)) (not_true _ h)

-- ---- what holds

-- the vertex was sent, or stands in the journal of some place
abbrev pub Stands : Cluster → Vertex → Type 0
Stands c v = Among v c.sent ⊎ ((i : ℕ) × Among v (journal_at c i))

pub record IsSound (s : Setting) (nodes : ℕ) (c : Cluster) : Type 0 where
  pub count : length c.journals ≡ nodes
  -- each journal is one that deliveries made
  pub delivered : (i : ℕ) → (deliveries : List (Vertex × Bool)) × (journal_at c i ≡ journal_of s deliveries)
  -- each node's units are on one line in its own journal
  pub lines : (i : ℕ) → i < nodes → OneLine s (journal_at c i) i
  -- a unit by a node stands in that node's own journal, wherever it stands
  pub own : (u : SignedUnit) → Stands c (vertex.Unit u) → u.unit.creator < nodes → Among (vertex.Unit u) (journal_at c u.unit.creator)
  -- no evidence holds a unit by a node
  pub foreign : (e : Evidence) (u : SignedUnit) → Stands c (vertex.Evidence e) → Among u (signed_in (vertex.Evidence e)) → u.unit.creator < nodes → ⊥

module _ (s : Setting) (nodes : ℕ) where
  pub sound_begun : IsSound s nodes (begun nodes)
  sound_begun = record {
    count = length-replicate nodes [];
    delivered = λ i. ([], empty_at nodes i);
    lines = λ i lt. subst (λ journal. OneLine s journal i) (sym (empty_at nodes i)) (begins s i);
    own = λ u m lt. absurd (nothing (vertex.Unit u) m);
    foreign = λ e u m n lt. nothing (vertex.Evidence e) m;
  }
    where
      nothing : (v : Vertex) → Stands (begun nodes) v → ⊥
      nothing v (inl m) = m
      nothing v (inr m) = subst (λ journal. Among v journal) (empty_at nodes m.0) m.1

  -- ---- one vertex more is sent

  module _ (c : Cluster) (sound : IsSound s nodes c) (v : Vertex)
      (own : (u : SignedUnit) → v ≡ vertex.Unit u → u.unit.creator < nodes → Among (vertex.Unit u) (journal_at c u.unit.creator))
      (foreign : (e : Evidence) (u : SignedUnit) → v ≡ vertex.Evidence e → Among u (signed_in (vertex.Evidence e)) → u.unit.creator < nodes → ⊥) where
    stood : (w : Vertex) → Stands (with_sent c v) w → Stands c w ⊎ (v ≡ w)
    stood w (inr m) = inl (inr m)
    stood w (inl m) = elim (append_cases w c.sent (v ∷ []) m) [ inl old ↦ inl (inl old) | inr new ↦ inr (one_among w v new) ]

    pub sound_sent : IsSound s nodes (with_sent c v)
    sound_sent = record {
      count = sound.count;
      delivered = sound.delivered;
      lines = sound.lines;
      own = λ u m lt. elim (stood (vertex.Unit u) m) [ inl old ↦ sound.own u old lt | inr e ↦ own u e lt ];
      foreign = λ e u m n lt. elim (stood (vertex.Evidence e) m) [ inl old ↦ sound.foreign e u old n lt | inr same ↦ foreign e u same n lt ];
    }

  -- ---- a vertex reaches a node

  module _ (c : Cluster) (sound : IsSound s nodes c) (node : ℕ) (there : node < nodes) (v : Vertex) where
    abbrev now : Cluster
    now = after_delivery s c node v

    abbrev new_journal : List Vertex
    new_journal = journal_after s (journal_at c node) (v, true)

    at_node : journal_at now node ≡ new_journal
    at_node = let n = sound.count in get_or-set_same c.journals node new_journal [] (omega arith)

    at_other : (i : ℕ) → (i ≡ node → ⊥) → journal_at now i ≡ journal_at c i
    at_other i other = get_or-set_other c.journals node i new_journal [] other

    kept : (w : Vertex) → Among w (journal_at c node) → Among w new_journal
    kept w m = go (is_accepted (answer s (journal_at c node) v true))
      where
        go : (b : Bool) → Among w (cond b (journal_at c node ++ v ∷ []) (journal_at c node))
        go true = from_left w (journal_at c node) (v ∷ []) m
        go false = m

    pub stays : (i : ℕ) (w : Vertex) → Among w (journal_at c i) → Among w (journal_at now i)
    stays i w m = elim (cases_eq i node) [
      | inl e ↦ subst (λ j. Among w (journal_at now j)) (sym e) (subst (λ journal. Among w journal) (sym at_node) (kept w (subst (λ j. Among w (journal_at c j)) e m)))
      | inr other ↦ subst (λ journal. Among w journal) (sym (at_other i other)) m
    ]

    old_or_v : (w : Vertex) → Among w new_journal → Among w (journal_at c node) ⊎ (v ≡ w)
    old_or_v w m = go (is_accepted (answer s (journal_at c node) v true)) m
      where
        go : (b : Bool) → Among w (cond b (journal_at c node ++ v ∷ []) (journal_at c node)) → Among w (journal_at c node) ⊎ (v ≡ w)
        go false k = inl k
        go true k = elim (append_cases w (journal_at c node) (v ∷ []) k) [ inl old ↦ inl old | inr new ↦ inr (one_among w v new) ]

    -- what stands now stood before, or is the vertex, in the node's journal
    stood_or_v : (w : Vertex) → Stands now w → Stands c w ⊎ ((v ≡ w) × Among w (journal_at now node))
    stood_or_v w (inl m) = inl (inl m)
    stood_or_v w (inr m) = elim (cases_eq m.0 node) [
      | inr other ↦ inl (inr (m.0, subst (λ journal. Among w journal) (at_other m.0 other) m.1))
      | inl e ↦ (
          let here : Among w (journal_at now node) = subst (λ j. Among w (journal_at now j)) e m.1 in
          elim (old_or_v w (subst (λ journal. Among w journal) at_node here)) [ inl old ↦ inl (inr (node, old)) | inr same ↦ inr (same, here) ]
          )
    ]

    pub sound_delivery : OneLine s new_journal node
        → ((u : SignedUnit) → v ≡ vertex.Unit u → (u.unit.creator ≡ node) ⊎ Stands c (vertex.Unit u))
        → ((e : Evidence) → v ≡ vertex.Evidence e → Stands c (vertex.Evidence e))
        → IsSound s nodes now
    sound_delivery line unit evidence = record {
      count = length-set c.journals node new_journal ∙ sound.count;
      delivered = λ i. elim (cases_eq i node) [
        | inl e ↦ (let old = sound.delivered node in (old.0 ++ (v, true) ∷ [], ap (journal_at now) e ∙ at_node ∙ ap (λ journal. journal_after s journal (v, true)) old.1 ∙ sym (journal_more s old.0 (v, true))))
        | inr other ↦ (let old = sound.delivered i in (old.0, at_other i other ∙ old.1))
      ];
      lines = λ i lt. elim (cases_eq i node) [
        | inl e ↦ subst (λ j. OneLine s (journal_at now j) j) (sym e) (subst (λ journal. OneLine s journal node) (sym at_node) line)
        | inr other ↦ subst (λ journal. OneLine s journal i) (sym (at_other i other)) (sound.lines i lt)
      ];
      own = λ u m lt. elim (stood_or_v (vertex.Unit u) m) [
        | inl old ↦ stays u.unit.creator (vertex.Unit u) (sound.own u old lt)
        | inr new ↦ elim (unit u new.0) [
          | inl e ↦ subst (λ i. Among (vertex.Unit u) (journal_at now i)) (sym e) new.1
          | inr old ↦ stays u.unit.creator (vertex.Unit u) (sound.own u old lt)
        ]
      ];
      foreign = λ e u m n lt. elim (stood_or_v (vertex.Evidence e) m) [
        | inl old ↦ sound.foreign e u old n lt
        | inr new ↦ sound.foreign e u (evidence e new.0) n lt
      ];
    }

  -- ---- each action

  apart_at : (c : Cluster) → IsSound s nodes c → (i : ℕ) → NamesApart (units_in s (journal_at c i))
  apart_at c sound i = let d = sound.delivered i in subst (λ journal. NamesApart (units_in s journal)) (sym d.1) (journal_apart s d.0)

  pub known_at : (c : Cluster) → IsSound s nodes c → (i : ℕ) (u : SignedUnit) → Among (vertex.Unit u) (journal_at c i) → Among (named s u.unit) (received_of s (journal_at c i)).units
  known_at c sound i u m =
      let d = sound.delivered i in
      subst (λ journal. Among (named s u.unit) (received_of s journal).units) (sym d.1) (unit_known s d.0 u (subst (λ journal. Among (vertex.Unit u) journal) d.1 m))

  -- a sent vertex reaches a node
  pub sound_heard : (c : Cluster) → IsSound s nodes c → (node : ℕ) → node < nodes → (v : Vertex) → Among v c.sent → IsSound s nodes (after_delivery s c node v)
  sound_heard c sound node lt v m = sound_delivery c sound node lt v (delivery_keeps s (journal_at c node) node v true (apart_at c sound node) (sound.lines node lt) (λ u n e. known v refl u n e))
      (λ u e. inr (inl (subst (λ w. Among w c.sent) e m))) (λ e same. inl (subst (λ w. Among w c.sent) same m))
    where
      known : (w : Vertex) → v ≡ w → (u : SignedUnit) → Among u (signed_in w) → u.unit.creator ≡ node → Among (named s u.unit) (units_by s (journal_at c node) node)
      known (vertex.Unit x) e u (inr never) c = absurd never
      known (vertex.Unit x) e u (inl is) made =
          let here : Among (vertex.Unit u) c.sent = subst (λ w. Among w c.sent) (e ∙ ap vertex.Unit is) m in
          let own = subst (λ i. Among (vertex.Unit u) (journal_at c i)) made (sound.own u (inl here) (subst (λ i. i < nodes) (sym made) lt)) in
          by_has s (journal_at c node) node (named s u.unit) (known_at c sound node u own) made
      known (vertex.Evidence x) e u n made = absurd (sound.foreign x u (inl (subst (λ w. Among w c.sent) e m)) n (subst (λ i. i < nodes) (sym made) lt))
      known (vertex.Endorsement x) e u n made = absurd n

  -- a node makes a unit
  module _ (sound_config : config_fault s.config ≡ None) (validators : nodes ≤ length s.config.weights) (c : Cluster) (sound : IsSound s nodes c) (node moment : ℕ) (there : node < nodes)
      (p : Plan) (made : plan_at s c node moment ≡ Some p) where
    abbrev unit : SignedUnit
    unit = record { unit = p.unit; signature = record { 0 = replicate 32 0 } }

    by_node : p.unit.creator ≡ node
    by_node = (plan_is s (received_of s (journal_at c node)) node moment (value_at s node moment) p made).0

    settles : Settles s (journal_at c node) p.unit
    settles = plan_settles s (journal_at c node) node moment (value_at s node moment) p sound_config (omega arith) made

    own_line : OneLine s (journal_after s (journal_at c node) (signed p.unit, true)) node
    own_line = step_keeps s (journal_at c node) node moment (value_at s node moment) p (sound.lines node there) made (apart_at c sound node) unit refl settles true

    is_own : (u : SignedUnit) → signed p.unit ≡ vertex.Unit u → u.unit.creator ≡ node
    is_own u e = let same : unit ≡ u = cc in sym (ap (λ (w : SignedUnit). w.unit.creator) same) ∙ by_node

    sound_taken : IsSound s nodes (after_delivery s c node (signed p.unit))
    sound_taken = sound_delivery c sound node there (signed p.unit) own_line (λ u e. inl (is_own u e)) (λ e same. absurd cc)

    went_last : is_accepted (answer_at s c node (signed p.unit)) ≡ true → Among (signed p.unit) (journal_at (after_delivery s c node (signed p.unit)) node)
    went_last h = subst (λ journal. Among (signed p.unit) journal) (sym (at_node c sound node there (signed p.unit) ∙ after_accepted s (journal_at c node) (signed p.unit) true h))
        (from_right (signed p.unit) (journal_at c node) (signed p.unit ∷ []) (inl refl))

    sound_made : IsSound s nodes (after_own s c node (signed p.unit))
    sound_made = go (is_admitted (answer_at s c node (signed p.unit))) refl
      where
        go : (b : Bool) → is_admitted (answer_at s c node (signed p.unit)) ≡ b → IsSound s nodes (cond b (with_sent (after_delivery s c node (signed p.unit)) (signed p.unit)) (after_delivery s c node (signed p.unit)))
        go false h = sound_taken
        go true h = sound_sent (after_delivery s c node (signed p.unit)) sound_taken (signed p.unit)
            (λ u e lt. subst (λ i. Among (vertex.Unit u) (journal_at (after_delivery s c node (signed p.unit)) i)) (sym (is_own u e))
            (subst (λ w. Among w (journal_at (after_delivery s c node (signed p.unit)) node)) e (went_last (admitted_accepted _ h))))
            (λ e u same m lt. absurd cc)

    not_received : (r : Receipt) → outcome p.kind (answer_at s c node (signed p.unit)) ≢ Received r
    not_received r e = settled_answer s (journal_at c node) node moment (value_at s node moment) p (sound.lines node there) made (apart_at c sound node) unit refl settles true r
        (received_is p.kind (answer_at s c node (signed p.unit)) r e)

  module _ (sound_config : config_fault s.config ≡ None) (validators : nodes ≤ length s.config.weights) where
    pub sound_after : (c : Cluster) → IsSound s nodes c → (a : Action) → IsPossible nodes a → IsSound s nodes (after s nodes c a)
    unfolding after
    sound_after c sound (Step node moment) ok = go (plan_at s c node moment) refl
      where
        go : (o : Option Plan) → plan_at s c node moment ≡ o → IsSound s nodes (elim o as (λ z. Cluster) [ None ↦ c | Some p ↦ after_own s c node (signed p.unit) ])
        go None e = sound
        go (Some p) e = sound_made sound_config validators c sound node moment ok p e
    sound_after c sound (Deliver node k) ok = go (slice_get c.sent k) refl
      where
        go : (o : Option Vertex) → slice_get c.sent k ≡ o → IsSound s nodes (elim o as (λ z. Cluster) [ None ↦ c | Some v ↦ after_delivery s c node v ])
        go None e = sound
        go (Some v) e = sound_heard c sound node ok v (got c.sent k v e)
    sound_after c sound (Forge v) ok = go (is_foreign nodes v) refl
      where
        go : (b : Bool) → is_foreign nodes v ≡ b → IsSound s nodes (cond b (with_sent c v) c)
        go false e = sound
        go true e = sound_sent c sound v
            (λ u same lt. absurd (foreign_unit nodes v u e (subst (λ w. Among u (signed_in w)) (sym same) (inl refl)) lt))
            (λ x u same m lt. foreign_unit nodes v u e (subst (λ w. Among u (signed_in w)) (sym same) m) lt)

    sound_from : (c : Cluster) (actions : List Action) → IsSound s nodes c → ((a : Action) → Among a actions → IsPossible nodes a) → IsSound s nodes (fold (after s nodes) c actions)
    sound_from c [] sound ok = sound
    sound_from c (a ∷ more) sound ok = sound_from (after s nodes c a) more (sound_after c sound a (ok a (inl refl))) (λ b m. ok b (inr m))

    -- what a node makes is admitted or refused
    step_not_received : (c : Cluster) → IsSound s nodes c → (node moment : ℕ) (r : Receipt) → node < nodes → acted s nodes c (Step node moment) ≢ Received r
    unfolding acted
    step_not_received c sound node moment r lt h = go (plan_at s c node moment) refl h
      where
        go : (o : Option Plan) → plan_at s c node moment ≡ o → elim o as (λ z. Acted) [ None ↦ Idle | Some p ↦ outcome p.kind (answer_at s c node (signed p.unit)) ] ≢ Received r
        go None e k = absurd cc
        go (Some p) e k = not_received sound_config validators c sound node moment lt p e r k

  pub sound_run : (actions : List Action) → IsRun s nodes actions → IsSound s nodes (cluster_of s nodes actions)
  sound_run actions run = sound_from run.config run.validators (begun nodes) actions sound_begun run.possible

  pub own_admitted : (actions : List Action) → IsRun s nodes actions → (node moment : ℕ) (r : Receipt) → node < nodes → acted s nodes (cluster_of s nodes actions) (Step node moment) ≢ Received r
  own_admitted actions run node moment r lt = step_not_received run.config run.validators (cluster_of s nodes actions) (sound_run actions run) node moment r lt

  pub all_delivered : (actions : List Action) → IsRun s nodes actions → (journal : List Vertex) → Among journal (cluster_of s nodes actions).journals → (deliveries : List (Vertex × Bool)) × (journal ≡ journal_of s deliveries)
  all_delivered actions run journal m =
      let i = place_of journal (cluster_of s nodes actions).journals m in
      let d = (sound_run actions run).delivered i.0 in
      (d.0, sym (i.2 []) ∙ d.1)
