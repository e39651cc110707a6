-- What holds of a cluster holds after each action.
use Rattle.std.proofs.Common.{◌≡◌, ℕ, zero, suc, ◌<◌, ◌≤◌, ◌^◌, ◌⊎◌, inl, inr, IfOk, IfSome, OnOk, OnErr, Bool, true, false, cond, List, [], ◌∷◌, ◌++◌, length, map, set, get_or, replicate, Option, Some, None, Result, Ok, Err, refl, sym, ap, subst, ◌∙◌, arith}
use Rattle.std.specs.Prelude.{slice_get, fold}
use Rattle.std.proofs.lemmas.List.{map-set, get_or-map, length-replicate}
use Rattle.std.proofs.lemmas.List.Sums.{fold_push}
use Rattle.hw_types.specs.declared.unit.Vertex.{Vertex}
use Rattle.hw_types.specs.declared.config.Config.{Config}
use Rattle.hw_types.specs.declared.config.ConfigFault.{ConfigFault}
use Rattle.hw_types.specs.declared.answers.Plan.{Plan}
use Rattle.hw_types.specs.declared.answers.Receipt.{Receipt}
use Rattle.hw_types.specs.declared.answers.Cause.{Cause}
use Rattle.hw_types.specs.declared.answers.Cause.TheVariants as cause
use Rattle.hw_types.specs.Below.{Among}
use Rattle.hw_types.specs.Limits.{config_fault}
use Rattle.hw_types.specs.Spelling.{Fits, VertexFits}
use Rattle.hw_types.specs.Journal.{Setting, is_accepted, answer, journal_after}
use Rattle.hw_types.specs.Real.{CoreState, setting_of, answer_in, after_in}
use Rattle.hw_types.proofs.EntryLaws.{append_cases}
use Rattle.hw_types.proofs.LimitLaws.{within_limits}
use Rattle.hw_admit.specs.declared.start.StateFault.{StateFault}
use Rattle.hw_admit.specs.declared.start.StateFault.TheVariants as start
use Rattle.hw_admit.specs.State.{IsStartFault}
use Rattle.hw_core.specs.Deliver.{IsRefusal}
use Rattle.hw_core.specs.Promises.{begun as begun_core}
use Rattle.hw_honest.specs.Plans.{IsPlanned}
use Rattle.hw_honest.proofs.NewLaws.{plan_fits}
use Rattle.hw_honest.specs.declared.cluster.Action.{Action}
use Rattle.hw_honest.specs.declared.cluster.Action.TheVariants.{Step, Deliver, Forge}
use Rattle.hw_honest.specs.Cluster.{Cluster, begun, journal_at, with_sent, answer_at, after_delivery, value_at, plan_at, signed, is_admitted, after_own, is_foreign, after}
use Rattle.hw_honest.specs.Laws.{IsPossible, IsRun}
use Rattle.hw_honest.proofs.SentLaws.{only_grows}
use Rattle.hw_cluster.specs.Nodes.{ClusterState, begun_with, nodes_in, CanAct, left_by, IsReached, nodes_of, state_of, HaveConfig, AllFit, IsSound, AreNodes, plan_in}

-- ---- lists

pub among_set : {A : Type 0} (y : A) (xs : List A) (i : ℕ) (x : A) → Among y (set xs i x) → (x ≡ y) ⊎ Among y xs
among_set y [] i x m = absurd m
among_set y (z ∷ zs) zero x (inl e) = inl e
among_set y (z ∷ zs) zero x (inr m) = inr (inr m)
among_set y (z ∷ zs) (suc i) x (inl e) = inr (inl e)
among_set y (z ∷ zs) (suc i) x (inr m) = elim (among_set y zs i x m) [ inl e ↦ inl e | inr n ↦ inr (inr n) ]

pub got_among : {A : Type 0} (xs : List A) (i : ℕ) (d : A) → i < length xs → Among (get_or xs i d) xs
got_among [] i d lt = absurd (omega arith)
got_among (x ∷ xs) zero d lt = inl refl
got_among (x ∷ xs) (suc i) d lt = inr (got_among xs i d (omega arith))

pub found_among : {A : Type 0} (xs : List A) (i : ℕ) (x : A) → slice_get xs i ≡ Some x → Among x xs
found_among [] i x e = absurd cc
found_among (y ∷ ys) zero x e = inl cc
found_among (y ∷ ys) (suc i) x e = inr (found_among ys i x e)

-- the value of a node's block has 12 bytes
pub value_short : (s : Setting) (node now : ℕ) → length (value_at s node now) ≤ 4096
value_short s node now = let twelve : length (value_at s node now) ≡ 12 = refl in omega arith

-- ---- results

pub if_ok : {A E : Type 0} (r : Result A E) (P Q : A → Type 0) → ((x : A) → P x → Q x) → IfOk r P → IfOk r Q
if_ok (Ok x) P Q f h = f x h
if_ok (Err e) P Q f h = tt

pub on_ok : {A E : Type 0} (r : Result A E) (P Q : Type 0) → (P → Q) → OnOk r P → OnOk r Q
on_ok (Ok x) P Q f h = f h
on_ok (Err e) P Q f h = tt

-- ---- a node that is given a vertex

-- a refused vertex leaves the node as it was
pub refused_stays : (c : CoreState) (v : Vertex) (why : Cause) → answer_in c v true ≡ Err why → after_in c v true ≡ c
refused_stays c v why e = ap (λ (r : Result Receipt Cause). let journal = cond (is_accepted r) (c.journal ++ v ∷ []) c.journal in let now : CoreState = record c { journal = journal } in now) e

-- a refusal for another cause than want of memory is that of the definitions
pub refusal_is : (why : Cause) (given : Result Receipt Cause) → (why ≡ cause.OutOfMemory → ⊥) → IsRefusal why given → given ≡ Err why
refusal_is cause.BadSignature given other is = is
refusal_is (cause.Local rule) given other is = is
refusal_is (cause.Pair fault) given other is = is
refusal_is (cause.Clash known) given other is = is
refusal_is cause.RecordsFull given other is = is
refusal_is cause.ParkFull given other is = is
refusal_is cause.OutOfMemory given other is = absurd (other refl)

module _ (config : Config) (cores : List CoreState) (sent : List Vertex) (have : HaveConfig config cores) (node : ℕ) (lt : node < length cores) (core : CoreState) (is : core ≡ get_or cores node core) where
  core_among : Among core cores
  core_among = subst (λ (k : CoreState). Among k cores) (sym is) (got_among cores node core lt)

  pub core_config : core.config ≡ config
  core_config = (have core core_among).0

  core_asked : core.asked ≡ None
  core_asked = (have core core_among).1

  -- the node's journal is its own
  pub core_journal : journal_at (nodes_of cores sent) node ≡ core.journal
  core_journal = get_or-map (λ (k : CoreState). k.journal) cores node core [] lt ∙ ap (λ (k : CoreState). k.journal) (sym is)

  pub core_is : core ≡ record { config = config; journal = journal_at (nodes_of cores sent) node; asked = None }
  core_is = (let e = core_config in let f = sym core_journal in let g = core_asked in λ i. record { config = e i; journal = f i; asked = g i })

  pub answer_there : (v : Vertex) → answer_in core v true ≡ answer_at (setting_of config) (nodes_of cores sent) node v
  answer_there v = ap (λ (k : CoreState). answer_in k v true) core_is

  pub given_there : (v : Vertex) → nodes_of (set cores node (after_in core v true)) sent ≡ after_delivery (setting_of config) (nodes_of cores sent) node v
  given_there v =
      let journals = map-set (λ (k : CoreState). k.journal) cores node (after_in core v true) ∙ ap (λ (k : CoreState). set (map (λ (m : CoreState). m.journal) cores) node (after_in k v true).journal) core_is in
      λ i. record { journals = journals i; sent = sent }

  pub config_there : (v : Vertex) → HaveConfig config (set cores node (after_in core v true))
  config_there v k m = elim (among_set k cores node (after_in core v true) m) [
    | inl e ↦ (ap (λ (c : CoreState). c.config) (sym e) ∙ core_config, ap (λ (c : CoreState). c.asked) (sym e) ∙ core_asked)
    | inr old ↦ have k old
  ]

  -- and so do the nodes whatever the answer is
  pub config_given : {A E : Type 0} (v : Vertex) (r : Result A E) (new : CoreState) → OnOk r (new ≡ after_in core v true) → OnErr r (new ≡ core) → HaveConfig config (set cores node new)
  config_given v (Ok x) new taken same = subst (λ (k : CoreState). HaveConfig config (set cores node k)) (sym taken) (config_there v)
  config_given v (Err x) new taken same = λ k m. elim (among_set k cores node new m) [
    | inl e ↦ (ap (λ (c : CoreState). c.config) (sym e ∙ same) ∙ core_config, ap (λ (c : CoreState). c.asked) (sym e ∙ same) ∙ core_asked)
    | inr old ↦ have k old
  ]

-- a configuration within its limits has no fault
pub no_fault : (broken : Option ConfigFault) (why : StateFault) (fault : ConfigFault) → broken ≡ None → why ≡ start.Fault fault → IsStartFault broken why → ⊥
no_fault broken why fault none e is = never (subst (IsStartFault broken) e is)
  where
    never : broken ≡ Some fault → ⊥
    never f = (let g : None ≡ Some fault = sym none ∙ f in absurd cc)

-- ---- limits of formats

-- each vertex of each journal keeps the limits of its format
abbrev AllJournalsFit : Cluster → Type 0
AllJournalsFit c = (journal : List Vertex) → Among journal c.journals → AllFit journal

at_fit : (js : List (List Vertex)) (i : ℕ) → ((journal : List Vertex) → Among journal js → AllFit journal) → AllFit (get_or js i [])
at_fit [] i fit = λ v m. absurd m
at_fit (j ∷ js) zero fit = fit j (inl refl)
at_fit (j ∷ js) (suc i) fit = at_fit js i (λ journal m. fit journal (inr m))

push_fit : (vs : List Vertex) (v : Vertex) → AllFit vs → VertexFits v → AllFit (vs ++ v ∷ [])
push_fit vs v fit fits w m = elim (append_cases w vs (v ∷ []) m) [
  | inl old ↦ fit w old
  | inr new ↦ (elim new [ inl e ↦ subst VertexFits e fits | inr never ↦ absurd never ])
]

given_fit : (s : Setting) (c : Cluster) (node : ℕ) (v : Vertex) → AllJournalsFit c → VertexFits v → AllJournalsFit (after_delivery s c node v)
given_fit s c node v fit fits journal m = elim (among_set journal c.journals node (journal_after s (journal_at c node) (v, true)) m) [
  | inl e ↦ subst AllFit e (longer (is_accepted (answer s (journal_at c node) v true)))
  | inr old ↦ fit journal old
]
  where
    longer : (b : Bool) → AllFit (cond b (journal_at c node ++ v ∷ []) (journal_at c node))
    longer true = push_fit (journal_at c node) v (at_fit c.journals node fit) fits
    longer false = at_fit c.journals node fit

-- what a node plans keeps the limits of its format
pub core_plan_fits : (core : CoreState) (node now : ℕ) → config_fault core.config ≡ None → node < length core.config.weights → now < 2 ^ 63 → AllFit core.journal → (o : Option Plan) → o ≡ plan_in core node now → IfSome o (λ p. Fits p.unit)
core_plan_fits core node now lawful there early fit None e = tt
core_plan_fits core node now lawful there early fit (Some p) e =
    plan_fits (setting_of core.config) core.journal node now (value_at (setting_of core.config) node now) p (record { sound = lawful; validator = there; is = sym e }) fit early (value_short (setting_of core.config) node now)

-- ---- an action

-- there are as many nodes
pub nodes_stay : (c : ClusterState) (a : Action) → nodes_in (left_by c a) ≡ nodes_in c
nodes_stay c a = (only_grows (setting_of c.config) (nodes_in c) c.cluster a).0

module _ (c : ClusterState) (sound : IsSound c) where
  abbrev s : Setting
  s = setting_of c.config

  abbrev nodes : ℕ
  nodes = nodes_in c

  -- the journal of a node keeps the limits of formats
  pub journal_fit : (node : ℕ) → AllFit (journal_at c.cluster node)
  journal_fit node = at_fit c.cluster.journals node sound.fit

  planned_fits : (node now : ℕ) (p : Plan) → CanAct c (Step node now) → plan_at s c.cluster node now ≡ Some p → Fits p.unit
  planned_fits node now p can is = plan_fits s (journal_at c.cluster node) node now (value_at s node now) p planned (journal_fit node) can.1 (value_short s node now)
    where
      planned : IsPlanned s (journal_at c.cluster node) node now (value_at s node now) p
      planned = record { sound = sound.reached.run.config; validator = (let few = sound.reached.run.validators in let lt = can.0 in omega arith); is = is }

  possible : (a : Action) → CanAct c a → IsPossible nodes a
  possible (Step node now) can = can.0
  possible (Deliver node sent) can = can
  possible (Forge v) can = tt

  reached_after : (a : Action) → CanAct c a → IsReached (left_by c a)
  reached_after a can = record {
    actions = sound.reached.actions ++ a ∷ [];
    run = subst (λ (n : ℕ). IsRun s n (sound.reached.actions ++ a ∷ [])) (sym (nodes_stay c a)) (record {
      config = sound.reached.run.config;
      validators = sound.reached.run.validators;
      possible = λ b m. elim (append_cases b sound.reached.actions (a ∷ []) m) [
        | inl old ↦ sound.reached.run.possible b old
        | inr new ↦ (elim new [ inl e ↦ subst (IsPossible nodes) e (possible a can) | inr never ↦ absurd never ])
      ];
    });
    made =
        ap (λ (k : Cluster). after s nodes k a) sound.reached.made
        ∙ sym (fold_push (after s nodes) (begun nodes) sound.reached.actions a)
        ∙ ap (λ (n : ℕ). fold (after s n) (begun n) (sound.reached.actions ++ a ∷ [])) (sym (nodes_stay c a));
  }

  abbrev FitsAll : Cluster → Type 0
  FitsAll k = AllJournalsFit k × AllFit k.sent

  own_fit : (node : ℕ) (v : Vertex) → VertexFits v → FitsAll (after_own s c.cluster node v)
  own_fit node v fits = go (is_admitted (answer_at s c.cluster node v))
    where
      there : AllJournalsFit (after_delivery s c.cluster node v)
      there = given_fit s c.cluster node v sound.fit fits

      go : (b : Bool) → FitsAll (cond b (with_sent (after_delivery s c.cluster node v) v) (after_delivery s c.cluster node v))
      go true = (there, push_fit c.cluster.sent v sound.sent_fit fits)
      go false = (there, sound.sent_fit)

  fit_after : (a : Action) → CanAct c a → FitsAll (after s nodes c.cluster a)
  unfolding after
  fit_after (Step node now) can = go (plan_at s c.cluster node now) refl
    where
      go : (o : Option Plan) → plan_at s c.cluster node now ≡ o → FitsAll (elim o as (λ z. Cluster) [ None ↦ c.cluster | Some p ↦ after_own s c.cluster node (signed p.unit) ])
      go None e = (sound.fit, sound.sent_fit)
      go (Some p) e = own_fit node (signed p.unit) (planned_fits node now p can e)
  fit_after (Deliver node k) can = go (slice_get c.cluster.sent k) refl
    where
      go : (o : Option Vertex) → slice_get c.cluster.sent k ≡ o → FitsAll (elim o as (λ z. Cluster) [ None ↦ c.cluster | Some v ↦ after_delivery s c.cluster node v ])
      go None e = (sound.fit, sound.sent_fit)
      go (Some v) e = (given_fit s c.cluster node v sound.fit (sound.sent_fit v (found_among c.cluster.sent k v e)), sound.sent_fit)
  fit_after (Forge v) can = go (is_foreign nodes v)
    where
      go : (b : Bool) → FitsAll (cond b (with_sent c.cluster v) c.cluster)
      go true = (sound.fit, push_fit c.cluster.sent v sound.sent_fit can)
      go false = (sound.fit, sound.sent_fit)

  pub sound_after : (a : Action) → CanAct c a → IsSound (left_by c a)
  sound_after a can = record {
    some = subst (λ (n : ℕ). 1 ≤ n) (sym (nodes_stay c a)) sound.some;
    fit = (fit_after a can).0;
    sent_fit = (fit_after a can).1;
    reached = reached_after a can;
  }

  -- there are no more validators than an instance may have
  pub few_validators : length c.config.weights ≤ 1024
  few_validators = (within_limits c.config sound.reached.run.config).few

-- ---- the beginning

pub copies : {A : Type 0} (n : ℕ) (x y : A) → Among y (replicate n x) → x ≡ y
copies zero x y m = absurd m
copies (suc n) x y (inl e) = e
copies (suc n) x y (inr m) = copies n x y m

map_copies : {A B : Type 0} (f : A → B) (n : ℕ) (x : A) → map f (replicate n x) ≡ replicate n (f x)
map_copies f zero x = refl
map_copies f (suc n) x = ap (λ ys. f x ∷ ys) (map_copies f n x)

module _ (config : Config) (nodes : ℕ) where
  -- nodes that received nothing are the beginning of a cluster
  pub nodes_begun : nodes_of (replicate nodes (begun_core config)) [] ≡ begun nodes
  nodes_begun = (let e = map_copies (λ (k : CoreState). k.journal) nodes (begun_core config) in λ i. record { journals = e i; sent = [] })

  pub have_begun : HaveConfig config (replicate nodes (begun_core config))
  have_begun core m = (let e = sym (copies nodes (begun_core config) core m) in (ap (λ (k : CoreState). k.config) e, ap (λ (k : CoreState). k.asked) e))

  many : nodes_in (begun_with config nodes) ≡ nodes
  many = length-replicate nodes []

  pub sound_begun : config_fault config ≡ None → 1 ≤ nodes → nodes ≤ length config.weights → IsSound (begun_with config nodes)
  sound_begun lawful some few = record {
    some = (let e = many in omega arith);
    fit = λ journal m v n. absurd (subst (λ (vs : List Vertex). Among v vs) (sym (copies nodes [] journal m)) n);
    sent_fit = λ v m. absurd m;
    reached = record {
      actions = [];
      run = record { config = lawful; validators = (let e = many in omega arith); possible = λ a m. absurd m };
      made = ap begun (sym many);
    };
  }

  -- as many nodes that received nothing begin a cluster
  pub begun_is : (cores : List CoreState) → cores ≡ replicate nodes (begun_core config) → state_of config cores [] ≡ begun_with config nodes
  begun_is cores e = ap (λ (ks : List CoreState). state_of config ks []) e ∙ ap (λ (k : Cluster). let c : ClusterState = record { config = config; cluster = k } in c) nodes_begun

  pub begun_nodes : (cores : List CoreState) → cores ≡ replicate nodes (begun_core config) → config_fault config ≡ None → 1 ≤ nodes → nodes ≤ length config.weights → AreNodes config cores []
  begun_nodes cores e lawful some few = record {
    have = subst (HaveConfig config) (sym e) have_begun;
    sound = subst IsSound (sym (begun_is cores e)) (sound_begun lawful some few);
  }
