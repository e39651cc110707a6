-- The nodes of eras, and what deliveries and openings make of them.
use Rattle.std.proofs.Common.{◌≡◌, ℕ, zero, suc, ◌+◌, ◌-◌, ◌≤◌, ◌<◌, Bool, true, false, cond, List, [], ◌∷◌, ◌++◌, length, map, fold, Option, Some, None, Ok, IfSome, refl, sym, ap, subst, ◌∙◌, arith}
use Rattle.std.proofs.Math.ListN.{set, length-set, get_or}
use Rattle.std.specs.Prelude.{◌==◌, find, slice_get}
use Rattle.std.specs.Option.{option_map, option_and_then, option_or}
use Rattle.std.proofs.lemmas.List.{map-append, append-nil, length-append}
use Rattle.std.proofs.lemmas.List.Sums.{fold_push}
use Rattle.std.proofs.lemmas.List.Folds.{find-append}
use Rattle.hw_types.specs.declared.unit.Digest.{Digest}
use Rattle.hw_types.specs.declared.unit.Vertex.{Vertex}
use Rattle.hw_types.specs.declared.config.Config.{Config}
use Rattle.hw_types.specs.declared.answers.Decision.{Decision}
use Rattle.hw_types.specs.declared.answers.Receipt.{Receipt}
use Rattle.hw_types.specs.declared.answers.Cause.{Cause}
use Rattle.hw_types.specs.Graph.{Node, find_node}
use Rattle.hw_types.specs.Below.{Among}
use Rattle.hw_types.specs.Journal.{Setting, answer, is_accepted, journal_after}
use Rattle.hw_types.specs.Decisions.{AreDecisions}
use Rattle.hw_types.specs.Real.{CoreState, setting_of, answer_in, after_in}
use Rattle.hw_types.proofs.WordsLaws.{found_node, find_node_is}
use Rattle.hw_safety.specs.Decided.{decisions_of}
use Rattle.hw_safety.proofs.DecidedLaws.{decisions_are}
use Rattle.hw_safety.proofs.HeightLaws.{one_block_each}
use Rattle.hw_safety.specs.Chain.{Begins}
use Rattle.hw_safety.proofs.StoodLaws.{settled_in, graph_in, stays}
use Rattle.hw_safety.proofs.DetectorLaws.{only_grow}
use Rattle.hw_eras.specs.Eras.{next_config, Era, journal_in, last_block, value_of, AreEras}
use Rattle.hw_core.specs.Deliver.{IsRefusal}
use Rattle.hw_core.specs.Promises.{begun as begun_core}
use Rattle.hw_eras.specs.declared.answers.EraCause.TheVariants as era_cause
use Rattle.hw_eras.specs.Nodes.{real, era_of, IsMadeAgain, next_of, AreErasFrom, first_config, last_core, AreNodeEras, HasDelivered, IsEraRefusal, HasOpened}
use Rattle.hw_eras.specs.Laws.{NodesAreEras, NodesAreOneChain, NextStays}
use Rattle.hw_eras.proofs.EraLaws.{last_is, after_is, node_chain}

-- ---- a journal that its vertices make again

-- nothing is accepted with a false verdict
accepted_true : (s : Setting) (journal : List Vertex) (v : Vertex) (verdict : Bool) → is_accepted (answer s journal v verdict) ≡ true → verdict ≡ true
unfolding answer
accepted_true s journal v true h = refl
accepted_true s journal v false h = absurd (let bad : false ≡ true = h in cc)

pub made_begun : (config : Config) → IsMadeAgain (begun_core config)
made_begun config = refl

module _ (c : CoreState) (v : Vertex) (verdict : Bool) where
  abbrev s : Setting
  s = setting_of c.config

  -- the journal is the same, or one vertex longer
  longer : (more : List Vertex) × ((after_in c v verdict).journal ≡ c.journal ++ more)
  longer = go (is_accepted (answer s c.journal v verdict))
    where
      go : (b : Bool) → (more : List Vertex) × (cond b (c.journal ++ v ∷ []) c.journal ≡ c.journal ++ more)
      go true = (v ∷ [], refl)
      go false = ([], sym (append-nil c.journal))

  pub made_after : IsMadeAgain c → IsMadeAgain (after_in c v verdict)
  made_after made = go (is_accepted (answer s c.journal v verdict)) refl
    where
      go : (b : Bool) → is_accepted (answer s c.journal v verdict) ≡ b → IsMadeAgain (record c { journal = cond b (c.journal ++ v ∷ []) c.journal })
      go false e = made
      go true e =
          let took : is_accepted (answer s c.journal v true) ≡ true = subst (λ b. is_accepted (answer s c.journal v b) ≡ true) (accepted_true s c.journal v verdict e) e in
          ap (λ ds. fold (journal_after s) [] ds) (map-append (λ (w : Vertex). (w, true)) c.journal (v ∷ []))
          ∙ fold_push (journal_after s) [] (map (λ (w : Vertex). (w, true)) c.journal) (v, true)
          ∙ ap (λ j. journal_after s j (v, true)) made
          ∙ ap (λ b. cond b (c.journal ++ v ∷ []) c.journal) took

-- its decisions are those of its node
pub era_decisions : (c : CoreState) → IsMadeAgain c → AreDecisions (setting_of c.config) (journal_in (setting_of c.config) (era_of c)) (era_of c).decisions
era_decisions c made =
    let s = setting_of c.config in
    subst (λ j. AreDecisions s j (decisions_of s c.journal)) (sym made) (decisions_are s c.journal (one_block_each s c.journal))

-- ---- the last block stays

module _ (s : Setting) (e f : Era) (more : List Vertex) (longer : journal_in s f ≡ journal_in s e ++ more)
    (left : AreDecisions s (journal_in s e) e.decisions) (right : AreDecisions s (journal_in s f) f.decisions) where
  begun_by : Begins e.decisions f.decisions
  begun_by = only_grow s (journal_in s e) more e.decisions f.decisions left (subst (λ j. AreDecisions s j f.decisions) longer right)

  -- a decision that is found is found later too
  still_found : (p : Decision → Bool) (d : Decision) → find p e.decisions ≡ Some d → find p f.decisions ≡ Some d
  still_found p d h = ap (λ ds. find p ds) begun_by.1 ∙ find-append p e.decisions begun_by.0 ∙ ap (λ o. option_or o (find p begun_by.0)) h

  -- and so is its block
  still_named : (b : Node) (d : Digest) → find_node (settled_in s (journal_in s e)) d ≡ Some b → find_node (settled_in s (journal_in s f)) d ≡ Some b
  still_named b d h =
      let is = find_node_is (settled_in s (journal_in s e)) b d h in
      found_node (settled_in s (journal_in s f)) b d (graph_in s (journal_in s f)).one_name (subst (λ j. Among b (settled_in s j)) (sym longer) (stays s (journal_in s e) more b is.0)) is.1

  pub last_stays : (b : Node) → last_block s e ≡ Some b → last_block s f ≡ Some b
  unfolding last_block
  last_stays b h =
      let l = last_is s e b h in
      ap (option_and_then (λ end. option_and_then (λ (d : Decision). find_node (settled_in s (journal_in s f)) d.block) (find (λ (d : Decision). d.height == end) f.decisions))) l.ends
      ∙ ap (option_and_then (λ (d : Decision). find_node (settled_in s (journal_in s f)) d.block)) (still_found (λ (d : Decision). d.height == l.end) l.decision l.found)
      ∙ still_named b l.decision.block l.named

pub next_stays : NextStays
next_stays c v verdict next made h =
    let s = setting_of c.config in
    let e = era_of c in
    let f = era_of (after_in c v verdict) in
    let m = longer c v verdict in
    let now = made_after c v verdict made in
    let b = after_is s e next h in
    let last = last_stays s e f m.0 (now ∙ m.1 ∙ ap (λ j. j ++ m.0) (sym made)) (era_decisions c made) (era_decisions (after_in c v verdict) now) b.0 b.1 in
    ap (option_map (λ (x : Node). next_config c.config x.digest (value_of x))) last ∙ ap Some (sym b.2)

-- ---- the nodes of eras

-- a delivery to one of them
delivered_from : (next : Option Config) (cores : List CoreState) (era : ℕ) (core : CoreState) (v : Vertex) (verdict : Bool) → AreErasFrom next cores → slice_get cores era ≡ Some core
    → AreErasFrom next (set cores era (after_in core v verdict))
delivered_from next [] era core v verdict are e = tt
delivered_from next (c ∷ []) zero core v verdict are e =
    let same : c ≡ core = cc in
    subst (λ (k : CoreState). AreErasFrom next (after_in k v verdict ∷ [])) same (are.0, made_after c v verdict are.1, tt)
delivered_from next (c ∷ d ∷ ds) zero core v verdict are e =
    let same : c ≡ core = cc in
    subst (λ (k : CoreState). AreErasFrom next (after_in k v verdict ∷ d ∷ ds)) same
    (are.0, made_after c v verdict are.1, (next_stays c v verdict d.config are.1 are.2.0, are.2.1, are.2.2))
delivered_from next (c ∷ cs) (suc era) core v verdict are e = (are.0, are.1, delivered_from (next_of c) cs era core v verdict are.2 e)

-- the first configuration stays
first_stays : (cores : List CoreState) (era : ℕ) (core : CoreState) (v : Vertex) (verdict : Bool) → slice_get cores era ≡ Some core → first_config (set cores era (after_in core v verdict)) ≡ first_config cores
first_stays [] era core v verdict e = absurd cc
first_stays (c ∷ cs) zero core v verdict e = (let same : core ≡ c = cc in ap (λ (k : CoreState). Some k.config) same)
first_stays (c ∷ cs) (suc era) core v verdict e = refl

pub delivered : (cores : List CoreState) (era : ℕ) (core : CoreState) (v : Vertex) (verdict : Bool) → AreNodeEras cores → slice_get cores era ≡ Some core → AreNodeEras (set cores era (after_in core v verdict))
delivered cores era core v verdict are e = record {
  some = subst (λ n. 1 ≤ n) (sym (length-set cores era (after_in core v verdict))) are.some;
  few = subst (λ n. n ≤ 64) (sym (length-set cores era (after_in core v verdict))) are.few;
  eras = subst (λ o. AreErasFrom o (set cores era (after_in core v verdict))) (sym (first_stays cores era core v verdict e)) (delivered_from (first_config cores) cores era core v verdict are.eras e);
}

-- another node in the place of the last one
put_from : (next : Option Config) (cores : List CoreState) (k : ℕ) (old core : CoreState) → AreErasFrom next cores → length cores ≡ suc k → slice_get cores k ≡ Some old → core.config ≡ old.config → IsMadeAgain core
    → AreErasFrom next (set cores k core)
put_from next [] k old core are long e config made = absurd (omega arith)
put_from next (c ∷ []) zero old core are long e config made =
    let same : old ≡ c = cc in
    (are.0 ∙ ap (λ (x : CoreState). Some x.config) (sym same) ∙ ap Some (sym config), made, tt)
put_from next (c ∷ []) (suc k) old core are long e config made = absurd (omega arith)
put_from next (c ∷ d ∷ ds) zero old core are long e config made = absurd (omega arith)
put_from next (c ∷ d ∷ ds) (suc k) old core are long e config made = (are.0, are.1, put_from (next_of c) (d ∷ ds) k old core are.2 (omega arith) e config made)

-- its configuration was the same
pub first_put : (cores : List CoreState) (k : ℕ) (old core : CoreState) → slice_get cores k ≡ Some old → core.config ≡ old.config → first_config (set cores k core) ≡ first_config cores
first_put [] k old core e config = absurd cc
first_put (c ∷ cs) zero old core e config = (let same : old ≡ c = cc in ap Some (config ∙ ap (λ (x : CoreState). x.config) same))
first_put (c ∷ cs) (suc k) old core e config = refl

pub put_last : (cores : List CoreState) (old core : CoreState) → AreNodeEras cores → last_core cores ≡ Some old → core.config ≡ old.config → IsMadeAgain core → AreNodeEras (set cores (length cores - 1) core)
put_last [] old core are e config made = absurd cc
put_last (c ∷ cs) old core are e config made =
    let k = length cs in
    let at : length (c ∷ cs) - 1 ≡ k = omega arith in
    let its : slice_get (c ∷ cs) k ≡ Some old = subst (λ (n : ℕ). slice_get (c ∷ cs) n ≡ Some old) at e in
    record {
      some = subst (λ (n : ℕ). 1 ≤ n) (sym (length-set (c ∷ cs) (length (c ∷ cs) - 1) core)) are.some;
      few = subst (λ (n : ℕ). n ≤ 64) (sym (length-set (c ∷ cs) (length (c ∷ cs) - 1) core)) are.few;
      eras = subst (λ (n : ℕ). AreErasFrom (first_config (set (c ∷ cs) n core)) (set (c ∷ cs) n core)) (sym at)
          (subst (λ (o : Option Config). AreErasFrom o (set (c ∷ cs) k core)) (sym (first_put (c ∷ cs) k old core its config))
          (put_from (first_config (c ∷ cs)) (c ∷ cs) k old core are.eras (omega arith) its config made));
    }

-- one more era
opened_from : (next : Option Config) (cores : List CoreState) (k : ℕ) (core : CoreState) (config : Config) → AreErasFrom next cores → length cores ≡ suc k → slice_get cores k ≡ Some core → next_of core ≡ Some config
    → AreErasFrom next (cores ++ begun_core config ∷ [])
opened_from next [] k core config are long e named = absurd (omega arith)
opened_from next (c ∷ []) zero core config are long e named =
    let same : core ≡ c = cc in
    (are.0, are.1, (subst (λ (x : CoreState). next_of x ≡ Some config) same named, made_begun config, tt))
opened_from next (c ∷ []) (suc k) core config are long e named = absurd (omega arith)
opened_from next (c ∷ d ∷ ds) zero core config are long e named = absurd (omega arith)
opened_from next (c ∷ d ∷ ds) (suc k) core config are long e named = (are.0, are.1, opened_from (next_of c) (d ∷ ds) k core config are.2 (omega arith) e named)

pub opened : (cores : List CoreState) (core : CoreState) (config : Config) → AreNodeEras cores → length cores < 64 → last_core cores ≡ Some core → next_of core ≡ Some config
    → AreNodeEras (cores ++ begun_core config ∷ [])
opened [] core config are lt e named = absurd cc
opened (c ∷ cs) core config are lt e named = record {
  some = omega arith;
  few = subst (λ n. n ≤ 64) (sym (length-append (c ∷ cs) (begun_core config ∷ []))) (let so : suc (length cs) + 1 ≤ 64 = omega arith in so);
  eras = opened_from (first_config (c ∷ cs)) (c ∷ cs) (length cs) core config are.eras (omega arith) (subst (λ n. slice_get (c ∷ cs) n ≡ Some core) (omega arith) e) named;
}

pub opened_has : (before after : List CoreState) (number : ℕ) → AreNodeEras before → length before < 64 → HasOpened before after number → AreNodeEras after
opened_has before after number are lt has = subst AreNodeEras (sym has.left) (opened before has.core has.config are lt has.last has.named)

pub begun : (config : Config) → AreNodeEras (begun_core config ∷ [])
begun config = record { some = omega arith; few = omega arith; eras = (refl, made_begun config, tt) }

-- each node of them made its journal
pub made_at : (next : Option Config) (cores : List CoreState) (k : ℕ) (core : CoreState) → AreErasFrom next cores → slice_get cores k ≡ Some core → IsMadeAgain core
made_at next [] k core are e = absurd cc
made_at next (c ∷ cs) zero core are e = (let same : c ≡ core = cc in subst IsMadeAgain same are.1)
made_at next (c ∷ cs) (suc k) core are e = made_at (next_of c) cs k core are.2 e

-- ---- a call on one of them

got : (cores : List CoreState) (era : ℕ) (core : CoreState) → era < length cores → core ≡ get_or cores era core → slice_get cores era ≡ Some core
got [] era core lt e = absurd (omega arith)
got (c ∷ cs) zero core lt e = ap Some (sym e)
got (c ∷ cs) (suc era) core lt e = got cs era core (omega arith) e

put_back : (cores : List CoreState) (era : ℕ) (core : CoreState) → slice_get cores era ≡ Some core → set cores era core ≡ cores
put_back [] era core e = refl
put_back (c ∷ cs) zero core e = (let same : core ≡ c = cc in ap (λ (k : CoreState). k ∷ cs) same)
put_back (c ∷ cs) (suc era) core e = ap (λ (ks : List CoreState). c ∷ ks) (put_back cs era core e)

module _ (cores : List CoreState) (era : ℕ) (core new : CoreState) (v : Vertex) (verdict : Bool) (lt : era < length cores) (is : core ≡ get_or cores era core) where
  abbrev its : slice_get cores era ≡ Some core
  its = got cores era core lt is

  pub has_delivered : (receipt : Receipt) → answer_in core v verdict ≡ Ok receipt → new ≡ after_in core v verdict → HasDelivered cores (set cores era new) era v verdict receipt
  has_delivered receipt answer taken = record { core = core; its = its; answer = answer; left = ap (λ (k : CoreState). set cores era k) taken }

  pub has_eras : AreNodeEras cores → new ≡ after_in core v verdict → AreNodeEras (set cores era new)
  has_eras are taken = subst (λ (k : CoreState). AreNodeEras (set cores era k)) (sym taken) (delivered cores era core v verdict are its)

  pub is_refusal : (cause : Cause) → IsRefusal cause (answer_in core v verdict) → IsEraRefusal cores era v verdict (era_cause.Core cause)
  is_refusal cause refused = (core, its, refused)

  pub as_it_was : new ≡ core → set cores era new ≡ cores
  as_it_was same = ap (λ (k : CoreState). set cores era k) same ∙ put_back cores era core its

-- another one in the place of the last one
pub has_put : (cores : List CoreState) (k : ℕ) (last core new : CoreState) → k ≡ length cores - 1 → last ≡ get_or cores k last → AreNodeEras cores → IsMadeAgain core → IfSome (last_core cores) (λ x. core.config ≡ x.config) → new ≡ core
    → AreNodeEras (set cores k new)
has_put cores k last core new at is are made config same =
    let some = are.some in
    let its : last_core cores ≡ Some last = subst (λ (n : ℕ). slice_get cores n ≡ Some last) at (got cores k last (omega arith) is) in
    let like : core.config ≡ last.config = subst (λ (o : Option CoreState). IfSome o (λ x. core.config ≡ x.config)) its config in
    subst (λ (n : ℕ). AreNodeEras (set cores n new)) (sym at) (subst (λ (x : CoreState). AreNodeEras (set cores (length cores - 1) x)) (sym same) (put_last cores last core are its like made))

-- ---- they are eras

eras_from : (next : Option Config) (cores : List CoreState) → AreErasFrom next cores → AreEras real next (map era_of cores)
eras_from next [] are = tt
eras_from None (c ∷ cs) are = absurd (let bad = are.0 in cc)
eras_from (Some config) (c ∷ cs) are =
    let same : c.config ≡ config = (let e = are.0 in cc) in
    subst (λ (k : Config). AreEras real (Some k) (map era_of (c ∷ cs))) same (era_decisions c are.1, eras_from (next_of c) cs are.2)

pub nodes_eras : NodesAreEras
nodes_eras cores config are first = eras_from (Some config) cores (subst (λ o. AreErasFrom o cores) first are.eras)

pub nodes_chain : NodesAreOneChain
nodes_chain cores config are first = node_chain real config (map era_of cores) (nodes_eras cores config are first)
