-- What is counted of a cluster.
use Rattle.std.proofs.Common.{◌≡◌, ℕ, ◌+◌, ◌<◌, ◌≤◌, inl, inr, Bool, true, false, cond, List, [], ◌∷◌, None, length, map, get_or, take, drop, refl, sym, ap, ◌∙◌, arith}
use Rattle.std.specs.Prelude.{◌&&◌, ◌||◌, ◌==◌, not, filter, max}
use Rattle.std.specs.List.{list_any, range_with_len}
use Rattle.std.proofs.lemmas.Bool.{cases_lt, cases_eq}
use Rattle.std.proofs.lemmas.List.{get_or-map, get_or_read, take_all, drop_more, drop_all}
use Rattle.std.proofs.lemmas.List.Filters.{length-filter_more}
use Rattle.std.proofs.lemmas.List.FromFn.{length-range_with_len, get_or-range_with_len}
use Rattle.std.proofs.lemmas.List.Folds.{list_any-append}
use Rattle.hw_types.specs.declared.unit.SignedUnit.{SignedUnit}
use Rattle.hw_types.specs.declared.unit.Vertex.{Vertex}
use Rattle.hw_types.specs.declared.config.Config.{Config}
use Rattle.hw_types.specs.declared.answers.Decision.{Decision}
use Rattle.hw_types.specs.Graph.{Node}
use Rattle.hw_types.specs.Same.{unit_eq}
use Rattle.hw_types.specs.Settled.{validators}
use Rattle.hw_types.specs.Journal.{Setting, named}
use Rattle.hw_types.specs.Culprits.{signed_in, equivocations_of}
use Rattle.hw_types.specs.Real.{CoreState, setting_of}
use Rattle.hw_types.specs.Decisions.{AreDecisions}
use Rattle.hw_types.proofs.DecisionLaws.{decisions_one}
use Rattle.hw_safety.specs.Decided.{decisions_of}
use Rattle.hw_safety.proofs.DecidedLaws.{decisions_are}
use Rattle.hw_safety.proofs.HeightLaws.{one_block_each}
use Rattle.hw_core.specs.Decided.{decided_in}
use Rattle.hw_safety.specs.Verdicts.{held_in}
use Rattle.hw_honest.specs.Cluster.{journal_at}
use Rattle.hw_honest.specs.Simulated.{culprits_in, sent_units, IsMostDecisions}
use Rattle.hw_cluster.specs.Counts.{has_other, equivocates_in}
use Rattle.hw_cluster.specs.Nodes.{nodes_of, HaveConfig}
use Rattle.hw_cluster.proofs.NodesLaws.{got_among}

-- ---- tests over lists

any_agrees : {A : Type 0} (p q : A → Bool) → ((x : A) → p x ≡ q x) → (xs : List A) → list_any p xs ≡ list_any q xs
any_agrees p q same [] = refl
any_agrees p q same (x ∷ xs) = ap (λ b. b || list_any p xs) (same x) ∙ ap (λ b. q x || b) (any_agrees p q same xs)

any_map : {A B : Type 0} (p : B → Bool) (f : A → B) (xs : List A) → list_any p (map f xs) ≡ list_any (λ x. p (f x)) xs
any_map p f [] = refl
any_map p f (x ∷ xs) = ap (λ b. p (f x) || b) (any_map p f xs)

any_filter : {A : Type 0} (p : A → Bool) (xs : List A) → list_any (λ x. true) (filter p xs) ≡ list_any p xs
any_filter p [] = refl
any_filter p (x ∷ xs) = go (p x) (any_filter p xs)
  where
    go : (b : Bool) → list_any (λ x. true) (filter p xs) ≡ list_any p xs → list_any (λ x. true) (cond b (x ∷ filter p xs) (filter p xs)) ≡ (b || list_any p xs)
    go true rest = refl
    go false rest = rest

filter_agrees : {A : Type 0} (p q : A → Bool) → ((x : A) → p x ≡ q x) → (xs : List A) → filter p xs ≡ filter q xs
filter_agrees p q same [] = refl
filter_agrees {A} p q same (x ∷ xs) = ap (λ b. cond b (x ∷ filter p xs) (filter p xs)) (same x) ∙ ap (λ (ys : List A). cond (q x) (x ∷ ys) ys) (filter_agrees p q same xs)

-- ---- culprits

module _ (config : Config) (sent : List Vertex) where
  abbrev s : Setting
  s = setting_of config

  culprit_is : (v : ℕ) → list_any (λ x. true) (equivocations_of (sent_units s (nodes_of [] sent)) v) ≡ equivocates_in sent v
  culprit_is v =
      any_filter (λ (x : Node). (x.unit.creator == v) && list_any (λ y. (y.unit.creator == v) && (y.unit.seq == x.unit.seq) && not (unit_eq x.unit y.unit)) units) units
      ∙ any_map (λ (x : Node). (x.unit.creator == v) && list_any (λ y. (y.unit.creator == v) && (y.unit.seq == x.unit.seq) && not (unit_eq x.unit y.unit)) units) (λ (u : SignedUnit). named s u.unit) (held_in sent)
      ∙ any_agrees (λ (u : SignedUnit). (u.unit.creator == v) && list_any (λ y. (y.unit.creator == v) && (y.unit.seq == u.unit.seq) && not (unit_eq u.unit y.unit)) units) (has_other v (held_in sent))
      (λ u. ap (λ b. (u.unit.creator == v) && b) (any_map (λ (y : Node). (y.unit.creator == v) && (y.unit.seq == u.unit.seq) && not (unit_eq u.unit y.unit)) (λ (w : SignedUnit). named s w.unit) (held_in sent))) (held_in sent)
    where
      units : List Node
      units = map (λ (u : SignedUnit). named s u.unit) (held_in sent)

  pub culprits_are : culprits_in s (nodes_of [] sent) ≡ filter (equivocates_in sent) (validators config)
  culprits_are = filter_agrees (λ v. list_any (λ x. true) (equivocations_of (sent_units s (nodes_of [] sent)) v)) (equivocates_in sent) culprit_is (validators config)

-- of what was sent alone
pub culprits_of_sent : (s : Setting) (cores : List CoreState) (sent : List Vertex) → culprits_in s (nodes_of cores sent) ≡ culprits_in s (nodes_of [] sent)
culprits_of_sent s cores sent = refl

-- ---- a vertex after the other

-- what these and the ones before say is what the rest says, where the next one says nothing
pub next_vertex : (p : SignedUnit → Bool) (sent : List Vertex) (i : ℕ) (v : Vertex) → i < length sent → v ≡ get_or sent i v → list_any p (signed_in v) ≡ false
    → list_any p (held_in (drop i sent)) ≡ list_any p (held_in (drop (i + 1) sent))
next_vertex p sent i v lt is none =
    ap (λ (vs : List Vertex). list_any p (held_in vs)) (drop_more sent i v lt ∙ ap (λ (w : Vertex). w ∷ drop (i + 1) sent) (sym is))
    ∙ list_any-append p (signed_in v) (held_in (drop (i + 1) sent))
    ∙ ap (λ b. b || list_any p (held_in (drop (i + 1) sent))) none

-- the next one says so
pub that_vertex : (p : SignedUnit → Bool) (sent : List Vertex) (i : ℕ) (v : Vertex) → i < length sent → v ≡ get_or sent i v → list_any p (signed_in v) ≡ true
    → list_any p (held_in (drop i sent)) ≡ true
that_vertex p sent i v lt is some =
    ap (λ (vs : List Vertex). list_any p (held_in vs)) (drop_more sent i v lt ∙ ap (λ (w : Vertex). w ∷ drop (i + 1) sent) (sym is))
    ∙ list_any-append p (signed_in v) (held_in (drop (i + 1) sent))
    ∙ ap (λ b. b || list_any p (held_in (drop (i + 1) sent))) some

-- there is no next one
pub no_vertex : (p : SignedUnit → Bool) (sent : List Vertex) (i : ℕ) → length sent ≤ i → list_any p (held_in (drop i sent)) ≡ false
no_vertex p sent i over = ap (λ (vs : List Vertex). list_any p (held_in vs)) (drop_all i sent over)

-- ---- how many

-- of the first numbers, one more is counted where it passes
pub count_more : (p : ℕ → Bool) (n i : ℕ) → i < n → length (filter p (take (i + 1) (range_with_len 0 n))) ≡ length (filter p (take i (range_with_len 0 n))) + cond (p i) 1 0
count_more p n i lt =
    length-filter_more p (range_with_len 0 n) i 0 (let e = length-range_with_len 0 n in omega arith)
    ∙ ap (λ k. length (filter p (take i (range_with_len 0 n))) + cond (p k) 1 0) (get_or-range_with_len 0 n i 0 lt ∙ (let e : 0 + i ≡ i = omega arith in e))

pub count_all : (p : ℕ → Bool) (n i : ℕ) → n ≤ i → length (filter p (take i (range_with_len 0 n))) ≡ length (filter p (range_with_len 0 n))
count_all p n i le = ap (λ (xs : List ℕ). length (filter p xs)) (take_all i (range_with_len 0 n) (let e = length-range_with_len 0 n in omega arith))

-- ---- the most decisions

-- how many blocks a node has decided
abbrev pub decided_by : CoreState → ℕ
decided_by core = length (decided_in core)

-- of the first nodes one has so many decisions, or there is none, and none has more
pub record IsMostOf (cores : List CoreState) (i most : ℕ) : Type 0 where
  pub none : i ≡ 0 → most ≡ 0
  pub node : 0 < i → (k : ℕ) × (k < i) × ((d : CoreState) → decided_by (get_or cores k d) ≡ most)
  pub more : (k : ℕ) (d : CoreState) → k < i → decided_by (get_or cores k d) ≤ most

pub most_of_none : (cores : List CoreState) → IsMostOf cores 0 0
most_of_none cores = record { none = λ e. refl; node = λ lt. absurd (omega arith); more = λ k d lt. absurd (omega arith) }

pub most_of_more : (cores : List CoreState) (i most : ℕ) (core : CoreState) (next : ℕ) → i < length cores → core ≡ get_or cores i core → IsMostOf cores i most → next ≡ max most (decided_by core) → IsMostOf cores (i + 1) next
most_of_more cores i most core next lt is old e = record {
  none = λ z. absurd (omega arith);
  node = λ z. elim (cases_lt most (decided_by core)) [
    | inl above ↦ (i, omega arith, λ d. ap decided_by (at d) ∙ (let m = e in omega arith))
    | inr under ↦ (elim (cases_lt 0 i) [
      | inl some ↦ (let k = old.node some in (k.0, (let l = k.1 in omega arith), λ d. k.2 d ∙ (let m = e in omega arith)))
      | inr empty ↦ (let z2 : most ≡ 0 = old.none (omega arith) in (i, omega arith, λ d. ap decided_by (at d) ∙ (let m = e in omega arith)))
    ])
  ];
  more = λ k d l. elim (cases_eq k i) [
    | inl same ↦ (let f : decided_by (get_or cores k d) ≡ decided_by core = ap (λ j. decided_by (get_or cores j d)) same ∙ ap decided_by (at d) in let m = e in omega arith)
    | inr other ↦ (let le = old.more k d (omega arith) in let m = e in omega arith)
  ];
}
  where
    at : (d : CoreState) → get_or cores i d ≡ core
    at d = sym (get_or_read cores i core lt is d)

module _ (config : Config) (cores : List CoreState) (sent : List Vertex) (have : HaveConfig config cores) where
  there : (k : ℕ) (lt : k < length cores) (d : CoreState) → decided_in (get_or cores k d) ≡ decisions_of (setting_of config) (journal_at (nodes_of cores sent) k)
  there k lt d =
      ap (λ (c : Config). decisions_of (setting_of c) (get_or cores k d).journal) (have (get_or cores k d) (got_among cores k d lt)).0
      ∙ ap (λ (j : List Vertex). decisions_of (setting_of config) j) (sym (get_or-map (λ (c : CoreState). c.journal) cores k d [] lt))

  pub most_is : (most : ℕ) → 1 ≤ length cores → IsMostOf cores (length cores) most → IsMostDecisions (setting_of config) (length cores) (nodes_of cores sent) most
  most_is most some old =
      let k = old.node (omega arith) in
      let d : CoreState = record { config = config; journal = []; asked = None } in record {
        node = k.0;
        there = k.1;
        decisions = decisions_of (setting_of config) (journal_at (nodes_of cores sent) k.0);
        decided = are (journal_at (nodes_of cores sent) k.0);
        count = ap (λ (ds : List Decision). length ds) (sym (there k.0 k.1 d)) ∙ k.2 d;
        most = λ other ds lt decided. (
            let same = ap (λ (es : List Decision). length es) (decisions_one (setting_of config) (journal_at (nodes_of cores sent) other) ds (decisions_of (setting_of config) (journal_at (nodes_of cores sent) other)) decided (are (journal_at (nodes_of cores sent) other)) ∙ sym (there other lt d)) in
            let le = old.more other d lt in
            omega arith);
      }
    where
      are : (journal : List Vertex) → AreDecisions (setting_of config) journal (decisions_of (setting_of config) journal)
      are journal = decisions_are (setting_of config) journal (one_block_each (setting_of config) journal)
