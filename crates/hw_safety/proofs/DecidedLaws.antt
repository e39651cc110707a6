-- The decisions that are worked out are those of the definition, where no two blocks of one height stand at one moment.
use Rattle.std.proofs.Common.{◌≡◌, ℕ, zero, suc, ◌⊎◌, ◌+◌, ◌≤◌, ◌<◌, inl, inr, Bool, true, false, cond, List, [], ◌∷◌, length, Option, Some, None, refl, sym, ap, subst, ◌∙◌, arith}
use Rattle.std.specs.Prelude.{◌==◌, nat_le, not, find, filter, is_some, All, Any, slice_index_or}
use Rattle.std.specs.List.{list_any, range_with_len, flat_map, AllAdjacentBelow}
use Rattle.std.proofs.lemmas.Bool.{cases_lt, leb-true, le-leb, eqb-true, eq-eqb}
use Rattle.hw_types.specs.declared.unit.Vertex.{Vertex}
use Rattle.hw_types.specs.declared.answers.Decision.{Decision}
use Rattle.hw_types.specs.Graph.{Node, digest_eq}
use Rattle.hw_types.specs.Below.{Among}
use Rattle.hw_types.specs.Votes.{ForkAt, unit_fork, height_within, height_of}
use Rattle.hw_types.specs.Settled.{settled_of, panorama_of, faulty_weight}
use Rattle.hw_types.specs.Journal.{Setting}
use Rattle.hw_types.specs.Decisions.{received_at, StoodAt, IsRecord, ComesBefore, AreDecisions}
use Rattle.hw_safety.specs.Pruned.{or_zero, has_summit}
use Rattle.hw_safety.specs.Decided.{quorum_at, moment_of, moment, least_level, stood_at, decided_at, fresh_at, decision_of, decision_at, newly_decided, decisions_of, OneBlockEach}
use Rattle.hw_types.proofs.ClosureLaws.{Among-filter, filter-Among}
use Rattle.hw_types.proofs.PastLaws.{some_of, any_of}
use Rattle.hw_types.proofs.StableLaws.{find_one, found_one}
use Rattle.hw_types.proofs.SettledLaws.{digest_self, digest_same, append_left}
use Rattle.hw_types.proofs.ChoiceLaws.{IsGraph}
use Rattle.hw_types.proofs.WalkLaws.{settled_graph}
use Rattle.hw_types.proofs.JournalLaws.{received_rising}
use Rattle.hw_types.proofs.QuorumLaws.{quotient_is_quorum}
use Rattle.hw_safety.proofs.PrunedLaws.{among_range, range_among, summit_is_left}
use Rattle.hw_safety.proofs.StandLaws.{quorum_is_one, pruned_by_name, summit_block}
use Rattle.hw_types.proofs.OrderedLaws.{IsOrdered, ordered_append, adjacent_of, place_in, any_among}
use Rattle.hw_types.proofs.EntryLaws.{append_cases}
use Rattle.hw_types.proofs.UnionLaws.{from_right}

-- ---- the first number of a range that passes

pub find_range : (p : ℕ → Bool) (a n k : ℕ) → find p (range_with_len a n) ≡ Some k → (a ≤ k) × (k < a + n) × (p k ≡ true) × ((i : ℕ) → a ≤ i → p i ≡ true → k ≤ i)
find_range p a zero k e = absurd cc
find_range p a (suc n) k e = go (p a) refl e (λ h. find_range p (a + 1) n k h)
  where
    go : (b : Bool) → p a ≡ b → cond b (Some a) (find p (range_with_len (a + 1) n)) ≡ Some k
        → (find p (range_with_len (a + 1) n) ≡ Some k → (a + 1 ≤ k) × (k < a + 1 + n) × (p k ≡ true) × ((i : ℕ) → a + 1 ≤ i → p i ≡ true → k ≤ i))
        → (a ≤ k) × (k < a + suc n) × (p k ≡ true) × ((i : ℕ) → a ≤ i → p i ≡ true → k ≤ i)
    go true t h later = let same : a ≡ k = cc in (omega arith, omega arith, subst (λ i. p i ≡ true) same t, λ i le s. omega arith)
    go false t h later =
        let rest = later h in
        let r0 = rest.0 in let r1 = rest.1 in (
          omega arith,
          omega arith,
          rest.2,
          λ i le s. elim (cases_lt a i) [
            | inl lt ↦ rest.3 i (omega arith) s
            | inr ge ↦ absurd (let same : a ≡ i = omega arith in let bad : false ≡ true = sym t ∙ ap p same ∙ s in cc)
          ],
        )

pub find_range_has : (p : ℕ → Bool) (a n k : ℕ) → a ≤ k → k < a + n → p k ≡ true → (m : ℕ) × (find p (range_with_len a n) ≡ Some m) × (m ≤ k)
find_range_has p a zero k low high t = absurd (omega arith)
find_range_has p a (suc n) k low high t = go (p a) refl (λ lt. find_range_has p (a + 1) n k (omega arith) (omega arith) t)
  where
    go : (b : Bool) → p a ≡ b → (a < k → (m : ℕ) × (find p (range_with_len (a + 1) n) ≡ Some m) × (m ≤ k)) → (m : ℕ) × (cond b (Some a) (find p (range_with_len (a + 1) n)) ≡ Some m) × (m ≤ k)
    go true s later = (a, refl, low)
    go false s later = elim (cases_lt a k) [
      | inl lt ↦ later lt
      | inr ge ↦ absurd (let same : a ≡ k = omega arith in let bad : false ≡ true = sym s ∙ ap p same ∙ t in cc)
    ]

find_has : {A : Type 0} (p : A → Bool) (xs : List A) (x : A) → Among x xs → p x ≡ true → (y : A) × (find p xs ≡ Some y)
find_has p [] x m t = absurd m
find_has {A} p (y ∷ ys) x m t = go (p y) refl m (λ h. find_has p ys x h t)
  where
    go : (b : Bool) → p y ≡ b → ((y ≡ x) ⊎ Among x ys) → (Among x ys → (z : A) × (find p ys ≡ Some z)) → (z : A) × (cond b (Some y) (find p ys) ≡ Some z)
    go true s h later = (y, refl)
    go false s (inl same) later = absurd (let bad : false ≡ true = sym s ∙ ap p same ∙ t in cc)
    go false s (inr h) later = later h

some_is : {A : Type 0} (o : Option A) → is_some o ≡ true → (x : A) × (o ≡ Some x)
some_is None h = absurd cc
some_is (Some x) h = (x, refl)

-- ---- lists in order

module _ {A : Type 0} (g : ℕ → List A) where
  among_flat : (a n : ℕ) (x : A) → Among x (flat_map g (range_with_len a n)) → (i : ℕ) × (a ≤ i) × (i < a + n) × Among x (g i)
  among_flat a zero x h = absurd h
  among_flat a (suc n) x h = elim (append_cases x (g a) (flat_map g (range_with_len (a + 1) n)) h) [
    | inl here ↦ (a, omega arith, omega arith, here)
    | inr there ↦ let rest = among_flat (a + 1) n x there in let low = rest.1 in let high = rest.2 in (rest.0, omega arith, omega arith, rest.3)
  ]

  flat_among : (a n i : ℕ) (x : A) → a ≤ i → i < a + n → Among x (g i) → Among x (flat_map g (range_with_len a n))
  flat_among a zero i x low high m = absurd (omega arith)
  flat_among a (suc n) i x low high m = elim (cases_lt a i) [
    | inl lt ↦ from_right x (g a) (flat_map g (range_with_len (a + 1) n)) (flat_among (a + 1) n i x (omega arith) (omega arith) m)
    | inr ge ↦ (let same : i ≡ a = omega arith in append_left x (g a) (flat_map g (range_with_len (a + 1) n)) (subst (λ j. Among x (g j)) same m))
  ]

  -- pieces in order, one after the other
  later_flat : (R : A → A → Type 0) → ((i : ℕ) → IsOrdered R (g i)) → ((i j : ℕ) (x y : A) → i < j → Among x (g i) → Among y (g j) → R x y) → (a n : ℕ) → IsOrdered R (flat_map g (range_with_len a n))
  later_flat R each cross a zero = tt
  later_flat R each cross a (suc n) = ordered_append R (g a) (flat_map g (range_with_len (a + 1) n)) (each a) (later_flat R each cross (a + 1) n)
      (λ x y h k. let there = among_flat (a + 1) n y k in let low = there.1 in cross a there.0 x y (omega arith) h there.3)

-- ---- heights

height_short : (n : ℕ) (fork_at : ForkAt) (b : Node) → height_within n fork_at b ≤ n
unfolding height_within
height_short zero fork_at b = omega arith
height_short (suc n) fork_at b = go (fork_at b) (λ p. height_short n fork_at p)
  where
    go : (o : Option Node) → ((p : Node) → height_within n fork_at p ≤ n) → elim o as (λ z. ℕ) [ None ↦ 0 | Some p ↦ 1 + height_within n fork_at p ] ≤ suc n
    go None h = omega arith
    go (Some p) h = let le = h p in omega arith

height_bound : (weights : List ℕ) (units : List Node) (b : Node) → height_of weights units b ≤ length units
unfolding height_of
height_bound weights units b = height_short (length units) (unit_fork weights units) b

-- ---- what stands at a moment

module _ (s : Setting) (journal : List Vertex) where
  abbrev S : ℕ → List Node
  S at = settled_of s.config (received_at s journal at)

  abbrev test_at : ℕ → Node → ℕ → Bool
  test_at at block level = has_summit s.config.weights (S at) (panorama_of s.config (received_at s journal at)) block level (quorum_at s.config level)

  abbrev least : ℕ → Node → Option ℕ
  least at block = least_level s.config (moment s journal at) block

  graph_at : (at : ℕ) → IsGraph (S at)
  graph_at at = settled_graph s.config (received_at s journal at) (received_rising s _)

  -- a block that stood has a least level, no higher
  pub stood_level : (block : Node) (level quorum at : ℕ) → StoodAt s journal block level quorum at → (k : ℕ) × (least at block ≡ Some k) × (k ≤ level)
  unfolding least_level moment_of
  stood_level block level quorum at t =
      let st = t.stands in
      let few : nat_le (faulty_weight s.config (received_at s journal at)) s.config.ftt ≡ true = le-leb _ _ t.few_faulty in
      let same : quorum ≡ quorum_at s.config level = quorum_is_one _ _ level quorum st.low st.is_quorum in
      let test : test_at at block level ≡ true =
      subst (λ q. has_summit s.config.weights (S at) (panorama_of s.config (received_at s journal at)) block level q ≡ true) same
      ((summit_is_left s.config.weights (S at) (panorama_of s.config (received_at s journal at)) block quorum level).0 st.summit) in
      let low = st.low in let high = st.high in
      let f = find_range_has (test_at at block) 1 s.config.levels level (omega arith) (omega arith) test in
      (f.0, ap (λ b. cond b (find (test_at at block) (range_with_len 1 s.config.levels)) None) few ∙ f.1, f.2)

  -- and where there is a least level the block stood
  pub level_stood : (block : Node) (k at : ℕ) → at ≤ length journal → least at block ≡ Some k → StoodAt s journal block k (quorum_at s.config k) at
  unfolding least_level moment_of
  level_stood block k at le e = go (nat_le (faulty_weight s.config (received_at s journal at)) s.config.ftt) refl e
    where
      go : (b : Bool) → nat_le (faulty_weight s.config (received_at s journal at)) s.config.ftt ≡ b → cond b (find (test_at at block) (range_with_len 1 s.config.levels)) None ≡ Some k → StoodAt s journal block k (quorum_at s.config k) at
      go true t h =
          let f = find_range (test_at at block) 1 s.config.levels k h in
          let low = f.0 in let high = f.1 in
          record {
            in_journal = le;
            few_faulty = leb-true _ _ t;
            stands = record {
              low = low;
              high = omega arith;
              is_quorum = quotient_is_quorum _ _ k low;
              summit = (summit_is_left s.config.weights (S at) (panorama_of s.config (received_at s journal at)) block (quorum_at s.config k) k).1 f.2;
            };
          }
      go false t h = absurd cc

  -- the name alone counts
  least_by_name : (at : ℕ) (a b : Node) → a.digest ≡ b.digest → least at a ≡ least at b
  unfolding least_level moment_of
  least_by_name at a b e = ap (λ test. cond (nat_le (faulty_weight s.config (received_at s journal at)) s.config.ftt) (find test (range_with_len 1 s.config.levels)) None)
      (λ i level. Rattle.std.specs.Prelude.nat_lt 0 (length (pruned_by_name s.config.weights (S at) (panorama_of s.config (received_at s journal at)) a b (quorum_at s.config level) level e i)))

  -- ---- the first moment

  pub decided_first : (block : Node) (at : ℕ) → decided_at s journal block ≡ Some at → (k : ℕ) × StoodAt s journal block k (quorum_at s.config k) at × ((before level quorum : ℕ) → StoodAt s journal block level quorum before → at ≤ before)
  unfolding decided_at
  decided_first block at e =
      let f = find_range (stood_at s journal block) 0 (length journal + 1) at e in
      let k = some_is (least at block) f.2 in
      let high = f.1 in
      (k.0, level_stood block k.0 at (omega arith) k.1, λ before level quorum t. f.3 before (omega arith) (ap is_some (stood_level block level quorum before t).1))

  pub stood_decided : (block : Node) (level quorum at : ℕ) → StoodAt s journal block level quorum at → (m : ℕ) × (decided_at s journal block ≡ Some m) × (m ≤ at)
  unfolding decided_at
  stood_decided block level quorum at t = let inside = t.in_journal in find_range_has (stood_at s journal block) 0 (length journal + 1) at (omega arith) (omega arith) (ap is_some (stood_level block level quorum at t).1)

  -- ---- each record

  abbrev fresh : ℕ → List Node
  fresh at = fresh_at s journal at (moment s journal at)

  pub record IsFresh (at : ℕ) (b : Node) : Type 0 where
    pub inside : Among b (S at)
    pub now : (k : ℕ) × (least at b ≡ Some k)
    pub before : (a : ℕ) → a < at → least a b ≡ None

  none_is : (o : Option ℕ) → is_some o ≡ false → o ≡ None
  none_is None h = refl
  none_is (Some x) h = absurd cc

  not_is : (b : Bool) → not b ≡ true → b ≡ false
  not_is true h = absurd cc
  not_is false h = refl

  false_each : {A : Type 0} (p : A → Bool) (x : A) (xs : List A) → list_any p xs ≡ false → Among x xs → p x ≡ false
  false_each p x xs h m = go (p x) refl
    where
      go : (b : Bool) → p x ≡ b → b ≡ false
      go true t = absurd (let bad : false ≡ true = sym h ∙ any_of p x xs m t in cc)
      go false t = refl

  fresh_is : (at : ℕ) (b : Node) → Among b (fresh at) → IsFresh at b
  unfolding fresh_at moment_of
  fresh_is at b m =
      let outer = Among-filter (λ c. not (list_any (stood_at s journal c) (range_with_len 0 at))) b _ m in
      let inner = Among-filter (λ c. is_some (least at c)) b (S at) outer.0 in
      record {
        inside = inner.0;
        now = some_is (least at b) inner.1;
        before = λ a lt. none_is (least a b) (false_each (stood_at s journal b) a (range_with_len 0 at) (not_is _ outer.1) (among_range 0 at a (omega arith) (omega arith)));
      }

  is_fresh : (at : ℕ) (b : Node) → IsFresh at b → Among b (fresh at)
  unfolding fresh_at moment_of
  is_fresh at b f = filter-Among (λ c. not (list_any (stood_at s journal c) (range_with_len 0 at))) b (filter (λ c. is_some (least at c)) (S at))
      (filter-Among (λ c. is_some (least at c)) b (S at) f.inside (ap is_some f.now.1)) (ap not (go (list_any (stood_at s journal b) (range_with_len 0 at)) refl))
    where
      go : (t : Bool) → list_any (stood_at s journal b) (range_with_len 0 at) ≡ t → t ≡ false
      go true h =
          let a = some_of (stood_at s journal b) (range_with_len 0 at) h in
          let r = range_among 0 at a.0 a.1 in
          absurd (let bad : false ≡ true = sym (ap is_some (f.before a.0 (omega (arith, r.1)))) ∙ a.2 in cc)
      go false h = refl

  -- where a decision comes from
  pub record ComesFrom (at : ℕ) (d : Decision) : Type 0 where
    pub block : Node
    pub is_fresh : IsFresh at block
    pub same : decision_of s.config (moment s journal at) at (height_of s.config.weights (S at) block) block ≡ d

  decision_from : (at height : ℕ) (d : Decision) → Among d (decision_at s.config (moment s journal at) at (fresh at) height) → ComesFrom at d × (d.height ≡ height)
  unfolding moment_of
  decision_from at height d m = go (find (λ b. height_of s.config.weights (S at) b == height) (fresh at)) refl m
    where
      go : (o : Option Node) → find (λ b. height_of s.config.weights (S at) b == height) (fresh at) ≡ o
          → Among d (elim o as (λ z. List Decision) [ None ↦ [] | Some b ↦ decision_of s.config (moment s journal at) at height b ∷ [] ]) → ComesFrom at d × (d.height ≡ height)
      go None e h = absurd h
      go (Some b) e (inr h) = absurd h
      go (Some b) e (inl h) =
          let f = found_one (λ c. height_of s.config.weights (S at) c == height) b (fresh at) e in
          let tall : height_of s.config.weights (S at) b ≡ height = eqb-true _ _ f.1 in
          (record { block = b; is_fresh = fresh_is at b f.0; same = ap (λ k. decision_of s.config (moment s journal at) at k b) tall ∙ h }, ap (λ (c : Decision). c.height) (sym h))

  decided_from : (at : ℕ) (d : Decision) → Among d (newly_decided s journal at) → ComesFrom at d
  unfolding newly_decided
  decided_from at d m =
      let p = among_flat (decision_at s.config (moment s journal at) at (fresh at)) 0 _ d m in
      (decision_from at p.0 d p.3).0

  each_record : (at : ℕ) (d : Decision) → at ≤ length journal → ComesFrom at d → IsRecord s journal d
  unfolding moment_of
  each_record at d le c =
      let b : Node = c.block in
      let k = c.is_fresh.now in
      let level : or_zero (least at b) ≡ k.0 = ap or_zero k.1 in
      let stood : StoodAt s journal b (or_zero (least at b)) (quorum_at s.config (or_zero (least at b))) at =
      subst (λ l. StoodAt s journal b l (quorum_at s.config l) at) (sym level) (level_stood b k.0 at le k.1) in
      let whole : IsRecord s journal (decision_of s.config (moment s journal at) at (height_of s.config.weights (S at) b) b) = record {
        block = b;
        found = find_one (λ x. digest_eq x.digest b.digest) b (S at) c.is_fresh.inside (digest_self b.digest) (λ y m t. (graph_at at).one_name y b b.digest m c.is_fresh.inside t (digest_self b.digest));
        height = refl;
        stood = stood;
        least_level = λ l q t. let f = stood_level b l q at t in let high = f.2 in let same : or_zero (least at b) ≡ f.0 = ap or_zero f.1 in omega arith;
        first = λ early l q t. elim (cases_lt early at) [
          | inl lt ↦ (let f = stood_level b l q early t in absurd (let bad : None ≡ Some f.0 = sym (c.is_fresh.before early lt) ∙ f.1 in cc))
          | inr ge ↦ ge
        ];
      } in
      subst (IsRecord s journal) c.same whole

  all_from : (d : Decision) → Among d (decisions_of s journal) → (at : ℕ) × (at ≤ length journal) × ComesFrom at d
  unfolding decisions_of
  all_from d m = let p = among_flat (newly_decided s journal) 0 (length journal + 1) d m in let high = p.2 in (p.0, omega arith, decided_from p.0 d p.3)

  -- ---- in order

  at_is : (at : ℕ) (d : Decision) → ComesFrom at d → d.at ≡ at
  at_is at d c = ap (λ (e : Decision). e.at) (sym c.same)

  one_height : (at height : ℕ) → IsOrdered ComesBefore (decision_at s.config (moment s journal at) at (fresh at) height)
  unfolding moment_of
  one_height at height = go (find (λ b. height_of s.config.weights (S at) b == height) (fresh at))
    where
      go : (o : Option Node) → IsOrdered ComesBefore (elim o as (λ z. List Decision) [ None ↦ [] | Some b ↦ decision_of s.config (moment s journal at) at height b ∷ [] ])
      go None = tt
      go (Some b) = (λ y m. absurd m, tt)

  rising_in : (at : ℕ) → IsOrdered ComesBefore (newly_decided s journal at)
  unfolding newly_decided
  rising_in at = later_flat (decision_at s.config (moment s journal at) at (fresh at)) ComesBefore (one_height at)
      (λ i j x y lt m n.
      let a = decision_from at i x m in let b = decision_from at j y n in
      let ha = a.1 in let hb = b.1 in
      inr (at_is at x a.0 ∙ sym (at_is at y b.0), omega arith)) 0 _

  in_order : IsOrdered ComesBefore (decisions_of s journal)
  unfolding decisions_of
  in_order = later_flat (newly_decided s journal) ComesBefore rising_in
      (λ i j x y lt m n.
      let a = at_is i x (decided_from i x m) in let b = at_is j y (decided_from j y n) in
      inl (omega arith)) 0 (length journal + 1)

  -- ---- none is left out

  complete : OneBlockEach s journal → (block : Node) (level quorum at : ℕ) → StoodAt s journal block level quorum at → (d : Decision) × Among d (decisions_of s journal) × (d.block ≡ block.digest)
  unfolding decisions_of newly_decided moment_of
  complete one block level quorum at t =
      let m = stood_decided block level quorum at t in
      let f = decided_first block m.0 m.1 in
      let first : StoodAt s journal block f.0 (quorum_at s.config f.0) m.0 = f.1 in
      let here = summit_block s.config.weights (S m.0) (graph_at m.0) (panorama_of s.config (received_at s journal m.0)) block f.0 (quorum_at s.config f.0) first.stands.summit in
      let b : Node = here.0 in
      let same : block.digest ≡ b.digest = digest_same block.digest b.digest here.2 in
      let k = stood_level block f.0 (quorum_at s.config f.0) m.0 first in
      let level_is : least m.0 b ≡ Some k.0 = sym (least_by_name m.0 block b same) ∙ k.1 in
      let young : IsFresh m.0 b = record {
        inside = here.1;
        now = (k.0, level_is);
        before = λ a lt. absent (least a b) (λ l e.
            let stood = level_stood block l a (let inside = first.in_journal in omega arith) (least_by_name a block b same ∙ e) in
            let late = f.2 a l (quorum_at s.config l) stood in omega arith);
      } in
      let height : ℕ = height_of s.config.weights (S m.0) b in
      let found = find_has (λ c. height_of s.config.weights (S m.0) c == height) (fresh m.0) b (is_fresh m.0 b young) (eq-eqb height height refl) in
      let c : Node = found.0 in
      let there = found_one (λ z. height_of s.config.weights (S m.0) z == height) c (fresh m.0) found.1 in
      let other = fresh_is m.0 c there.0 in
      let inside = first.in_journal in
      let observes : c.digest ≡ b.digest = one m.0 other.now.0 k.0 (quorum_at s.config other.now.0) (quorum_at s.config k.0) c b other.inside here.1
      (level_stood c other.now.0 m.0 inside other.now.1) (level_stood b k.0 m.0 inside level_is) (eqb-true _ _ there.1) in
      let short = height_bound s.config.weights (S m.0) b in
      let d : Decision = decision_of s.config (moment s journal m.0) m.0 height c in (
        d,
        flat_among (newly_decided s journal) 0 (length journal + 1) m.0 d (omega arith) (omega arith)
            (flat_among (decision_at s.config (moment s journal m.0) m.0 (fresh m.0)) 0 (length (S m.0) + 1) height d (omega arith) (omega arith)
            (subst (λ o. Among d (elim o as (λ z. List Decision) [ None ↦ [] | Some z ↦ decision_of s.config (moment s journal m.0) m.0 height z ∷ [] ])) (sym found.1) (inl refl))),
        observes ∙ sym same,
      )
    where
      absent : (o : Option ℕ) → ((l : ℕ) → o ≡ Some l → ⊥) → o ≡ None
      absent None h = refl
      absent (Some l) h = absurd (h l refl)

  -- The decisions that are worked out are those of the definition, where no two blocks of one height stand at one moment.
  pub decisions_are : OneBlockEach s journal → AreDecisions s journal (decisions_of s journal)
  decisions_are one = record {
    each = λ k d lt. let p = all_from (slice_index_or (decisions_of s journal) k d) (place_in (decisions_of s journal) k d lt) in each_record p.0 (slice_index_or (decisions_of s journal) k d) p.1 p.2;
    ordered = adjacent_of ComesBefore (decisions_of s journal) in_order;
    complete = λ block level quorum at t. let d = complete one block level quorum at t in any_among (λ (e : Decision). e.block ≡ block.digest) (decisions_of s journal) d.0 d.1 d.2;
  }
