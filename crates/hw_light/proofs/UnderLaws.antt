-- A walk from the newest unit to the first comes to all that is below the marked ones.
use Rattle.std.proofs.Common.{◌≡◌, ℕ, zero, suc, ◌+◌, ◌<◌, ◌≤◌, ◌⊎◌, inl, inr, Bool, true, false, cond, List, [], ◌∷◌, ◌++◌, length, map, refl, sym, ap, subst, ◌∙◌, arith}
use Rattle.std.specs.Prelude.{Some, None, ◌&&◌, filter, replicate, slice_index_or}
use Rattle.std.specs.List.{range_with_len}
use Rattle.std.proofs.lemmas.List.{append-nil}
use Rattle.std.proofs.lemmas.List.Elements.{filter-append}
use Rattle.hw_dag.specs.declared.numbers.UnitNo.{UnitNo}
use Rattle.hw_dag.specs.declared.numbers.View.{View}
use Rattle.hw_dag.specs.declared.numbers.View.TheVariants as view
use Rattle.std.proofs.lemmas.Bool.{cases_lt}
use Rattle.hw_types.specs.declared.unit.Digest.{Digest}
use Rattle.hw_types.specs.declared.unit.Obs.{Obs}
use Rattle.hw_types.specs.declared.unit.Obs.TheVariants.{Absent, Correct, Faulty}
use Rattle.hw_types.specs.Graph.{Node, is_some_and, slot, slots, observed, latest, cites, unit_cites, is_below}
use Rattle.hw_types.specs.Summit.{Committees}
use Rattle.hw_types.specs.Below.{Among}
use Rattle.hw_types.proofs.ClosureLaws.{Among-filter}
use Rattle.hw_types.proofs.EntryLaws.{among_map}
use Rattle.hw_types.proofs.PastLaws.{some_of, any_of, reach_keeps}
use Rattle.hw_types.proofs.StableLaws.{and_parts, and_whole, both_ways}
use Rattle.hw_types.proofs.WordsLaws.{never_both, passes_some, slots_in, range_below}
use Rattle.hw_dag.specs.Dag.{SettledUnit, UnitGraph, stand_in, unit_at, count_of, node_of, node_at, graph, view_at, observations, IsPanorama}
use Rattle.hw_dag.specs.Admission.{IsGraph}
use Rattle.hw_dag.specs.Lanes.{is_seen}
use Rattle.hw_dag.specs.Walks.{is_marked, Cites}
use Rattle.hw_dag.proofs.NodeLaws.{among_node, same_node}
use Rattle.hw_dag.proofs.LaneLaws.{history, past_seen, same_seen, seen_cases}
use Rattle.hw_dag.proofs.MarkLaws.{cites_earlier, cited_below, cited_further}
use Rattle.hw_dag.proofs.SlotLaws.{slot_of, length-observations, obs_number, latest_of, cited_number}
use Rattle.hw_light.specs.Extract.{is_under}
use Rattle.hw_light.specs.Under.{IsUnderMarked, AreKnown, nodes_at, number_in}

-- the units from next on were looked at: what a marked one of them observes is marked, and all that is marked is under what was
pub record IsWalked (dag : UnitGraph) (first : List Bool) (next : ℕ) (marked : List Bool) : Type 0 where
  pub kept : (m : ℕ) → is_marked first m ≡ true → is_marked marked m ≡ true
  pub under : (m : ℕ) → is_marked marked m ≡ true → (m < count_of dag) × IsUnderMarked dag first m
  pub done : (n m : ℕ) → next ≤ n → n < count_of dag → is_marked marked n ≡ true → Cites dag n m → is_marked marked m ≡ true

-- what marking the observations of one unit leaves
pub record IsMarked (dag : UnitGraph) (n : ℕ) (old new : List Bool) : Type 0 where
  pub kept : (m : ℕ) → is_marked old m ≡ true → is_marked new m ≡ true
  pub all : (m : ℕ) → Cites dag n m → is_marked new m ≡ true
  pub only : (m : ℕ) → is_marked new m ≡ true → (is_marked old m ≡ true) ⊎ Cites dag n m

module _ (dag : UnitGraph) (g : IsGraph dag) where
  node_cites : (n m : ℕ) → n < count_of dag → m < count_of dag → cites (unit_at dag n).signed.unit.panorama (node_at dag m) ≡ true → Cites dag n m
  node_cites n m lt lm t =
      let u = g.settled n lt in
      let k = cited_number dag g (unit_at dag n).panorama m u.panorama_is.known lm (subst (λ (os : List Obs). cites os (node_at dag m) ≡ true) (sym u.observes) t) in
      record { slot = k.0; number = k.1; seen = k.2; is = k.3 }

  -- what a unit below observes is below
  below_seen : (low middle high : ℕ) → middle < count_of dag → high < count_of dag → is_seen dag middle high ≡ true → Cites dag middle low → is_seen dag low high ≡ true
  below_seen low middle high mi hi t c = elim (seen_cases dag g middle high mi hi t) [
    | inl same ↦ past_seen dag g low high (cited_below dag g high low hi (subst (λ (k : ℕ). Cites dag k low) same c))
    | inr below ↦ past_seen dag g low high (cited_further dag g high middle low mi below c)
  ]

module _ (dag : UnitGraph) (g : IsGraph dag) (first : List Bool) (bounded : (m : ℕ) → is_marked first m ≡ true → m < count_of dag) where
  pub walk_starts : IsWalked dag first (count_of dag) first
  walk_starts = record {
    kept = λ m t. t;
    under = λ m t. (bounded m t, record { above = m; known = bounded m t; marked_is = t; seen = same_seen dag g m m refl });
    done = λ n m le less. absurd (omega arith);
  }

  -- one that isn't marked has nothing to look at
  pub walk_skips : (next : ℕ) (marked : List Bool) → IsWalked dag first (next + 1) marked → is_marked marked next ≡ false → IsWalked dag first next marked
  walk_skips next marked w none = record {
    kept = w.kept;
    under = w.under;
    done = λ n m le less t c. elim (cases_lt next n) [
      | inl later ↦ w.done n m (omega arith) less t c
      | inr no_later ↦ absurd (let same : n ≡ next = omega arith in never_both (is_marked marked next) (subst (λ (k : ℕ). is_marked marked k ≡ true) same t) none)
    ];
  }

  pub walk_looks : (next : ℕ) (old new : List Bool) → next < count_of dag → IsWalked dag first (next + 1) old → is_marked old next ≡ true → IsMarked dag next old new → IsWalked dag first next new
  walk_looks next old new before w t made = record {
    kept = λ m k. made.kept m (w.kept m k);
    under = λ m k. elim (made.only m k) [
      | inl was ↦ w.under m was
      | inr c ↦ (
          let earlier = cites_earlier dag g next m before c in
          let lo : m < count_of dag = omega arith in
          let at = (w.under next t).1 in
          (lo, record { above = at.above; known = at.known; marked_is = at.marked_is; seen = below_seen dag g m next at.above before at.known at.seen c }))
    ];
    done = λ n m le less u c. elim (made.only n u) [
      | inl was ↦ elim (cases_lt next n) [
        | inl later ↦ made.kept m (w.done n m (omega arith) less was c)
        | inr no_later ↦ (let same : n ≡ next = omega arith in made.all m (subst (λ (k : ℕ). Cites dag k m) same c))
      ]
      | inr back ↦ absurd (let earlier = cites_earlier dag g next n before back in omega arith)
    ];
  }

  -- at its end it came to all that is under
  pub walk_ends : (marked : List Bool) → IsWalked dag first 0 marked → (n : ℕ) → n < count_of dag → IsUnderMarked dag first n → is_marked marked n ≡ true
  walk_ends marked w n lt u = elim (seen_cases dag g n u.above lt u.known u.seen) [
    | inl same ↦ subst (λ (k : ℕ). is_marked marked k ≡ true) (sym same) top
    | inr m ↦ come m
  ]
    where
      top : is_marked marked u.above ≡ true
      top = w.kept u.above u.marked_is

      come : Among (node_at dag n) (history dag g u.above) → is_marked marked n ≡ true
      come h =
          let all = (reach_keeps unit_cites (cites (unit_at dag u.above).signed.unit.panorama) (graph dag)
          (λ (x : Node). (k : ℕ) × (k < count_of dag) × (node_at dag k ≡ x) × (is_marked marked k ≡ true))
          (λ x m t.
          let k = among_node dag x m in
          let c = node_cites dag g u.above k.0 u.known k.1 (subst (λ (y : Node). cites (unit_at dag u.above).signed.unit.panorama y ≡ true) (sym k.2) t) in
          (k.0, k.1, k.2, w.done u.above k.0 (omega arith) u.known top c))
          (λ x y p m t.
          let k = among_node dag x m in
          let c = node_cites dag g p.0 k.0 p.1 k.1 (subst (λ (z : Node). cites z.unit.panorama (node_at dag k.0) ≡ true) (sym p.2) (subst (λ (z : Node). cites y.unit.panorama z ≡ true) (sym k.2) t)) in
          (k.0, k.1, k.2, w.done p.0 k.0 (omega arith) p.1 p.3 c))
          (node_at dag n) h) in
          let same = same_node dag g all.0 n all.1 lt all.2 in
          subst (λ (k : ℕ). is_marked marked k ≡ true) same all.3

-- a slot that names a unit is one of the panorama
pub view_within : (views : List View) (v : ℕ) (number : UnitNo) → view_at views v ≡ view.Correct number → v < length views
view_within [] v number e = absurd (let bad : view.Absent ≡ view.Correct number = e in cc)
view_within (w ∷ ws) zero number e = omega arith
view_within (w ∷ ws) (suc v) number e = let less = view_within ws v number e in omega arith

range_more : (a n : ℕ) → range_with_len a (n + 1) ≡ range_with_len a n ++ (a + n) ∷ []
range_more a zero = grind arith
range_more a (suc n) = grind (arith, range_more (a + 1) n)

-- one number more
pub numbers_more : (marked : List Bool) (n : ℕ) → filter (is_marked marked) (range_with_len 0 (n + 1)) ≡ filter (is_marked marked) (range_with_len 0 n) ++ cond (is_marked marked n) (n ∷ []) []
numbers_more marked n = ap (filter (is_marked marked)) (range_more 0 n ∙ ap (λ (k : ℕ). range_with_len 0 n ++ k ∷ []) (omega arith)) ∙ filter-append (is_marked marked) (range_with_len 0 n) (n ∷ [])

-- the numbers so far with one more, which is marked,
pub with_number : (marked : List Bool) (n : ℕ) (old new : List UnitNo) → is_marked marked n ≡ true → map number_in old ≡ filter (is_marked marked) (range_with_len 0 n)
    → new ≡ old ++ record { 0 = n } ∷ [] → map number_in new ≡ filter (is_marked marked) (range_with_len 0 (n + 1))
with_number marked n old new t e is =
    ap (map number_in) is ∙ mapped_append old (record { 0 = n } ∷ []) ∙ ap (λ (ns : List ℕ). ns ++ n ∷ []) e
    ∙ ap (λ (b : Bool). filter (is_marked marked) (range_with_len 0 n) ++ cond b (n ∷ []) []) (sym t) ∙ sym (numbers_more marked n)
  where
    mapped_append : (xs ys : List UnitNo) → map number_in (xs ++ ys) ≡ map number_in xs ++ map number_in ys
    mapped_append [] ys = refl
    mapped_append (x ∷ xs) ys = ap (λ (ns : List ℕ). x.0 ∷ ns) (mapped_append xs ys)

-- or isn't
pub without_number : (marked : List Bool) (n : ℕ) (old : List UnitNo) → is_marked marked n ≡ false → map number_in old ≡ filter (is_marked marked) (range_with_len 0 n)
    → map number_in old ≡ filter (is_marked marked) (range_with_len 0 (n + 1))
without_number marked n old f e =
    e ∙ sym (append-nil (filter (is_marked marked) (range_with_len 0 n))) ∙ ap (λ (b : Bool). filter (is_marked marked) (range_with_len 0 n) ++ cond b (n ∷ []) []) (sym f) ∙ sym (numbers_more marked n)

-- a mark is one of the list
pub marked_within : (marked : List Bool) (count : ℕ) → length marked ≡ count → (m : ℕ) → is_marked marked m ≡ true → m < count
marked_within marked count is m t = let less = go marked m t in omega arith
  where
    go : (bs : List Bool) (n : ℕ) → is_marked bs n ≡ true → n < length bs
    go [] n e = absurd (let bad : false ≡ true = e in cc)
    go (b ∷ bs) zero e = omega arith
    go (b ∷ bs) (suc n) e = let less = go bs n e in omega arith

-- no place without a mark is marked
pub unmarked_is : (count n : ℕ) → is_marked (replicate count false) n ≡ false
unmarked_is count n = go count n
  where
    go : (k n : ℕ) → is_marked (replicate k false) n ≡ false
    go zero n = refl
    go (suc k) zero = refl
    go (suc k) (suc n) = go k n

-- ---- the units of the marked numbers

mapped_twice : (dag : UnitGraph) (numbers : List UnitNo) → nodes_at dag numbers ≡ map (node_at dag) (map number_in numbers)
mapped_twice dag [] = refl
mapped_twice dag (first ∷ rest) = ap (λ (xs : List Node). node_at dag first.0 ∷ xs) (mapped_twice dag rest)

-- a filter of a mapped list
filter_mapped : (p : Node → Bool) (f : ℕ → Node) (ns : List ℕ) → filter p (map f ns) ≡ map f (filter (λ n. p (f n)) ns)
filter_mapped p f [] = refl
filter_mapped p f (n ∷ ns) = go (p (f n)) (filter_mapped p f ns)
  where
    go : (b : Bool) → filter p (map f ns) ≡ map f (filter (λ n. p (f n)) ns)
        → cond b (f n ∷ filter p (map f ns)) (filter p (map f ns)) ≡ map f (cond b (n ∷ filter (λ n. p (f n)) ns) (filter (λ n. p (f n)) ns))
    go true e = ap (λ (xs : List Node). f n ∷ xs) e
    go false e = e

-- two tests that agree on the members
filter_agrees : (p q : ℕ → Bool) (ns : List ℕ) → ((n : ℕ) → Among n ns → p n ≡ q n) → filter p ns ≡ filter q ns
filter_agrees p q [] same = refl
filter_agrees p q (n ∷ ns) same = ap (λ (b : Bool). cond b (n ∷ filter p ns) (filter p ns)) (same n (inl refl))
    ∙ ap (λ (xs : List ℕ). cond (q n) (n ∷ xs) xs) (filter_agrees p q ns (λ k m. same k (inr m)))

-- the units by number are the list of units
pub units_by_number : (dag : UnitGraph) → map (node_at dag) (range_with_len 0 (count_of dag)) ≡ map node_of dag.units
units_by_number dag = go dag.units 0 (λ k lt. ap (λ (n : ℕ). slice_index_or dag.units n stand_in) (omega arith))
  where
    go : (units : List SettledUnit) (a : ℕ) → ((k : ℕ) → k < length units → slice_index_or dag.units (a + k) stand_in ≡ slice_index_or units k stand_in)
        → map (node_at dag) (range_with_len a (length units)) ≡ map node_of units
    go [] a at = refl
    go (u ∷ units) a at =
        let first : slice_index_or dag.units a stand_in ≡ u = subst (λ (n : ℕ). slice_index_or dag.units n stand_in ≡ u) (let z : a + 0 ≡ a = omega arith in z) (at 0 (omega arith)) in
        let rest = go units (a + 1) (λ k lt. subst (λ (n : ℕ). slice_index_or dag.units n stand_in ≡ slice_index_or units k stand_in) (let z : a + suc k ≡ a + 1 + k = omega arith in z) (at (suc k) (omega arith))) in
        ap (λ (x : Node). x ∷ map (node_at dag) (range_with_len (a + 1) (length units))) (ap node_of first) ∙ ap (λ (xs : List Node). node_of u ∷ xs) rest

module _ (dag : UnitGraph) (g : IsGraph dag) (panorama : List View) (is : IsPanorama dag panorama) (c : Committees) where
  -- the unit of a number is the latest of a member
  pub record IsLatestOf (n : ℕ) : Type 0 where
    pub validator : ℕ
    pub member : c.member 0 validator ≡ true
    pub latest : view_at panorama validator ≡ view.Correct (record { 0 = n })

  to_under : (n above : ℕ) → above < count_of dag → IsLatestOf above → is_seen dag n above ≡ true → is_under (graph dag) (observations dag panorama) c (node_at dag n) ≡ true
  to_under n above lt l seen =
      let obs = observations dag panorama in
      let within = view_within panorama l.validator (record { 0 = above }) l.latest in
      let long = length-observations dag panorama in
      let there = latest_of dag g panorama l.validator (record { 0 = above }) l.latest lt in
      any_of (λ v. c.member 0 v && is_some_and (is_below (graph dag) (node_at dag n)) (latest (graph dag) obs v)) l.validator (slots obs) (slots_in obs l.validator (omega arith))
      (and_whole (c.member 0 l.validator) (is_some_and (is_below (graph dag) (node_at dag n)) (latest (graph dag) obs l.validator)) l.member (ap (is_some_and (is_below (graph dag) (node_at dag n))) there ∙ seen))

  -- an observed unit has the name in the slot
  observed_name : (units : List Node) (o : Obs) (x : Node) → observed units o ≡ Some x → (d : Digest) × (o ≡ Correct d)
  observed_name units Absent x e = absurd (let bad : None ≡ Some x = e in cc)
  observed_name units Faulty x e = absurd (let bad : None ≡ Some x = e in cc)
  observed_name units (Correct d) x e = (d, refl)

  from_under : (n : ℕ) → is_under (graph dag) (observations dag panorama) c (node_at dag n) ≡ true → (above : ℕ) × (above < count_of dag) × IsLatestOf above × (is_seen dag n above ≡ true)
  from_under n t =
      let obs = observations dag panorama in
      let v = some_of (λ v. c.member 0 v && is_some_and (is_below (graph dag) (node_at dag n)) (latest (graph dag) obs v)) (slots obs) t in
      let parts = and_parts (c.member 0 v.0) (is_some_and (is_below (graph dag) (node_at dag n)) (latest (graph dag) obs v.0)) v.2 in
      let u = passes_some (is_below (graph dag) (node_at dag n)) (latest (graph dag) obs v.0) parts.1 in
      let d = observed_name (graph dag) (slot obs v.0) u.0 u.1 in
      let k = obs_number dag (view_at panorama v.0) d.0 (sym (slot_of dag panorama v.0) ∙ d.1) in
      let lt = is.known v.0 k.0 k.1 in
      let same : Some u.0 ≡ Some (node_at dag k.0.0) = sym u.1 ∙ latest_of dag g panorama v.0 k.0 k.1 lt in
      let one : u.0 ≡ node_at dag k.0.0 = cc in
      (k.0.0, lt, record { validator = v.0; member = parts.0; latest = k.1 }, subst (λ (x : Node). is_below (graph dag) (node_at dag n) x ≡ true) one u.2)

  module _ (first marked : List Bool) (all : (n : ℕ) → IsLatestOf n → is_marked first n ≡ true) (only : (n : ℕ) → is_marked first n ≡ true → IsLatestOf n)
      (to : (n : ℕ) → n < count_of dag → IsUnderMarked dag first n → is_marked marked n ≡ true) (back : (n : ℕ) → is_marked marked n ≡ true → IsUnderMarked dag first n) where
    mark_is : (n : ℕ) → n < count_of dag → is_marked marked n ≡ is_under (graph dag) (observations dag panorama) c (node_at dag n)
    mark_is n lt = both_ways (is_marked marked n) (is_under (graph dag) (observations dag panorama) c (node_at dag n))
        (λ t. let u = back n t in to_under n u.above u.known (only u.above u.marked_is) u.seen)
        (λ t. let u = from_under n t in to n lt (record { above = u.0; known = u.1; marked_is = all u.0 u.2; seen = u.3 }))

    pub units_under : (numbers : List UnitNo) → map number_in numbers ≡ filter (is_marked marked) (range_with_len 0 (count_of dag))
        → nodes_at dag numbers ≡ filter (is_under (graph dag) (observations dag panorama) c) (map node_of dag.units)
    units_under numbers e =
        mapped_twice dag numbers
        ∙ ap (map (node_at dag)) (e ∙ filter_agrees (is_marked marked) (λ n. is_under (graph dag) (observations dag panorama) c (node_at dag n)) (range_with_len 0 (count_of dag))
        (λ n m. mark_is n (let within = range_below 0 (count_of dag) n m in omega (arith, within.1))))
        ∙ sym (filter_mapped (is_under (graph dag) (observations dag panorama) c) (node_at dag) (range_with_len 0 (count_of dag)))
        ∙ ap (filter (is_under (graph dag) (observations dag panorama) c)) (units_by_number dag)

-- the numbers are those of units
pub numbers_known : (dag : UnitGraph) (marked : List Bool) (numbers : List UnitNo) → map number_in numbers ≡ filter (is_marked marked) (range_with_len 0 (count_of dag)) → AreKnown dag numbers
numbers_known dag marked numbers e number m =
    let there = subst (λ (ns : List ℕ). Among number.0 ns) e (among_map number_in number numbers m) in
    let within = range_below 0 (count_of dag) number.0 (Among-filter (is_marked marked) number.0 (range_with_len 0 (count_of dag)) there).0 in
    omega (arith, within.1)
