-- What each of two nodes has, the other has or gets, where their units don't clash.
use Rattle.std.proofs.Common.{◌≡◌, ℕ, ◌⊎◌, ◌<◌, inl, inr, Bool, true, false, not, List, [], ◌∷◌, ◌++◌, length, map, Option, Some, None, refl, sym, ap, subst, ◌∙◌, arith, eq-eqb, lt-ltb, leb-false}
use Rattle.std.specs.Prelude.{◌&&◌, ◌||◌, ◌==◌, nat_lt, nat_le, filter_map, fold}
use Rattle.std.specs.List.{list_any}
use Rattle.std.proofs.lemmas.Bool.{cases_lt, le-leb}
use Rattle.std.proofs.lemmas.List.Elements.{filter_map-append}
use Rattle.hw_types.specs.declared.unit.SignedUnit.{SignedUnit}
use Rattle.hw_types.specs.declared.unit.Vertex.{Vertex}
use Rattle.hw_types.specs.declared.unit.Vertex.TheVariants as vertex
use Rattle.hw_types.specs.Graph.{Node, digest_eq, node_eq, find_node, follows, lane_of, is_on_lane}
use Rattle.hw_types.specs.Below.{Among}
use Rattle.hw_types.specs.Same.{unit_eq}
use Rattle.hw_types.specs.Rules.{local_tests}
use Rattle.hw_types.specs.Settled.{is_faulty, validators}
use Rattle.hw_types.specs.Journal.{Setting, unit_of_vertex, evidence_in, endorsement_in, received_of, journal_after, journal_of}
use Rattle.hw_types.specs.Lawful.{NoClash}
use Rattle.hw_types.specs.laws.StateLaws.{units_in, HasSame, SaysTheSame, NamesApart}
use Rattle.hw_types.proofs.ClosureLaws.{Within, Among-filter, filter-Among}
use Rattle.hw_types.proofs.PastLaws.{some_of, any_of, reach_keeps}
use Rattle.hw_types.proofs.StableLaws.{and_parts, and_whole}
use Rattle.hw_types.proofs.SettledLaws.{digest_self, digest_same, named_by}
use Rattle.hw_types.proofs.WordsLaws.{any_none, none_broken, not_true, not_false, and_none, never_both, passes_some, find_node_is, named_eq, named_among, range_in}
use Rattle.hw_types.proofs.EntryLaws.{append_cases, mapped_among, among_mapped}
use Rattle.hw_types.proofs.UnionLaws.{from_left, from_right}
use Rattle.hw_types.proofs.GraphLaws.{rising_one_name}
use Rattle.hw_types.proofs.JournalLaws.{received_local}
use Rattle.hw_types.proofs.OrderLaws.{unit_same, unit_vertex, in_known, received_in, journal_apart, received_same, state_same}
use Rattle.hw_types.proofs.LaneLaws as lanes
use Rattle.hw_safety.proofs.AccountLaws.{lawful_journal, in_journal}
use Rattle.hw_agree.specs.declared.summary.LaneSummary.{LaneSummary}
use Rattle.hw_agree.specs.declared.summary.LaneSummary.TheVariants.{Nothing, Line, Tangled}
use Rattle.hw_safety.specs.Taken.{taken}
use Rattle.hw_agree.specs.Converge.{units_by, summary_of, summaries, part, is_below_tip, is_torn, torn_for, is_ahead, is_due, due_to, UnitsClash}
use Rattle.hw_agree.specs.ConvergeLaws.{NodesConverge, ConvergedStatesAreOne}
use Rattle.hw_agree.proofs.LineLaws.{part_is, IsLine, Tells, tells, lower_below, no_higher, count_is, settled}
use Rattle.hw_safety.proofs.TakenLaws.{taken_says, says_trans, says_back}

-- ---- two journals whose units don't clash

module _ (s : Setting) (mine theirs : List Vertex) (apart : NoClash (received_of s mine).units (received_of s theirs).units) where
  -- below a unit that both settle, both settle the same lane
  lane_shared : (t : Node) → Among t (settled s mine) → Among t (settled s theirs) → Within (lane_of (settled s mine) t) (settled s theirs)
  lane_shared t m n = reach_keeps follows (λ x. node_eq x t) (settled s mine) (λ x. Among x (settled s theirs))
      (λ x k c. subst (λ z. Among z (settled s theirs)) (sym (lawful_one x t k m c)) n)
      (λ x y h k c.
      let z = (lawful_journal s theirs).closed y y.unit.creator x.digest h (named_by _ x.digest c) in
      let is : x ≡ z.0 = apart x z.0 (in_journal s mine x k) (in_journal s theirs z.0 z.1) (sym z.2) in
      subst (λ w. Among w (settled s theirs)) (sym is) z.1)
    where
      lawful_one : (x y : Node) → Among x (settled s mine) → Among y (settled s mine) → node_eq x y ≡ true → x ≡ y
      lawful_one x y k l c = rising_one_name (settled s mine) (lawful_journal s mine).in_order x y y.digest k l c (digest_self y.digest)

  on_shared : (x t : Node) → Among x (settled s mine) → Among t (settled s mine) → Among t (settled s theirs) → is_on_lane (settled s mine) x t ≡ true → Among x (settled s theirs)
  on_shared x t k m n c = lane_shared t m n x
      (named_among (settled s mine) (lane_of (settled s mine) t) x (rising_one_name (settled s mine) (lawful_journal s mine).in_order)
      (lanes.lane_within s.config.weights (is_faulty (received_of s mine) (settled s mine)) (settled s mine) (lawful_journal s mine) t) k c)

  -- the other's tip is on the lane of the own tip, where the test says so
  tip_below : (v : ℕ) (t u : Node) → IsLine s mine v t → IsLine s theirs v u → is_below_tip (settled s mine) u.digest t.digest ≡ true → Among u (settled s mine) × Among u (lane_of (settled s mine) t)
  tip_below v t u p q h =
      let x = passes_some (λ z. list_any (λ y. digest_eq y.digest u.digest) (lane_of (settled s mine) z)) (find_node (settled s mine) t.digest) h in
      let f = find_node_is (settled s mine) x.0 t.digest x.1 in
      let is_t : x.0 ≡ t = rising_one_name (settled s mine) (lawful_journal s mine).in_order x.0 t t.digest f.0 p.inside (named_eq x.0 t f.1) (digest_self t.digest) in
      let y = some_of (λ y. digest_eq y.digest u.digest) (lane_of (settled s mine) x.0) x.2 in
      let y_in = lanes.lane_within s.config.weights (is_faulty (received_of s mine) (settled s mine)) (settled s mine) (lawful_journal s mine) x.0 y.0 y.1 in
      let is_u : y.0 ≡ u = apart y.0 u (in_journal s mine y.0 y_in) (in_journal s theirs u q.inside) (digest_same y.0.digest u.digest y.2) in
      (subst (λ z. Among z (settled s mine)) is_u y_in, subst (λ z. Among u (lane_of (settled s mine) z)) is_t (subst (λ z. Among z (lane_of (settled s mine) x.0)) is_u y.1))

-- ---- what one node has, the other has, or it is due

module _ (s : Setting) (mine theirs : List Vertex) (apart : NoClash (received_of s mine).units (received_of s theirs).units) where
  turned : NoClash (received_of s theirs).units (received_of s mine).units
  turned x y m n e = sym (apart y x n m (sym e))

  -- units on two lines, where neither side's tip is missing on the longer one
  by_lines : (v c d : ℕ) (t u x : Node) → IsLine s mine v t → IsLine s theirs v u → c ≡ length (units_by s mine v) → d ≡ length (units_by s theirs v)
      → is_torn (settled s mine) (Line c t.digest) (Line d u.digest) ≡ false → is_torn (settled s theirs) (Line d u.digest) (Line c t.digest) ≡ false
      → Among x (units_by s mine v) → Among x (received_of s theirs).units ⊎ (is_ahead (Line c t.digest) (Line d u.digest) x.unit.seq ≡ true)
  by_lines v c d t u x p q count other whole whole_there m =
      let mine_count = count ∙ count_is s mine v t p in
      let their_count = other ∙ count_is s theirs v u q in
      let low = no_higher s mine v t p x m in
      let here = p.each x m in
      elim (cases_lt c d) [
        | inl shorter ↦ (
            let below = tip_below s theirs mine turned v u t q p (whole_of (nat_le c d) (is_below_tip (settled s theirs) t.digest u.digest) whole_there (le-leb c d (omega arith))) in
            inl (in_journal s theirs x (on_shared s mine theirs apart x t here.0 p.inside below.0 here.1)))
        | inr longer ↦ elim (cases_lt x.unit.seq d) [
          | inr beyond ↦ inr (and_whole (nat_lt d c) (nat_le d x.unit.seq) (lt-ltb d c (omega arith)) (le-leb d x.unit.seq beyond))
          | inl within ↦ (
              let below = tip_below s mine theirs apart v t u p q (whole_of (nat_le d c) (is_below_tip (settled s mine) u.digest t.digest) whole (le-leb d c longer)) in
              let u_by = filter-Among (λ y. y.unit.creator == v) u (received_of s mine).units (in_journal s mine u below.0) (eq-eqb u.unit.creator v q.made) in
              let lane = lower_below s mine v t p x u m u_by (omega arith) in
              inl (in_journal s theirs x (on_shared s mine theirs apart x u here.0 below.0 q.inside lane)))
        ]
      ]
    where
      whole_of : (a b : Bool) → (a && not b) ≡ false → a ≡ true → b ≡ true
      whole_of a b h e = not_false b (and_none a (not b) h e)

  -- by what the two sides tell
  by_summaries : (v : ℕ) (x : Node) (a b : LaneSummary) → Tells s mine v a → Tells s theirs v b → Among x (units_by s mine v)
      → is_torn (settled s mine) a b ≡ false → is_torn (settled s theirs) b a ≡ false → Among x (received_of s theirs).units ⊎ (is_ahead a b x.unit.seq ≡ true)
  by_summaries v x Nothing b p q m h k = absurd (p x m)
  by_summaries v x Tangled Nothing p q m h k = inr refl
  by_summaries v x Tangled Tangled p q m h k = absurd cc
  by_summaries v x Tangled (Line d e) p q m h k = absurd cc
  by_summaries v x (Line c f) Nothing p q m h k = inr refl
  by_summaries v x (Line c f) Tangled p q m h k = absurd cc
  by_summaries v x (Line c f) (Line d e) p q m h k =
      let f_is = p.2 in
      let e_is = q.2 in
      by_lines v c d p.0 q.0 x p.1 q.1 p.3 q.3
      (subst (λ i. is_torn (settled s mine) (Line c i) (Line d q.0.digest) ≡ false) f_is (subst (λ j. is_torn (settled s mine) (Line c f) (Line d j) ≡ false) e_is h))
      (subst (λ i. is_torn (settled s theirs) (Line d q.0.digest) (Line c i) ≡ false) f_is (subst (λ j. is_torn (settled s theirs) (Line d j) (Line c f) ≡ false) e_is k)) m

  abbrev torn : List ℕ
  torn = torn_for s mine (summaries s theirs) ++ torn_for s theirs (summaries s mine)

  not_torn : (journal others : List Vertex) (v : ℕ) → v < length s.config.weights → list_any (λ w. w == v) (torn_for s journal (summaries s others)) ≡ false
      → is_torn (settled s journal) (summary_of s journal v) (summary_of s others v) ≡ false
  not_torn journal others v lt none = go (is_torn (settled s journal) (part (summaries s journal) v) (part (summaries s others) v)) refl
    where
      test : ℕ → Bool
      test w = is_torn (settled s journal) (part (summaries s journal) w) (part (summaries s others) w)

      go : (b : Bool) → is_torn (settled s journal) (part (summaries s journal) v) (part (summaries s others) v) ≡ b → is_torn (settled s journal) (summary_of s journal v) (summary_of s others v) ≡ false
      go true e = absurd (never_both (list_any (λ w. w == v) (torn_for s journal (summaries s others)))
          (any_of (λ w. w == v) v (torn_for s journal (summaries s others)) (filter-Among (λ w. is_torn (settled s journal) (part (summaries s journal) w) (part (summaries s others) w)) v (validators s.config) (range_in 0 (length s.config.weights) v (omega arith) (omega arith)) e) (eq-eqb v v refl)) none)
      go false e = sym (ap (λ a. is_torn (settled s journal) a (part (summaries s others) v)) (part_is s journal v lt) ∙ ap (λ b. is_torn (settled s journal) (summary_of s journal v) b) (part_is s others v lt)) ∙ e

  none_of : (xs ys : List ℕ) (v : ℕ) → list_any (λ w. w == v) (xs ++ ys) ≡ false → (list_any (λ w. w == v) xs ≡ false) × (list_any (λ w. w == v) ys ≡ false)
  none_of xs ys v h = (each xs (λ w m. from_left w xs ys m), each ys (λ w m. from_right w xs ys m))
    where
      each : (zs : List ℕ) → Within zs (xs ++ ys) → list_any (λ w. w == v) zs ≡ false
      each zs w = go (list_any (λ w. w == v) zs) refl
        where
          go : (b : Bool) → list_any (λ w. w == v) zs ≡ b → b ≡ false
          go false e = refl
          go true e = absurd (let x = some_of (λ w. w == v) zs e in never_both (list_any (λ w. w == v) (xs ++ ys)) (any_of (λ w. w == v) x.0 (xs ++ ys) (w x.0 x.1) x.2) h)

  creator_in : (x : Node) → Among x (received_of s mine).units → x.unit.creator < length s.config.weights
  unfolding local_tests
  creator_in x m = leb-false (length s.config.weights) x.unit.creator (none_broken (local_tests s.config s.instance x.unit) (received_local s mine x m)).1.0

  unit_due : (x : Node) → Among x (received_of s mine).units
      → Among x (received_of s theirs).units ⊎ ((list_any (λ v. v == x.unit.creator) torn || is_ahead (part (summaries s mine) x.unit.creator) (part (summaries s theirs) x.unit.creator) x.unit.seq) ≡ true)
  unit_due x m = go (list_any (λ w. w == x.unit.creator) torn) refl
    where
      go : (b : Bool) → list_any (λ w. w == x.unit.creator) torn ≡ b
          → Among x (received_of s theirs).units ⊎ ((b || is_ahead (part (summaries s mine) x.unit.creator) (part (summaries s theirs) x.unit.creator) x.unit.seq) ≡ true)
      go true e = inr refl
      go false e =
          let v = x.unit.creator in
          let lt = creator_in x m in
          let none = none_of (torn_for s mine (summaries s theirs)) (torn_for s theirs (summaries s mine)) v e in
          let made = filter-Among (λ y. y.unit.creator == v) x (received_of s mine).units m (eq-eqb v v refl) in
          elim (by_summaries v x (summary_of s mine v) (summary_of s theirs v) (tells s mine v) (tells s theirs v) made (not_torn mine theirs v lt none.0) (not_torn theirs mine v lt none.1)) [
            | inl there ↦ inl there
            | inr ahead ↦ inr (ap (λ a. is_ahead a (part (summaries s theirs) v) x.unit.seq) (part_is s mine v lt) ∙ ap (λ b. is_ahead (summary_of s mine v) b x.unit.seq) (part_is s theirs v lt) ∙ ahead)
          ]

  -- ---- what is sent

  abbrev due : List Vertex
  due = due_to s mine theirs

  sent_unit : NamesApart (units_in s mine) → (x : Node) → Among x (units_in s mine) → Among x (units_in s theirs) ⊎ Among x (units_in s due)
  sent_unit names x m =
      let w = mapped_among (unit_of_vertex s) x mine m in
      let u = unit_vertex s w.0 x w.2 in
      elim (unit_due x (in_known s mine names x m)) [
        | inl there ↦ inl (received_in s theirs x there)
        | inr test ↦ inr (among_mapped (unit_of_vertex s) w.0 x due
            (filter-Among (is_due torn (summaries s mine) (summaries s theirs)) w.0 mine w.1
            (subst (λ v. is_due torn (summaries s mine) (summaries s theirs) v ≡ true) (sym u.1)
            (subst (λ (z : Node). (list_any (λ v. v == z.unit.creator) torn || is_ahead (part (summaries s mine) z.unit.creator) (part (summaries s theirs) z.unit.creator) z.unit.seq) ≡ true) u.2 test))) w.2)
      ]

  -- evidence and endorsements are all due
  sent_other : {A : Type 0} (f : Vertex → Option A) → ((u : SignedUnit) → f (vertex.Unit u) ≡ None) → (x : A) → Among x (filter_map f mine) → Among x (filter_map f due)
  sent_other {A} f none x m =
      let w = mapped_among f x mine m in
      among_mapped f w.0 x due (filter-Among (is_due torn (summaries s mine) (summaries s theirs)) w.0 mine w.1 (go w.0 w.2)) w.2
    where
      go : (v : Vertex) → f v ≡ Some x → is_due torn (summaries s mine) (summaries s theirs) v ≡ true
      go (vertex.Unit u) e = absurd (let bad : None ≡ Some x = sym (none u) ∙ e in cc)
      go (vertex.Evidence v) e = refl
      go (vertex.Endorsement v) e = refl

-- what is sent stands in the journal
due_within : (s : Setting) (mine theirs : List Vertex) → Within (due_to s mine theirs) mine
due_within s mine theirs v m = (Among-filter _ v mine m).0

-- ---- both

module _ {A : Type 0} (f : Vertex → Option A) (left right to_left to_right : List Vertex) (left_from : Within to_right left) (right_from : Within to_left right) where
  mapped_within : (xs ys : List Vertex) → Within xs ys → Within (filter_map f xs) (filter_map f ys)
  mapped_within xs ys w x m = let v = mapped_among f x xs m in among_mapped f v.0 x ys (w v.0 v.1) v.2

  one_way : (mine theirs to_mine to_theirs : List Vertex) → Within to_mine theirs → ((x : A) → Among x (filter_map f mine) → Among x (filter_map f theirs) ⊎ Among x (filter_map f to_theirs))
      → Within (filter_map f (mine ++ to_mine)) (filter_map f (theirs ++ to_theirs))
  one_way mine theirs to_mine to_theirs w covers x m =
      subst (λ xs. Among x xs) (sym (filter_map-append f theirs to_theirs))
      (elim (append_cases x (filter_map f mine) (filter_map f to_mine) (subst (λ xs. Among x xs) (filter_map-append f mine to_mine) m)) [
        | inl k ↦ elim (covers x k) [ inl a ↦ from_left x (filter_map f theirs) (filter_map f to_theirs) a | inr b ↦ from_right x (filter_map f theirs) (filter_map f to_theirs) b ]
        | inr k ↦ from_left x (filter_map f theirs) (filter_map f to_theirs) (mapped_within to_mine theirs w x k)
      ])

  both_same : ((x : A) → Among x (filter_map f left) → Among x (filter_map f right) ⊎ Among x (filter_map f to_right)) → ((x : A) → Among x (filter_map f right) → Among x (filter_map f left) ⊎ Among x (filter_map f to_left))
      → HasSame (filter_map f (left ++ to_left)) (filter_map f (right ++ to_right))
  both_same covers back = record { to = one_way left right to_left to_right right_from covers; back = one_way right left to_right to_left left_from back }

pub together : (s : Setting) (left right : List Vertex) → NamesApart (units_in s left) → NamesApart (units_in s right) → NoClash (received_of s left).units (received_of s right).units
    → SaysTheSame s (left ++ due_to s right left) (right ++ due_to s left right)
together s left right names_left names_right apart =
    let back : NoClash (received_of s right).units (received_of s left).units = λ x y m n e. sym (apart y x n m (sym e)) in
    let to_right = due_to s left right in
    let to_left = due_to s right left in
    record {
      units = both_same (unit_of_vertex s) left right to_left to_right (due_within s left right) (due_within s right left) (sent_unit s left right apart names_left) (sent_unit s right left back names_right);
      with_evidence = both_same evidence_in left right to_left to_right (due_within s left right) (due_within s right left) (λ x m. inr (sent_other s left right apart evidence_in (λ u. refl) x m)) (λ x m. inr (sent_other s right left back evidence_in (λ u. refl) x m));
      pairs = both_same endorsement_in left right to_left to_right (due_within s left right) (due_within s right left) (λ x m. inr (sent_other s left right apart endorsement_in (λ u. refl) x m)) (λ x m. inr (sent_other s right left back endorsement_in (λ u. refl) x m));
    }

-- ---- a clash, or none

abbrev in_clash : Node → Node → Bool
in_clash x y = digest_eq x.digest y.digest && not (unit_eq x.unit y.unit)

clash_or_none : (s : Setting) (left right : List Vertex) → NoClash (received_of s left).units (received_of s right).units ⊎ UnitsClash s left right
clash_or_none s left right = go (list_any (λ x. list_any (in_clash x) (received_of s right).units) (received_of s left).units) refl
  where
    go : (b : Bool) → list_any (λ x. list_any (in_clash x) (received_of s right).units) (received_of s left).units ≡ b → NoClash (received_of s left).units (received_of s right).units ⊎ UnitsClash s left right
    go true e =
        let x = some_of (λ x. list_any (in_clash x) (received_of s right).units) (received_of s left).units e in
        let y = some_of (in_clash x.0) (received_of s right).units x.2 in
        let p = and_parts (digest_eq x.0.digest y.0.digest) (not (unit_eq x.0.unit y.0.unit)) y.2 in
        inr (record {
          first = x.0;
          second = y.0;
          in_left = received_in s left x.0 x.1;
          in_right = received_in s right y.0 y.1;
          one_name = digest_same x.0.digest y.0.digest p.0;
          differ = λ same. never_both (unit_eq x.0.unit y.0.unit) (subst (λ (z : Node). unit_eq x.0.unit z.unit ≡ true) same (Rattle.hw_types.proofs.OrderLaws.unit_self x.0.unit)) (not_true (unit_eq x.0.unit y.0.unit) p.1);
        })
    go false e = inl (λ x y m n name.
        let no = any_none (in_clash x) (received_of s right).units (any_none (λ x. list_any (in_clash x) (received_of s right).units) (received_of s left).units e x m) y n in
        let same : x.unit ≡ y.unit = unit_same x.unit y.unit (not_false (unit_eq x.unit y.unit) (and_none (digest_eq x.digest y.digest) (not (unit_eq x.unit y.unit)) no (named_eq x y name))) in
        λ i. record { digest = name i; unit = same i })

pub converge : NodesConverge
converge s left right none_left none_right =
    let j = journal_of s left in
    let k = journal_of s right in
    let after_left = taken_says s j (due_to s k j) none_left in
    let after_right = taken_says s k (due_to s j k) none_right in
    elim (clash_or_none s j k) [
      | inl apart ↦ inl (says_trans s (taken s j (due_to s k j)) (j ++ due_to s k j) (taken s k (due_to s j k)) after_left
          (says_trans s (j ++ due_to s k j) (k ++ due_to s j k) (taken s k (due_to s j k)) (together s j k (journal_apart s left) (journal_apart s right) apart) (says_back s (taken s k (due_to s j k)) (k ++ due_to s j k) after_right)))
      | inr c ↦ inr (record {
        first = c.first;
        second = c.second;
        in_left = after_left.units.back c.first (subst (λ xs. Among c.first xs) (sym (filter_map-append (unit_of_vertex s) j (due_to s k j))) (from_left c.first (units_in s j) (units_in s (due_to s k j)) c.in_left));
        in_right = after_right.units.back c.second (subst (λ xs. Among c.second xs) (sym (filter_map-append (unit_of_vertex s) k (due_to s j k))) (from_left c.second (units_in s k) (units_in s (due_to s j k)) c.in_right));
        one_name = c.one_name;
        differ = c.differ;
      })
    ]

-- a journal that takes more is one that deliveries made
fold_more : (s : Setting) (journal : List Vertex) (some more : List (Vertex × Bool)) → fold (journal_after s) journal (some ++ more) ≡ fold (journal_after s) (fold (journal_after s) journal some) more
fold_more s journal [] more = refl
fold_more s journal (d ∷ ds) more = fold_more s (journal_after s journal d) ds more

pub states : ConvergedStatesAreOne
states s left right none_left none_right =
    let j = journal_of s left in
    let k = journal_of s right in
    elim (converge s left right none_left none_right) [
      | inl same ↦ (
          let sent = map (λ v. (v, true)) (due_to s k j) in
          let names : NamesApart (units_in s (taken s j (due_to s k j))) = subst (λ journal. NamesApart (units_in s journal)) (fold_more s [] left sent) (journal_apart s (left ++ sent)) in
          inl (state_same s.config (received_of s (taken s j (due_to s k j))) (received_of s (taken s k (due_to s j k))) (received_same s (taken s j (due_to s k j)) (taken s k (due_to s j k)) names same)))
      | inr c ↦ inr c
    ]
