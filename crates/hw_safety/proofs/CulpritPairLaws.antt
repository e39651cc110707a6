-- The two units that show a culprit: the least number with two different units, and the first two there.
use Rattle.std.proofs.Common.{◌≡◌, ℕ, zero, suc, ◌≤◌, ◌<◌, ◌⊎◌, inl, inr, Bool, true, false, cond, not, List, [], ◌∷◌, Option, Some, None, refl, sym, ap, subst, ◌∙◌, arith, eqb-true, eq-eqb}
use Rattle.std.specs.Prelude.{◌&&◌, ◌==◌, nat_lt, filter, length, slice_index_or}
use Rattle.std.specs.List.{list_any}
use Rattle.std.specs.Option.{option_map, option_and_then}
use Rattle.std.proofs.lemmas.Bool.{ltb-true, ltb-false}
use Rattle.hw_types.specs.declared.unit.WireUnit.{WireUnit}
use Rattle.hw_types.specs.Graph.{Node}
use Rattle.hw_types.specs.Below.{Among}
use Rattle.hw_types.specs.Same.{unit_eq}
use Rattle.hw_types.specs.Culprits.{least_seq, equivocations_of, at_seq, stands_before, first_unit, first_two, pair_of}
use Rattle.hw_types.proofs.ClosureLaws.{Among-filter, filter-Among}
use Rattle.hw_types.proofs.PastLaws.{some_of, any_of}
use Rattle.hw_types.proofs.StableLaws.{and_parts, and_whole, both_ways}
use Rattle.hw_types.proofs.WordsLaws.{never_both, not_true}
use Rattle.hw_types.proofs.OrderLaws.{unit_same, unit_self}
use Rattle.hw_safety.specs.Pairs.{is_culprit}
use Rattle.hw_safety.proofs.UnitOrderLaws.{Comes, comes_never}

-- the test is the same both ways
pub unit_turned : (u v : WireUnit) → unit_eq u v ≡ unit_eq v u
unit_turned u v = both_ways (unit_eq u v) (unit_eq v u) (λ h. back u v (unit_same u v h)) (λ h. back v u (unit_same v u h))
  where
    back : (u v : WireUnit) → u ≡ v → unit_eq v u ≡ true
    back u v e = subst (λ (w : WireUnit). unit_eq w u ≡ true) e (unit_self u)

-- ---- the first unit and the least number of some

first_from : (ys : List Node) (z a : Node) → Among a (z ∷ ys) → ((y : Node) → Among y (z ∷ ys) → (y ≡ a) ⊎ Comes a y) → first_unit (Some z) ys ≡ Some a
first_from [] z a (inl e) each = ap Some e
first_from [] z a (inr m) each = absurd m
first_from (x ∷ xs) z a m each = go (stands_before x z) refl (first_from xs x a) (first_from xs z a)
  where
    later : stands_before x z ≡ true → ((z ≡ a) ⊎ Among a (x ∷ xs)) → Among a (x ∷ xs)
    later e (inr k) = k
    later e (inl is) = elim (each x (inr (inl refl))) [
      | inl one ↦ inl one
      | inr before ↦ absurd (comes_never x a (subst (λ (y : Node). Comes x y) is e) before)
    ]

    kept : stands_before x z ≡ false → ((z ≡ a) ⊎ ((x ≡ a) ⊎ Among a xs)) → Among a (z ∷ xs)
    kept e (inl is) = inl is
    kept e (inr (inr k)) = inr k
    kept e (inr (inl is)) = elim (each z (inl refl)) [
      | inl one ↦ inl one
      | inr before ↦ absurd (never_both (stands_before x z) (subst (λ (y : Node). Comes y z) (sym is) before) e)
    ]

    few : (y : Node) → ((z ≡ y) ⊎ Among y xs) → (y ≡ a) ⊎ Comes a y
    few y (inl is) = each y (inl is)
    few y (inr k) = each y (inr (inr k))

    go : (b : Bool) → stands_before x z ≡ b
        → (Among a (x ∷ xs) → ((y : Node) → Among y (x ∷ xs) → (y ≡ a) ⊎ Comes a y) → first_unit (Some x) xs ≡ Some a)
        → (Among a (z ∷ xs) → ((y : Node) → Among y (z ∷ xs) → (y ≡ a) ⊎ Comes a y) → first_unit (Some z) xs ≡ Some a)
        → first_unit (cond b (Some x) (Some z)) xs ≡ Some a
    go true e p q = p (later e m) (λ y k. each y (inr k))
    go false e p q = q (kept e m) few

first_is : (ys : List Node) (a : Node) → Among a ys → ((y : Node) → Among y ys → (y ≡ a) ⊎ Comes a y) → first_unit None ys ≡ Some a
first_is [] a m each = absurd m
first_is (y ∷ ys) a m each = first_from ys y a m each

least_from : (ys : List Node) (k n : ℕ) → n ≤ k → ((k ≡ n) ⊎ ((x : Node) × Among x ys × (x.unit.seq ≡ n))) → ((y : Node) → Among y ys → n ≤ y.unit.seq) → least_seq (Some k) ys ≡ Some n
least_from [] k n le (inl e) each = ap Some e
least_from [] k n le (inr x) each = absurd x.1
least_from (y ∷ ys) k n le has each = go (nat_lt y.unit.seq k) refl (least_from ys y.unit.seq n) (least_from ys k n)
  where
    low : n ≤ y.unit.seq
    low = each y (inl refl)

    lowered : y.unit.seq < k → ((k ≡ n) ⊎ ((x : Node) × ((y ≡ x) ⊎ Among x ys) × (x.unit.seq ≡ n))) → (y.unit.seq ≡ n) ⊎ ((x : Node) × Among x ys × (x.unit.seq ≡ n))
    lowered lt (inl e) = absurd (let l = low in omega arith)
    lowered lt (inr x) = named x.0 x.1 x.2
      where
        named : (x : Node) → ((y ≡ x) ⊎ Among x ys) → x.unit.seq ≡ n → (y.unit.seq ≡ n) ⊎ ((x : Node) × Among x ys × (x.unit.seq ≡ n))
        named x (inl is) s = inl (ap (λ (z : Node). z.unit.seq) is ∙ s)
        named x (inr m) s = inr (x, m, s)

    stays : k ≤ y.unit.seq → ((k ≡ n) ⊎ ((x : Node) × ((y ≡ x) ⊎ Among x ys) × (x.unit.seq ≡ n))) → (k ≡ n) ⊎ ((x : Node) × Among x ys × (x.unit.seq ≡ n))
    stays ge (inl e) = inl e
    stays ge (inr x) = named x.0 x.1 x.2
      where
        named : (x : Node) → ((y ≡ x) ⊎ Among x ys) → x.unit.seq ≡ n → (k ≡ n) ⊎ ((x : Node) × Among x ys × (x.unit.seq ≡ n))
        named x (inl is) s = let same : y.unit.seq ≡ n = ap (λ (z : Node). z.unit.seq) is ∙ s in inl (omega arith)
        named x (inr m) s = inr (x, m, s)

    go : (b : Bool) → nat_lt y.unit.seq k ≡ b
        → (n ≤ y.unit.seq → ((y.unit.seq ≡ n) ⊎ ((x : Node) × Among x ys × (x.unit.seq ≡ n))) → ((x : Node) → Among x ys → n ≤ x.unit.seq) → least_seq (Some y.unit.seq) ys ≡ Some n)
        → (n ≤ k → ((k ≡ n) ⊎ ((x : Node) × Among x ys × (x.unit.seq ≡ n))) → ((x : Node) → Among x ys → n ≤ x.unit.seq) → least_seq (Some k) ys ≡ Some n)
        → least_seq (cond b (Some y.unit.seq) (Some k)) ys ≡ Some n
    go true e p q = p low (lowered (ltb-true y.unit.seq k e) has) (λ x m. each x (inr m))
    go false e p q = q le (stays (ltb-false y.unit.seq k e) has) (λ x m. each x (inr m))

least_is : (ys : List Node) (n : ℕ) (x : Node) → Among x ys → x.unit.seq ≡ n → ((y : Node) → Among y ys → n ≤ y.unit.seq) → least_seq None ys ≡ Some n
least_is [] n x m s each = absurd m
least_is (y ∷ ys) n x (inl is) s each = let same : y.unit.seq ≡ n = ap (λ (z : Node). z.unit.seq) is ∙ s in least_from ys y.unit.seq n (each y (inl refl)) (inl same) (λ z k. each z (inr k))
least_is (y ∷ ys) n x (inr m) s each = least_from ys y.unit.seq n (each y (inl refl)) (inr (x, m, s)) (λ z k. each z (inr k))

-- a number that is there is read whatever stands for one that isn't
pub read_as : {A : Type 0} (xs : List A) (i : ℕ) (d e : A) → i < length xs → slice_index_or xs i d ≡ slice_index_or xs i e
read_as [] i d e lt = absurd (omega arith)
read_as (x ∷ xs) zero d e lt = refl
read_as (x ∷ xs) (suc i) d e lt = read_as xs i d e (omega arith)

two_are : (xs : List Node) (a b : Node) → first_unit None xs ≡ Some a → first_unit None (filter (λ y. not (unit_eq a.unit y.unit)) xs) ≡ Some b → first_two xs ≡ Some (a, b)
two_are xs a b e f = ap (option_and_then (λ z. option_map (λ y. (z, y)) (first_unit None (filter (λ y. not (unit_eq z.unit y.unit)) xs)))) e ∙ ap (option_map (λ y. (a, y))) f

-- ---- units of one validator that differ

module _ (xs : List Node) (v : ℕ) where
  abbrev other : Node → Node → Bool
  other x y = (y.unit.creator == v) && (y.unit.seq == x.unit.seq) && not (unit_eq x.unit y.unit)

  abbrev forked : Node → Bool
  forked x = (x.unit.creator == v) && list_any (other x) xs

  in_forked : (x y : Node) → Among x xs → Among y xs → x.unit.creator ≡ v → y.unit.creator ≡ v → y.unit.seq ≡ x.unit.seq → unit_eq x.unit y.unit ≡ false → Among x (equivocations_of xs v)
  in_forked x y mx my cx cy s d =
      filter-Among forked x xs mx (and_whole (x.unit.creator == v) (list_any (other x) xs) (eq-eqb x.unit.creator v cx)
      (any_of (other x) y xs my (and_whole ((y.unit.creator == v) && (y.unit.seq == x.unit.seq)) (not (unit_eq x.unit y.unit))
      (and_whole (y.unit.creator == v) (y.unit.seq == x.unit.seq) (eq-eqb y.unit.creator v cy) (eq-eqb y.unit.seq x.unit.seq s)) (ap not d))))

  of_forked : (x : Node) → Among x (equivocations_of xs v)
      → Among x xs × (x.unit.creator ≡ v) × ((y : Node) × Among y xs × (y.unit.creator ≡ v) × (y.unit.seq ≡ x.unit.seq) × (unit_eq x.unit y.unit ≡ false))
  of_forked x m =
      let p = Among-filter forked x xs m in
      let q = and_parts (x.unit.creator == v) (list_any (other x) xs) p.1 in
      let y = some_of (other x) xs q.1 in
      let r = and_parts ((y.0.unit.creator == v) && (y.0.unit.seq == x.unit.seq)) (not (unit_eq x.unit y.0.unit)) y.2 in
      let t = and_parts (y.0.unit.creator == v) (y.0.unit.seq == x.unit.seq) r.0 in
      (p.0, eqb-true x.unit.creator v q.0, (y.0, y.1, eqb-true y.0.unit.creator v t.0, eqb-true y.0.unit.seq x.unit.seq t.1, not_true (unit_eq x.unit y.0.unit) r.1))

  -- nobody equivocated
  pub no_culprit : ((x y : Node) → Among x xs → Among y xs → x.unit.creator ≡ v → y.unit.creator ≡ v → y.unit.seq ≡ x.unit.seq → unit_eq x.unit y.unit ≡ false → ⊥) → is_culprit xs v ≡ false
  no_culprit none = both_ways (is_culprit xs v) false (λ h.
      let x = some_of (λ x. true) (equivocations_of xs v) h in
      let p = of_forked x.0 x.1 in
      absurd (none x.0 p.2.0 p.0 p.2.1 p.1 p.2.2 p.2.3 p.2.4)) (λ h. absurd cc)

  module _ (n : ℕ) (a b : Node) (a_in : Among a xs) (b_in : Among b xs) (a_by : a.unit.creator ≡ v) (b_by : b.unit.creator ≡ v) (a_at : a.unit.seq ≡ n) (b_at : b.unit.seq ≡ n) (differ : unit_eq a.unit b.unit ≡ false)
      (first : (y : Node) → Among y xs → y.unit.creator ≡ v → y.unit.seq ≡ n → (y ≡ a) ⊎ Comes a y)
      (second : (y : Node) → Among y xs → y.unit.creator ≡ v → y.unit.seq ≡ n → (y ≡ a) ⊎ ((y ≡ b) ⊎ Comes b y))
      (least : (x y : Node) → Among x xs → Among y xs → x.unit.creator ≡ v → y.unit.creator ≡ v → y.unit.seq ≡ x.unit.seq → unit_eq x.unit y.unit ≡ false → n ≤ x.unit.seq) where
    a_forked : Among a (equivocations_of xs v)
    a_forked = in_forked a b a_in b_in a_by b_by (b_at ∙ sym a_at) differ

    b_forked : Among b (equivocations_of xs v)
    b_forked = in_forked b a b_in a_in b_by a_by (a_at ∙ sym b_at) (unit_turned b.unit a.unit ∙ differ)

    pub a_culprit : is_culprit xs v ≡ true
    a_culprit = any_of (λ x. true) a (equivocations_of xs v) a_forked refl

    least_n : least_seq None (equivocations_of xs v) ≡ Some n
    least_n = least_is (equivocations_of xs v) n a a_forked a_at (λ y m. let p = of_forked y m in least y p.2.0 p.0 p.2.1 p.1 p.2.2 p.2.3 p.2.4)

    abbrev low : Node → Bool
    low x = x.unit.seq == n

    abbrev lowest : List Node
    lowest = filter low (equivocations_of xs v)

    of_lowest : (y : Node) → Among y lowest → Among y xs × (y.unit.creator ≡ v) × (y.unit.seq ≡ n)
    of_lowest y m = let q = Among-filter low y (equivocations_of xs v) m in let p = of_forked y q.0 in (p.0, p.1, eqb-true y.unit.seq n q.1)

    first_a : first_unit None lowest ≡ Some a
    first_a = first_is lowest a (filter-Among low a (equivocations_of xs v) a_forked (eq-eqb a.unit.seq n a_at)) (λ y m. let p = of_lowest y m in first y p.0 p.1 p.2)

    abbrev apart : Node → Bool
    apart y = not (unit_eq a.unit y.unit)

    first_b : first_unit None (filter apart lowest) ≡ Some b
    first_b = first_is (filter apart lowest) b (filter-Among apart b lowest (filter-Among low b (equivocations_of xs v) b_forked (eq-eqb b.unit.seq n b_at)) (ap not differ)) each
      where
        each : (y : Node) → Among y (filter apart lowest) → (y ≡ b) ⊎ Comes b y
        each y m =
            let q = Among-filter apart y lowest m in
            let p = of_lowest y q.0 in
            elim (second y p.0 p.1 p.2) [
              | inl is ↦ absurd (never_both (unit_eq a.unit y.unit) (subst (λ (z : Node). unit_eq a.unit z.unit ≡ true) (sym is) (unit_self a.unit)) (not_true (unit_eq a.unit y.unit) q.1))
              | inr other ↦ other
            ]

    pub pair_is : pair_of xs v ≡ Some (a, b)
    unfolding pair_of
    pair_is = ap (λ o. first_two (at_seq o (equivocations_of xs v))) least_n ∙ two_are lowest a b first_a first_b
