-- What the pair of a culprit shows.
use Rattle.std.proofs.Common.{◌≡◌, ℕ, ◌⊎◌, inl, inr, Bool, true, false, cond, List, [], ◌∷◌, ◌++◌, Option, Some, None, refl, sym, ap, subst, ◌∙◌, eqb-true}
use Rattle.std.specs.Prelude.{◌≢◌, filter, not, ◌&&◌, ◌==◌}
use Rattle.std.specs.List.{list_any}
use Rattle.std.specs.Option.{option_map, option_and_then}
use Rattle.hw_types.specs.declared.unit.WireUnit.{WireUnit}
use Rattle.hw_types.specs.Graph.{Node}
use Rattle.hw_types.specs.Below.{Among}
use Rattle.hw_types.specs.Same.{unit_eq}
use Rattle.hw_types.specs.Culprits.{least_seq, equivocations_of, at_seq, stands_before, first_unit, first_two, pair_of, shown_in_either, SignedAs, IsShown}
use Rattle.hw_types.proofs.ClosureLaws.{Among-filter}
use Rattle.hw_types.proofs.StableLaws.{and_parts}
use Rattle.hw_types.proofs.OrderLaws.{unit_self}
use Rattle.hw_types.proofs.OrderedLaws.{all_among, among_all}
use Rattle.hw_types.proofs.WordsLaws.{never_both, not_true}
use Rattle.hw_culprits.specs.Equivocation.{IsEquivocation, ShowsEquivocation, PairIsAnEquivocation, CulpritShowsEquivocation, CulpritsShowEquivocations}

-- the first unit of a list is of that list, or was found before
first_among : (o : Option Node) (xs : List Node) (z : Node) → first_unit o xs ≡ Some z → (o ≡ Some z) ⊎ Among z xs
first_among o [] z h = inl h
first_among None (x ∷ xs) z h = elim (first_among (Some x) xs z h) [
  | inl e ↦ inr (inl (let same : Some x ≡ Some z = e in cc))
  | inr m ↦ inr (inr m)
]
first_among (Some y) (x ∷ xs) z h = go (stands_before x y) h (first_among (Some x) xs z) (first_among (Some y) xs z)
  where
    of_two : (b : Bool) → cond b (Some x) (Some y) ≡ Some z → (Some y ≡ Some z) ⊎ Among z (x ∷ xs)
    of_two true e = inr (inl (let same : Some x ≡ Some z = e in cc))
    of_two false e = inl e

    go : (b : Bool) → first_unit (cond b (Some x) (Some y)) xs ≡ Some z → (first_unit (Some x) xs ≡ Some z → (Some x ≡ Some z) ⊎ Among z xs) → (first_unit (Some y) xs ≡ Some z → (Some y ≡ Some z) ⊎ Among z xs) → (Some y ≡ Some z) ⊎ Among z (x ∷ xs)
    go true k of_x of_y = elim (of_x k) [ inl e ↦ of_two true e | inr m ↦ inr (inr m) ]
    go false k of_x of_y = elim (of_y k) [ inl e ↦ of_two false e | inr m ↦ inr (inr m) ]

from_none : (xs : List Node) (z : Node) → first_unit None xs ≡ Some z → Among z xs
from_none xs z h = elim (first_among None xs z h) [ inl e ↦ absurd (let no : None ≡ Some z = e in cc) | inr m ↦ m ]

of_some : {A : Type 0} (p q : A) → Some p ≡ Some q → p ≡ q
of_some p q h = cc

-- two units between which the test tells a difference are two
apart : (u w : WireUnit) → not (unit_eq u w) ≡ true → u ≢ w
apart u w h same = never_both (unit_eq u w) (subst (λ (z : WireUnit). unit_eq u z ≡ true) same (unit_self u)) (not_true _ h)

-- the first two of a list
two_of : (xs : List Node) (x y : Node) → first_two xs ≡ Some (x, y) → Among x xs × Among y xs × (x.unit ≢ y.unit)
two_of xs x y h = outer (first_unit None xs) refl h
  where
    inner : (a : Node) → first_unit None xs ≡ Some a → (o : Option Node) → first_unit None (filter (λ b. not (unit_eq a.unit b.unit)) xs) ≡ o → option_map {U = Node × Node} (λ b. (a, b)) o ≡ Some (x, y) → Among x xs × Among y xs × (x.unit ≢ y.unit)
    inner a first None second k = absurd (let no : None ≡ Some (x, y) = k in cc)
    inner a first (Some b) second k =
        let pair : Node × Node = (a, b) in
        let both : Node × Node = (x, y) in
        let same : pair ≡ both = of_some pair both k in
        let is_x : a ≡ x = ap (λ (z : Node × Node). z.0) same in
        let is_y : b ≡ y = ap (λ (z : Node × Node). z.1) same in
        let among_a = from_none xs a first in
        let among_b = Among-filter (λ z. not (unit_eq a.unit z.unit)) b xs (from_none (filter (λ z. not (unit_eq a.unit z.unit)) xs) b second) in (
          subst (λ z. Among z xs) is_x among_a,
          subst (λ z. Among z xs) is_y among_b.0,
          λ e. apart a.unit b.unit among_b.1 (ap (λ (z : Node). z.unit) is_x ∙ e ∙ ap (λ (z : Node). z.unit) (sym is_y)),
        )

    outer : (o : Option Node) → first_unit None xs ≡ o → option_and_then {U = Node × Node} (λ a. option_map {U = Node × Node} (λ b. (a, b)) (first_unit None (filter (λ b. not (unit_eq a.unit b.unit)) xs))) o ≡ Some (x, y) → Among x xs × Among y xs × (x.unit ≢ y.unit)
    outer None e k = absurd (let no : None ≡ Some (x, y) = k in cc)
    outer (Some a) e k = inner a e (first_unit None (filter (λ b. not (unit_eq a.unit b.unit)) xs)) refl k

pub pair_is : PairIsAnEquivocation
unfolding pair_of
pair_is xs v x y h = go (least_seq None (equivocations_of xs v)) h
  where
    of_v : (z : Node) (n : ℕ) → Among z (filter (λ w. w.unit.seq == n) (equivocations_of xs v)) → Among z xs × (z.unit.creator ≡ v) × (z.unit.seq ≡ n)
    of_v z n m =
        let there = Among-filter (λ w. w.unit.seq == n) z (equivocations_of xs v) m in
        let mine = Among-filter (λ w. (w.unit.creator == v) && list_any (λ y. (y.unit.creator == v) && (y.unit.seq == w.unit.seq) && not (unit_eq w.unit y.unit)) xs) z xs there.0 in
        (mine.0, eqb-true z.unit.creator v (and_parts _ _ mine.1).0, eqb-true z.unit.seq n there.1)

    go : (o : Option ℕ) → first_two (at_seq o (equivocations_of xs v)) ≡ Some (x, y) → Among x xs × Among y xs × IsEquivocation v x.unit y.unit
    go None k = absurd (let no : None ≡ Some (x, y) = k in cc)
    go (Some n) k =
        let two = two_of (filter (λ w. w.unit.seq == n) (equivocations_of xs v)) x y k in
        let first = of_v x n two.0 in
        let second = of_v y n two.1 in
        (first.0, second.0, record { first_by = first.1; second_by = second.1; one_number = first.2 ∙ sym second.2; differ = two.2 })

pub culprit_shows : CulpritShowsEquivocation
culprit_shows s left right c shown =
    let pair = (pair_is (shown_in_either s left right) c.validator shown.first shown.second shown.pair).2 in
    let one : SignedAs (left ++ right) shown.first c.first = shown.first_bytes in
    let two : SignedAs (left ++ right) shown.second c.second = shown.second_bytes in
    record {
      first = one.0;
      second = two.0;
      first_bytes = one.3;
      second_bytes = two.3;
      first_held = one.1;
      second_held = two.1;
      equivocation = record {
        first_by = ap (λ (u : WireUnit). u.creator) one.2 ∙ pair.first_by;
        second_by = ap (λ (u : WireUnit). u.creator) two.2 ∙ pair.second_by;
        one_number = ap (λ (u : WireUnit). u.seq) one.2 ∙ pair.one_number ∙ sym (ap (λ (u : WireUnit). u.seq) two.2);
        differ = λ e. pair.differ (sym one.2 ∙ e ∙ two.2);
      };
    }

pub culprits_show : CulpritsShowEquivocations
culprits_show s left right cs are = among_all (ShowsEquivocation left right) cs (λ c m. culprit_shows s left right c (all_among (IsShown s left right) cs are.each c m))
