-- Laws of the places of the items, in the order of their numbers.
use Rattle.std.proofs.Common.{◌≡◌, ◌≢◌, ◌⊎◌, inl, inr, ℕ, zero, suc, ◌+◌, ◌<◌, ◌≤◌, Bool, true, false, cond, nat_eq, List, [], ◌∷◌, ◌++◌, Option, Some, None, IsSome, refl, sym, ap, subst, ◌∙◌, Less, arith}
use Rattle.std.specs.List.{flat_map}
use Rattle.std.specs.List.Sorted.{IsStrictlySortedBy}
use Rattle.std.specs.Map.{lookup, keys_of, values_of}
use Rattle.std.specs.Option.{option_map, option_map_or, option_and_then, option_to_list}
use Rattle.std.specs.Ordering.{nat_cmp}
use Rattle.std.proofs.lemmas.Bool.{cases_eq, cases_lt}
use Rattle.std.proofs.lemmas.Bool.Decides.{nat_tests}
use Rattle.std.proofs.lemmas.Grind.{flat_map-append}
use Rattle.std.proofs.lemmas.List.{append-nil, append_assoc}
use Rattle.hw_types.specs.declared.unit.Need.{Need}
use Rattle.hw_park.specs.declared.waiter.Waiter.{Waiter}
use Rattle.hw_park.specs.Parked.{Waiting}
use Rattle.hw_park.specs.Held.{Held, left_of, seen, slot_at, held, is_over, ready_at, ArePlaced}
use Rattle.hw_park.specs.Kept.{listed}
use Rattle.hw_park.specs.First.{needs_of_places}

-- ---- what the numbers from a on give, one after the other

abbrev gathered : (ℕ → List Need) → ℕ → ℕ → List Need
gathered f a zero = []
gathered f a (suc m) = f a ++ gathered f (suc a) m

gathered-last : (f : ℕ → List Need) (a m : ℕ) → gathered f a (suc m) ≡ gathered f a m ++ f (a + m)
gathered-last f a zero = append-nil (f a) ∙ ap f (omega arith)
gathered-last f a (suc m) =
    ap (λ (ns : List Need). f a ++ ns) (gathered-last f (suc a) m ∙ ap (λ (k : ℕ). gathered f (suc a) m ++ f k) (omega arith))
    ∙ sym (append_assoc (f a) (gathered f (suc a) m) (f (a + suc m)))

abbrev needs_at : {T : Type 0} → (ℕ → Option (Waiting T)) → ℕ → List Need
needs_at at k = option_map_or (λ w. w.needs) (at k) []

listed_gathered : {T : Type 0} (at : ℕ → Option (Waiting T)) (n : ℕ) → flat_map (λ w. w.needs) (listed at n) ≡ gathered (needs_at at) 0 n
unfolding listed
listed_gathered at zero = refl
listed_gathered {T} at (suc n) =
    flat_map-append (λ (w : Waiting T). w.needs) (listed at n) (option_to_list (at n))
    ∙ ap (λ (ns : List Need). ns ++ flat_map (λ (w : Waiting T). w.needs) (option_to_list (at n))) (listed_gathered at n)
    ∙ ap (λ (ns : List Need). gathered (needs_at at) 0 n ++ ns) (one (at n) ∙ ap (needs_at at) (omega arith))
    ∙ sym (gathered-last (needs_at at) 0 n)
  where
    one : (o : Option (Waiting T)) → flat_map (λ (w : Waiting T). w.needs) (option_to_list o) ≡ option_map_or (λ (w : Waiting T). w.needs) o []
    one None = refl
    one (Some w) = append-nil w.needs

-- ---- a table in the order of its numbers

-- each number of the table is from a on and below b
abbrev IsIn : ℕ → ℕ → List (ℕ × ℕ) → Type 0
IsIn a b [] = Unit {0}
IsIn a b (e ∷ es) = (a ≤ e.0) × (e.0 < b) × IsIn a b es

is_less : (x y : ℕ) → nat_cmp x y ≡ Less → x < y
is_less x y h = grind (arith, nat_tests)

from_more : (a c b : ℕ) (es : List (ℕ × ℕ)) → a ≤ c → IsIn c b es → IsIn a b es
from_more a c b [] le i = tt
from_more a c b (e ∷ es) le i = let first = i.0 in (omega arith, i.1, from_more a c b es le i.2)

-- what stands behind the first has greater numbers
above : (k a b : ℕ) (es : List (ℕ × ℕ)) → IsStrictlySortedBy nat_cmp (k ∷ keys_of es) → IsIn a b es → IsIn (suc k) b es
unfolding IsStrictlySortedBy
above k a b [] s i = tt
above k a b (e ∷ es) s i = let first = is_less k e.0 s.0.0 in (omega arith, i.1, above k a b es (s.0.1, s.1.1) i.2)

none_below : (a b : ℕ) (es : List (ℕ × ℕ)) → IsIn (suc a) b es → lookup (nat_eq a) es ≡ None
none_below a b [] i = refl
none_below a b (e ∷ es) i = rw other (none_below a b es i.2)
  where
    other : nat_eq a e.0 ≡ false
    other = let first = i.0 in grind (arith, nat_tests)

-- what a table gives in its order is what its numbers give
table_gathered : (g : ℕ → List Need) (f : ℕ → List Need) (m a : ℕ) (es : List (ℕ × ℕ)) → IsStrictlySortedBy nat_cmp (keys_of es) → IsIn a (a + m) es
    → ((k : ℕ) → a ≤ k → f k ≡ option_map_or g (lookup (nat_eq k) es) []) → flat_map g (values_of es) ≡ gathered f a m
unfolding IsStrictlySortedBy
table_gathered g f zero a [] s i is = refl
table_gathered g f zero a (e ∷ es) s i is = absurd (let first = i.0 in let last = i.1 in omega arith)
table_gathered g f (suc m) a [] s i is = sym (ap (λ (ns : List Need). ns ++ gathered f (suc a) m) (is a (omega arith)) ∙ sym (table_gathered g f m (suc a) [] tt tt (λ k le. is k (omega arith))))
table_gathered g f (suc m) a (e ∷ es) s i is = go (cases_eq e.0 a) (λ xs. table_gathered g f m (suc a) xs)
  where
    upper : a + suc m ≡ suc a + m
    upper = omega arith

    later : e.0 ≡ a → (k : ℕ) → suc a ≤ k → nat_eq k e.0 ≡ false
    later same k le = grind (arith, nat_tests)

    go : ((e.0 ≡ a) ⊎ (e.0 ≢ a))
        → ((xs : List (ℕ × ℕ)) → IsStrictlySortedBy nat_cmp (keys_of xs) → IsIn (suc a) (suc a + m) xs → ((k : ℕ) → suc a ≤ k → f k ≡ option_map_or g (lookup (nat_eq k) xs) []) → flat_map g (values_of xs) ≡ gathered f (suc a) m)
        → flat_map g (values_of (e ∷ es)) ≡ f a ++ gathered f (suc a) m
    go (inl same) all =
        let is_here : nat_eq a e.0 ≡ true = grind (arith, nat_tests) in
        let here : f a ≡ g e.1 = is a (omega arith) ∙ ap (λ (b : Bool). option_map_or g (cond b (Some e.1) (lookup (nat_eq a) es)) []) is_here in
        let rest = above e.0 a (a + suc m) es s i.2 in
        let inside : IsIn (suc a) (suc a + m) es = subst (λ (b : ℕ). IsIn (suc a) b es) upper (subst (λ (k : ℕ). IsIn (suc k) (a + suc m) es) same rest) in
        ap (λ (ns : List Need). g e.1 ++ ns) (all es s.1 inside
        (λ k le. is k (omega arith) ∙ ap (λ (b : Bool). option_map_or g (cond b (Some e.1) (lookup (nat_eq k) es)) []) (later same k le)))
        ∙ ap (λ (ns : List Need). ns ++ gathered f (suc a) m) (sym here)
    go (inr ne) all =
        let first = i.0 in
        let rest = from_more (suc a) (suc e.0) (a + suc m) es (omega arith) (above e.0 a (a + suc m) es s i.2) in
        let inside : IsIn (suc a) (a + suc m) (e ∷ es) = (omega arith, i.1, rest) in
        let none : f a ≡ [] = is a (omega arith) ∙ ap (λ (o : Option ℕ). option_map_or g o []) (none_below a (a + suc m) (e ∷ es) inside) in
        all (e ∷ es) s (subst (λ (b : ℕ). IsIn (suc a) b (e ∷ es)) upper inside) (λ k le. is k (omega arith))
        ∙ ap (λ (ns : List Need). ns ++ gathered f (suc a) m) (sym none)

-- ---- the items

module _ {T : Type 0} (h : Held T) (notes : Need → List ℕ) (placed : ArePlaced h.places h.slots) (n : ℕ) (beyond : (k : ℕ) → n ≤ k → ready_at h k ≡ None) where
  abbrev g : ℕ → List Need
  g place = option_map_or (λ (w : Waiter T). left_of notes place w.needs.items) (slot_at h.slots place) []

  what_is : (o : Option ℕ) → option_map_or (λ (w : Waiting T). w.needs) (option_and_then (λ place. option_map (seen notes place) (slot_at h.slots place)) o) [] ≡ option_map_or g o []
  what_is None = refl
  what_is (Some place) = go (slot_at h.slots place)
    where
      go : (s : Option (Waiter T)) → option_map_or (λ (w : Waiting T). w.needs) (option_map (seen notes place) s) [] ≡ option_map_or (λ (w : Waiter T). left_of notes place w.needs.items) s []
      go None = refl
      go (Some w) = refl

  number_below : (k p : ℕ) → lookup (nat_eq k) h.places ≡ Some p → k < n
  number_below k p at = go (cases_lt k n)
    where
      some_none : (s : Option (Waiter T)) → IsSome s → option_map is_over s ≡ None → ⊥
      some_none None some none = absurd cc
      some_none (Some w) some none = absurd cc

      go : ((k < n) ⊎ (n ≤ k)) → k < n
      go (inl low) = low
      go (inr high) = absurd (some_none (slot_at h.slots p) (placed.full k p at)
          (sym (ap (λ (o : Option ℕ). option_and_then (λ place. option_map is_over (slot_at h.slots place)) o) at) ∙ beyond k high))

  all_in : (es : List (ℕ × ℕ)) → ((k p : ℕ) → lookup (nat_eq k) es ≡ Some p → k < n) → IsIn 0 n es
  all_in [] below = tt
  all_in (e ∷ es) below = (
    omega arith,
    below e.0 e.1 (ap (λ (b : Bool). cond b (Some e.1) (lookup (nat_eq e.0) es)) self),
    all_in es (λ k p at. rest k p at (nat_eq k e.0) refl),
  )
    where
      self : nat_eq e.0 e.0 ≡ true
      self = grind (arith, nat_tests)

      rest : (k p : ℕ) → lookup (nat_eq k) es ≡ Some p → (b : Bool) → nat_eq k e.0 ≡ b → k < n
      rest k p at true same = below k e.1 (ap (λ (b : Bool). cond b (Some e.1) (lookup (nat_eq k) es)) same)
      rest k p at false same = below k p (ap (λ (b : Bool). cond b (Some e.1) (lookup (nat_eq k) es)) same ∙ at)

  -- the needs in the places, by number, are those of the items in their order
  pub places_listed : IsStrictlySortedBy nat_cmp (keys_of h.places) → needs_of_places h notes (values_of h.places) ≡ flat_map (λ w. w.needs) (listed (held h notes) n)
  places_listed sorted =
      table_gathered g (needs_at (held h notes)) n 0 h.places sorted (subst (λ (b : ℕ). IsIn 0 b h.places) (omega arith) (all_in h.places number_below)) (λ k le. what_is (lookup (nat_eq k) h.places))
      ∙ sym (listed_gathered (held h notes) n)
