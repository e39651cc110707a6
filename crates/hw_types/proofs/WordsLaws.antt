-- Small facts on lists, tests and slots that the laws share.
use Rattle.std.proofs.Common.{◌≡◌, ℕ, zero, suc, ◌+◌, ◌≤◌, ◌<◌, ◌⊎◌, inl, inr, Bool, true, false, cond, not, List, [], ◌∷◌, length, get_or, Option, Some, None, refl, sym, ap, subst, ◌∙◌, arith}
use Rattle.std.specs.Prelude.{◌&&◌, ◌||◌}
use Rattle.std.specs.List.{list_any, list_all, range_with_len}
use Rattle.hw_types.specs.declared.unit.Digest.{Digest}
use Rattle.hw_types.specs.declared.unit.Obs.{Obs}
use Rattle.hw_types.specs.declared.unit.Obs.TheVariants.{Absent, Correct}
use Rattle.hw_types.specs.Graph.{Node, digest_eq, node_eq, is_some_and, observes, slot, slots, cites, is_among, reach, observed, latest, find_node}
use Rattle.hw_types.specs.Below.{Among}
use Rattle.hw_types.specs.Tests.{Tests, first_broken}
use Rattle.hw_types.proofs.ClosureLaws.{Within}
use Rattle.hw_types.proofs.PastLaws.{some_of, any_of, reach_first, reach_further, reach_keeps}
use Rattle.hw_types.proofs.StableLaws.{OneName, and_parts, and_whole, find_one, found_one}
use Rattle.hw_types.proofs.SettledLaws.{digest_same, digest_self}

-- ---- members of lists

pub place_among : {A : Type 0} (x : A) (xs : List A) (k : ℕ) → k < length xs → get_or xs k x ≡ x → Among x xs
place_among x [] k lt e = absurd (omega arith)
place_among x (y ∷ ys) zero lt e = inl e
place_among x (y ∷ ys) (suc k) lt e = inr (place_among x ys k (omega arith) e)

-- ---- tests

pub not_false : (b : Bool) → not b ≡ false → b ≡ true
not_false true h = refl
not_false false h = sym h

pub not_true : (b : Bool) → not b ≡ true → b ≡ false
not_true true h = sym h
not_true false h = refl

pub or_none : (a b : Bool) → (a || b) ≡ false → (a ≡ false) × (b ≡ false)
or_none true b h = absurd cc
or_none false b h = (refl, h)

pub and_none : (a b : Bool) → (a && b) ≡ false → a ≡ true → b ≡ false
and_none true b h e = h
and_none false b h e = absurd cc

pub either : (b : Bool) → (b ≡ true) ⊎ (b ≡ false)
either true = inl refl
either false = inr refl

pub never_both : (b : Bool) → b ≡ true → b ≡ false → ⊥
never_both b t f = let no : true ≡ false = sym t ∙ f in cc

pub any_none : {A : Type 0} (p : A → Bool) (xs : List A) → list_any p xs ≡ false → (x : A) → Among x xs → p x ≡ false
any_none p [] h x m = absurd m
any_none p (y ∷ ys) h x (inl e) = ap p (sym e) ∙ (or_none (p y) (list_any p ys) h).0
any_none p (y ∷ ys) h x (inr m) = any_none p ys (or_none (p y) (list_any p ys) h).1 x m

pub none_any : {A : Type 0} (p : A → Bool) (xs : List A) → ((x : A) → Among x xs → p x ≡ false) → list_any p xs ≡ false
none_any p [] h = refl
none_any p (y ∷ ys) h = let here = h y (inl refl) in rw here (none_any p ys (λ x m. h x (inr m)))

pub all_of : {A : Type 0} (p : A → Bool) (xs : List A) → list_all p xs ≡ true → (x : A) → Among x xs → p x ≡ true
all_of p [] h x m = absurd m
all_of p (y ∷ ys) h x (inl e) = ap p (sym e) ∙ (and_parts (p y) (list_all p ys) h).0
all_of p (y ∷ ys) h x (inr m) = all_of p ys (and_parts (p y) (list_all p ys) h).1 x m

pub each_all : {A : Type 0} (p : A → Bool) (xs : List A) → ((x : A) → Among x xs → p x ≡ true) → list_all p xs ≡ true
each_all p [] h = refl
each_all p (y ∷ ys) h = and_whole (p y) (list_all p ys) (h y (inl refl)) (each_all p ys (λ x m. h x (inr m)))

pub passes_some : {A : Type 0} (t : A → Bool) (o : Option A) → is_some_and t o ≡ true → (x : A) × (o ≡ Some x) × (t x ≡ true)
passes_some t None h = absurd cc
passes_some t (Some x) h = (x, refl, h)

-- none of the rules is broken
abbrev pub AllFalse : {A : Type 0} → Tests A → Type 0
AllFalse [] = Unit {0}
AllFalse (t ∷ ts) = (t.1 ≡ false) × AllFalse ts

pub none_broken : {A : Type 0} (ts : Tests A) → first_broken ts ≡ None → AllFalse ts
none_broken [] h = tt
none_broken (t ∷ ts) h = go t.1 refl h (none_broken ts)
  where
    go : (b : Bool) → t.1 ≡ b → cond b (Some t.0) (first_broken ts) ≡ None → (first_broken ts ≡ None → AllFalse ts) → (t.1 ≡ false) × AllFalse ts
    go true e k later = absurd cc
    go false e k later = (e, later k)

-- and where no test is true, no rule is broken
pub none_broken_of : {A : Type 0} (ts : Tests A) → AllFalse ts → first_broken ts ≡ None
none_broken_of [] h = refl
none_broken_of (t ∷ ts) h = ap (λ b. cond b (Some t.0) (first_broken ts)) h.0 ∙ none_broken_of ts h.1

-- ---- names

pub among_is : (x : Node) (xs : List Node) → Among x xs → is_among xs x ≡ true
among_is x xs m = any_of (λ z. node_eq z x) x xs m (digest_self x.digest)

pub named_among : (units xs : List Node) (x : Node) → OneName units → Within xs units → Among x units → is_among xs x ≡ true → Among x xs
named_among units xs x one w m h = let y = some_of (λ z. node_eq z x) xs h in subst (λ z. Among z xs) (one y.0 x x.digest (w y.0 y.1) m y.2 (digest_self x.digest)) y.1

pub named_eq : (x y : Node) → x.digest ≡ y.digest → node_eq x y ≡ true
named_eq x y e = subst (λ d. digest_eq x.digest d ≡ true) e (digest_self x.digest)

pub found_node : (units : List Node) (x : Node) (d : Digest) → OneName units → Among x units → x.digest ≡ d → find_node units d ≡ Some x
found_node units x d one m e =
    let t : digest_eq x.digest d ≡ true = subst (λ (c : Digest). digest_eq x.digest c ≡ true) e (digest_self x.digest) in
    find_one (λ y. digest_eq y.digest d) x units m t (λ y n s. one y x d n m s t)

pub find_node_is : (units : List Node) (x : Node) (d : Digest) → find_node units d ≡ Some x → Among x units × (x.digest ≡ d)
find_node_is units x d e = let f = found_one (λ y. digest_eq y.digest d) x units e in (f.0, digest_same x.digest d f.1)

-- ---- slots

pub slot_in : (os : List Obs) (v : ℕ) (o : Obs) → get_or os v Absent ≡ o → (o ≡ Absent → ⊥) → Among o os × (v < length os)
slot_in [] v o e there = absurd (there (sym e))
slot_in (p ∷ os) zero o e there = (inl e, omega arith)
slot_in (p ∷ os) (suc v) o e there = let rest = slot_in os v o e there in (inr rest.0, (let lt = rest.1 in omega arith))

pub correct_in : (os : List Obs) (v : ℕ) (d : Digest) → slot os v ≡ Correct d → Among (Correct d) os × (v < length os)
correct_in os v d e = slot_in os v (Correct d) e (λ no. cc)

pub among_slot : (os : List Obs) (o : Obs) → Among o os → (v : ℕ) × (v < length os) × (slot os v ≡ o)
among_slot [] o m = absurd m
among_slot (p ∷ os) o (inl e) = (0, omega arith, e)
among_slot (p ∷ os) o (inr m) = let rest = among_slot os o m in (suc rest.0, (let lt = rest.1 in omega arith), rest.2)

pub slot_cites : (os : List Obs) (v : ℕ) (d : Digest) (x : Node) → slot os v ≡ Correct d → x.digest ≡ d → cites os x ≡ true
slot_cites os v d x e n = any_of (λ o. observes o x.digest) (Correct d) os (correct_in os v d e).0 (subst (λ (c : Digest). digest_eq d c ≡ true) (sym n) (digest_self d))

eq_or_more : (b w : ℕ) → b ≤ w → (b ≡ w) ⊎ (b + 1 ≤ w)
eq_or_more zero zero h = inl refl
eq_or_more zero (suc w) h = inr (omega arith)
eq_or_more (suc b) zero h = absurd (omega arith)
eq_or_more (suc b) (suc w) h = elim (eq_or_more b w (omega arith)) [ inl e ↦ inl (ap suc e) | inr k ↦ inr (omega arith) ]

pub range_in : (a n v : ℕ) → a ≤ v → v < a + n → Among v (range_with_len a n)
range_in a zero v le lt = absurd (omega arith)
range_in a (suc n) v le lt = elim (eq_or_more a v le) [ inl e ↦ inl e | inr more ↦ inr (range_in (a + 1) n v more (omega arith)) ]

pub range_below : (a n v : ℕ) → Among v (range_with_len a n) → (a ≤ v) × (v < a + n)
range_below a zero v m = absurd m
range_below a (suc n) v (inl e) = (omega arith, omega arith)
range_below a (suc n) v (inr m) = let rest = range_below (a + 1) n v m in (omega (arith, rest.0), omega (arith, rest.1))

pub slots_in : (os : List Obs) (v : ℕ) → v < length os → Among v (slots os)
slots_in os v lt = range_in 0 (length os) v (omega arith) (omega arith)

-- the unit that a slot names, found among the units
pub latest_is : (units : List Node) (os : List Obs) (v : ℕ) (d : Digest) (x : Node) → slot os v ≡ Correct d → find_node units d ≡ Some x → latest units os v ≡ Some x
latest_is units os v d x e f = ap (observed units) e ∙ f

-- ---- chains over more units

pub reach_more : (leads : Node → Node → Bool) (first : Node → Bool) (units more : List Node) → Within units more → Within (reach leads first units) (reach leads first more)
reach_more leads first units more part = reach_keeps leads first units (λ x. Among x (reach leads first more))
    (λ x m c. reach_first leads first more x (part x m) c)
    (λ x y b m c. reach_further leads first more x y b (part x m) c)
