-- Lists by places and by members, and lists in order.
use Rattle.std.proofs.Common.{◌≡◌, ℕ, zero, suc, ◌+◌, ◌<◌, inl, inr, Bool, true, false, cond, List, [], ◌∷◌, ◌++◌, length, get_or, refl, sym, subst, arith}
use Rattle.std.specs.Prelude.{All, Any, filter}
use Rattle.std.specs.List.{AllAdjacentBelow}
use Rattle.hw_types.specs.Below.{Among}
use Rattle.hw_types.proofs.ClosureLaws.{Among-filter}
use Rattle.hw_types.proofs.WordsLaws.{place_among}
use Rattle.hw_types.proofs.EntryLaws.{append_cases}

-- ---- members

pub place_in : {A : Type 0} (xs : List A) (k : ℕ) (d : A) → k < length xs → Among (get_or xs k d) xs
place_in [] k d lt = absurd (omega arith)
place_in (x ∷ xs) zero d lt = inl refl
place_in (x ∷ xs) (suc k) d lt = inr (place_in xs k d (omega arith))

pub all_among : {A : Type 0} (P : A → Type 0) (xs : List A) → All P xs → (x : A) → Among x xs → P x
all_among P [] h x m = absurd m
all_among P (y ∷ ys) h x (inl e) = subst P e (h 0 y (omega arith))
all_among P (y ∷ ys) h x (inr m) = all_among P ys (λ k d lt. h (suc k) d (omega arith)) x m

pub among_all : {A : Type 0} (P : A → Type 0) (xs : List A) → ((x : A) → Among x xs → P x) → All P xs
among_all P xs h = λ k d lt. h (get_or xs k d) (place_in xs k d lt)

pub any_among : {A : Type 0} (P : A → Type 0) (xs : List A) (x : A) → Among x xs → P x → Any P xs
any_among P [] x m p = absurd m
any_among P (y ∷ ys) x (inl e) p = (0, x, omega arith, e, p)
any_among P (y ∷ ys) x (inr m) p = let rest = any_among P ys x m p in let lt = rest.2 in (suc rest.0, rest.1, omega arith, rest.3, rest.4)

pub any_is : {A : Type 0} (P : A → Type 0) (xs : List A) → Any P xs → (x : A) × Among x xs × P x
any_is P xs h = (h.1, place_among h.1 xs h.0 h.2 h.3, h.4)

-- ---- order

-- each comes before all later ones
abbrev pub IsOrdered : {A : Type 0} → (A → A → Type 0) → List A → Type 0
IsOrdered R [] = Unit {0}
IsOrdered {A} R (x ∷ xs) = ((y : A) → Among y xs → R x y) × IsOrdered R xs

pub adjacent_of : {A : Type 0} (R : A → A → Type 0) (xs : List A) → IsOrdered R xs → (k : ℕ) (d : A) → k + 1 < length xs → R (get_or xs k d) (get_or xs (k + 1) d)
adjacent_of R [] l k d lt = absurd (omega arith)
adjacent_of R (x ∷ []) l k d lt = absurd (omega arith)
adjacent_of R (x ∷ y ∷ ys) l zero d lt = l.0 y (inl refl)
adjacent_of R (x ∷ y ∷ ys) l (suc k) d lt =
    let e : suc k + 1 ≡ suc (k + 1) = omega arith in
    subst (λ i. R (get_or (y ∷ ys) k d) (get_or (x ∷ y ∷ ys) i d)) (sym e) (adjacent_of R (y ∷ ys) l.1 k d (omega arith))

module _ {A : Type 0} (R : A → A → Type 0) (trans : (x y z : A) → R x y → R y z → R x z) where
  next_only : (x : A) (xs : List A) → AllAdjacentBelow R (x ∷ xs) (length (x ∷ xs)) → AllAdjacentBelow R xs (length xs)
  next_only x xs h k d lt =
      let e : suc k + 1 ≡ suc (k + 1) = omega arith in
      let step : R (get_or xs k d) (get_or (x ∷ xs) (suc k + 1) d) = h (suc k) d (omega arith) in
      subst (λ j. R (get_or xs k d) (get_or (x ∷ xs) j d)) e step

  before_rest : (x : A) (xs : List A) → AllAdjacentBelow R (x ∷ xs) (length (x ∷ xs)) → (y : A) → Among y xs → R x y
  before_rest x [] h y m = absurd m
  before_rest x (z ∷ zs) h y (inl e) = subst (λ w. R x w) e (h 0 x (omega arith))
  before_rest x (z ∷ zs) h y (inr m) = trans x z y (h 0 x (omega arith)) (before_rest z zs (next_only x (z ∷ zs) h) y m)

  pub ordered_of : (xs : List A) → AllAdjacentBelow R xs (length xs) → IsOrdered R xs
  ordered_of [] h = tt
  ordered_of (x ∷ xs) h = (before_rest x xs h, ordered_of xs (next_only x xs h))

pub ordered_append : {A : Type 0} (R : A → A → Type 0) (xs ys : List A) → IsOrdered R xs → IsOrdered R ys → ((x y : A) → Among x xs → Among y ys → R x y) → IsOrdered R (xs ++ ys)
ordered_append R [] ys l m f = m
ordered_append R (x ∷ xs) ys l m f = (
  λ y h. elim (append_cases y xs ys h) [ inl a ↦ l.0 y a | inr b ↦ f x y (inl refl) b ],
  ordered_append R xs ys l.1 m (λ a b g h. f a b (inr g) h),
)

pub ordered_weaker : {A : Type 0} (R S : A → A → Type 0) (xs : List A) → ((x y : A) → Among x xs → Among y xs → R x y → S x y) → IsOrdered R xs → IsOrdered S xs
ordered_weaker R S [] f l = tt
ordered_weaker R S (x ∷ xs) f l = (λ y m. f x y (inl refl) (inr m) (l.0 y m), ordered_weaker R S xs (λ a b g h. f a b (inr g) (inr h)) l.1)

pub ordered_filter : {A : Type 0} (R : A → A → Type 0) (p : A → Bool) (xs : List A) → IsOrdered R xs → IsOrdered R (filter p xs)
ordered_filter R p [] l = tt
ordered_filter {A} R p (x ∷ xs) l = go (p x) (ordered_filter R p xs l.1)
  where
    go : (b : Bool) → IsOrdered R (filter p xs) → IsOrdered R (cond b (x ∷ filter p xs) (filter p xs))
    go true rest = (λ y m. l.0 y (Among-filter p y xs m).0, rest)
    go false rest = rest
