-- Members of a list that is written out.
use Rattle.std.proofs.Common.{◌≡◌, ℕ, ◌<◌, inl, inr, Bool, true, false, List, [], ◌∷◌, subst, arith}
use Rattle.std.specs.Prelude.{not, ◌||◌, slice_index_or}
use Rattle.std.specs.List.{All, list_all}
use Rattle.hw_types.specs.Graph.{Node, digest_eq}
use Rattle.hw_types.specs.Below.{Among}
use Rattle.hw_types.specs.Lawful.{NoClash}
use Rattle.hw_types.specs.Same.{unit_eq}
use Rattle.hw_types.proofs.SettledLaws.{digest_self}
use Rattle.hw_types.proofs.WordsLaws.{all_of}
use Rattle.hw_types.proofs.OrderLaws.{unit_same}

abbrev pub Each : {A : Type 0} → (A → Type 0) → List A → Type 0
Each P [] = Unit {0}
Each P (y ∷ ys) = P y × Each P ys

-- what holds of each one holds of each member
pub each_member : {A : Type 0} (P : A → Type 0) (xs : List A) → Each P xs → (x : A) → Among x xs → P x
each_member P [] e x m = absurd m
each_member P (y ∷ ys) e x (inl h) = subst P h e.0
each_member P (y ∷ ys) e x (inr m) = each_member P ys e.1 x m

pub all_one : {A : Type 0} (P : A → Type 0) (x : A) → P x → All P (x ∷ [])
all_one P x p k d lt = subst (λ i. P (slice_index_or (x ∷ []) i d)) (is_zero k lt) p
  where
    is_zero : (k : ℕ) → k < 1 → 0 ≡ k
    is_zero k lt = omega arith

-- ---- no clash, as a test

unfoldable pub same_where_named : Node → Node → Bool
same_where_named x y = not (digest_eq x.digest y.digest) || unit_eq x.unit y.unit

abbrev pub are_same_where_named : List Node → List Node → Bool
are_same_where_named xs ys = list_all (λ x. list_all (λ y. same_where_named x y) ys) xs

pub no_clash : (xs ys : List Node) → are_same_where_named xs ys ≡ true → NoClash xs ys
unfolding same_where_named
no_clash xs ys h x y m n e =
    let inner = all_of (λ x. list_all (λ y. same_where_named x y) ys) xs h x m in
    let test = all_of (λ y. same_where_named x y) ys inner y n in
    let named : digest_eq x.digest y.digest ≡ true = subst (λ z. digest_eq x.digest z ≡ true) e (digest_self x.digest) in
    let units = unit_same x.unit y.unit (go (digest_eq x.digest y.digest) (unit_eq x.unit y.unit) named test) in
    λ i. record { digest = e i; unit = units i }
  where
    go : (a b : Bool) → a ≡ true → (not a || b) ≡ true → b ≡ true
    go true b k t = t
    go false b k t = absurd cc
