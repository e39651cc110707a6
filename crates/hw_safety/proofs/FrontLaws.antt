-- The first items of a list, and one more.
use Rattle.std.proofs.Common.{◌≡◌, ℕ, zero, suc, ◌+◌, take, arith, List, [], ◌∷◌, ◌++◌, Some, refl, sym, ap, ◌∙◌}
use Rattle.std.specs.Prelude.{slice_get}

front_one : {A : Type 0} (xs : List A) (n : ℕ) (x : A) → Some x ≡ slice_get xs n → take (suc n) xs ≡ take n xs ++ x ∷ []
front_one [] n x e = absurd cc
front_one (y ∷ ys) zero x e = let is : x ≡ y = cc in ap (λ z. z ∷ []) (sym is)
front_one (y ∷ ys) (suc n) x e = ap (λ zs. y ∷ zs) (front_one ys n x e)

pub front_more : {A : Type 0} (xs : List A) (n : ℕ) (x : A) → Some x ≡ slice_get xs n → take (n + 1) xs ≡ take n xs ++ x ∷ []
front_more xs n x e = let next : n + 1 ≡ suc n = omega arith in ap (λ k. take k xs) next ∙ front_one xs n x e
