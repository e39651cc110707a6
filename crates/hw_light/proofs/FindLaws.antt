-- The first of a list that passes a test.
use Rattle.std.proofs.Common.{◌≡◌, ℕ, zero, suc, ◌+◌, ◌<◌, ◌≤◌, inl, inr, Bool, true, false, cond, List, [], ◌∷◌, Some, None, refl, sym, ap, ◌∙◌, arith}
use Rattle.std.specs.Prelude.{find, slice_get}
use Rattle.std.specs.List.{range_with_len}
use Rattle.std.proofs.lemmas.Bool.{cases_lt}
use Rattle.hw_safety.proofs.DecidedLaws.{find_range, find_range_has}

-- it stands at this place, and none before it passes
pub find_first : {A : Type 0} (p : A → Bool) (xs : List A) (i : ℕ) (x : A) → slice_get xs i ≡ Some x → p x ≡ true → ((k : ℕ) (y : A) → k < i → slice_get xs k ≡ Some y → p y ≡ false) → find p xs ≡ Some x
find_first p [] i x here t before = absurd (let bad : None ≡ Some x = here in cc)
find_first p (y ∷ ys) zero x here t before = let same : y ≡ x = cc in ap (λ b. cond b (Some y) (find p ys)) (ap p same ∙ t) ∙ ap Some same
find_first p (y ∷ ys) (suc i) x here t before =
    ap (λ b. cond b (Some y) (find p ys)) (before 0 y (omega arith) refl) ∙ find_first p ys i x here t (λ k z lt there. before (suc k) z (omega arith) there)

-- none passes
pub find_none : {A : Type 0} (p : A → Bool) (xs : List A) → ((k : ℕ) (y : A) → slice_get xs k ≡ Some y → p y ≡ false) → find p xs ≡ None
find_none p [] none = refl
find_none p (y ∷ ys) none = ap (λ b. cond b (Some y) (find p ys)) (none 0 y refl) ∙ find_none p ys (λ k z there. none (suc k) z there)

-- ---- of numbers one after the other

pub none_between : (p : ℕ → Bool) (a n : ℕ) → ((k : ℕ) → a ≤ k → k < a + n → p k ≡ false) → find p (range_with_len a n) ≡ None
none_between p a zero none = refl
none_between p a (suc n) none = ap (λ b. cond b (Some a) (find p (range_with_len (a + 1) n))) (none a (omega arith) (omega arith)) ∙ none_between p (a + 1) n (λ k le lt. none k (omega arith) (omega arith))

pub first_between : (p : ℕ → Bool) (n k : ℕ) → k < n → p k ≡ true → ((i : ℕ) → i < k → p i ≡ false) → find p (range_with_len 0 n) ≡ Some k
first_between p n k lt t before =
    let m = find_range_has p 0 n k (omega arith) (omega arith) t in
    let found = find_range p 0 n m.0 m.1 in
    elim (cases_lt m.0 k) [
      | inl less ↦ absurd (let bad : true ≡ false = sym found.2 ∙ before m.0 less in cc)
      | inr more ↦ m.1 ∙ ap Some (let low = m.2 in omega arith)
    ]
