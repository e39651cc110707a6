-- Laws of what there is at numbers.
use Rattle.std.proofs.Common.{◌≡◌, ◌≢◌, ℕ, Bool, true, false, nat_eq, ◌==◌, Option, ap, ◌∙◌, arith, if◌then◌else◌}
use Rattle.std.proofs.lemmas.Bool.Decides.{nat_tests}

-- at one number there is this, or nothing, and at each other what there was
pub record IsSet {W : Type 0} (old new : ℕ → Option W) (k : ℕ) (w : Option W) : Type 0 where
  pub at : (j : ℕ) → new j ≡ (if j == k then w else old j)

-- a number is itself
pub same_number : (k : ℕ) → nat_eq k k ≡ true
same_number k = grind (arith, nat_tests)

-- another number isn't
pub other_number : (k j : ℕ) → j ≢ k → nat_eq j k ≡ false
other_number k j apart = grind (arith, nat_tests)

-- what is at that number
pub waiting-set : {W : Type 0} (old new : ℕ → Option W) (k : ℕ) (w : Option W) → IsSet old new k w → new k ≡ w
waiting-set {W} old new k w put = put.at k ∙ ap (λ (b : Bool). if b then w else old k) (same_number k)

-- what is at the others
pub waiting-other : {W : Type 0} (old new : ℕ → Option W) (k : ℕ) (w : Option W) → IsSet old new k w → (j : ℕ) → j ≢ k → new j ≡ old j
waiting-other {W} old new k w put j apart = put.at j ∙ ap (λ (b : Bool). if b then w else old j) (other_number k j apart)
