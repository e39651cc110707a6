-- Configurations that don't differ are equal.
use Rattle.std.proofs.Common.{◌≡◌, ℕ, Bool, true, false, List, [], ◌∷◌, Option, Some, None, refl, ap}
use Rattle.std.specs.Prelude.{◌==◌}
use Rattle.std.proofs.lemmas.Bool.{eqb-true, eqb-false}
use Rattle.hw_types.specs.declared.config.Config.{Config}
use Rattle.hw_types.specs.declared.config.Leaders.{Leaders}
use Rattle.hw_types.specs.declared.config.Leaders.TheVariants.{Table, Drawn}

same_number : (m n : ℕ) → ((m ≡ n → ⊥) → ⊥) → m ≡ n
same_number m n h = go (m == n) refl
  where
    go : (b : Bool) → (m == n) ≡ b → m ≡ n
    go true e = eqb-true m n e
    go false e = absurd (h (eqb-false m n e))

same_list : (xs ys : List ℕ) → ((xs ≡ ys → ⊥) → ⊥) → xs ≡ ys
same_list [] [] h = refl
same_list [] (y ∷ ys) h = absurd (h (λ e. cc))
same_list (x ∷ xs) [] h = absurd (h (λ e. cc))
same_list (x ∷ xs) (y ∷ ys) h =
    let first = same_number x y (λ differ. h (λ e. let is : x ≡ y = cc in differ is)) in
    let rest = same_list xs ys (λ differ. h (λ e. let is : xs ≡ ys = cc in differ is)) in
    λ i. first i ∷ rest i

same_option : (m n : Option ℕ) → ((m ≡ n → ⊥) → ⊥) → m ≡ n
same_option None None h = refl
same_option None (Some n) h = absurd (h (λ e. cc))
same_option (Some m) None h = absurd (h (λ e. cc))
same_option (Some m) (Some n) h = ap Some (same_number m n (λ differ. h (λ e. let is : m ≡ n = cc in differ is)))

same_leaders : (a b : Leaders) → ((a ≡ b → ⊥) → ⊥) → a ≡ b
same_leaders (Table xs) (Table ys) h = ap Table (same_list xs ys (λ differ. h (λ e. let is : xs ≡ ys = cc in differ is)))
same_leaders (Table xs) (Drawn k) h = absurd (h (λ e. cc))
same_leaders (Drawn k) (Table ys) h = absurd (h (λ e. cc))
same_leaders (Drawn k) (Drawn m) h = ap Drawn (same_list k m (λ differ. h (λ e. let is : k ≡ m = cc in differ is)))

pub same_configs : (a b : Config) → ((a ≡ b → ⊥) → ⊥) → a ≡ b
same_configs a b h =
    let weights = same_list a.weights b.weights (λ differ. h (λ e. differ (ap (λ (c : Config). c.weights) e))) in
    let ftt = same_number a.ftt b.ftt (λ differ. h (λ e. differ (ap (λ (c : Config). c.ftt) e))) in
    let levels = same_number a.levels b.levels (λ differ. h (λ e. differ (ap (λ (c : Config). c.levels) e))) in
    let least = same_number a.min_exponent b.min_exponent (λ differ. h (λ e. differ (ap (λ (c : Config). c.min_exponent) e))) in
    let greatest = same_number a.max_exponent b.max_exponent (λ differ. h (λ e. differ (ap (λ (c : Config). c.max_exponent) e))) in
    let leaders = same_leaders a.leaders b.leaders (λ differ. h (λ e. differ (ap (λ (c : Config). c.leaders) e))) in
    let records = same_number a.max_records b.max_records (λ differ. h (λ e. differ (ap (λ (c : Config). c.max_records) e))) in
    let parked = same_number a.max_parked b.max_parked (λ differ. h (λ e. differ (ap (λ (c : Config). c.max_parked) e))) in
    let end = same_option a.end b.end (λ differ. h (λ e. differ (ap (λ (c : Config). c.end) e))) in
    λ i. record {
      weights = weights i;
      ftt = ftt i;
      levels = levels i;
      min_exponent = least i;
      max_exponent = greatest i;
      leaders = leaders i;
      max_records = records i;
      max_parked = parked i;
      end = end i;
    }
