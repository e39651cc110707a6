-- Laws of the list that the numbers stand for.
use Rattle.std.proofs.Common.{◌≡◌, ◌≢◌, ◌⊎◌, inl, inr, ℕ, zero, suc, ◌+◌, ◌<◌, ◌≤◌, Bool, true, false, cond, List, [], ◌∷◌, ◌++◌, map, length, Option, Some, None, refl, ap, sym, ◌∙◌, rules, arith, add-one, if◌then◌else◌}
use Rattle.std.specs.List.{count_by}
use Rattle.std.specs.Option.{option_map, option_map_or, option_to_list}
use Rattle.std.proofs.lemmas.List.Sums.{sum_by-append, sum_by-cons}
use Rattle.std.proofs.lemmas.Bool.{cases_eq, cases_lt}
use Rattle.hw_park.specs.Kept.{listed, itself}

-- the same at each number below
pub listed-same : {W : Type 0} (f g : ℕ → Option W) (n : ℕ) → ((k : ℕ) → k < n → f k ≡ g k) → listed f n ≡ listed g n
unfolding listed
listed-same f g zero same = refl
listed-same {W} f g (suc n) same =
    ap (λ (ws : List W). ws ++ option_to_list (f n)) (listed-same f g n (λ k h. same k (omega arith)))
    ∙ ap (λ (o : Option W). listed g n ++ option_to_list o) (same n (omega arith))

map-append : {A B : Type 0} (s : A → B) (xs ys : List A) → map s (xs ++ ys) ≡ map s xs ++ map s ys
map-append s [] ys = refl
map-append {A} {B} s (x ∷ xs) ys = ap (λ (zs : List B). s x ∷ zs) (map-append s xs ys)

map-optional : {A B : Type 0} (s : A → B) (o : Option A) → option_to_list (option_map s o) ≡ map s (option_to_list o)
map-optional s None = refl
map-optional s (Some x) = refl

-- each one changed
pub listed-map : {W V : Type 0} (s : W → V) (f : ℕ → Option W) (g : ℕ → Option V) (n : ℕ) → ((k : ℕ) → k < n → g k ≡ option_map s (f k)) → listed g n ≡ map s (listed f n)
unfolding listed
listed-map s f g zero each = refl
listed-map {W} {V} s f g (suc n) each =
    ap (λ (ws : List V). ws ++ option_to_list (g n)) (listed-map s f g n (λ k h. each k (omega arith)))
    ∙ ap (λ (ws : List V). map s (listed f n) ++ ws) (ap (λ (o : Option V). option_to_list o) (each n (omega arith)) ∙ map-optional s (f n))
    ∙ sym (map-append s (listed f n) (option_to_list (f n)))

-- one more
pub listed-push : {W : Type 0} (f g : ℕ → Option W) (n : ℕ) (w : W) → ((k : ℕ) → k < n → g k ≡ f k) → g n ≡ Some w → listed g (n + 1) ≡ listed f n ++ w ∷ []
unfolding listed
listed-push {W} f g n w same last =
    ap (listed g) (add-one n)
    ∙ ap (λ (o : Option W). listed g n ++ option_to_list o) last
    ∙ ap (λ (ws : List W). ws ++ w ∷ []) (listed-same g f n same)

-- how much an item counts
abbrev pub worth : {W : Type 0} → (W → Bool) → Option W → ℕ
worth p o = if option_map_or p o false then 1 else 0

-- a count of one more
pub count-optional : {W : Type 0} (p : W → Bool) (ws : List W) (o : Option W) → count_by p (ws ++ option_to_list o) ≡ count_by p ws + worth p o
count-optional p ws None = search (rules, sum_by-append)
count-optional p ws (Some w) = sum_by-append (λ x. cond (p x) 1 0) ws (w ∷ []) ∙ search (rules, sum_by-cons)

-- a count, where one has changed
pub count-changed : {W : Type 0} (p : W → Bool) (f g : ℕ → Option W) (n k : ℕ) → k < n → ((j : ℕ) → j ≢ k → g j ≡ f j)
    → count_by p (listed g n) + worth p (f k) ≡ count_by p (listed f n) + worth p (g k)
unfolding listed
count-changed p f g zero k below others = absurd (omega arith)
count-changed {W} p f g (suc n) k below others = go (cases_eq k n) (λ low. count-changed p f g n k low others)
  where
    go : ((k ≡ n) ⊎ (k ≢ n)) → (k < n → count_by p (listed g n) + worth p (f k) ≡ count_by p (listed f n) + worth p (g k))
        → count_by p (listed g n ++ option_to_list (g n)) + worth p (f k) ≡ count_by p (listed f n ++ option_to_list (f n)) + worth p (g k)
    go (inl e) less =
        let same = ap (count_by p) (listed-same g f n (λ j h. others j (omega arith))) in
        let ek = ap (λ (j : ℕ). worth p (f j)) e in
        let eg = ap (λ (j : ℕ). worth p (g j)) e in
        omega (arith, same, ek, eg, count-optional p (listed g n) (g n), count-optional p (listed f n) (f n))
    go (inr ne) less =
        let rest = less (omega arith) in
        let last = ap (worth p) (others n (λ e. ne (sym e))) in
        omega (arith, rest, last, count-optional p (listed g n) (g n), count-optional p (listed f n) (f n))

-- the same, where the number may be none below
pub count-step : {W : Type 0} (p : W → Bool) (f g : ℕ → Option W) (n k : ℕ) → ((j : ℕ) → j ≢ k → g j ≡ f j) → (n ≤ k → g k ≡ f k)
    → count_by p (listed g n) + worth p (f k) ≡ count_by p (listed f n) + worth p (g k)
count-step {W} p f g n k others beyond = go (cases_lt k n)
  where
    go : ((k < n) ⊎ (n ≤ k)) → count_by p (listed g n) + worth p (f k) ≡ count_by p (listed f n) + worth p (g k)
    go (inl low) = count-changed p f g n k low others
    go (inr high) =
        let same = ap (count_by p) (listed-same g f n (λ j h. others j (λ e. absurd (omega arith)))) in
        let here = ap (worth p) (beyond high) in
        omega (arith, same, here)

-- each of a list counts
pub count-all : {W : Type 0} (ws : List W) → count_by (λ _. true) ws ≡ length ws
count-all [] = refl
count-all (w ∷ ws) = sum_by-cons (λ _. 1) w ws ∙ omega (arith, count-all ws)

-- none below counts
pub count-none : {W : Type 0} (p : W → Bool) (f : ℕ → Option W) (n : ℕ) → ((k : ℕ) → k < n → option_map_or p (f k) false ≡ false) → count_by p (listed f n) ≡ 0
unfolding listed
count-none p f zero none = refl
count-none p f (suc n) none =
    let rest = count-none p f n (λ k h. none k (omega arith)) in
    let last = ap {B = ℕ} (λ (b : Bool). if b then 1 else 0) (none n (omega arith)) in
    count-optional p (listed f n) (f n) ∙ omega (arith, rest, last)

-- those that are counted by what is said of them
pub count-mapped : {W : Type 0} (s : W → Bool) (ws : List W) → count_by itself (map s ws) ≡ count_by s ws
count-mapped s [] = refl
count-mapped s (w ∷ ws) =
    let mapped = sum_by-cons (λ b. cond (itself b) 1 0) (s w) (map s ws) in
    let plain = sum_by-cons (λ x. cond (s x) 1 0) w ws in
    omega (arith, mapped, plain, count-mapped s ws)
