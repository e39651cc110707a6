-- Reading an array of numbers, as a loop does.
use Rattle.std.proofs.Common.{◌≡◌, ℕ, suc, ◌+◌, ◌<◌, ◌≤◌, List, [], ◌∷◌, ◌++◌, length, get_or, drop, Option, Some, None, refl, sym, ap, ◌∙◌, add-one, append_assoc, append-nil, arith, drop-cons}
use Rattle.std.proofs.lemmas.List.{drop_all}
use Rattle.serde_json.specs.declared.value.Value.{Value}
use Rattle.serde_json.specs.View.{view, items_view}
use Rattle.hw_settings.specs.Settings.{◌>>=◌, number_in, numbers_in, both_in, two_in}

-- what was read before, and what is read behind it
abbrev pub with_front : List ℕ → Option (List ℕ) → Option (List ℕ)
with_front front o = o >>= λ ns. Some (front ++ ns)

regroup : (front : List ℕ) (n : ℕ) (o : Option (List ℕ)) → with_front front (o >>= λ ns. Some (n ∷ ns)) ≡ with_front (front ++ n ∷ []) o
regroup front n None = refl
regroup front n (Some ns) = ap Some (sym (append_assoc front (n ∷ []) ns))

-- nothing was read so far
pub begins : (o : Option (List ℕ)) → with_front [] o ≡ o
begins None = refl
begins (Some ns) = refl

-- the numbers from a place on
abbrev pub rest_in : ℕ → ℕ → List Value → Option (List ℕ)
rest_in limit i values = numbers_in limit (items_view (drop i values))

opened : (limit i : ℕ) (values : List Value) (v : Value) → i < length values → v ≡ get_or values i v
    → rest_in limit i values ≡ (number_in limit (view v) >>= λ n. rest_in limit (i + 1) values >>= λ ns. Some (n ∷ ns))
unfolding numbers_in
opened limit i values v within is =
    ap (λ (vs : List Value). numbers_in limit (items_view vs)) (drop-cons values i v within)
    ∙ ap (λ (x : Value). number_in limit (view x) >>= λ n. rest_in limit (suc i) values >>= λ ns. Some (n ∷ ns)) (sym is)
    ∙ ap (λ (j : ℕ). number_in limit (view v) >>= λ n. rest_in limit j values >>= λ ns. Some (n ∷ ns)) (sym (add-one i))

-- one more number is read
pub goes_on : (limit i : ℕ) (values : List Value) (v : Value) (front : List ℕ) (n : ℕ) → i < length values → v ≡ get_or values i v → number_in limit (view v) ≡ Some n
    → with_front front (rest_in limit i values) ≡ with_front (front ++ n ∷ []) (rest_in limit (i + 1) values)
goes_on limit i values v front n within is read =
    ap (with_front front) (opened limit i values v within is ∙ ap (λ o. o >>= λ m. rest_in limit (i + 1) values >>= λ ns. Some (m ∷ ns)) read) ∙ regroup front n (rest_in limit (i + 1) values)

-- a value isn't such a number, and so the array isn't one of them
pub stops : (limit i : ℕ) (values : List Value) (v : Value) (front : List ℕ) → i < length values → v ≡ get_or values i v → number_in limit (view v) ≡ None
    → with_front front (rest_in limit i values) ≡ None
stops limit i values v front within is read =
    ap (with_front front) (opened limit i values v within is ∙ ap (λ o. o >>= λ m. rest_in limit (i + 1) values >>= λ ns. Some (m ∷ ns)) read)

-- all values are read
pub is_done : (limit i : ℕ) (values : List Value) (front : List ℕ) → length values ≤ i → with_front front (rest_in limit i values) ≡ Some front
unfolding numbers_in
is_done limit i values front past = ap (λ (vs : List Value). with_front front (numbers_in limit (items_view vs))) (drop_all i values past) ∙ ap Some (append-nil front)

-- ---- two values

-- what two values tell
pub two_values : (limit : ℕ) (values : List Value) (v w : Value) → 2 ≤ length values → length values < 3 → v ≡ get_or values 0 v → w ≡ get_or values 1 w
    → two_in limit (items_view values) ≡ both_in limit (view v) (view w)
unfolding two_in
two_values limit [] v w many few first second = absurd (omega arith)
two_values limit (a ∷ []) v w many few first second = absurd (omega arith)
two_values limit (a ∷ b ∷ []) v w many few first second = ap (λ (x : Value). both_in limit (view x) (view b)) (sym first) ∙ ap (λ (x : Value). both_in limit (view v) (view x)) (sym second)
two_values limit (a ∷ b ∷ c ∷ values) v w many few first second = absurd (omega arith)

-- fewer values, or more
pub too_few : (limit : ℕ) (values : List Value) → length values < 2 → two_in limit (items_view values) ≡ None
unfolding two_in
too_few limit [] few = refl
too_few limit (a ∷ []) few = refl
too_few limit (a ∷ b ∷ values) few = absurd (omega arith)

pub too_many : (limit : ℕ) (values : List Value) → 3 ≤ length values → two_in limit (items_view values) ≡ None
unfolding two_in
too_many limit [] many = absurd (omega arith)
too_many limit (a ∷ []) many = absurd (omega arith)
too_many limit (a ∷ b ∷ []) many = absurd (omega arith)
too_many limit (a ∷ b ∷ c ∷ values) many = refl
