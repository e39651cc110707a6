-- Laws of the first item that is ready.
use Rattle.std.proofs.Common.{◌≡◌, ◌≢◌, ◌⊎◌, inl, inr, ℕ, zero, suc, ◌+◌, ◌<◌, Bool, true, false, cond, ◌==◌, List, [], ◌∷◌, ◌++◌, length, Option, Some, None, refl, ap, sym, ◌∙◌, subst, rules, arith, if◌then◌else◌, All}
use Rattle.std.specs.List.{find, count_by}
use Rattle.std.specs.Option.{option_to_list}
use Rattle.std.proofs.lemmas.List.Sums.{sum_by-cons}
use Rattle.std.proofs.lemmas.List.Elements.{All-cons, All-tail, All-head}
use Rattle.hw_types.specs.declared.unit.Need.{Need}
use Rattle.std.proofs.lemmas.Bool.{cases_eq}
use Rattle.hw_park.specs.Parked.{Waiting, is_ready, without_next}
use Rattle.hw_park.specs.Kept.{listed, is_ready_at}
use Rattle.hw_park.proofs.ListedLaws.{listed-same, count-none}

-- none is ready in a list that begins with one that isn't
quiet-tail : {T : Type 0} (w : Waiting T) (ws : List (Waiting T)) → count_by is_ready (w ∷ ws) ≡ 0 → (is_ready w ≡ false) × (count_by is_ready ws ≡ 0)
quiet-tail {T} w ws none = go (is_ready w) refl (sym (sum_by-cons (λ x. cond (is_ready x) 1 0) w ws) ∙ none)
  where
    go : (b : Bool) → is_ready w ≡ b → cond (is_ready w) 1 0 + count_by is_ready ws ≡ 0 → (is_ready w ≡ false) × (count_by is_ready ws ≡ 0)
    go true e none = let one = ap {B = ℕ} (λ (b : Bool). cond b 1 0) e in absurd (omega (arith, one, none))
    go false e none = (e, omega (arith, none))

-- behind those that aren't ready
pub find-quiet : {T : Type 0} (xs ys : List (Waiting T)) → count_by is_ready xs ≡ 0 → find is_ready (xs ++ ys) ≡ find is_ready ys
find-quiet [] ys none = refl
find-quiet {T} (w ∷ ws) ys none =
    let tail = quiet-tail w ws none in
    ap (λ (b : Bool). if b then Some w else find is_ready (ws ++ ys)) tail.0 ∙ find-quiet ws ys tail.1

pub without-quiet : {T : Type 0} (xs ys : List (Waiting T)) → count_by is_ready xs ≡ 0 → without_next (xs ++ ys) ≡ xs ++ without_next ys
without-quiet [] ys none = refl
without-quiet {T} (w ∷ ws) ys none =
    let tail = quiet-tail w ws none in
    ap (λ (b : Bool). if b then ws ++ ys else w ∷ without_next (ws ++ ys)) tail.0 ∙ ap (λ (vs : List (Waiting T)). w ∷ vs) (without-quiet ws ys tail.1)

-- each has a need left where none is ready
pub quiet-needs : {T : Type 0} (ws : List (Waiting T)) → count_by is_ready ws ≡ 0 → All (λ w. w.needs ≢ []) ws
quiet-needs [] none = search rules
quiet-needs {T} (w ∷ ws) none =
    let tail = quiet-tail w ws none in
    All-cons (λ (v : Waiting T). v.needs ≢ []) w ws (λ e. let said = tail.0 in let zero_len = ap length e in absurd (grind (arith, said, zero_len))) (quiet-needs ws tail.1)

-- where none is ready
pub quiet : {T : Type 0} (ws : List (Waiting T)) → count_by is_ready ws ≡ 0 → (find is_ready ws ≡ None) × (without_next ws ≡ ws)
quiet [] none = (refl, refl)
quiet {T} (w ∷ ws) none =
    let tail = quiet-tail w ws none in
    let rest = quiet ws tail.1 in (
      ap (λ (b : Bool). if b then Some w else find is_ready ws) tail.0 ∙ rest.0,
      ap (λ (b : Bool). if b then ws else w ∷ without_next ws) tail.0 ∙ ap (λ (vs : List (Waiting T)). w ∷ vs) rest.1,
    )

-- none is ready where each has a need left
pub needs-quiet : {T : Type 0} (ws : List (Waiting T)) → All (λ w. w.needs ≢ []) ws → find is_ready ws ≡ None
needs-quiet [] all = refl
needs-quiet {T} (w ∷ ws) all = go (is_ready w) refl (needs-quiet ws (All-tail (λ (v : Waiting T). v.needs ≢ []) w ws all))
  where
    no_needs : (ns : List Need) → (length ns == 0) ≡ true → ns ≡ []
    no_needs [] e = refl
    no_needs (n ∷ ns) e = absurd (grind (arith, e))

    go : (b : Bool) → is_ready w ≡ b → find is_ready ws ≡ None → find is_ready (w ∷ ws) ≡ None
    go true e rest = absurd (All-head (λ (v : Waiting T). v.needs ≢ []) w ws all (no_needs w.needs e))
    go false e rest = ap (λ (b : Bool). if b then Some w else find is_ready ws) e ∙ rest

-- the first ready one is the same in a longer list
pub found_first : {T : Type 0} (xs ys : List (Waiting T)) (w : Waiting T) → find is_ready xs ≡ Some w
    → (find is_ready (xs ++ ys) ≡ Some w) × (without_next (xs ++ ys) ≡ without_next xs ++ ys)
found_first [] ys w found = absurd cc
found_first {T} (x ∷ xs) ys w found = go (is_ready x) refl (found_first xs ys w)
  where
    go : (b : Bool) → is_ready x ≡ b
        → (find is_ready xs ≡ Some w → (find is_ready (xs ++ ys) ≡ Some w) × (without_next (xs ++ ys) ≡ without_next xs ++ ys))
        → (find is_ready (x ∷ (xs ++ ys)) ≡ Some w) × (without_next (x ∷ (xs ++ ys)) ≡ without_next (x ∷ xs) ++ ys)
    go true e later = (
      ap (λ (b : Bool). if b then Some x else find is_ready (xs ++ ys)) e ∙ sym (ap (λ (b : Bool). if b then Some x else find is_ready xs) e) ∙ found,
      ap (λ (b : Bool). if b then xs ++ ys else x ∷ without_next (xs ++ ys)) e ∙ sym (ap (λ (b : Bool). (if b then xs else x ∷ without_next xs) ++ ys) e),
    )
    go false e later =
        let rest = later (sym (ap (λ (b : Bool). if b then Some x else find is_ready xs) e) ∙ found) in (
          ap (λ (b : Bool). if b then Some x else find is_ready (xs ++ ys)) e ∙ rest.0,
          ap (λ (b : Bool). if b then xs ++ ys else x ∷ without_next (xs ++ ys)) e
              ∙ ap (λ (vs : List (Waiting T)). x ∷ vs) rest.1
              ∙ sym (ap (λ (b : Bool). (if b then xs else x ∷ without_next xs) ++ ys) e),
        )

-- where one is ready, and none before it, it is found and taken out
pub take_out : {T : Type 0} (f g : ℕ → Option (Waiting T)) (n k : ℕ) (w : Waiting T) → k < n → f k ≡ Some w → is_ready w ≡ true
    → ((j : ℕ) → j < k → is_ready_at (f j) ≡ false) → g k ≡ None → ((j : ℕ) → j ≢ k → g j ≡ f j)
    → (find is_ready (listed f n) ≡ Some w) × (listed g n ≡ without_next (listed f n))
unfolding listed
take_out f g zero k w below here ready earlier gone others = absurd (omega arith)
take_out {T} f g (suc n) k w below here ready earlier gone others = go (cases_eq k n) (λ low. take_out f g n k w low here ready earlier gone others)
  where
    go : ((k ≡ n) ⊎ (k ≢ n)) → (k < n → (find is_ready (listed f n) ≡ Some w) × (listed g n ≡ without_next (listed f n)))
        → (find is_ready (listed f n ++ option_to_list (f n)) ≡ Some w) × (listed g n ++ option_to_list (g n) ≡ without_next (listed f n ++ option_to_list (f n)))
    go (inl e) less =
        let none = count-none is_ready f n (λ j h. earlier j (omega arith)) in
        let now : f n ≡ Some w = subst (λ (j : ℕ). f j ≡ Some w) e here in
        let empty : g n ≡ None = subst (λ (j : ℕ). g j ≡ None) e gone in (
          ap (λ (o : Option (Waiting T)). find is_ready (listed f n ++ option_to_list o)) now ∙ find-quiet (listed f n) (w ∷ []) none
              ∙ ap (λ (b : Bool). if b then Some w else None) ready,
          ap (λ (o : Option (Waiting T)). listed g n ++ option_to_list o) empty
              ∙ ap (λ (ws : List (Waiting T)). ws ++ []) (listed-same g f n (λ j h. others j (λ same. absurd (omega arith))))
              ∙ sym (ap (λ (o : Option (Waiting T)). without_next (listed f n ++ option_to_list o)) now ∙ without-quiet (listed f n) (w ∷ []) none
              ∙ ap (λ (b : Bool). listed f n ++ (if b then [] else w ∷ [])) ready),
        )
    go (inr ne) less =
        let before = less (omega arith) in
        let both = found_first (listed f n) (option_to_list (f n)) w before.0 in (
          both.0,
          ap (λ (o : Option (Waiting T)). listed g n ++ option_to_list o) (others n (λ same. ne (sym same)))
              ∙ ap (λ (ws : List (Waiting T)). ws ++ option_to_list (f n)) before.1
              ∙ sym both.1,
        )
