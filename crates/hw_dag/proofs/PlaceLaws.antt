-- Members of lists by their places.
use Rattle.std.proofs.Common.{◌≡◌, ℕ, zero, suc, ◌<◌, inl, inr, List, [], ◌∷◌, length, get_or, refl, sym, ap, subst, ◌∙◌, arith}
use Rattle.std.proofs.lemmas.List.{get_or_read}
use Rattle.hw_types.specs.Below.{Among}
use Rattle.hw_dag.specs.declared.numbers.View.{View}
use Rattle.hw_dag.specs.Dag.{SettledUnit, UnitGraph, stand_in, unit_at, count_of, view_at}

pub among_place : {A : Type 0} (d : A) (x : A) (xs : List A) → Among x xs → (k : ℕ) × (k < length xs) × (get_or xs k d ≡ x)
among_place d x [] m = absurd m
among_place d x (y ∷ ys) (inl e) = (0, omega arith, e)
among_place d x (y ∷ ys) (inr m) = let rest = among_place d x ys m in (suc rest.0, (let lt = rest.1 in omega arith), rest.2)

pub place_is_among : {A : Type 0} (d : A) (xs : List A) (k : ℕ) → k < length xs → Among (get_or xs k d) xs
place_is_among d [] k lt = absurd (omega arith)
place_is_among d (y ∷ ys) zero lt = inl refl
place_is_among d (y ∷ ys) (suc k) lt = inr (place_is_among d ys k (omega arith))

-- a unit that was read
pub read_unit : (dag now : UnitGraph) (n : ℕ) (x : SettledUnit) → dag ≡ now → n < count_of now → x ≡ get_or dag.units n x → x ≡ unit_at now n
read_unit dag now n x e lt read =
    let P : UnitGraph → Type 0 = λ d. x ≡ get_or d.units n x in
    get_or_read now.units n x lt (subst P e read) stand_in

-- a slot that was read
pub read_slot : (panorama views : List View) (v n : ℕ) (w : View) → views ≡ panorama → n ≡ v → w ≡ view_at views n → view_at panorama v ≡ w
read_slot panorama views v n w same at read = ap (λ (ws : List View). view_at ws v) (sym same) ∙ ap (λ (k : ℕ). view_at views k) (sym at) ∙ sym read
