-- What units need, unit by unit.
use Rattle.std.proofs.Common.{◌≡◌, ℕ, zero, suc, ◌+◌, ◌<◌, inl, inr, Bool, true, false, List, [], ◌∷◌, ◌++◌, length, take, get_or, refl, ap, subst, ◌∙◌, arith}
use Rattle.std.specs.Prelude.{◌||◌}
use Rattle.std.specs.List.{list_any}
use Rattle.hw_types.specs.declared.unit.Digest.{Digest}
use Rattle.hw_types.specs.Graph.{Node, digest_eq, is_faulty_mark, slot}
use Rattle.hw_types.specs.Below.{Among}
use Rattle.hw_types.proofs.Equal.{digest_eq_exact}
use Rattle.hw_types.proofs.PastLaws.{or_cases, or_left, some_of, any_of}
use Rattle.hw_types.proofs.StableLaws.{both_ways}
use Rattle.hw_types.proofs.EntryLaws.{among_map}
use Rattle.hw_dag.specs.declared.numbers.UnitNo.{UnitNo}
use Rattle.hw_dag.specs.Dag.{UnitGraph, node_at}
use Rattle.hw_light.specs.Extract.{is_marked_by}
use Rattle.hw_light.specs.Under.{nodes_at}

-- what stands at a place of a list is of the list
pub place_in : {A : Type 0} (xs : List A) (i : ℕ) (d : A) → i < length xs → Among (get_or xs i d) xs
place_in [] i d lt = absurd (omega arith)
place_in (x ∷ xs) zero d lt = inl refl
place_in (x ∷ xs) (suc i) d lt = inr (place_in xs i d (omega arith))

-- one more of a list
pub take_more : {A : Type 0} (xs : List A) (i : ℕ) (d : A) → i < length xs → take (i + 1) xs ≡ take i xs ++ get_or xs i d ∷ []
take_more xs i d lt = grind (arith, Rattle.std.proofs.lemmas.Grind.common_steps)

-- a test of any, over two lists
pub any_append : {A : Type 0} (p : A → Bool) (xs ys : List A) → list_any p (xs ++ ys) ≡ (list_any p xs || list_any p ys)
any_append p [] ys = refl
any_append p (x ∷ xs) ys = go (p x) (any_append p xs ys)
  where
    go : (b : Bool) → list_any p (xs ++ ys) ≡ (list_any p xs || list_any p ys) → (b || list_any p (xs ++ ys)) ≡ ((b || list_any p xs) || list_any p ys)
    go true e = refl
    go false e = e

-- one of these units marks the validator
pub marked_here : (dag : UnitGraph) (numbers : List UnitNo) (v i : ℕ) (d : UnitNo) → i < length numbers → is_faulty_mark (slot (node_at dag (get_or numbers i d).0).unit.panorama v) ≡ true → is_marked_by (nodes_at dag numbers) v ≡ true
marked_here dag numbers v i d lt t =
    any_of (λ (x : Node). is_faulty_mark (slot x.unit.panorama v)) (node_at dag (get_or numbers i d).0) (nodes_at dag numbers)
    (among_map (λ (n : UnitNo). node_at dag n.0) (get_or numbers i d) numbers (place_in numbers i d lt)) t

-- a test of the units, one more
pub any_more : (dag : UnitGraph) (numbers : List UnitNo) (p : Node → Bool) (i : ℕ) (d : UnitNo) → i < length numbers
    → list_any p (nodes_at dag (take (i + 1) numbers)) ≡ (list_any p (nodes_at dag (take i numbers)) || p (node_at dag (get_or numbers i d).0))
any_more dag numbers p i d lt =
    ap (λ (ns : List UnitNo). list_any p (nodes_at dag ns)) (take_more numbers i d lt)
    ∙ ap (list_any p) (nodes_append (take i numbers) (get_or numbers i d ∷ []))
    ∙ any_append p (nodes_at dag (take i numbers)) (node_at dag (get_or numbers i d).0 ∷ [])
    ∙ ap (λ (b : Bool). list_any p (nodes_at dag (take i numbers)) || b) (or_false (p (node_at dag (get_or numbers i d).0)))
  where
    nodes_append : (xs ys : List UnitNo) → nodes_at dag (xs ++ ys) ≡ nodes_at dag xs ++ nodes_at dag ys
    nodes_append [] ys = refl
    nodes_append (x ∷ xs) ys = ap (λ (ns : List Node). node_at dag x.0 ∷ ns) (nodes_append xs ys)

    or_false : (b : Bool) → (b || false) ≡ b
    or_false true = refl
    or_false false = refl

-- a digest that is there already
pub digest_there : (ks : List Digest) (k d : Digest) → list_any (digest_eq k) ks ≡ true → list_any (digest_eq d) ks ≡ (list_any (digest_eq d) ks || digest_eq d k)
digest_there ks k d there = both_ways (list_any (digest_eq d) ks) (list_any (digest_eq d) ks || digest_eq d k)
    (λ t. or_left (list_any (digest_eq d) ks) (digest_eq d k) t)
    (λ t. elim (or_cases (list_any (digest_eq d) ks) (digest_eq d k) t) [
      | inl u ↦ u
      | inr u ↦
          (let x = some_of (digest_eq k) ks there in
          any_of (digest_eq d) x.0 ks x.1 (subst (λ (e : Digest). digest_eq d e ≡ true) ((digest_eq_exact k x.0).0 x.2) u))
    ])

-- one digest more
pub digest_last : (ks : List Digest) (k d : Digest) → list_any (digest_eq d) (ks ++ k ∷ []) ≡ (list_any (digest_eq d) ks || digest_eq d k)
digest_last ks k d = any_append (digest_eq d) ks (k ∷ []) ∙ ap (λ (b : Bool). list_any (digest_eq d) ks || b) (or_false (digest_eq d k))
  where
    or_false : (b : Bool) → (b || false) ≡ b
    or_false true = refl
    or_false false = refl
