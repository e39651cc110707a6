-- Laws of lists that have some of others, in their order.
use Rattle.std.proofs.Common.{◌≡◌, ◌⊎◌, inl, inr, ◌≤◌, List, [], ◌∷◌, ◌++◌, length, map, refl, sym, ap, subst, ◌∙◌, arith}
use Rattle.std.specs.List.{flat_map}
use Rattle.hw_types.specs.Below.{Among}
use Rattle.hw_types.proofs.EntryLaws.{append_cases}
use Rattle.hw_core.specs.Settle.{IsPart, IsOnce}

module _ {A : Type 0} where
  pub part_self : (xs : List A) → IsPart xs xs
  part_self [] = refl
  part_self (x ∷ xs) = inr (xs, refl, part_self xs)

  pub part_none : (ys : List A) → IsPart [] ys
  part_none [] = refl
  part_none (y ∷ ys) = inl (part_none ys)

  pub part_skip : (y : A) (xs ys : List A) → IsPart xs ys → IsPart xs (y ∷ ys)
  part_skip y xs ys p = inl p

  pub part_keep : (y : A) (xs ys : List A) → IsPart xs ys → IsPart (y ∷ xs) (y ∷ ys)
  part_keep y xs ys p = inr (xs, refl, p)

  pub part_among : (x : A) (xs ys : List A) → IsPart xs ys → Among x xs → Among x ys
  part_among x xs [] p m = absurd (subst (λ (zs : List A). Among x zs) p m)
  part_among x xs (y ∷ ys) (inl p) m = inr (part_among x xs ys p m)
  part_among x xs (y ∷ ys) (inr q) m = elim (subst (λ (zs : List A). Among x zs) q.1 m) [
    | inl e ↦ inl e
    | inr n ↦ inr (part_among x q.0 ys q.2 n)
  ]

  -- a part of a part
  pub part_then : (xs ys zs : List A) → IsPart xs ys → IsPart ys zs → IsPart xs zs
  part_then xs ys [] p q = subst (λ (ws : List A). IsPart xs ws) q p
  part_then xs ys (z ∷ zs) p (inl q) = inl (part_then xs ys zs p q)
  part_then xs ys (z ∷ zs) p (inr q) = go (subst (λ (ws : List A). IsPart xs ws) q.1 p) (λ r. part_then xs q.0 zs r q.2) (λ ws r. part_then ws q.0 zs r q.2)
    where
      go : IsPart xs (z ∷ q.0) → (IsPart xs q.0 → IsPart xs zs) → ((ws : List A) → IsPart ws q.0 → IsPart ws zs) → IsPart xs (z ∷ zs)
      go (inl r) first rest = inl (first r)
      go (inr r) first rest = inr (r.0, r.1, rest r.0 r.2)

  -- what is longer at its end
  pub part_more : (xs ys zs : List A) → IsPart xs ys → IsPart xs (ys ++ zs)
  part_more xs [] zs p = subst (λ (ws : List A). IsPart ws zs) (sym p) (part_none zs)
  part_more xs (y ∷ ys) zs (inl p) = inl (part_more xs ys zs p)
  part_more xs (y ∷ ys) zs (inr q) = inr (q.0, q.1, part_more q.0 ys zs q.2)

  pub part_last : (xs ys : List A) (z : A) → IsPart xs ys → IsPart (xs ++ z ∷ []) (ys ++ z ∷ [])
  part_last xs [] z p = inr ([], ap (λ (ws : List A). ws ++ z ∷ []) p, refl)
  part_last xs (y ∷ ys) z (inl p) = inl (part_last xs ys z p)
  part_last xs (y ∷ ys) z (inr q) = inr (q.0 ++ z ∷ [], ap (λ (ws : List A). ws ++ z ∷ []) q.1, part_last q.0 ys z q.2)

  -- a part without one of its members
  pub part_without : (before : List A) (x : A) (after : List A) → IsPart (before ++ after) (before ++ x ∷ after)
  part_without [] x after = part_skip x after after (part_self after)
  part_without (b ∷ bs) x after = part_keep b (bs ++ after) (bs ++ x ∷ after) (part_without bs x after)

  pub part_length : (xs ys : List A) → IsPart xs ys → length xs ≤ length ys
  part_length xs [] p = let none = ap length p in omega arith
  part_length xs (y ∷ ys) (inl p) = let less = part_length xs ys p in omega arith
  part_length xs (y ∷ ys) (inr q) = let rest = part_length q.0 ys q.2 in let all = ap length q.1 in omega arith

  -- ---- where none stands twice

  pub once_last : (xs : List A) (z : A) → IsOnce xs → (Among z xs → ⊥) → IsOnce (xs ++ z ∷ [])
  once_last [] z once new = (λ m. m, tt)
  once_last (x ∷ xs) z once new = (
    λ m. elim (append_cases x xs (z ∷ []) m) [
      | inl old ↦ once.0 old
      | inr here ↦ elim here [ inl e ↦ new (inl (sym e)) | inr none ↦ none ]
    ],
    once_last xs z once.1 (λ m. new (inr m)),
  )

  -- what is left out gives nothing, so the part gives what the whole gives
  pub part_gives : {B : Type 0} (f : A → List B) (xs ys : List A) → IsPart xs ys → IsOnce ys → ((y : A) → Among y ys → Among y xs ⊎ (f y ≡ [])) → flat_map f xs ≡ flat_map f ys
  part_gives f xs [] p once gives = ap (flat_map f) p
  part_gives {B = B} f xs (y ∷ ys) (inl p) once gives =
      part_gives f xs ys p once.1 (λ z m. gives z (inr m)) ∙ ap (λ (bs : List B). bs ++ flat_map f ys) (sym none)
    where
      none : f y ≡ []
      none = elim (gives y (inl refl)) [
        | inl m ↦ absurd (once.0 (part_among y xs ys p m))
        | inr e ↦ e
      ]
  part_gives {B = B} f xs (y ∷ ys) (inr q) once gives =
      ap (flat_map f) q.1 ∙ ap (λ (bs : List B). f y ++ bs) (part_gives f q.0 ys q.2 once.1 (λ z m. rest z m (gives z (inr m))))
    where
      rest : (z : A) → Among z ys → (Among z xs ⊎ (f z ≡ [])) → Among z q.0 ⊎ (f z ≡ [])
      rest z m (inr e) = inr e
      rest z m (inl n) = elim (subst (λ (ws : List A). Among z ws) q.1 n) [
        | inl e ↦ absurd (once.0 (subst (λ (w : A). Among w ys) (sym e) m))
        | inr o ↦ inl o
      ]

pub part_map : {A B : Type 0} (f : A → B) (xs ys : List A) → IsPart xs ys → IsPart (map f xs) (map f ys)
part_map f xs [] p = ap (map f) p
part_map f xs (y ∷ ys) (inl p) = inl (part_map f xs ys p)
part_map f xs (y ∷ ys) (inr q) = inr (map f q.0, ap (map f) q.1, part_map f q.0 ys q.2)
