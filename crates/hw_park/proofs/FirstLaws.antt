-- Laws of the list of the first needs.
use Rattle.std.proofs.Common.{◌≡◌, ℕ, ◌+◌, ◌<◌, ◌≤◌, Bool, true, false, not, cond, List, [], ◌∷◌, ◌++◌, length, take, drop, filter, refl, sym, ap, ◌∙◌, arith}
use Rattle.std.specs.Prelude.{◌||◌, ◌&&◌, nat_le}
use Rattle.std.specs.List.{list_any}
use Rattle.std.proofs.lemmas.Bool.Decides.{nat_tests}
use Rattle.std.proofs.lemmas.List.{take_at, take_all, append_assoc, append-nil, length-append}
use Rattle.hw_types.specs.declared.unit.Need.{Need}
use Rattle.hw_types.specs.Settled.{need_eq, distinct}
use Rattle.hw_park.specs.Numbers.{has_number}
use Rattle.hw_park.specs.Held.{left_of}
use Rattle.hw_park.specs.First.{with_first, with_firsts}
use Rattle.hw_park.proofs.KeyLaws.{need_same}
use Rattle.hw_park.proofs.NoteLaws.{filter_both, filter_same}

-- one need more, for which the place is noted or not
pub put_step : (notes : Need → List ℕ) (place : ℕ) (items : List Need) (i most : ℕ) (n : Need) (ns now : List Need) → drop i items ≡ n ∷ drop (i + 1) items
    → now ≡ cond (has_number (notes n) place) (with_first most ns n) ns → with_firsts most now (left_of notes place (drop (i + 1) items)) ≡ with_firsts most ns (left_of notes place (drop i items))
put_step notes place items i most n ns now more is =
    ap (λ (xs : List Need). with_firsts most xs (left_of notes place rest)) is ∙ go (has_number (notes n) place) ∙ sym (ap (λ (xs : List Need). with_firsts most ns (left_of notes place xs)) more)
  where
    rest : List Need
    rest = drop (i + 1) items

    go : (b : Bool) → with_firsts most (cond b (with_first most ns n) ns) (left_of notes place rest) ≡ with_firsts most ns (cond b (n ∷ left_of notes place rest) (left_of notes place rest))
    go true = refl
    go false = refl

-- the list, and these needs behind it
pub firsts-append : (most : ℕ) (ns xs ys : List Need) → with_firsts most ns (xs ++ ys) ≡ with_firsts most (with_firsts most ns xs) ys
firsts-append most ns [] ys = refl
firsts-append most ns (x ∷ xs) ys = firsts-append most (with_first most ns x) xs ys

-- nothing goes into a list that is as long as may be
pub firsts_full : (most : ℕ) (ns ms : List Need) → most ≤ length ns → with_firsts most ns ms ≡ ns
firsts_full most ns [] full = refl
firsts_full most ns (m ∷ ms) full = rw stays (firsts_full most ns ms full)
  where
    stays : nat_le most (length ns) ≡ true
    stays = grind (arith, nat_tests)

-- ---- the first ones are those of the needs, each once

-- the need isn't among these
abbrev pub is_new : List Need → Need → Bool
is_new ns n = not (list_any (λ m. need_eq m n) ns)

any_last : (n m : Need) (ns : List Need) → list_any (λ k. need_eq k m) (ns ++ n ∷ []) ≡ (list_any (λ k. need_eq k m) ns || need_eq n m)
any_last n m [] = go (need_eq n m)
  where
    go : (b : Bool) → (b || false) ≡ b
    go true = refl
    go false = refl
any_last n m (k ∷ ks) = go (need_eq k m) (any_last n m ks)
  where
    go : (b : Bool) → list_any (λ k. need_eq k m) (ks ++ n ∷ []) ≡ (list_any (λ k. need_eq k m) ks || need_eq n m)
        → (b || list_any (λ k. need_eq k m) (ks ++ n ∷ [])) ≡ ((b || list_any (λ k. need_eq k m) ks) || need_eq n m)
    go true rest = refl
    go false rest = rest

new_last : (n m : Need) (ns : List Need) → is_new (ns ++ n ∷ []) m ≡ (not (need_eq n m) && is_new ns m)
new_last n m ns = ap not (any_last n m ns) ∙ go (list_any (λ k. need_eq k m) ns) (need_eq n m)
  where
    go : (a b : Bool) → not (a || b) ≡ (not b && not a)
    go true true = refl
    go true false = refl
    go false true = refl
    go false false = refl

-- what is there already is no newer without it
there_gone : (ns : List Need) (n : Need) → is_new ns n ≡ false → (m : Need) → (not (need_eq n m) && is_new ns m) ≡ is_new ns m
there_gone ns n there m = go (need_eq n m) refl
  where
    go : (b : Bool) → need_eq n m ≡ b → (not b && is_new ns m) ≡ is_new ns m
    go false e = refl
    go true e = sym there ∙ ap (λ (k : Need). is_new ns k) (need_same n m e)

module _ (most : ℕ) where
  -- a list that is as long as may be is what is taken of any longer one
  full_take : (ns xs : List Need) → most ≤ length ns → length ns ≤ most → ns ≡ take most (ns ++ xs)
  full_take ns xs full fits = sym (take_at ns xs most (omega arith))

  -- the list, and behind it those that are new, each once and as many as may be
  pub firsts_are : (ns ms : List Need) → length ns ≤ most → with_firsts most ns ms ≡ take most (ns ++ filter (is_new ns) (distinct ms))
  firsts_are ns [] fits = sym (ap (take most) (append-nil ns) ∙ take_all most ns fits)
  firsts_are ns (m ∷ ms) fits = go (nat_le most (length ns)) refl (list_any (λ k. need_eq k m) ns) refl (λ k fit. firsts_are k ms fit)
    where
      rest : List Need
      rest = filter (λ k. not (need_eq m k)) (distinct ms)

      go : (a : Bool) → nat_le most (length ns) ≡ a → (b : Bool) → list_any (λ k. need_eq k m) ns ≡ b
          → ((k : List Need) → length k ≤ most → with_firsts most k ms ≡ take most (k ++ filter (is_new k) (distinct ms)))
          → with_firsts most (cond (nat_le most (length ns) || list_any (λ k. need_eq k m) ns) ns (ns ++ m ∷ [])) ms ≡ take most (ns ++ filter (is_new ns) (m ∷ rest))
      go true e b f all =
          let full : most ≤ length ns = grind (arith, nat_tests) in
          rw e (all ns fits ∙ sym (full_take ns (filter (is_new ns) (distinct ms)) full fits) ∙ full_take ns (filter (is_new ns) (m ∷ rest)) full fits)
      go false e true f all =
          let tail : filter (is_new ns) rest ≡ filter (is_new ns) (distinct ms) =
          filter_both (is_new ns) (λ k. not (need_eq m k)) (distinct ms) ∙ filter_same _ (is_new ns) (distinct ms) (there_gone ns m (ap not f)) in
          rw (e, f) (all ns fits ∙ ap (λ (xs : List Need). take most (ns ++ xs)) (sym tail))
      go false e false f all =
          let less : length ns < most = grind (arith, nat_tests) in
          let long = length-append ns (m ∷ []) in
          let tail : filter (is_new (ns ++ m ∷ [])) (distinct ms) ≡ filter (is_new ns) rest =
          filter_same _ _ (distinct ms) (λ k. new_last m k ns) ∙ sym (filter_both (is_new ns) (λ k. not (need_eq m k)) (distinct ms)) in
          rw (e, f) (all (ns ++ m ∷ []) (omega arith) ∙ ap (λ (xs : List Need). take most ((ns ++ m ∷ []) ++ xs)) tail ∙ ap (take most) (append_assoc ns (m ∷ []) (filter (is_new ns) rest)))

  -- from nothing
  pub firsts_of : (ms : List Need) → with_firsts most [] ms ≡ take most (distinct ms)
  firsts_of ms = firsts_are [] ms (omega arith) ∙ ap (take most) (all_new (distinct ms))
    where
      all_new : (xs : List Need) → filter (is_new []) xs ≡ xs
      all_new [] = refl
      all_new (x ∷ xs) = ap (λ (ys : List Need). x ∷ ys) (all_new xs)
