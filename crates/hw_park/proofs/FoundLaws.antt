-- Once a list has as many needs as the table, it has each of them, and no more go into it.
use Rattle.std.proofs.Common.{◌≡◌, ℕ, Bool, true, false, cond, List, [], ◌∷◌, ◌++◌, map, length, Option, None, Some, refl, sym, ap, subst, ◌∙◌, arith}
use Rattle.std.specs.Prelude.{◌||◌, nat_le, IsSome}
use Rattle.std.specs.Cmp.{IsEquivalence}
use Rattle.std.specs.List.{list_any, IsDistinct}
use Rattle.std.specs.Map.{lookup}
use Rattle.std.specs.Option.{option_map_or}
use Rattle.std.specs.declared.vec.Vec.{Vec}
use Rattle.std.specs.declared.alloc.Global.{Global}
use Rattle.std.proofs.lemmas.List.{length-map, length-append, map-append}
use Rattle.std.proofs.lemmas.List.Folds.{list_any-append}
use Rattle.std.proofs.lemmas.Map.Keys.{IsDistinct-push}
use Rattle.std.proofs.lemmas.Map.Steps.{length-le_from_keys}
use Rattle.hw_types.specs.declared.unit.Need.{Need}
use Rattle.hw_types.specs.declared.unit.Need.TheVariants as need
use Rattle.hw_types.specs.Settled.{need_eq}
use Rattle.hw_types.proofs.StableLaws.{both_ways}
use Rattle.hw_park.specs.declared.key.NeedKey.{NeedKey}
use Rattle.hw_park.specs.declared.key.NeedKey.TheVariants as key
use Rattle.hw_park.specs.declared.waiter.Waiter.{Waiter}
use Rattle.hw_park.specs.Keys.{key_of, ties}
use Rattle.hw_park.specs.Numbers.{numbers_at, has_number}
use Rattle.hw_park.specs.Held.{Held, left_of, slot_at}
use Rattle.hw_park.specs.First.{with_first, with_firsts, needs_of_places}
use Rattle.hw_park.proofs.KeyLaws.{key_same, need_same, need_self}
use Rattle.hw_park.proofs.FirstLaws.{firsts-append}

-- ---- keys that tie are one

abbrev need_of_key : NeedKey → Need
need_of_key (key.Unit d) = need.Unit d
need_of_key (key.Evidence v) = need.Evidence v
need_of_key (key.Endorsed d) = need.Endorsed d

key_of_need : (k : NeedKey) → key_of (need_of_key k) ≡ k
key_of_need (key.Unit d) = refl
key_of_need (key.Evidence v) = refl
key_of_need (key.Endorsed d) = refl

keys_tie : (j k : NeedKey) → ties j k ≡ need_eq (need_of_key j) (need_of_key k)
keys_tie j k = sym (λ i. ties (key_of_need j i) (key_of_need k i)) ∙ key_same (need_of_key j) (need_of_key k)

one_key : (j k : NeedKey) → ties j k ≡ true → j ≡ k
one_key j k e = sym (key_of_need j) ∙ ap key_of (need_same (need_of_key j) (need_of_key k) (sym (keys_tie j k) ∙ e)) ∙ key_of_need k

key_self : (k : NeedKey) → ties k k ≡ true
key_self k = keys_tie k k ∙ need_self (need_of_key k)

keys_alike : IsEquivalence ties
keys_alike = record {
  refl = key_self;
  symm = λ j k. both_ways (ties j k) (ties k j) (λ e. alike k j (sym (one_key j k e))) (λ e. alike j k (sym (one_key k j e)));
  congr = λ j k l e. ap (λ (x : NeedKey). ties x l) (one_key j k e);
}
  where
    alike : (j k : NeedKey) → j ≡ k → ties j k ≡ true
    alike j k same = subst (λ (l : NeedKey). ties j l ≡ true) same (key_self j)

-- a need is among these where its key is among theirs
any_key : (n : Need) (ns : List Need) → list_any (ties (key_of n)) (map key_of ns) ≡ list_any (λ m. need_eq m n) ns
any_key n [] = refl
any_key n (m ∷ ms) = λ i. (one i || any_key n ms i)
  where
    one : ties (key_of n) (key_of m) ≡ need_eq m n
    one = keys_alike.symm (key_of n) (key_of m) ∙ key_same m n

-- ---- needs of a table

abbrev Table : Type 0
Table = List (NeedKey × Vec ℕ Global)

-- each of the needs is one of the table's, and none stands twice among them
pub record AreFound (es : Table) (ns : List Need) : Type 0 where
  pub once : IsDistinct ties (map key_of ns)
  pub within : (q : NeedKey) → list_any (ties q) (map key_of ns) ≡ true → IsSome (lookup (ties q) es)

-- a need for which a place is noted is one of the table's
noted_key : (es : Table) (n : Need) (place : ℕ) → has_number (numbers_at es n) place ≡ true → IsSome (lookup (ties (key_of n)) es)
noted_key es n place noted = go (lookup (ties (key_of n)) es) noted
  where
    go : (o : Option (Vec ℕ Global)) → has_number (option_map_or (λ v. v.items) o []) place ≡ true → IsSome o
    go None h = absurd cc
    go (Some v) h = refl

pub found_none : (es : Table) → AreFound es []
unfolding IsDistinct
found_none es = record { once = tt; within = λ q h. absurd cc }

module _ (es : Table) where
  -- one of the table's that isn't among them yet
  found_more : (ns : List Need) (n : Need) → AreFound es ns → IsSome (lookup (ties (key_of n)) es) → list_any (λ m. need_eq m n) ns ≡ false → AreFound es (ns ++ n ∷ [])
  found_more ns n found there new = record {
    once = subst (λ (ks : List NeedKey). IsDistinct ties ks) (sym (map-append key_of ns (n ∷ []))) (IsDistinct-push keys_alike (map key_of ns) (key_of n) found.once (any_key n ns ∙ new));
    within = λ q h. go q (list_any (ties q) (map key_of ns)) refl (ties q (key_of n)) refl
        (sym (ap (list_any (ties q)) (map-append key_of ns (n ∷ [])) ∙ list_any-append (ties q) (map key_of ns) (key_of n ∷ [])) ∙ h);
  }
    where
      go : (q : NeedKey) (a : Bool) → list_any (ties q) (map key_of ns) ≡ a → (b : Bool) → ties q (key_of n) ≡ b → (a || (b || false)) ≡ true → IsSome (lookup (ties q) es)
      go q true e b f h = found.within q e
      go q false e true f h = subst (λ (k : NeedKey). IsSome (lookup (ties k) es)) (sym (one_key q (key_of n) f)) there
      go q false e false f h = absurd cc

  -- where there are as many of them as the table has, each need of the table is among them
  all_found : (ns : List Need) → AreFound es ns → length ns ≡ length es → (n : Need) (place : ℕ) → has_number (numbers_at es n) place ≡ true → list_any (λ m. need_eq m n) ns ≡ true
  all_found ns found many n place noted = go (list_any (λ m. need_eq m n) ns) refl
    where
      go : (b : Bool) → list_any (λ m. need_eq m n) ns ≡ b → list_any (λ m. need_eq m n) ns ≡ true
      go true e = e
      go false e =
          let more = found_more ns n found (noted_key es n place noted) e in
          let fits = length-le_from_keys keys_alike (map key_of (ns ++ n ∷ [])) es more.once more.within in
          let long = length-map (ns ++ n ∷ []) key_of in
          let one = length-append ns (n ∷ []) in
          absurd (omega (arith, fits, long, one, many))

  module _ (most place : ℕ) where
    put_found : (ns : List Need) (n : Need) → AreFound es ns → has_number (numbers_at es n) place ≡ true → AreFound es (with_first most ns n)
    put_found ns n found noted = go (nat_le most (length ns)) (list_any (λ m. need_eq m n) ns) refl
      where
        go : (a b : Bool) → list_any (λ m. need_eq m n) ns ≡ b → AreFound es (cond (a || b) ns (ns ++ n ∷ []))
        go true b e = found
        go false true e = found
        go false false e = found_more ns n found (noted_key es n place noted) e

    -- needs for which the place is noted go into the list
    pub left_found : (ns needs : List Need) → AreFound es ns → AreFound es (with_firsts most ns (left_of (numbers_at es) place needs))
    left_found ns [] found = found
    left_found ns (m ∷ ms) found = go (has_number (numbers_at es m) place) refl (λ ks f. left_found ks ms f)
      where
        rest : List Need
        rest = left_of (numbers_at es) place ms

        go : (b : Bool) → has_number (numbers_at es m) place ≡ b → ((ks : List Need) → AreFound es ks → AreFound es (with_firsts most ks rest)) → AreFound es (with_firsts most ns (cond b (m ∷ rest) rest))
        go true noted all = all (with_first most ns m) (put_found ns m found noted)
        go false noted all = all ns found

  module _ (most : ℕ) (ns : List Need) (found : AreFound es ns) (many : length ns ≡ length es) where
    left_there : (place : ℕ) (needs : List Need) → with_firsts most ns (left_of (numbers_at es) place needs) ≡ ns
    left_there place [] = refl
    left_there place (m ∷ ms) = go (has_number (numbers_at es m) place) refl (left_there place ms)
      where
        rest : List Need
        rest = left_of (numbers_at es) place ms

        either : (a : Bool) → (a || true) ≡ true
        either true = refl
        either false = refl

        stays : has_number (numbers_at es m) place ≡ true → with_first most ns m ≡ ns
        stays noted = ap (λ (b : Bool). cond b ns (ns ++ m ∷ [])) (ap (λ (b : Bool). nat_le most (length ns) || b) (all_found ns found many m place noted) ∙ either (nat_le most (length ns)))

        go : (b : Bool) → has_number (numbers_at es m) place ≡ b → with_firsts most ns rest ≡ ns → with_firsts most ns (cond b (m ∷ rest) rest) ≡ ns
        go true noted all = ap (λ (ks : List Need). with_firsts most ks rest) (stays noted) ∙ all
        go false noted all = all

    -- no place has a need more
    pub places_there : {T : Type 0} (h : Held T) (places : List ℕ) → with_firsts most ns (needs_of_places h (numbers_at es) places) ≡ ns
    places_there h [] = refl
    places_there {T} h (p ∷ ps) =
        firsts-append most ns (of_place (slot_at h.slots p)) (needs_of_places h (numbers_at es) ps)
        ∙ ap (λ (ks : List Need). with_firsts most ks (needs_of_places h (numbers_at es) ps)) (one (slot_at h.slots p))
        ∙ places_there h ps
      where
        of_place : Option (Waiter T) → List Need
        of_place o = option_map_or (λ w. left_of (numbers_at es) p w.needs.items) o []

        one : (o : Option (Waiter T)) → with_firsts most ns (of_place o) ≡ ns
        one None = refl
        one (Some w) = left_there p w.needs.items
