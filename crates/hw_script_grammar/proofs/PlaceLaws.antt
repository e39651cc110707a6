-- What the maps from names and from digests to places know.
use Rattle.std.proofs.Common.{◌≡◌, ℕ, suc, ◌<◌, Bool, true, false, cond, List, [], ◌∷◌, ◌++◌, length, Option, None, Some, is_some, Ordering, refl, sym, ap, subst, ◌∙◌, arith}
use Rattle.std.specs.Prelude.{◌||◌, find, slice_get, bytes_eq, IfSome}
use Rattle.std.specs.List.{list_any}
use Rattle.std.specs.Map.{lookup, KeepsOthers}
use Rattle.std.specs.Option.{unwrap_or, option_map}
use Rattle.std.specs.Ordering.{is_eq, nat_cmp}
use Rattle.std.specs.Cmp.{eq_by_cmp_equiv}
use Rattle.std.specs.Cmp.Lexicographic.{slice_cmp, bytes_decides, nat_list_cmp_total, nat_list_eq_equiv}
use Rattle.std.specs.BTreeMap.{BTreeMap, get, Updates}
use Rattle.std.specs.declared.vec.Vec.{Vec}
use Rattle.std.specs.declared.alloc.Global.{Global}
use Rattle.std.proofs.lemmas.Map.Text.{is_eq-slice_cmp}
use Rattle.hw_types.specs.declared.unit.Digest.{Digest}
use Rattle.hw_types.specs.declared.unit.WireUnit.{WireUnit}
use Rattle.hw_types.specs.Same.{unit_eq}
use Rattle.hw_types.specs.Spelling.{digest_of}
use Rattle.hw_types.proofs.OrderLaws.{unit_same}
use Rattle.hw_types.proofs.SettledLaws.{digest_self}
use Rattle.hw_script_grammar.specs.declared.named.Named.{Named}
use Rattle.hw_script_grammar.specs.Words.{Word}
use Rattle.hw_script_grammar.specs.Names.{has_name, is_digest, is_unit, unit_in, named_as, is_taken, name_or_nothing, name_of, has_unit, NamedFits, AllFit}
use Rattle.hw_script_grammar.specs.Places.{place_of, KnowsNames, KnowsDigests, HasNoted, HasNotedDigest}

-- ---- places in a list

module _ {X : Type 0} (p : X → Bool) where
  -- one more that fails
  push_fails : (xs : List X) (y : X) → p y ≡ false → place_of p (xs ++ y ∷ []) ≡ place_of p xs
  push_fails [] y e = ap (λ (b : Bool). cond b (Some 0) None) e
  push_fails (x ∷ xs) y e = ap (λ (o : Option ℕ). cond (p x) (Some 0) (option_map suc o)) (push_fails xs y e)

  -- one more that passes
  push_passes : (xs : List X) (y : X) → p y ≡ true → place_of p (xs ++ y ∷ []) ≡ Some (unwrap_or (place_of p xs) (length xs))
  push_passes [] y e = ap (λ (b : Bool). cond b (Some 0) None) e
  push_passes (x ∷ xs) y e = go (p x) (place_of p xs) (place_of p (xs ++ y ∷ [])) (push_passes xs y e)
    where
      go : (b : Bool) (o more : Option ℕ) → more ≡ Some (unwrap_or o (length xs)) → cond b (Some 0) (option_map suc more) ≡ Some (unwrap_or (cond b (Some 0) (option_map suc o)) (length (x ∷ xs)))
      go true o more e = refl
      go false None more e = ap (option_map suc) e ∙ ap Some (omega arith)
      go false (Some i) more e = ap (option_map suc) e

  -- the one at the place is the first that passes
  found_there : (xs : List X) (i : ℕ) → place_of p xs ≡ Some i → (i < length xs) × (find p xs ≡ slice_get xs i)
  found_there [] i at = absurd cc
  found_there (x ∷ xs) i at = go (p x) (place_of p xs) (found_there xs) refl at
    where
      go : (b : Bool) (o : Option ℕ) → ((j : ℕ) → place_of p xs ≡ Some j → (j < length xs) × (find p xs ≡ slice_get xs j)) → place_of p xs ≡ o → cond b (Some 0) (option_map suc o) ≡ Some i
          → (i < length (x ∷ xs)) × (cond b (Some x) (find p xs) ≡ slice_get (x ∷ xs) i)
      go true o rest is at = let first : 0 ≡ i = cc in subst (λ (j : ℕ). (j < length (x ∷ xs)) × (Some x ≡ slice_get (x ∷ xs) j)) first (omega arith, refl)
      go false None rest is at = absurd cc
      go false (Some j) rest is at =
          let later = rest j is in
          let next : suc j ≡ i = cc in
          subst (λ (k : ℕ). (k < length (x ∷ xs)) × (find p xs ≡ slice_get (x ∷ xs) k)) next (omega (arith, later.0), later.1)

  -- where there is no place, none passes
  found_nowhere : (xs : List X) → place_of p xs ≡ None → find p xs ≡ None
  found_nowhere [] at = refl
  found_nowhere (x ∷ xs) at = go (p x) (place_of p xs) (found_nowhere xs) refl at
    where
      go : (b : Bool) (o : Option ℕ) → (place_of p xs ≡ None → find p xs ≡ None) → place_of p xs ≡ o → cond b (Some 0) (option_map suc o) ≡ None → cond b (Some x) (find p xs) ≡ None
      go true o rest is at = absurd cc
      go false None rest is at = rest is
      go false (Some j) rest is at = absurd cc

  any_placed : (xs : List X) → is_some (place_of p xs) ≡ list_any p xs
  any_placed [] = refl
  any_placed (x ∷ xs) = go (p x) (place_of p xs) (any_placed xs)
    where
      go : (b : Bool) (o : Option ℕ) → is_some o ≡ list_any p xs → is_some (cond b (Some 0) (option_map suc o)) ≡ (b || list_any p xs)
      go true o e = refl
      go false None e = e
      go false (Some j) e = e

-- ---- maps with keys in the order of their bytes

apart : (bs cs ks : List ℕ) → bytes_eq bs cs ≡ false → is_eq (slice_cmp nat_cmp bs ks) ≡ true → is_eq (slice_cmp nat_cmp cs ks) ≡ false
apart bs cs ks n y = is_eq-slice_cmp cs ks ∙ nat_list_eq_equiv.symm cs ks ∙ sym (nat_list_eq_equiv.congr bs ks cs (sym (is_eq-slice_cmp bs ks) ∙ y)) ∙ n

module _ {K : Type 0} (bytes : K → List ℕ) where
  abbrev order : K → K → Ordering
  order k j = slice_cmp nat_cmp (bytes k) (bytes j)

  abbrev at : List ℕ → K → Bool
  at w k = is_eq (slice_cmp nat_cmp w (bytes k))

  others_stay : (old new : BTreeMap K ℕ) (key : K) (v : Option ℕ) → Updates order old new key v → (w : List ℕ) → bytes_eq (bytes key) w ≡ false → lookup (at w) new.entries ≡ lookup (at w) old.entries
  unfolding KeepsOthers
  others_stay old new key v h w e = h.3 (at w) (λ x y. (eq_by_cmp_equiv nat_list_cmp_total).congr w (bytes x) (bytes y)) (λ k. apart (bytes key) w (bytes k) e)

  -- a key that is noted, where one more definition has it
  known_more : (p : Named → Bool) (old new : BTreeMap K ℕ) (key : K) (w : List ℕ) (ns : List Named) (n : Named) → p n ≡ bytes_eq (bytes key) w
      → HasNoted order old new key (length ns) → lookup (at w) old.entries ≡ place_of p ns → lookup (at w) new.entries ≡ place_of p (ns ++ n ∷ [])
  known_more p old new key w ns n passes noted was = go (bytes_eq (bytes key) w) refl
    where
      go : (b : Bool) → bytes_eq (bytes key) w ≡ b → lookup (at w) new.entries ≡ place_of p (ns ++ n ∷ [])
      go true same =
          let here : bytes key ≡ w = (bytes_decides (bytes key) w).0 same in
          ap (λ (l : List ℕ). lookup (at l) new.entries) (sym here)
          ∙ noted.1
          ∙ ap (λ (l : List ℕ). Some (unwrap_or (lookup (at l) old.entries) (length ns))) here
          ∙ ap (λ (o : Option ℕ). Some (unwrap_or o (length ns))) was
          ∙ sym (push_passes p ns n (passes ∙ same))
      go false other =
          others_stay old new key (Some (unwrap_or (get order old key) (length ns))) noted w other ∙ was ∙ sym (push_fails p ns n (passes ∙ other))

-- ---- what is defined

-- one more name
pub names_more : (old new : BTreeMap (Vec ℕ Global) ℕ) (key : Vec ℕ Global) (ns : List Named) (n : Named) → key.items ≡ n.name
    → HasNoted (λ (k j : Vec ℕ Global). slice_cmp nat_cmp k.items j.items) old new key (length ns) → KnowsNames old.entries ns → KnowsNames new.entries (ns ++ n ∷ [])
names_more old new key ns n is noted was w = known_more (λ (k : Vec ℕ Global). k.items) (has_name w) old new key w ns n (ap (λ (l : List ℕ). bytes_eq l w) (sym is)) noted (was w)

-- one more digest, if it is a unit
pub digests_more : (old new : BTreeMap Digest ℕ) (ns : List Named) (n : Named) → HasNotedDigest old new n.digest (length ns) → KnowsDigests old.entries ns → KnowsDigests new.entries (ns ++ n ∷ [])
digests_more old new ns n noted was d = go n.digest refl noted
  where
    p : Named → Bool
    p m = is_digest d m.digest

    go : (o : Option Digest) → n.digest ≡ o → HasNotedDigest old new o (length ns) → lookup (λ (k : Digest). is_eq (slice_cmp nat_cmp d.0 k.0)) new.entries ≡ place_of (λ (m : Named). is_digest d m.digest) (ns ++ n ∷ [])
    go None is noted =
        ap (lookup (λ (k : Digest). is_eq (slice_cmp nat_cmp d.0 k.0))) noted ∙ was d ∙ sym (push_fails (λ (m : Named). is_digest d m.digest) ns n (ap (is_digest d) is))
    go (Some e) is noted = known_more (λ (k : Digest). k.0) (λ (m : Named). is_digest d m.digest) old new e d.0 ns n (ap (is_digest d) is) noted (was d)

-- what a name's place tells
pub named_there : (places : List (Vec ℕ Global × ℕ)) (ns : List Named) (w : Word) (i : ℕ) → KnowsNames places ns → lookup (λ k. is_eq (slice_cmp nat_cmp w k.items)) places ≡ Some i
    → (i < length ns) × (named_as ns w ≡ slice_get ns i)
unfolding named_as
named_there places ns w i known at = found_there (has_name w) ns i (sym (known w) ∙ at)

pub named_nowhere : (places : List (Vec ℕ Global × ℕ)) (ns : List Named) (w : Word) → KnowsNames places ns → lookup (λ k. is_eq (slice_cmp nat_cmp w k.items)) places ≡ None → named_as ns w ≡ None
unfolding named_as
named_nowhere places ns w known at = found_nowhere (has_name w) ns (sym (known w) ∙ at)

pub taken_placed : (places : List (Vec ℕ Global × ℕ)) (ns : List Named) (w : Word) → KnowsNames places ns → is_some (lookup (λ k. is_eq (slice_cmp nat_cmp w k.items)) places) ≡ is_taken ns w
unfolding is_taken
taken_placed places ns w known = ap is_some (known w) ∙ any_placed (has_name w) ns

-- what a digest's place tells
pub digest_there : (places : List (Digest × ℕ)) (ns : List Named) (d : Digest) (i : ℕ) → KnowsDigests places ns → lookup (λ k. is_eq (slice_cmp nat_cmp d.0 k.0)) places ≡ Some i
    → (i < length ns) × (name_of ns d ≡ name_or_nothing (slice_get ns i))
unfolding name_of
digest_there places ns d i known at =
    let found = found_there (λ (n : Named). is_digest d n.digest) ns i (sym (known d) ∙ at) in
    (found.0, ap name_or_nothing found.1)

pub digest_nowhere : (places : List (Digest × ℕ)) (ns : List Named) (d : Digest) → KnowsDigests places ns → lookup (λ k. is_eq (slice_cmp nat_cmp d.0 k.0)) places ≡ None → name_of ns d ≡ []
unfolding name_of
digest_nowhere places ns d known at = ap name_or_nothing (found_nowhere (λ (n : Named). is_digest d n.digest) ns (sym (known d) ∙ at))

-- ---- units

or_false : (a b : Bool) → (a || b) ≡ false → (a ≡ false) × (b ≡ false)
or_false true b e = absurd cc
or_false false b e = (refl, e)

-- a definition without the unit's digest isn't the unit
other_unit : (n : Named) (u : WireUnit) → NamedFits n → is_digest (digest_of u) n.digest ≡ false → is_unit u (unit_in n.vertex) ≡ false
other_unit n u fits apart = go (unit_in n.vertex) fits.1
  where
    go : (o : Option WireUnit) → IfSome o (λ (v : WireUnit). n.digest ≡ Some (digest_of v)) → is_unit u o ≡ false
    go None named = refl
    go (Some v) named = both (unit_eq v u) refl
      where
        both : (b : Bool) → unit_eq v u ≡ b → b ≡ false
        both false e = refl
        both true e =
            let same : n.digest ≡ Some (digest_of u) = named ∙ ap (λ (x : WireUnit). Some (digest_of x)) (unit_same v u e) in
            sym (digest_self (digest_of u)) ∙ sym (ap (is_digest (digest_of u)) same) ∙ apart

-- where no definition has the unit's digest, none is the unit
no_unit : (ns : List Named) (u : WireUnit) → AllFit ns → list_any (λ (n : Named). is_digest (digest_of u) n.digest) ns ≡ false → list_any (λ (n : Named). is_unit u (unit_in n.vertex)) ns ≡ false
no_unit [] u all none = refl
no_unit (n ∷ ns) u all none =
    let parts = or_false (is_digest (digest_of u) n.digest) (list_any (λ (m : Named). is_digest (digest_of u) m.digest) ns) none in
    ap (λ (b : Bool). b || list_any (λ (m : Named). is_unit u (unit_in m.vertex)) ns) (other_unit n u all.0 parts.0) ∙ no_unit ns u all.1 parts.1

pub unit_nowhere : (places : List (Digest × ℕ)) (ns : List Named) (u : WireUnit) (d : Digest) → AllFit ns → KnowsDigests places ns → d ≡ digest_of u
    → is_some (lookup (λ k. is_eq (slice_cmp nat_cmp d.0 k.0)) places) ≡ false → has_unit ns u ≡ false
unfolding has_unit
unit_nowhere places ns u d all known is none =
    no_unit ns u all (subst (λ (e : Digest). list_any (λ (n : Named). is_digest e n.digest) ns ≡ false) is (sym (any_placed (λ (n : Named). is_digest d n.digest) ns) ∙ sym (ap is_some (known d)) ∙ none))
