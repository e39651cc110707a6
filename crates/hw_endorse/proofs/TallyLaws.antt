-- Laws of the endorsers of units.
use Rattle.std.proofs.Common.{◌≡◌, ℕ, ◌+◌, ◌*◌, Bool, true, false, cond, not, ◌||◌, ◌&&◌, eqb, nat_lt, List, [], ◌∷◌, map, Option, None, Some, Result, Ok, Err, OnOk, OnErr, IfOk, refl, sym, ap, ◌∙◌, subst, arith, ◌<◌, ◌≤◌, lt-ltb, if◌then◌else◌}
use Rattle.std.specs.Ordering.{is_eq}
use Rattle.std.specs.List.{list_any, flat_map}
use Rattle.std.specs.Map.{lookup, keys_of}
use Rattle.std.specs.Option.{unwrap_or, option_map_or}
use Rattle.std.proofs.lemmas.Bool.{le-ltb}
use Rattle.std.proofs.lemmas.List.Folds.{list_any-append}
use Rattle.hw_types.specs.declared.unit.Digest.{Digest}
use Rattle.hw_types.specs.Graph.{digest_eq}
use Rattle.hw_types.proofs.PastLaws.{some_of, any_of, or_left, or_right}
use Rattle.hw_types.proofs.StableLaws.{both_ways, and_parts}
use Rattle.hw_types.proofs.SettledLaws.{digest_same, digest_self}
use Rattle.hw_endorse.specs.declared.tally.Endorsers.{Endorsers}
use Rattle.hw_endorse.specs.Told.{is_told}
use Rattle.hw_endorse.specs.Kept.{is_one, who_in, pairs_in, weight_in, is_listed, AreListed}
use Rattle.hw_endorse.proofs.KeyLaws.{order, tie, looked_up, listed_found}
use Rattle.hw_endorse.proofs.WeightLaws.{or_false}
use Rattle.hw_endorse.proofs.KeptLaws.{Weighs, HasOneMore}

-- ---- lists of lists

any_flat : {A B : Type 0} (p : B → Bool) (f : A → List B) (xs : List A) → list_any p (flat_map f xs) ≡ list_any (λ x. list_any p (f x)) xs
any_flat p f [] = refl
any_flat p f (x ∷ xs) = list_any-append p (f x) (flat_map f xs) ∙ ap (λ (b : Bool). list_any p (f x) || b) (any_flat p f xs)

any_map : {A B : Type 0} (p : B → Bool) (f : A → B) (xs : List A) → list_any p (map f xs) ≡ list_any (λ x. p (f x)) xs
any_map p f [] = refl
any_map p f (x ∷ xs) = ap (λ (b : Bool). p (f x) || b) (any_map p f xs)

any_both : {A : Type 0} (b : Bool) (p : A → Bool) (xs : List A) → list_any (λ x. b && p x) xs ≡ b && list_any p xs
any_both true p xs = refl
any_both false p [] = refl
any_both false p (x ∷ xs) = any_both false p xs

-- ---- pairs

-- a unit with an endorser has an entry
entry_there : (tallies : List (Digest × Endorsers)) (d : Digest) (v : ℕ) → is_one (who_in tallies d) v ≡ true → list_any (λ k. digest_eq k d) (keys_of tallies) ≡ true
entry_there [] d v h = absurd cc
entry_there (t ∷ ts) d v h = go (digest_eq d t.0) refl (entry_there ts d v) h
  where
    go : (b : Bool) → digest_eq d t.0 ≡ b → (is_one (who_in ts d) v ≡ true → list_any (λ k. digest_eq k d) (keys_of ts) ≡ true)
        → is_one (option_map_or (λ (e : Endorsers). e.who.items) (cond b (Some t.1) (lookup (digest_eq d) ts)) []) v ≡ true
        → (digest_eq t.0 d || list_any (λ k. digest_eq k d) (keys_of ts)) ≡ true
    go true same later k = or_left (digest_eq t.0 d) (list_any (λ x. digest_eq x d) (keys_of ts)) (subst (λ (x : Digest). digest_eq x d ≡ true) (digest_same d t.0 same) (digest_self d))
    go false apart later k = or_right (digest_eq t.0 d) (list_any (λ x. digest_eq x d) (keys_of ts)) (later k)

of_entry : (tallies : List (Digest × Endorsers)) (d k : Digest) (v : ℕ) → list_any (λ (p : Digest × ℕ). digest_eq p.0 d && eqb p.1 v) (map (λ w. (k, w)) (who_in tallies k)) ≡ digest_eq k d && is_one (who_in tallies k) v
of_entry tallies d k v = any_map (λ (p : Digest × ℕ). digest_eq p.0 d && eqb p.1 v) (λ w. (k, w)) (who_in tallies k) ∙ any_both (digest_eq k d) (λ w. eqb w v) (who_in tallies k)

-- a pair is told where the endorser is one of the unit's
pub told_at : (tallies : List (Digest × Endorsers)) (d : Digest) (v : ℕ) → is_told (pairs_in tallies) d v ≡ is_one (who_in tallies d) v
told_at tallies d v =
    any_flat (λ (p : Digest × ℕ). digest_eq p.0 d && eqb p.1 v) (λ k. map (λ w. (k, w)) (who_in tallies k)) (keys_of tallies)
    ∙ (λ i. list_any (λ k. of_entry tallies d k v i) (keys_of tallies))
    ∙ both_ways (list_any (λ k. digest_eq k d && is_one (who_in tallies k) v) (keys_of tallies)) (is_one (who_in tallies d) v) to back
  where
    to : list_any (λ k. digest_eq k d && is_one (who_in tallies k) v) (keys_of tallies) ≡ true → is_one (who_in tallies d) v ≡ true
    to h =
        let found = some_of (λ k. digest_eq k d && is_one (who_in tallies k) v) (keys_of tallies) h in
        let parts = and_parts (digest_eq found.0 d) (is_one (who_in tallies found.0) v) found.2 in
        subst (λ (x : Digest). is_one (who_in tallies x) v ≡ true) (digest_same found.0 d parts.0) parts.1

    both : (a b : Bool) → a ≡ true → b ≡ true → a && b ≡ true
    both true true e f = refl
    both true false e f = f
    both false b e f = e

    back : is_one (who_in tallies d) v ≡ true → list_any (λ k. digest_eq k d && is_one (who_in tallies k) v) (keys_of tallies) ≡ true
    back h =
        let found = some_of (λ k. digest_eq k d) (keys_of tallies) (entry_there tallies d v h) in
        let same = digest_same found.0 d found.2 in
        any_of (λ k. digest_eq k d && is_one (who_in tallies k) v) found.0 (keys_of tallies) found.1
        (both (digest_eq found.0 d) (is_one (who_in tallies found.0) v) found.2 (subst (λ (x : Digest). is_one (who_in tallies x) v ≡ true) (sym same) h))

-- one pair more, where an endorser is put to those of a unit,
pub pairs_more : (old new : List (Digest × Endorsers)) (unit : Digest) (endorser : ℕ)
    → ((d : Digest) (v : ℕ) → is_one (who_in new d) v ≡ is_one (who_in old d) v || (digest_eq unit d && eqb endorser v)) → HasOneMore (pairs_in old) (pairs_in new) unit endorser
pairs_more old new unit endorser more d v = told_at new d v ∙ more d v ∙ ap (λ (b : Bool). b || (digest_eq unit d && eqb endorser v)) (sym (told_at old d v))

-- and the same pairs, where each unit has the same ones
pub pairs_same : (old new : List (Digest × Endorsers)) → ((d : Digest) (v : ℕ) → is_one (who_in new d) v ≡ is_one (who_in old d) v) → (d : Digest) (v : ℕ) → is_told (pairs_in new) d v ≡ is_told (pairs_in old) d v
pairs_same old new same d v = told_at new d v ∙ same d v ∙ sym (told_at old d v)

-- ---- an entry that is written

-- a unit's entry is this, and each other one stays
abbrev pub IsWritten : List (Digest × Endorsers) → List (Digest × Endorsers) → Digest → Endorsers → Type 0
IsWritten old new unit e = (d : Digest) → lookup (λ k. is_eq (order d k)) new ≡ cond (is_eq (order unit d)) (Some e) (lookup (λ k. is_eq (order d k)) old)

entry_at : (old new : List (Digest × Endorsers)) (unit : Digest) (e : Endorsers) → IsWritten old new unit e → (d : Digest)
    → lookup (digest_eq d) new ≡ cond (digest_eq unit d) (Some e) (lookup (digest_eq d) old)
entry_at old new unit e puts d =
    sym (looked_up new d) ∙ puts d ∙ ap (cond (is_eq (order unit d)) (Some e)) (looked_up old d) ∙ ap (λ (b : Bool). cond b (Some e) (lookup (digest_eq d) old)) (tie unit d)

module _ (old new : List (Digest × Endorsers)) (unit : Digest) (e : Endorsers) (puts : IsWritten old new unit e) where
  pub weighs_more : (w : ℕ) → e.weight ≡ weight_in old unit + w → Weighs old new unit w
  weighs_more w is d = ap (λ (o : Option Endorsers). option_map_or (λ x. x.weight) o 0) (entry_at old new unit e puts d) ∙ go (digest_eq unit d) refl
    where
      go : (b : Bool) → digest_eq unit d ≡ b → option_map_or (λ (x : Endorsers). x.weight) (cond b (Some e) (lookup (digest_eq d) old)) 0 ≡ weight_in old d + (if b then w else 0)
      go true same = is ∙ ap (λ (x : Digest). weight_in old x + w) (digest_same unit d same)
      go false apart = omega arith

  pub weighs_same : e.weight ≡ weight_in old unit → (d : Digest) → weight_in new d ≡ weight_in old d
  weighs_same is d = ap (λ (o : Option Endorsers). option_map_or (λ x. x.weight) o 0) (entry_at old new unit e puts d) ∙ go (digest_eq unit d) refl
    where
      go : (b : Bool) → digest_eq unit d ≡ b → option_map_or (λ (x : Endorsers). x.weight) (cond b (Some e) (lookup (digest_eq d) old)) 0 ≡ weight_in old d
      go true same = is ∙ ap (weight_in old) (digest_same unit d same)
      go false apart = refl

  who_at : (d : Digest) → who_in new d ≡ option_map_or (λ (x : Endorsers). x.who.items) (cond (digest_eq unit d) (Some e) (lookup (digest_eq d) old)) []
  who_at d = ap (λ (o : Option Endorsers). option_map_or (λ x. x.who.items) o []) (entry_at old new unit e puts d)

  pub tells_more : (endorser : ℕ) → ((v : ℕ) → is_one e.who.items v ≡ is_one (who_in old unit) v || eqb endorser v)
      → (d : Digest) (v : ℕ) → is_one (who_in new d) v ≡ is_one (who_in old d) v || (digest_eq unit d && eqb endorser v)
  tells_more endorser more d v = ap (λ (ns : List ℕ). is_one ns v) (who_at d) ∙ go (digest_eq unit d) refl
    where
      go : (b : Bool) → digest_eq unit d ≡ b → is_one (option_map_or (λ (x : Endorsers). x.who.items) (cond b (Some e) (lookup (digest_eq d) old)) []) v ≡ is_one (who_in old d) v || (digest_eq unit d && eqb endorser v)
      go true same = rw same (more v ∙ ap (λ (x : Digest). is_one (who_in old x) v || eqb endorser v) (digest_same unit d same))
      go false apart = rw apart (sym (or_false (is_one (who_in old d) v)))

  pub tells_same : e.who.items ≡ who_in old unit → (d : Digest) (v : ℕ) → is_one (who_in new d) v ≡ is_one (who_in old d) v
  tells_same is d v = ap (λ (ns : List ℕ). is_one ns v) (who_at d) ∙ go (digest_eq unit d) refl
    where
      go : (b : Bool) → digest_eq unit d ≡ b → is_one (option_map_or (λ (x : Endorsers). x.who.items) (cond b (Some e) (lookup (digest_eq d) old)) []) v ≡ is_one (who_in old d) v
      go true same = ap (λ (ns : List ℕ). is_one ns v) is ∙ ap (λ (x : Digest). is_one (who_in old x) v) (digest_same unit d same)
      go false apart = refl

  pub lists_all : (total : ℕ) (units listed : List Digest) → AreListed total old units → is_listed listed unit ≡ nat_lt total (2 * e.weight)
      → ((d : Digest) → digest_eq unit d ≡ false → is_listed listed d ≡ is_listed units d) → AreListed total new listed
  lists_all total units listed are here others d = go (digest_eq unit d) refl
    where
      weight_at : weight_in new d ≡ option_map_or (λ (x : Endorsers). x.weight) (cond (digest_eq unit d) (Some e) (lookup (digest_eq d) old)) 0
      weight_at = ap (λ (o : Option Endorsers). option_map_or (λ x. x.weight) o 0) (entry_at old new unit e puts d)

      go : (b : Bool) → digest_eq unit d ≡ b → is_listed listed d ≡ nat_lt total (2 * weight_in new d)
      go true same =
          let weighs : weight_in new d ≡ e.weight = weight_at ∙ ap (λ (b : Bool). option_map_or (λ (x : Endorsers). x.weight) (cond b (Some e) (lookup (digest_eq d) old)) 0) same in
          ap (is_listed listed) (sym (digest_same unit d same)) ∙ here ∙ ap (λ (n : ℕ). nat_lt total (2 * n)) (sym weighs)
      go false apart =
          let weighs : weight_in new d ≡ weight_in old d = weight_at ∙ ap (λ (b : Bool). option_map_or (λ (x : Endorsers). x.weight) (cond b (Some e) (lookup (digest_eq d) old)) 0) apart in
          others d apart ∙ are d ∙ ap (λ (n : ℕ). nat_lt total (2 * n)) (sym weighs)

-- ---- an endorser that is put in

-- what was there of the unit
pub was_weight : (tallies : List (Digest × Endorsers)) (unit : Digest) (e none : Endorsers) → e ≡ unwrap_or (lookup (λ k. is_eq (order unit k)) tallies) none → none.weight ≡ 0 → e.weight ≡ weight_in tallies unit
was_weight tallies unit e none is empty =
    ap (λ (x : Endorsers). x.weight) is ∙ ap (λ (o : Option Endorsers). (unwrap_or o none).weight) (looked_up tallies unit) ∙ go (lookup (digest_eq unit) tallies)
  where
    go : (o : Option Endorsers) → (unwrap_or o none).weight ≡ option_map_or (λ (x : Endorsers). x.weight) o 0
    go None = empty
    go (Some x) = refl

pub was_who : (tallies : List (Digest × Endorsers)) (unit : Digest) (e none : Endorsers) → e ≡ unwrap_or (lookup (λ k. is_eq (order unit k)) tallies) none → none.who.items ≡ [] → e.who.items ≡ who_in tallies unit
was_who tallies unit e none is empty =
    ap (λ (x : Endorsers). x.who.items) is ∙ ap (λ (o : Option Endorsers). (unwrap_or o none).who.items) (looked_up tallies unit) ∙ go (lookup (digest_eq unit) tallies)
  where
    go : (o : Option Endorsers) → (unwrap_or o none).who.items ≡ option_map_or (λ (x : Endorsers). x.who.items) o []
    go None = empty
    go (Some x) = refl

pub put_new : {E : Type 0} (r : Result Bool E) (tallies : List (Digest × Endorsers)) (unit : Digest) (endorser : ℕ) (before : Endorsers) → before.who.items ≡ who_in tallies unit
    → IfOk r (λ new. new ≡ not (is_one before.who.items endorser)) → IfOk r (λ new. new ≡ not (is_one (who_in tallies unit) endorser))
put_new (Ok x) tallies unit endorser before same h = h ∙ ap (λ (ns : List ℕ). not (is_one ns endorser)) same
put_new (Err y) tallies unit endorser before same h = tt

module _ {E : Type 0} (old new : List (Digest × Endorsers)) (unit : Digest) (e : Endorsers) (puts : IsWritten old new unit e) (before : Endorsers) where
  pub put_told : (r : Result Bool E) (endorser : ℕ) → before.who.items ≡ who_in old unit → OnOk r ((v : ℕ) → is_one e.who.items v ≡ is_one before.who.items v || eqb endorser v)
      → OnOk r ((d : Digest) (v : ℕ) → is_one (who_in new d) v ≡ is_one (who_in old d) v || (digest_eq unit d && eqb endorser v))
  put_told (Ok x) endorser same h = tells_more old new unit e puts endorser (λ v. h v ∙ ap (λ (ns : List ℕ). is_one ns v || eqb endorser v) same)
  put_told (Err y) endorser same h = tt

  pub put_weighed : (r : Result Bool E) (w : ℕ) → before.weight ≡ weight_in old unit → IfOk r (λ added. e.weight ≡ before.weight + (if added then w else 0))
      → IfOk r (λ added. (d : Digest) → weight_in new d ≡ weight_in old d + (if digest_eq unit d then (if added then w else 0) else 0))
  put_weighed (Ok x) w same h = weighs_more old new unit e puts (if x then w else 0) (h ∙ ap (λ (n : ℕ). n + (if x then w else 0)) same)
  put_weighed (Err y) w same h = tt

  pub put_untold : (r : Result Bool E) → before.who.items ≡ who_in old unit → OnErr r ((e.who.items ≡ before.who.items) × (e.weight ≡ before.weight))
      → OnErr r ((d : Digest) (v : ℕ) → is_one (who_in new d) v ≡ is_one (who_in old d) v)
  put_untold (Ok x) same h = tt
  put_untold (Err y) same h = tells_same old new unit e puts (h.0 ∙ same)

  pub put_unweighed : (r : Result Bool E) → before.weight ≡ weight_in old unit → OnErr r ((e.who.items ≡ before.who.items) × (e.weight ≡ before.weight))
      → OnErr r ((d : Digest) → weight_in new d ≡ weight_in old d)
  put_unweighed (Ok x) same h = tt
  put_unweighed (Err y) same h = weighs_same old new unit e puts (h.1 ∙ same)

-- ---- the list

-- the unit is put into the list
abbrev pub IsListedToo : List Digest → List Digest → Digest → Type 0
IsListedToo units longer unit = (d : Digest) → list_any (λ e. is_eq (order d e)) longer ≡ cond (is_eq (order unit d)) true (list_any (λ e. is_eq (order d e)) units)

listed_at : (units longer : List Digest) (unit : Digest) → IsListedToo units longer unit → (d : Digest) → is_listed longer d ≡ cond (digest_eq unit d) true (is_listed units d)
listed_at units longer unit puts d =
    sym (listed_found longer d) ∙ puts d ∙ ap (cond (is_eq (order unit d)) true) (listed_found units d) ∙ ap (λ (b : Bool). cond b true (is_listed units d)) (tie unit d)

pub heavy_here : (units longer again : List Digest) (unit : Digest) (total weight : ℕ) → again ≡ longer → IsListedToo units longer unit → total < 2 * weight → is_listed again unit ≡ nat_lt total (2 * weight)
heavy_here units longer again unit total weight becomes puts heavy =
    ap (λ (us : List Digest). is_listed us unit) becomes ∙ listed_at units longer unit puts unit
    ∙ ap (λ (b : Bool). cond b true (is_listed units unit)) (digest_self unit) ∙ sym (lt-ltb total _ heavy)

pub others_here : (units longer again : List Digest) (unit : Digest) → again ≡ longer → IsListedToo units longer unit → (d : Digest) → digest_eq unit d ≡ false → is_listed again d ≡ is_listed units d
others_here units longer again unit becomes puts d apart =
    ap (λ (us : List Digest). is_listed us d) becomes ∙ listed_at units longer unit puts d ∙ ap (λ (b : Bool). cond b true (is_listed units d)) apart

pub light_here : (units again : List Digest) (unit : Digest) (total was w : ℕ) → again ≡ units → is_listed units unit ≡ nat_lt total (2 * was) → 2 * (was + w) ≤ total
    → is_listed again unit ≡ nat_lt total (2 * (was + w))
light_here units again unit total was w stays listed light =
    let low : 2 * was ≤ total = omega arith in
    ap (λ (us : List Digest). is_listed us unit) stays ∙ listed ∙ le-ltb total _ low ∙ sym (le-ltb total _ light)
