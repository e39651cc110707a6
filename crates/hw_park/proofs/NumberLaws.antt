-- Laws of the numbers that wait.
use Rattle.std.proofs.Common.{◌≡◌, ℕ, ◌<◌, Bool, true, false, cond, List, [], ◌∷◌, ◌++◌, map, filter, take, get_or, Option, Some, None, refl, ap, sym, ◌∙◌, subst, arith, length, length-append, ◌+◌, ◌-◌, ◌==◌}
use Rattle.std.specs.Option.{option_map_or, unwrap_or}
use Rattle.std.specs.Map.{lookup}
use Rattle.std.proofs.lemmas.List.{append-nil, append_assoc, map-append, take_more}
use Rattle.std.proofs.lemmas.List.Elements.{filter-append}
use Rattle.std.specs.declared.vec.Vec.{Vec}
use Rattle.std.specs.declared.alloc.Global.{Global}
use Rattle.hw_types.specs.declared.unit.Need.{Need}
use Rattle.hw_types.specs.Settled.{need_eq}
use Rattle.hw_park.specs.declared.key.NeedKey.{NeedKey}
use Rattle.hw_park.specs.Keys.{key_of, ties}
use Rattle.hw_park.specs.Numbers.{numbers_at, numbers_more, SameNumbers, HasRegistered}
use Rattle.hw_park.proofs.KeyLaws.{key_same, need_same, need_self}

-- a table in which one key has other numbers
pub record IsPut (old new : List (NeedKey × Vec ℕ Global)) (key : NeedKey) (v : Option (Vec ℕ Global)) : Type 0 where
  pub at : (q : NeedKey) → lookup (ties q) new ≡ cond (ties key q) v (lookup (ties q) old)

-- the numbers that are kept
abbrev pub numbers_in : Option (Vec ℕ Global) → List ℕ
numbers_in o = option_map_or (λ w. w.items) o []

-- the numbers of that need
pub numbers-put : (old new : List (NeedKey × Vec ℕ Global)) (n : Need) (v : Option (Vec ℕ Global)) → IsPut old new (key_of n) v → numbers_at new n ≡ numbers_in v
numbers-put old new n v put =
    ap numbers_in (put.at (key_of n) ∙ ap (λ (b : Bool). cond b v (lookup (ties (key_of n)) old)) (key_same n n ∙ need_self n))

-- the numbers of another need
pub numbers-other : (old new : List (NeedKey × Vec ℕ Global)) (n m : Need) (v : Option (Vec ℕ Global)) → IsPut old new (key_of n) v → need_eq n m ≡ false → numbers_at new m ≡ numbers_at old m
numbers-other old new n m v put apart =
    ap numbers_in (put.at (key_of m) ∙ ap (λ (b : Bool). cond b v (lookup (ties (key_of m)) old)) (key_same n m ∙ apart))

-- the numbers of that need, where the key is the need's
pub numbers-put_at : (old new : List (NeedKey × Vec ℕ Global)) (key : NeedKey) (n : Need) (v : Option (Vec ℕ Global)) → key ≡ key_of n → IsPut old new key v → numbers_at new n ≡ numbers_in v
numbers-put_at old new key n v of put = numbers-put old new n v (subst (λ (x : NeedKey). IsPut old new x v) of put)

-- what is read of a table is what was there, or nothing
pub read-put : (old : List (NeedKey × Vec ℕ Global)) (key : NeedKey) (n : Need) (v d : Vec ℕ Global) → key ≡ key_of n
    → v ≡ unwrap_or (lookup (ties key) old) d → d.items ≡ [] → numbers_at old n ≡ v.items
read-put old key n v d of e empty =
    ap (λ (x : NeedKey). numbers_in (lookup (ties x) old)) (sym of) ∙ go (lookup (ties key) old) e
  where
    go : (o : Option (Vec ℕ Global)) → v ≡ unwrap_or o d → numbers_in o ≡ v.items
    go None same = sym (ap (λ (w : Vec ℕ Global). w.items) same ∙ empty)
    go (Some w) same = sym (ap (λ (w : Vec ℕ Global). w.items) same)

-- the same numbers, where that need's numbers are what they were
pub same-put : (old new : List (NeedKey × Vec ℕ Global)) (key : NeedKey) (n : Need) (v : Option (Vec ℕ Global)) → key ≡ key_of n → IsPut old new key v
    → numbers_in v ≡ numbers_at old n → SameNumbers old new
same-put old new key n v of put same m = go (need_eq n m) refl
  where
    there : IsPut old new (key_of n) v
    there = subst (λ (x : NeedKey). IsPut old new x v) of put

    go : (b : Bool) → need_eq n m ≡ b → numbers_at new m ≡ numbers_at old m
    go true e =
        let one = need_same n m e in
        subst (λ (x : Need). numbers_at new x ≡ numbers_at old x) one (numbers-put old new n v there ∙ same)
    go false e = numbers-other old new n m v there e

-- one number more waits for that need
pub registered-put : (old new : List (NeedKey × Vec ℕ Global)) (key : NeedKey) (n : Need) (k : ℕ) (v : Option (Vec ℕ Global)) → key ≡ key_of n → IsPut old new key v
    → numbers_in v ≡ numbers_at old n ++ k ∷ [] → HasRegistered old new (n ∷ []) k
registered-put old new key n k v of put more m = go (need_eq n m) refl
  where
    there : IsPut old new (key_of n) v
    there = subst (λ (x : NeedKey). IsPut old new x v) of put

    go : (b : Bool) → need_eq n m ≡ b → numbers_at new m ≡ numbers_at old m ++ numbers_more (n ∷ []) m k
    go true e =
        let one = need_same n m e in
        subst (λ (x : Need). numbers_at new x ≡ numbers_at old x ++ numbers_more (n ∷ []) x k) one
        (numbers-put old new n v there ∙ more ∙ sym (ap (λ (b : Bool). numbers_at old n ++ map (λ _. k) (cond b (n ∷ []) [])) (need_self n)))
    go false e =
        numbers-other old new n m v there e
        ∙ sym (append-nil (numbers_at old m))
        ∙ sym (ap (λ (b : Bool). numbers_at old m ++ map (λ _. k) (cond b (n ∷ []) [])) (other e))
      where
        turned : (b : Bool) → need_eq m n ≡ b → need_eq n m ≡ false → need_eq m n ≡ false
        turned true f g = absurd (cc (sym (need_self n) ∙ ap (λ (x : Need). need_eq n x) (sym (need_same m n f)) ∙ g))
        turned false f g = f

        other : need_eq n m ≡ false → need_eq m n ≡ false
        other g = turned (need_eq m n) refl g

-- the numbers of one need more
pub more-one : (needs : List Need) (i : ℕ) (d n : Need) (k : ℕ) → i < length needs
    → numbers_more (take (i + 1) needs) n k ≡ numbers_more (take i needs) n k ++ numbers_more (get_or needs i d ∷ []) n k
more-one needs i d n k within =
    ap (λ (ms : List Need). numbers_more ms n k) (take_more needs i d within)
    ∙ ap (λ (ms : List Need). map (λ _. k) ms) (filter-append (need_eq n) (take i needs) (get_or needs i d ∷ []))
    ∙ map-append (λ _. k) (filter (need_eq n) (take i needs)) (filter (need_eq n) (get_or needs i d ∷ []))

-- what was registered in turn
pub registered-more : (first old new : List (NeedKey × Vec ℕ Global)) (needs : List Need) (i k : ℕ) (d : Need) → i < length needs
    → HasRegistered first old (take i needs) k → HasRegistered old new (get_or needs i d ∷ []) k → HasRegistered first new (take (i + 1) needs) k
registered-more first old new needs i k d within before now n =
    now n
    ∙ ap (λ (ks : List ℕ). ks ++ numbers_more (get_or needs i d ∷ []) n k) (before n)
    ∙ append_assoc (numbers_at first n) (numbers_more (take i needs) n k) (numbers_more (get_or needs i d ∷ []) n k)
    ∙ ap (λ (ks : List ℕ). numbers_at first n ++ ks) (sym (more-one needs i d n k within))

-- the last of what was registered is taken out
pub registered-less : (first old new : List (NeedKey × Vec ℕ Global)) (needs : List Need) (i k : ℕ) (d : Need) → i < length needs
    → HasRegistered first old (take (i + 1) needs) k
    → ((n : Need) (rest : List ℕ) (x : ℕ) → need_eq (get_or needs i d) n ≡ true → numbers_at old n ≡ rest ++ x ∷ [] → numbers_at new n ≡ rest)
    → ((n : Need) → need_eq (get_or needs i d) n ≡ false → numbers_at new n ≡ numbers_at old n)
    → HasRegistered first new (take i needs) k
registered-less first old new needs i k d within before last others n = go (need_eq (get_or needs i d) n) refl
  where
    whole : numbers_at old n ≡ (numbers_at first n ++ numbers_more (take i needs) n k) ++ numbers_more (get_or needs i d ∷ []) n k
    whole = before n ∙ ap (λ (ks : List ℕ). numbers_at first n ++ ks) (more-one needs i d n k within)
        ∙ sym (append_assoc (numbers_at first n) (numbers_more (take i needs) n k) (numbers_more (get_or needs i d ∷ []) n k))

    turned : (b : Bool) → need_eq n (get_or needs i d) ≡ b → need_eq (get_or needs i d) n ≡ false → need_eq n (get_or needs i d) ≡ false
    turned true f g = absurd (cc (sym (need_self (get_or needs i d)) ∙ ap (λ (x : Need). need_eq (get_or needs i d) x) (sym (need_same n (get_or needs i d) f)) ∙ g))
    turned false f g = f

    go : (b : Bool) → need_eq (get_or needs i d) n ≡ b → numbers_at new n ≡ numbers_at first n ++ numbers_more (take i needs) n k
    go true e =
        let one = need_same (get_or needs i d) n e in
        let here : need_eq n (get_or needs i d) ≡ true = subst (λ (x : Need). need_eq n x ≡ true) (sym one) (need_self n) in
        last n (numbers_at first n ++ numbers_more (take i needs) n k) k e
        (whole ∙ ap (λ (b : Bool). (numbers_at first n ++ numbers_more (take i needs) n k) ++ map (λ _. k) (cond b (get_or needs i d ∷ []) [])) here)
    go false e =
        others n e ∙ whole
        ∙ ap (λ (b : Bool). (numbers_at first n ++ numbers_more (take i needs) n k) ++ map (λ _. k) (cond b (get_or needs i d ∷ []) [])) (turned (need_eq n (get_or needs i d)) refl e)
        ∙ append-nil (numbers_at first n ++ numbers_more (take i needs) n k)

-- nothing was registered
pub registered-none : (old : List (NeedKey × Vec ℕ Global)) (k : ℕ) → HasRegistered old old [] k
registered-none old k n = sym (append-nil (numbers_at old n))

pub registered-not : (old new : List (NeedKey × Vec ℕ Global)) (k : ℕ) → HasRegistered old new [] k → SameNumbers old new
registered-not old new k registered n = registered n ∙ append-nil (numbers_at old n)

-- the same numbers, in two steps
pub same-put-then : (old mid new : List (NeedKey × Vec ℕ Global)) (key : NeedKey) (n : Need) (v : Option (Vec ℕ Global)) → SameNumbers mid new → key ≡ key_of n → numbers_in v ≡ numbers_at old n
    → IsPut old mid key v → SameNumbers old new
same-put-then old mid new key n v after of same put m = after m ∙ same-put old mid key n v of put same m

pub registered-same : (first old new : List (NeedKey × Vec ℕ Global)) (needs : List Need) (k : ℕ) → HasRegistered first old needs k → SameNumbers old new → HasRegistered first new needs k
registered-same first old new needs k before same n = same n ∙ before n

-- the numbers that were found
pub numbers_found : (waits : List (NeedKey × Vec ℕ Global)) (key : NeedKey) (m : Need) (o : Option (Vec ℕ Global)) → key ≡ key_of m → o ≡ lookup (ties key) waits → numbers_at waits m ≡ numbers_in o
numbers_found waits key m o of found = ap (λ (k : NeedKey). numbers_in (lookup (ties k) waits)) (sym of) ∙ ap numbers_in (sym found)

pub empty_list : (ks : List ℕ) → (length ks == 0) ≡ true → [] ≡ ks
empty_list [] e = refl
empty_list (k ∷ ks) e = absurd (grind (arith, e))

-- all but the last
front : (ks rest : List ℕ) (x : ℕ) → ks ≡ rest ++ x ∷ [] → take (length ks - 1) ks ≡ rest
front ks rest x e =
    let longer : length ks ≡ length rest + 1 = ap length e ∙ length-append rest (x ∷ []) in
    let shorter : length ks - 1 ≡ length rest = omega (arith, longer) in
    ap (λ (i : ℕ). take i ks) shorter ∙ ap (take (length rest)) e ∙ first rest
  where
    first : (ys : List ℕ) → take (length ys) (ys ++ x ∷ []) ≡ ys
    first [] = refl
    first (y ∷ ys) = ap (λ (zs : List ℕ). y ∷ zs) (first ys)

-- the last number of a need's is taken out
pub last-taken : (old new : List (NeedKey × Vec ℕ Global)) (key : NeedKey) (n : Need) (was now : Vec ℕ Global) → key ≡ key_of n → Some was ≡ lookup (ties key) old → IsPut old new key (Some now)
    → now.items ≡ take (length was.items - 1) was.items → (m : Need) (rest : List ℕ) (x : ℕ) → need_eq n m ≡ true → numbers_at old m ≡ rest ++ x ∷ [] → numbers_at new m ≡ rest
last-taken old new key n was now of found put less m rest x same whole =
    let one = need_same n m same in
    let here : numbers_at old n ≡ rest ++ x ∷ [] = subst (λ (k : Need). numbers_at old k ≡ rest ++ x ∷ []) (sym one) whole in
    subst (λ (k : Need). numbers_at new k ≡ rest) one
    (numbers-put_at old new key n (Some now) of put ∙ less ∙ front was.items rest x (sym (numbers_found old key n (Some was) of found) ∙ here))

pub last-others : (old new : List (NeedKey × Vec ℕ Global)) (key : NeedKey) (n : Need) (v : Option (Vec ℕ Global)) → key ≡ key_of n → IsPut old new key v → (m : Need) → need_eq n m ≡ false → numbers_at new m ≡ numbers_at old m
last-others old new key n v of put m apart = numbers-other old new n m v (subst (λ (k : NeedKey). IsPut old new k v) of put) apart

-- where no number waits, none is the last
pub none-last : (waits : List (NeedKey × Vec ℕ Global)) (key : NeedKey) (n m : Need) (rest : List ℕ) (x : ℕ) → key ≡ key_of n → None ≡ lookup (ties key) waits → need_eq n m ≡ true → numbers_at waits m ≡ rest ++ x ∷ [] → ⊥
none-last waits key n m rest x of found same whole =
    some rest (sym (numbers_found waits key n None of found) ∙ ap (numbers_at waits) (need_same n m same) ∙ whole)
  where
    some : (ys : List ℕ) → [] ≡ ys ++ x ∷ [] → ⊥
    some [] e = cc e
    some (y ∷ ys) e = cc e
