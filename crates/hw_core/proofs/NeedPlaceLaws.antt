-- Laws of the places under needs.
use Rattle.std.proofs.Common.{◌≡◌, ℕ, zero, suc, Bool, true, false, cond, List, [], ◌∷◌, ◌++◌, length, Option, Some, None, refl, sym, ap, subst, ◌∙◌, arith}
use Rattle.std.specs.Prelude.{slice_get, Result, Ok, Err, OnOk, OnErr, if◌then◌else◌}
use Rattle.std.specs.Map.{lookup}
use Rattle.std.specs.Result.{is_err}
use Rattle.std.specs.Option.{unwrap_or}
use Rattle.std.proofs.lemmas.List.{append-nil, length-append}
use Rattle.std.proofs.lemmas.Option.{slice_get_past}
use Rattle.hw_types.specs.declared.unit.Need.{Need}
use Rattle.hw_types.specs.Settled.{need_eq}
use Rattle.hw_park.specs.declared.key.NeedKey.{NeedKey}
use Rattle.hw_park.specs.Keys.{key_of, ties}
use Rattle.hw_park.proofs.KeyLaws.{key_same, need_same, need_self}
use Rattle.hw_core.specs.Journal.{with_last, places_at, HasSamePlaces, HasOnePlaceMore}

-- ---- two needs

-- the test of two needs has no side
need_turned : (m n : Need) → need_eq m n ≡ need_eq n m
need_turned m n = go (need_eq m n) refl (need_eq n m) refl
  where
    go : (a : Bool) → need_eq m n ≡ a → (b : Bool) → need_eq n m ≡ b → need_eq m n ≡ need_eq n m
    go true e b f = ap (λ (x : Need). need_eq m x) (sym (need_same m n e)) ∙ need_self m ∙ sym (need_self n) ∙ ap (λ (x : Need). need_eq n x) (sym (need_same m n e))
    go false e true f = ap (λ (x : Need). need_eq m x) (need_same n m f) ∙ need_self m ∙ sym f
    go false e false f = e ∙ sym f

-- ---- places, of which the last stands apart

get_before : {A : Type 0} (xs : List A) (y : A) (n : ℕ) → (n ≡ length xs → ⊥) → slice_get xs n ≡ slice_get (xs ++ y ∷ []) n
get_before [] y zero apart = absurd (apart refl)
get_before [] y (suc n) apart = slice_get_past [] (suc n) (omega arith) ∙ sym (slice_get_past (y ∷ []) (suc n) (omega arith))
get_before (x ∷ xs) y zero apart = refl
get_before (x ∷ xs) y (suc n) apart = get_before xs y n (λ e. apart (ap suc e))

get_behind : {A : Type 0} (xs : List A) (y : A) → slice_get (xs ++ y ∷ []) (length xs) ≡ Some y
get_behind [] y = refl
get_behind (x ∷ xs) y = get_behind xs y

-- the place behind the earlier ones
pub get_last : (earlier : List ℕ) (last : Option ℕ) (n : ℕ) → n ≡ length earlier → last ≡ slice_get (with_last earlier last) n
get_last earlier None n e = sym (slice_get_past earlier n (omega arith))
get_last earlier (Some last) n e = sym (ap (slice_get (earlier ++ last ∷ [])) e ∙ get_behind earlier last)

-- each other one
pub get_earlier : (earlier : List ℕ) (last : Option ℕ) (n : ℕ) → (n ≡ length earlier → ⊥) → slice_get earlier n ≡ slice_get (with_last earlier last) n
get_earlier earlier None n apart = refl
get_earlier earlier (Some last) n apart = get_before earlier last n apart

-- ---- a table in which one key has other places

pub record IsPut (old new : List (NeedKey × List ℕ)) (key : NeedKey) (v : Option (List ℕ)) : Type 0 where
  pub at : (q : NeedKey) → lookup (ties q) new ≡ cond (ties key q) v (lookup (ties q) old)

module _ (old new : List (NeedKey × List ℕ)) (key : NeedKey) (n : Need) (v : Option (List ℕ)) (of : key ≡ key_of n) (put : IsPut old new key v) where
  there : IsPut old new (key_of n) v
  there = subst (λ (x : NeedKey). IsPut old new x v) of put

  here : places_at new n ≡ unwrap_or v []
  here = ap (λ (o : Option (List ℕ)). unwrap_or o []) (there.at (key_of n) ∙ ap (λ (b : Bool). cond b v (lookup (ties (key_of n)) old)) (key_same n n ∙ need_self n))

  other : (m : Need) → need_eq n m ≡ false → places_at new m ≡ places_at old m
  other m apart = ap (λ (o : Option (List ℕ)). unwrap_or o []) (there.at (key_of m) ∙ ap (λ (b : Bool). cond b v (lookup (ties (key_of m)) old)) (key_same n m ∙ apart))

  -- the places are what they were
  pub same_put : unwrap_or v [] ≡ places_at old n → HasSamePlaces old new
  same_put same m = go (need_eq n m) refl
    where
      go : (b : Bool) → need_eq n m ≡ b → places_at new m ≡ places_at old m
      go true e = subst (λ (x : Need). places_at new x ≡ places_at old x) (need_same n m e) (here ∙ same)
      go false e = other m e

  -- one more stands last
  pub more_put : (place : ℕ) → unwrap_or v [] ≡ places_at old n ++ place ∷ [] → HasOnePlaceMore old new n place
  more_put place more m = go (need_eq n m) refl
    where
      go : (b : Bool) → need_eq n m ≡ b → places_at new m ≡ places_at old m ++ (if need_eq m n then place ∷ [] else [])
      go true e = subst (λ (x : Need). places_at new x ≡ places_at old x ++ (if need_eq x n then place ∷ [] else [])) (need_same n m e)
          (here ∙ more ∙ sym (ap (λ (b : Bool). places_at old n ++ (if b then place ∷ [] else [])) (need_self n)))
      go false e = other m e ∙ sym (append-nil (places_at old m)) ∙ sym (ap (λ (b : Bool). places_at old m ++ (if b then place ∷ [] else [])) (need_turned m n ∙ e))

-- what is read of a table is what was there, or nothing
pub read_put : (old : List (NeedKey × List ℕ)) (key : NeedKey) (n : Need) (places none : List ℕ) → key ≡ key_of n → places ≡ unwrap_or (lookup (ties key) old) none → none ≡ [] → places ≡ places_at old n
read_put old key n places none of read empty =
    read ∙ ap (λ (ps : List ℕ). unwrap_or (lookup (ties key) old) ps) empty ∙ ap (λ (k : NeedKey). unwrap_or (lookup (ties k) old) []) of

-- the places that were found
pub places_found : (told : List (NeedKey × List ℕ)) (key : NeedKey) (n : Need) (o : Option (List ℕ)) → key ≡ key_of n → o ≡ lookup (ties key) told → places_at told n ≡ unwrap_or o []
places_found told key n o of found = ap (λ (k : NeedKey). unwrap_or (lookup (ties k) told) []) (sym of) ∙ ap (λ (r : Option (List ℕ)). unwrap_or r []) (sym found)

-- a place was put, or nothing was
module _ {U E : Type 0} (old new : List (NeedKey × List ℕ)) (key : NeedKey) (n : Need) (before after : List ℕ) (of : key ≡ key_of n) (read : before ≡ places_at old n) (put : IsPut old new key (Some after)) where
  pub put_more : (r : Result U E) (place : ℕ) → OnOk r (after ≡ before ++ place ∷ []) → OnOk r (HasOnePlaceMore old new n place)
  put_more (Ok u) place e = more_put old new key n (Some after) of put place (e ∙ ap (λ (ps : List ℕ). ps ++ place ∷ []) read)
  put_more (Err x) place e = tt

  pub put_same : (r : Result U E) → OnErr r (after ≡ before) → OnErr r (HasSamePlaces old new)
  put_same (Ok u) e = tt
  put_same (Err x) e = same_put old new key n (Some after) of put (e ∙ read)

-- ---- the last place is taken out

pub last_gone : (earlier : List ℕ) (last : ℕ) (rest : List ℕ) (place : ℕ) → earlier ++ last ∷ [] ≡ rest ++ place ∷ [] → earlier ≡ rest
last_gone [] last [] place e = refl
last_gone [] last (r ∷ rest) place e = absurd (let long = ap length e in let more = length-append rest (place ∷ []) in omega arith)
last_gone (x ∷ xs) last [] place e = absurd (let long = ap length e in let more = length-append xs (last ∷ []) in omega arith)
last_gone (x ∷ xs) last (r ∷ rest) place e = both (ap heads e) (last_gone xs last rest place (ap tails e))
  where
    heads : List ℕ → ℕ
    heads [] = 0
    heads (y ∷ ys) = y

    tails : List ℕ → List ℕ
    tails [] = []
    tails (y ∷ ys) = ys

    both : x ≡ r → xs ≡ rest → x ∷ xs ≡ r ∷ rest
    both f g i = f i ∷ g i

-- what holds of an error holds, if there is one
pub when_err : {A E P : Type 0} (r : Result A E) → is_err r ≡ true → OnErr r P → P
when_err (Ok a) e p = absurd cc
when_err (Err x) e p = p
