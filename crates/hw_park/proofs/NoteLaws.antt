-- Laws of the needs for which a place is noted.
use Rattle.std.proofs.Common.{◌≡◌, ℕ, suc, ◌+◌, ◌<◌, Bool, true, false, not, cond, nat_eq, List, [], ◌∷◌, ◌++◌, map, length, length-append, filter, refl, sym, ap, ◌∙◌, arith}
use Rattle.std.specs.Prelude.{◌||◌, ◌&&◌}
use Rattle.std.specs.List.{list_any}
use Rattle.std.proofs.lemmas.Bool.Decides.{nat_tests}
use Rattle.std.proofs.lemmas.List.Elements.{filter-append}
use Rattle.std.proofs.lemmas.List.Folds.{list_any-append}
use Rattle.hw_types.specs.declared.unit.Need.{Need}
use Rattle.hw_types.specs.Settled.{need_eq}
use Rattle.hw_park.specs.Numbers.{has_number, numbers_more}
use Rattle.hw_park.specs.Held.{left_of}
use Rattle.hw_park.specs.Kept.{times_at, times_of}
use Rattle.hw_park.specs.Parked.{without_need}
use Rattle.hw_park.proofs.KeyLaws.{need_same, need_self}

-- ---- lists

-- to filter twice is to filter by both
pub filter_both : (p q : Need → Bool) (ns : List Need) → filter p (filter q ns) ≡ filter (λ n. q n && p n) ns
filter_both p q [] = refl
filter_both p q (n ∷ ns) = go (q n) (p n) refl refl (filter_both p q ns)
  where
    go : (a b : Bool) → q n ≡ a → p n ≡ b → filter p (filter q ns) ≡ filter (λ n. q n && p n) ns → filter p (filter q (n ∷ ns)) ≡ filter (λ n. q n && p n) (n ∷ ns)
    go true true e f rest = rw (e, f) (ap (λ (xs : List Need). n ∷ xs) rest)
    go true false e f rest = rw (e, f) rest
    go false b e f rest = rw e rest

pub filter_same : (p q : Need → Bool) (ns : List Need) → ((n : Need) → p n ≡ q n) → filter p ns ≡ filter q ns
filter_same p q ns same = ap (λ (f : Need → Bool). filter f ns) (λ i n. same n i)

-- a number that isn't there is there no time
pub times-none : (ns : List ℕ) (k : ℕ) → has_number ns k ≡ false → times_at ns k ≡ 0
times-none [] k absent = refl
times-none (m ∷ ms) k absent = go (nat_eq k m) refl absent (times-none ms k)
  where
    go : (b : Bool) → nat_eq k m ≡ b → (nat_eq k m || has_number ms k) ≡ false → (has_number ms k ≡ false → times_at ms k ≡ 0) → times_at (m ∷ ms) k ≡ 0
    go true e absent rest = absurd (cc (sym absent ∙ ap (λ (b : Bool). b || has_number ms k) e))
    go false e absent rest =
        ap (λ (b : Bool). length (cond b (m ∷ filter (nat_eq k) ms) (filter (nat_eq k) ms))) e
        ∙ rest (sym (ap (λ (b : Bool). b || has_number ms k) e) ∙ absent)

-- one that is there is there once or more
pub times-some : (ns : List ℕ) (k : ℕ) → has_number ns k ≡ true → 0 < times_at ns k
times-some [] k there = absurd cc
times-some (m ∷ ms) k there = go (nat_eq k m) refl there (times-some ms k)
  where
    go : (b : Bool) → nat_eq k m ≡ b → (nat_eq k m || has_number ms k) ≡ true → (has_number ms k ≡ true → 0 < times_at ms k) → 0 < times_at (m ∷ ms) k
    go true e there rest =
        let long : times_at (m ∷ ms) k ≡ length (m ∷ filter (nat_eq k) ms) = ap (λ (b : Bool). length (cond b (m ∷ filter (nat_eq k) ms) (filter (nat_eq k) ms))) e in
        omega (arith, long)
    go false e there rest =
        let same : times_at (m ∷ ms) k ≡ times_at ms k = ap (λ (b : Bool). length (cond b (m ∷ filter (nat_eq k) ms) (filter (nat_eq k) ms))) e in
        let some = rest (sym (ap (λ (b : Bool). b || has_number ms k) e) ∙ there) in
        omega (arith, same, some)

pub times-append : (xs ys : List ℕ) (k : ℕ) → times_at (xs ++ ys) k ≡ times_at xs k + times_at ys k
times-append xs ys k = ap length (filter-append (nat_eq k) xs ys) ∙ length-append (filter (nat_eq k) xs) (filter (nat_eq k) ys)

-- the number of a need that is there once or more
pub need-there : (n : Need) (ns : List Need) → 0 < times_of n ns → list_any (need_eq n) ns ≡ true
need-there n [] some = absurd (omega (arith, some))
need-there n (m ∷ ms) some = go (need_eq n m) refl (need-there n ms)
  where
    go : (b : Bool) → need_eq n m ≡ b → (0 < times_of n ms → list_any (need_eq n) ms ≡ true) → (need_eq n m || list_any (need_eq n) ms) ≡ true
    go true e rest = ap (λ (b : Bool). b || list_any (need_eq n) ms) e
    go false e rest =
        let same : times_of n (m ∷ ms) ≡ times_of n ms = ap (λ (b : Bool). length (cond b (m ∷ filter (need_eq n) ms) (filter (need_eq n) ms))) e in
        ap (λ (b : Bool). b || list_any (need_eq n) ms) e ∙ rest (omega (arith, same, some))

-- ---- what was noted for one place more

-- the numbers of the place alone
more_here : (needs : List Need) (n : Need) (place : ℕ) → times_at (numbers_more needs n place) place ≡ times_of n needs
more_here needs n place = go (filter (need_eq n) needs)
  where
    self : nat_eq place place ≡ true
    self = grind (arith, nat_tests)

    go : (ms : List Need) → times_at (map (λ _. place) ms) place ≡ length ms
    go [] = refl
    go (m ∷ ms) =
        let one : times_at (map (λ _. place) (m ∷ ms)) place ≡ length (place ∷ filter (nat_eq place) (map (λ _. place) ms)) =
        ap (λ (b : Bool). length (cond b (place ∷ filter (nat_eq place) (map (λ _. place) ms)) (filter (nat_eq place) (map (λ _. place) ms)))) self in
        omega (arith, one, go ms)

-- no other place's
more_other : (needs : List Need) (n : Need) (place q : ℕ) → nat_eq q place ≡ false → has_number (numbers_more needs n place) q ≡ false
more_other needs n place q apart = go (filter (need_eq n) needs)
  where
    go : (ms : List Need) → has_number (map (λ _. place) ms) q ≡ false
    go [] = refl
    go (m ∷ ms) = ap (λ (b : Bool). b || has_number (map (λ _. place) ms) q) apart ∙ go ms

-- each need is noted with the needs of a place
abbrev pub IsNotedFor : (was now : Need → List ℕ) → List Need → ℕ → Type 0
IsNotedFor was now needs place = (n : Need) → now n ≡ was n ++ numbers_more needs n place

module _ (was now : Need → List ℕ) (needs : List Need) (place : ℕ) (noted : IsNotedFor was now needs place) where
  -- another place is noted where it was
  pub noted-other : (n : Need) (q : ℕ) → nat_eq q place ≡ false → has_number (now n) q ≡ has_number (was n) q
  noted-other n q apart =
      ap (λ (ks : List ℕ). has_number ks q) (noted n) ∙ list_any-append (nat_eq q) (was n) (numbers_more needs n place)
      ∙ ap (λ (b : Bool). has_number (was n) q || b) (more_other needs n place q apart) ∙ or_none (has_number (was n) q)
    where
      or_none : (b : Bool) → (b || false) ≡ b
      or_none true = refl
      or_none false = refl

  pub times-other : (n : Need) (q : ℕ) → nat_eq q place ≡ false → times_at (now n) q ≡ times_at (was n) q
  times-other n q apart =
      let all = ap (λ (ks : List ℕ). times_at ks q) (noted n) ∙ times-append (was n) (numbers_more needs n place) q in
      let none = times-none (numbers_more needs n place) q (more_other needs n place q apart) in
      omega (arith, all, none)

  -- another place has the same needs left
  pub left-other : (q : ℕ) (ms : List Need) → nat_eq q place ≡ false → left_of now q ms ≡ left_of was q ms
  left-other q ms apart = filter_same (λ n. has_number (now n) q) (λ n. has_number (was n) q) ms (λ n. noted-other n q apart)

  -- the place is noted as often as the needs say
  pub times-here : (n : Need) → has_number (was n) place ≡ false → times_at (now n) place ≡ times_of n needs
  times-here n free =
      let all = ap (λ (ks : List ℕ). times_at ks place) (noted n) ∙ times-append (was n) (numbers_more needs n place) place in
      let none = times-none (was n) place free in
      omega (arith, all, none, more_here needs n place)

  -- all of its needs are left
  pub left-here : left_of now place needs ≡ needs
  left-here = go needs (λ n there. waits n there)
    where
      mine : (n : Need) (ms : List Need) → list_any (need_eq n) ms ≡ true → has_number (numbers_more ms n place) place ≡ true
      mine n [] h = h
      mine n (m ∷ ms) h = by (need_eq n m) refl (mine n ms)
        where
          self : nat_eq place place ≡ true
          self = grind (arith, nat_tests)

          by : (b : Bool) → need_eq n m ≡ b → (list_any (need_eq n) ms ≡ true → has_number (numbers_more ms n place) place ≡ true)
              → has_number (numbers_more (m ∷ ms) n place) place ≡ true
          by true e rest =
              ap (λ (b : Bool). has_number (map (λ _. place) (cond b (m ∷ filter (need_eq n) ms) (filter (need_eq n) ms))) place) e
              ∙ ap (λ (b : Bool). b || has_number (numbers_more ms n place) place) self
          by false e rest =
              ap (λ (b : Bool). has_number (map (λ _. place) (cond b (m ∷ filter (need_eq n) ms) (filter (need_eq n) ms))) place) e
              ∙ rest (sym (ap (λ (b : Bool). b || list_any (need_eq n) ms) e) ∙ h)

      waits : (n : Need) → list_any (need_eq n) needs ≡ true → has_number (now n) place ≡ true
      waits n there =
          ap (λ (ks : List ℕ). has_number ks place) (noted n) ∙ list_any-append (nat_eq place) (was n) (numbers_more needs n place)
          ∙ ap (λ (b : Bool). has_number (was n) place || b) (mine n needs there) ∙ either (has_number (was n) place)
        where
          either : (a : Bool) → (a || true) ≡ true
          either true = refl
          either false = refl

      go : (ms : List Need) → ((n : Need) → list_any (need_eq n) ms ≡ true → has_number (now n) place ≡ true) → left_of now place ms ≡ ms
      go [] there = refl
      go (m ∷ ms) there =
          let here = there m (ap (λ (b : Bool). b || list_any (need_eq m) ms) (need_self m)) in
          ap (λ (b : Bool). cond b (m ∷ left_of now place ms) (left_of now place ms)) here
          ∙ ap (λ (ks : List Need). m ∷ ks) (go ms (λ n h. there n (right (need_eq n m) (list_any (need_eq n) ms) h)))
        where
          right : (a b : Bool) → b ≡ true → (a || b) ≡ true
          right true b h = refl
          right false b h = h

-- ---- one need is noted for no place any more

pub record IsCleared (was now : Need → List ℕ) (n : Need) : Type 0 where
  pub here : now n ≡ []
  pub others : (m : Need) → need_eq n m ≡ false → now m ≡ was m

module _ (was now : Need → List ℕ) (n : Need) (cleared : IsCleared was now n) where
  -- a place is noted where it was, but for that need
  pub cleared-has : (m : Need) (place : ℕ) → has_number (now m) place ≡ cond (need_eq n m) false (has_number (was m) place)
  cleared-has m place = go (need_eq n m) refl
    where
      go : (b : Bool) → need_eq n m ≡ b → has_number (now m) place ≡ cond (need_eq n m) false (has_number (was m) place)
      go true e =
          ap (λ (x : Need). has_number (now x) place) (sym (need_same n m e)) ∙ ap (λ (ks : List ℕ). has_number ks place) cleared.here
          ∙ sym (ap (λ (b : Bool). cond b false (has_number (was m) place)) e)
      go false e = ap (λ (ks : List ℕ). has_number ks place) (cleared.others m e) ∙ sym (ap (λ (b : Bool). cond b false (has_number (was m) place)) e)

  -- that need is left no more
  pub left-cleared : (place : ℕ) (needs : List Need) → left_of now place needs ≡ without_need n (left_of was place needs)
  left-cleared place needs =
      filter_same (λ m. has_number (now m) place) (λ m. has_number (was m) place && not (need_eq n m)) needs (λ m. cleared-has m place ∙ turned (need_eq n m) (has_number (was m) place))
      ∙ sym (filter_both (λ m. not (need_eq n m)) (λ m. has_number (was m) place) needs)
    where
      turned : (a b : Bool) → cond a false b ≡ (b && not a)
      turned true true = refl
      turned true false = refl
      turned false true = refl
      turned false false = refl

  -- so many are left as there were, but for as often as it was there
  pub left-fewer : (place : ℕ) (needs : List Need) → length (left_of was place needs) ≡ length (left_of now place needs) + cond (has_number (was n) place) (times_of n needs) 0
  left-fewer place [] = none (has_number (was n) place)
    where
      none : (b : Bool) → 0 ≡ 0 + cond b 0 0
      none true = refl
      none false = refl
  left-fewer place (m ∷ ms) = go (need_eq n m) refl (has_number (was m) place) refl (left-fewer place ms)
    where
      had : Bool → ℕ
      had b = length (cond b (m ∷ left_of was place ms) (left_of was place ms))

      has : Bool → ℕ
      has b = length (cond b (m ∷ left_of now place ms) (left_of now place ms))

      times : Bool → ℕ
      times b = length (cond b (m ∷ filter (need_eq n) ms) (filter (need_eq n) ms))

      step : (a b : Bool) → need_eq n m ≡ a → has_number (was m) place ≡ b → (a ≡ true → has_number (was n) place ≡ b)
          → length (left_of was place ms) ≡ length (left_of now place ms) + cond (has_number (was n) place) (times_of n ms) 0
          → had b ≡ has (cond a false b) + cond (has_number (was n) place) (times a) 0
      step true true e f same rest =
          let more : had true ≡ suc (length (left_of was place ms)) = refl in
          let less : has false ≡ length (left_of now place ms) = refl in
          let often : times true ≡ suc (times_of n ms) = refl in
          let counted = ap (λ (b : Bool). cond b (times true) 0) (same refl) in
          let before = ap (λ (b : Bool). cond b (times_of n ms) 0) (same refl) in
          omega (arith, more, less, often, counted, before, rest)
      step true false e f same rest =
          let stays : had false ≡ length (left_of was place ms) = refl in
          let less : has false ≡ length (left_of now place ms) = refl in
          let counted = ap (λ (b : Bool). cond b (times true) 0) (same refl) in
          let before = ap (λ (b : Bool). cond b (times_of n ms) 0) (same refl) in
          omega (arith, stays, less, counted, before, rest)
      step false true e f same rest =
          let more : had true ≡ suc (length (left_of was place ms)) = refl in
          let one : has true ≡ suc (length (left_of now place ms)) = refl in
          let often : cond (has_number (was n) place) (times false) 0 ≡ cond (has_number (was n) place) (times_of n ms) 0 = refl in
          omega (arith, more, one, often, rest)
      step false false e f same rest = rest

      go : (a : Bool) → need_eq n m ≡ a → (b : Bool) → has_number (was m) place ≡ b
          → length (left_of was place ms) ≡ length (left_of now place ms) + cond (has_number (was n) place) (times_of n ms) 0
          → had (has_number (was m) place) ≡ has (has_number (now m) place) + cond (has_number (was n) place) (times (need_eq n m)) 0
      go a e b f rest =
          let same : a ≡ true → has_number (was n) place ≡ b = λ one. ap (λ (x : Need). has_number (was x) place) (need_same n m (e ∙ one)) ∙ f in
          let now_is : has_number (now m) place ≡ cond a false b = cleared-has m place ∙ ap (λ (x : Bool). cond x false (has_number (was m) place)) e ∙ ap (λ (x : Bool). cond a false x) f in
          ap had f ∙ step a b e f same rest
          ∙ ap (λ (x : ℕ). x + cond (has_number (was n) place) (times a) 0) (sym (ap has now_is))
          ∙ ap (λ (x : ℕ). has (has_number (now m) place) + x) (sym (ap (λ (x : Bool). cond (has_number (was n) place) (times x) 0) e))
