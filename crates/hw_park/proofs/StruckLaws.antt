-- Laws of striking a need.
use Rattle.std.proofs.Common.{◌≡◌, ℕ, ◌+◌, ◌-◌, ◌<◌, Bool, true, false, cond, ◌==◌, nat_eq, List, [], ◌∷◌, map, length, take, get_or, Option, Some, None, refl, ap, sym, ◌∙◌, subst, arith, if◌then◌else◌}
use Rattle.std.specs.List.{count_by}
use Rattle.std.specs.Map.{lookup}
use Rattle.std.specs.Option.{option_map, option_and_then}
use Rattle.std.specs.declared.cmp.Reverse.{Reverse}
use Rattle.std.specs.declared.vec.Vec.{Vec}
use Rattle.std.specs.declared.alloc.Global.{Global}
use Rattle.std.proofs.lemmas.List.{length-map, take_more}
use Rattle.hw_types.specs.declared.unit.Need.{Need}
use Rattle.hw_types.specs.Settled.{need_eq}
use Rattle.hw_park.specs.declared.key.NeedKey.{NeedKey}
use Rattle.hw_park.specs.declared.waiter.Waiter.{Waiter}
use Rattle.hw_park.specs.Keys.{key_of}
use Rattle.hw_park.specs.Numbers.{numbers_at, has_number}
use Rattle.hw_park.specs.Parked.{Waiting, is_ready, relieved, struck}
use Rattle.hw_park.specs.Held.{Held, slot_at, left_of, seen, held, is_over, ready_at, struck_by}
use Rattle.hw_park.specs.Kept.{listed, itself, is_so, is_ready_at, relieved_at, times_at, times_of, IsQueueOf, IsKept, AreNoted}
use Rattle.hw_park.proofs.NumberLaws.{IsPut, numbers-put, numbers-other}
use Rattle.hw_park.proofs.NoteLaws.{IsCleared, cleared-has, left-cleared, left-fewer, times-none, times-append}
use Rattle.hw_park.proofs.ListedLaws.{listed-map, count-mapped}

-- ---- whether an item is ready is what its count says

module _ {T : Type 0} (h : Held T) (notes : Need → List ℕ) (noted : AreNoted h.slots notes) where
  -- the count of an item is that of the needs that it has left
  pub ready_is : (k : ℕ) → ready_at h k ≡ option_map is_ready (held h notes k)
  ready_is k = go (lookup (nat_eq k) h.places)
    where
      at : (p : ℕ) (s : Option (Waiter T)) → slot_at h.slots p ≡ s → option_map is_over s ≡ option_map is_ready (option_map (seen notes p) s)
      at p None e = refl
      at p (Some w) e = ap (λ (l : ℕ). Some (l == 0)) (noted.counted p w e)

      go : (o : Option ℕ) → option_and_then (λ place. option_map is_over (slot_at h.slots place)) o ≡ option_map is_ready (option_and_then (λ place. option_map (seen notes place) (slot_at h.slots place)) o)
      go None = refl
      go (Some p) = at p (slot_at h.slots p) refl

  pub so_ready : (k : ℕ) → is_so (ready_at h k) ≡ is_ready_at (held h notes k)
  so_ready k = ap is_so (ready_is k) ∙ go (held h notes k)
    where
      go : (o : Option (Waiting T)) → is_so (option_map is_ready o) ≡ is_ready_at o
      go None = refl
      go (Some w) = refl

  pub listed_ready : (n : ℕ) → listed (ready_at h) n ≡ map is_ready (listed (held h notes) n)
  listed_ready n = listed-map is_ready (held h notes) (ready_at h) n (λ k low. ready_is k)

  -- there are as many answers as items
  pub as_many : (n : ℕ) → length (listed (ready_at h) n) ≡ length (listed (held h notes) n)
  as_many n = ap length (listed_ready n) ∙ length-map (listed (held h notes) n) is_ready

  pub count_ready : (n : ℕ) → count_by itself (listed (ready_at h) n) ≡ count_by is_ready (listed (held h notes) n)
  count_ready n = ap (count_by itself) (listed_ready n) ∙ count-mapped is_ready (listed (held h notes) n)

-- ---- a need is noted for no place any more

pub cleared_of : (waits rest : List (NeedKey × Vec ℕ Global)) (key : NeedKey) (n : Need) → key ≡ key_of n → IsPut waits rest key None → IsCleared (numbers_at waits) (numbers_at rest) n
cleared_of waits rest key n of put =
    let there = subst (λ (k : NeedKey). IsPut waits rest k None) of put in
    record {
      here = numbers-put waits rest n None there;
      others = λ m apart. numbers-other waits rest n m None there apart;
    }

-- ---- waiters are counted down

-- one number more
times-more : (numbers : List ℕ) (i q : ℕ) → i < length numbers → times_at (take (i + 1) numbers) q ≡ times_at (take i numbers) q + cond (nat_eq q (get_or numbers i 0)) 1 0
times-more numbers i q within =
    ap (λ (ns : List ℕ). times_at ns q) (take_more numbers i 0 within) ∙ times-append (take i numbers) (get_or numbers i 0 ∷ []) q
    ∙ ap (λ (k : ℕ). times_at (take i numbers) q + k) (one (nat_eq q (get_or numbers i 0)))
  where
    one : (b : Bool) → length (cond b (get_or numbers i 0 ∷ []) []) ≡ cond b 1 0
    one true = refl
    one false = refl

module _ {T : Type 0} where
  -- the waiter of each place has a need less as often as its place is among these
  pub record IsStruck (first now : Held T) (numbers : List ℕ) : Type 0 where
    pub places : now.places ≡ first.places
    pub slots : (q : ℕ) → slot_at now.slots q ≡ option_map (struck_by (times_at numbers q)) (slot_at first.slots q)

  pub struck_none : (h : Held T) → IsStruck h h []
  struck_none h = record { places = refl; slots = λ q. go (slot_at h.slots q) }
    where
      go : (o : Option (Waiter T)) → o ≡ option_map (struck_by 0) o
      go None = refl
      go (Some w) = let same : w.left ≡ w.left - 0 = omega arith in ap (λ (l : ℕ). Some (record w { left = l })) same

  pub struck_more : (first now new : Held T) (numbers : List ℕ) (i : ℕ) → i < length numbers → IsStruck first now (take i numbers) → new.places ≡ now.places
      → ((q : ℕ) → slot_at new.slots q ≡ (if q == get_or numbers i 0 then option_map (struck_by 1) (slot_at now.slots q) else slot_at now.slots q)) → IsStruck first new (take (i + 1) numbers)
  struck_more first now new numbers i within before same step = record {
    places = same ∙ before.places;
    slots = λ q. step q ∙ go q (nat_eq q (get_or numbers i 0)) refl (slot_at first.slots q) (before.slots q);
  }
    where
      by_count : (q : ℕ) (o : Option (Waiter T)) (count : ℕ) → count ≡ times_at (take (i + 1) numbers) q → option_map (struck_by count) o ≡ option_map (struck_by (times_at (take (i + 1) numbers) q)) o
      by_count q o count e = ap (λ (c : ℕ). option_map (struck_by c) o) e

      twice : (q : ℕ) (o : Option (Waiter T)) (count : ℕ) → option_map (struck_by 1) (option_map (struck_by count) o) ≡ option_map (struck_by (count + 1)) o
      twice q None count = refl
      twice q (Some w) count = let same : w.left - count - 1 ≡ w.left - (count + 1) = omega arith in ap (λ (l : ℕ). Some (record w { left = l })) same

      go : (q : ℕ) (b : Bool) → nat_eq q (get_or numbers i 0) ≡ b → (o : Option (Waiter T)) → slot_at now.slots q ≡ option_map (struck_by (times_at (take i numbers) q)) o
          → (if q == get_or numbers i 0 then option_map (struck_by 1) (slot_at now.slots q) else slot_at now.slots q) ≡ option_map (struck_by (times_at (take (i + 1) numbers) q)) o
      go q true e o was =
          let more = times-more numbers i q within ∙ ap (λ (b : Bool). times_at (take i numbers) q + cond b 1 0) e in
          ap (λ (b : Bool). if b then option_map (struck_by 1) (slot_at now.slots q) else slot_at now.slots q) e
          ∙ ap (λ (s : Option (Waiter T)). option_map (struck_by 1) s) was ∙ twice q o (times_at (take i numbers) q) ∙ by_count q o (times_at (take i numbers) q + 1) (sym more)
      go q false e o was =
          let more = times-more numbers i q within ∙ ap (λ (b : Bool). times_at (take i numbers) q + cond b 1 0) e in
          let level : times_at (take i numbers) q ≡ times_at (take (i + 1) numbers) q = omega (arith, more) in
          ap (λ (b : Bool). if b then option_map (struck_by 1) (slot_at now.slots q) else slot_at now.slots q) e
          ∙ was ∙ by_count q o (times_at (take i numbers) q) level

  module _ (first now : Held T) (was new : Need → List ℕ) (n : Need) (numbers : List ℕ) (step : IsStruck first now numbers) (are : was n ≡ numbers) (cleared : IsCleared was new n) where
    -- each item is relieved of the need
    pub held_struck : (k : ℕ) → held now new k ≡ relieved_at n (held first was k)
    held_struck k =
        ap (λ (ps : List (ℕ × ℕ)). option_and_then (λ place. option_map (seen new place) (slot_at now.slots place)) (lookup (nat_eq k) ps)) step.places
        ∙ go (lookup (nat_eq k) first.places)
      where
        at : (p : ℕ) (o : Option (Waiter T)) → option_map (seen new p) (option_map (struck_by (times_at numbers p)) o) ≡ relieved_at n (option_map (seen was p) o)
        at p None = refl
        at p (Some w) = ap (λ (ns : List Need). Some (record { needs = ns; item = w.item })) (left-cleared was new n cleared p w.needs.items)

        go : (o : Option ℕ) → option_and_then (λ place. option_map (seen new place) (slot_at now.slots place)) o ≡ relieved_at n (option_and_then (λ place. option_map (seen was place) (slot_at first.slots place)) o)
        go None = refl
        go (Some p) = ap (λ (o : Option (Waiter T)). option_map (seen new p) o) (step.slots p) ∙ at p (slot_at first.slots p)

    -- the list of all items
    pub listed_struck : (k : ℕ) → listed (held now new) k ≡ struck n (listed (held first was) k)
    listed_struck k = listed-map (relieved n) (held first was) (held now new) k (λ j low. held_struck j)

    -- the places are noted as they should
    pub noted_struck : AreNoted first.slots was → AreNoted now.slots new
    noted_struck noted = record {
      empty = λ q m none. empty q m none (slot_at first.slots q) refl;
      wholly = λ q w m there has. wholly q w m there has (slot_at first.slots q) refl;
      counted = λ q w there. counted q w there (slot_at first.slots q) refl;
    }
      where
        either : (a b : Bool) → b ≡ false → cond a false b ≡ false
        either true b e = refl
        either false b e = e

        -- what stands in a place of which it is known what stood there
        here : (q : ℕ) (o : Option (Waiter T)) → slot_at first.slots q ≡ o → slot_at now.slots q ≡ option_map (struck_by (times_at numbers q)) o
        here q o e = step.slots q ∙ ap (λ (s : Option (Waiter T)). option_map (struck_by (times_at numbers q)) s) e

        empty : (q : ℕ) (m : Need) → slot_at now.slots q ≡ None → (o : Option (Waiter T)) → slot_at first.slots q ≡ o → has_number (new m) q ≡ false
        empty q m none None e = cleared-has was new n cleared m q ∙ either (need_eq n m) (has_number (was m) q) (noted.empty q m e)
        empty q m none (Some v) e = absurd (cc (sym none ∙ here q (Some v) e))

        apart_from : (q : ℕ) (m : Need) (b : Bool) → need_eq n m ≡ b → has_number (new m) q ≡ true → need_eq n m ≡ false
        apart_from q m false e has = e
        apart_from q m true e has = absurd (cc (sym has ∙ cleared-has was new n cleared m q ∙ ap (λ (b : Bool). cond b false (has_number (was m) q)) e))

        wholly : (q : ℕ) (w : Waiter T) (m : Need) → slot_at now.slots q ≡ Some w → has_number (new m) q ≡ true → (o : Option (Waiter T)) → slot_at first.slots q ≡ o
            → times_at (new m) q ≡ times_of m w.needs.items
        wholly q w m there has None e = absurd (cc (sym there ∙ here q None e))
        wholly q w m there has (Some v) e =
            let it : Some (struck_by (times_at numbers q) v) ≡ Some w = sym (here q (Some v) e) ∙ there in
            let one : struck_by (times_at numbers q) v ≡ w = cc it in
            let same = cleared.others m (apart_from q m (need_eq n m) refl has) in
            ap (λ (ns : List ℕ). times_at ns q) same ∙ noted.wholly q v m e (ap (λ (ns : List ℕ). has_number ns q) (sym same) ∙ has)
            ∙ ap (λ (x : Waiter T). times_of m x.needs.items) one

        times : (q : ℕ) (v : Waiter T) → slot_at first.slots q ≡ Some v → (b : Bool) → has_number (was n) q ≡ b → times_at (was n) q ≡ cond (has_number (was n) q) (times_of n v.needs.items) 0
        times q v e true has = noted.wholly q v n e has ∙ sym (ap (λ (b : Bool). cond b (times_of n v.needs.items) 0) has)
        times q v e false has = times-none (was n) q has ∙ sym (ap (λ (b : Bool). cond b (times_of n v.needs.items) 0) has)

        counted : (q : ℕ) (w : Waiter T) → slot_at now.slots q ≡ Some w → (o : Option (Waiter T)) → slot_at first.slots q ≡ o → w.left ≡ length (left_of new q w.needs.items)
        counted q w there None e = absurd (cc (sym there ∙ here q None e))
        counted q w there (Some v) e =
            let it : Some (struck_by (times_at numbers q) v) ≡ Some w = sym (here q (Some v) e) ∙ there in
            let one : struck_by (times_at numbers q) v ≡ w = cc it in
            let fewer = left-fewer was new n cleared q v.needs.items in
            let often = times q v e (has_number (was n) q) refl in
            let same : times_at numbers q ≡ times_at (was n) q = ap (λ (ns : List ℕ). times_at ns q) (sym are) in
            let left : v.left - times_at numbers q ≡ length (left_of new q v.needs.items) = omega (arith, noted.counted q v e, fewer, often, same) in
            subst (λ (x : Waiter T). x.left ≡ length (left_of new q x.needs.items)) one left

    -- the tables still belong together
    pub kept_struck : (limit count k : ℕ) (ready more : List (Reverse ℕ)) (len room longer wider : ℕ) → IsKept limit count k first was ready len room → IsQueueOf (ready_at now) k more longer wider
        → IsKept limit count k now new more longer wider
    kept_struck limit count k ready more len room longer wider kept queue = record {
      counted = kept.counted ∙ sym (ap length (listed_struck k) ∙ length-map (listed (held first was) k) (relieved n));
      within = kept.within;
      noted = noted_struck kept.noted;
      queue = queue;
    }
