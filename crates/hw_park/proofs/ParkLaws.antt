-- Laws of parking.
use Rattle.std.proofs.Common.{◌≡◌, ◌≢◌, ◌⊎◌, inl, inr, ℕ, ◌+◌, ◌<◌, ◌≤◌, Bool, true, false, ◌==◌, nat_eq, List, [], ◌∷◌, ◌++◌, length, length-append, Option, Some, None, Result, Ok, Err, refl, ap, sym, ◌∙◌, subst, arith, eqb-true, if◌then◌else◌}
use Rattle.std.specs.Map.{lookup}
use Rattle.std.specs.Option.{option_map, option_and_then}
use Rattle.std.specs.Result.{OnOk, OnErr, IsOk, is_err}
use Rattle.std.specs.declared.cmp.Reverse.{Reverse}
use Rattle.std.specs.declared.vec.Vec.{Vec}
use Rattle.std.specs.declared.alloc.Global.{Global}
use Rattle.std.proofs.lemmas.Bool.{cases_eq}
use Rattle.hw_types.specs.declared.unit.Need.{Need}
use Rattle.hw_park.specs.declared.key.NeedKey.{NeedKey}
use Rattle.hw_park.specs.declared.waiter.Waiter.{Waiter}
use Rattle.hw_park.specs.Numbers.{numbers_at, has_number, SameNumbers}
use Rattle.hw_park.specs.Parked.{Waiting}
use Rattle.hw_park.specs.Held.{Held, slot_at, left_of, seen, held, is_over, ready_at, IsPutAt}
use Rattle.hw_park.specs.Kept.{listed, tally_of, times_at, times_of, IsKept, AreNoted}
use Rattle.hw_park.proofs.NoteLaws.{noted-other, times-other, left-other, times-here, left-here}
use Rattle.hw_park.proofs.QueueLaws.{listed_more, queue-parked}
use Rattle.hw_park.proofs.StruckLaws.{as_many}
use Rattle.hw_park.proofs.WaiterLaws.{IsSet, other_number}

-- a fact about a call that succeeded
pub on_ok : {A E P : Type 0} (r : Result A E) → IsOk r → OnOk r P → P
on_ok (Ok v) ok fact = fact
on_ok (Err e) ok fact = absurd (cc ok)

-- a fact about a call that didn't fail
pub not_err : {A E P : Type 0} (r : Result A E) → is_err r ≡ false → OnOk r P → P
not_err (Ok v) e fact = fact
not_err (Err x) e fact = absurd cc

-- a fact about a call that failed
pub so_err : {A E P : Type 0} (r : Result A E) → is_err r ≡ true → OnErr r P → P
so_err (Ok v) e fact = absurd cc
so_err (Err x) e fact = fact

-- the same numbers wait
pub notes_same : (old new : List (NeedKey × Vec ℕ Global)) → SameNumbers old new → numbers_at new ≡ numbers_at old
notes_same old new same = λ i n. same n i

-- the tables still belong together where the same numbers wait
pub kept_again : {T : Type 0} (limit count n : ℕ) (h : Held T) (waits more : List (NeedKey × Vec ℕ Global)) (ready same : List (Reverse ℕ)) (len long room wider : ℕ)
    → IsKept limit count n h (numbers_at waits) ready len room → SameNumbers waits more → same ≡ ready → long ≡ len → room ≤ wider → IsKept limit count n h (numbers_at more) same long wider
kept_again {T} limit count n h waits more ready same len long room wider kept numbers is level wide =
    subst (λ (notes : Need → List ℕ). IsKept limit count n h notes same long wider) (sym (notes_same waits more numbers)) (record {
      counted = kept.counted;
      within = kept.within;
      noted = kept.noted;
      queue = record {
        ordered = rw is kept.queue.ordered;
        once = λ k. ap (λ (rs : List (Reverse ℕ)). tally_of rs k) is ∙ kept.queue.once k;
        many = level ∙ kept.queue.many;
        fits = omega (arith, kept.queue.fits, wide);
        below = kept.queue.below;
      };
    })

-- an item with needs isn't ready
not_over : (l : ℕ) → 0 < l → (l == 0) ≡ false
not_over l some = grind (arith, some)

module _ {T : Type 0} (old new : Held T) (was now : Need → List ℕ) (w : Waiter T) (put : IsPutAt old new was now w) where
  apart_at : (q : ℕ) (v : Waiter T) → slot_at old.slots q ≡ Some v → (b : Bool) → nat_eq q put.place ≡ b → nat_eq q put.place ≡ false
  apart_at q v there true e = absurd (cc (sym there ∙ ap (slot_at old.slots) (eqb-true q put.place e) ∙ put.free))
  apart_at q v there false e = e

  -- what is noted for the place says nothing of the others
  held_noted : (j : ℕ) → held old now j ≡ held old was j
  held_noted j = go (lookup (nat_eq j) old.places)
    where
      at : (q : ℕ) (s : Option (Waiter T)) → slot_at old.slots q ≡ s → option_map (seen now q) s ≡ option_map (seen was q) s
      at q None e = refl
      at q (Some v) e =
          ap (λ (ns : List Need). Some (record { needs = ns; item = v.item }))
          (left-other was now w.needs.items put.place put.noted q v.needs.items (apart_at q v e (nat_eq q put.place) refl))

      go : (o : Option ℕ) → option_and_then (λ place. option_map (seen now place) (slot_at old.slots place)) o ≡ option_and_then (λ place. option_map (seen was place) (slot_at old.slots place)) o
      go None = refl
      go (Some q) = at q (slot_at old.slots q) refl

  -- the item is there with all of its needs
  held_parked : IsSet (held old was) (held new now) w.number (Some (record { needs = w.needs.items; item = w.item }))
  held_parked = record { at = λ j. put.items now j ∙ go j (j == w.number) }
    where
      whole : seen now put.place w ≡ record { needs = w.needs.items; item = w.item }
      whole = ap (λ (ns : List Need). record { needs = ns; item = w.item }) (left-here was now w.needs.items put.place put.noted)

      go : (j : ℕ) (b : Bool) → (if b then Some (seen now put.place w) else held old now j) ≡ (if b then Some (record { needs = w.needs.items; item = w.item }) else held old was j)
      go j true = ap (λ (v : Waiting T). Some v) whole
      go j false = held_noted j

  -- the list with the item last
  pub listed_parked : (n : ℕ) → w.number ≡ n → listed (held new now) (n + 1) ≡ listed (held old was) n ++ record { needs = w.needs.items; item = w.item } ∷ []
  listed_parked n is =
      listed_more n (held old was) (held new now) (record { needs = w.needs.items; item = w.item })
      (subst (λ (k : ℕ). IsSet (held old was) (held new now) k (Some (record { needs = w.needs.items; item = w.item }))) is held_parked)

  -- the places are noted as they should
  noted_parked : AreNoted old.slots was → w.left ≡ length w.needs.items → AreNoted new.slots now
  noted_parked noted left = record {
    empty = λ q m none. empty q m none (cases_eq q put.place);
    wholly = λ q v m there has. wholly q v m there has (cases_eq q put.place);
    counted = λ q v there. counted q v there (cases_eq q put.place);
  }
    where
      own : (q : ℕ) (v : Waiter T) → slot_at new.slots q ≡ Some v → q ≡ put.place → v ≡ w
      own q v there same = let it : Some v ≡ Some w = sym there ∙ ap (slot_at new.slots) same ∙ put.slots.here in cc it

      empty : (q : ℕ) (m : Need) → slot_at new.slots q ≡ None → ((q ≡ put.place) ⊎ (q ≢ put.place)) → has_number (now m) q ≡ false
      empty q m none (inl same) = absurd (cc (sym none ∙ ap (slot_at new.slots) same ∙ put.slots.here))
      empty q m none (inr apart) =
          noted-other was now w.needs.items put.place put.noted m q (other_number put.place q apart) ∙ noted.empty q m (sym (put.slots.others q apart) ∙ none)

      wholly : (q : ℕ) (v : Waiter T) (m : Need) → slot_at new.slots q ≡ Some v → has_number (now m) q ≡ true → ((q ≡ put.place) ⊎ (q ≢ put.place)) → times_at (now m) q ≡ times_of m v.needs.items
      wholly q v m there has (inl same) =
          ap (times_at (now m)) same ∙ times-here was now w.needs.items put.place put.noted m (noted.empty put.place m put.free)
          ∙ sym (ap (λ (x : Waiter T). times_of m x.needs.items) (own q v there same))
      wholly q v m there has (inr apart) =
          let other = other_number put.place q apart in
          times-other was now w.needs.items put.place put.noted m q other
          ∙ noted.wholly q v m (sym (put.slots.others q apart) ∙ there) (sym (noted-other was now w.needs.items put.place put.noted m q other) ∙ has)

      counted : (q : ℕ) (v : Waiter T) → slot_at new.slots q ≡ Some v → ((q ≡ put.place) ⊎ (q ≢ put.place)) → v.left ≡ length (left_of now q v.needs.items)
      counted q v there (inl same) =
          let here : w.left ≡ length (left_of now put.place w.needs.items) = left ∙ sym (ap length (left-here was now w.needs.items put.place put.noted)) in
          subst (λ (x : Waiter T). x.left ≡ length (left_of now q x.needs.items)) (sym (own q v there same))
          (subst (λ (p : ℕ). w.left ≡ length (left_of now p w.needs.items)) (sym same) here)
      counted q v there (inr apart) =
          noted.counted q v (sym (put.slots.others q apart) ∙ there)
          ∙ sym (ap length (left-other was now w.needs.items put.place put.noted q v.needs.items (other_number put.place q apart)))

  -- the tables still belong together
  pub kept_parked : (limit count n : ℕ) (ready same : List (Reverse ℕ)) (len long room wider : ℕ) → IsKept limit count n old was ready len room → w.number ≡ n → w.left ≡ length w.needs.items → 0 < length w.needs.items
      → same ≡ ready → long ≡ len → count + 1 ≤ wider → count ≢ limit → IsKept limit (count + 1) (n + 1) new now same long wider
  kept_parked limit count n ready same len long room wider kept number left some is level wide free =
      let list = listed_parked n number in
      let length_is = ap length list ∙ length-append (listed (held old was) n) (record { needs = w.needs.items; item = w.item } ∷ []) in
      let mark : is_over w ≡ false = not_over w.left (omega (arith, left, some)) in
      record {
        counted = omega (arith, kept.counted, length_is);
        within = omega (arith, kept.within, free);
        noted = noted_parked kept.noted left;
        queue = queue-parked (ready_at old) (ready_at new) n ready same len long room wider kept.queue
            (record { at = λ j. subst (λ (k : ℕ). ready_at new j ≡ (if j == k then Some (is_over w) else ready_at old j)) number (put.ready j) ∙ ap (λ (b : Bool). if j == n then Some b else ready_at old j) mark })
            is level (omega (arith, kept.counted, as_many old was kept.noted n, wide));
      }
