-- Laws of the items in their places.
use Rattle.std.proofs.Common.{◌≡◌, ◌≢◌, ◌⊎◌, inl, inr, ℕ, ◌-◌, Bool, true, false, cond, nat_eq, ◌==◌, List, Option, Some, None, IsSome, IfSome, IfNone, refl, sym, ap, ◌∙◌, subst, rules, arith, eqb-true, if◌then◌else◌}
use Rattle.std.specs.Map.{lookup}
use Rattle.std.specs.Option.{option_map, option_and_then}
use Rattle.std.specs.Ordering.{is_eq, nat_cmp}
use Rattle.std.proofs.lemmas.Bool.{cases_eq}
use Rattle.std.proofs.lemmas.Bool.Decides.{nat_tests}
use Rattle.hw_park.specs.declared.waiter.Waiter.{Waiter}
use Rattle.hw_park.specs.Held.{Held, slot_at, at_number, found, is_over, ready_at, struck_by, ArePlaced, IsSlotSet, HasBecome}

number_tie : (v w : ℕ) → is_eq (nat_cmp v w) ≡ nat_eq v w
number_tie v w = grind (arith, nat_tests)

-- what an ordered table has at a number
pub place_of : (places : List (ℕ × ℕ)) (k : ℕ) → lookup (λ j. is_eq (nat_cmp k j)) places ≡ lookup (nat_eq k) places
place_of places k = λ i. lookup (λ j. number_tie k j i) places

-- one number has this place, or none
unfoldable pub IsMoved : List (ℕ × ℕ) → List (ℕ × ℕ) → ℕ → Option ℕ → Type 0
IsMoved old new number place = (k : ℕ) → lookup (nat_eq k) new ≡ (if k == number then place else lookup (nat_eq k) old)

pub moved : (old new : List (ℕ × ℕ)) (number : ℕ) (place : Option ℕ)
    → ((q : ℕ) → lookup (λ j. is_eq (nat_cmp q j)) new ≡ cond (is_eq (nat_cmp number q)) place (lookup (λ j. is_eq (nat_cmp q j)) old)) → IsMoved old new number place
unfolding IsMoved
moved old new number place puts k =
    sym (place_of new k) ∙ puts k
    ∙ ap (λ (b : Bool). cond b place (lookup (λ j. is_eq (nat_cmp k j)) old)) (number_tie number k ∙ turned)
    ∙ ap (λ (o : Option ℕ). if k == number then place else o) (place_of old k)
  where
    turned : nat_eq number k ≡ nat_eq k number
    turned = grind (arith, nat_tests)

-- a number's place, once one number was put or taken
place_own : (old new : List (ℕ × ℕ)) (n k : ℕ) (place : Option ℕ) → IsMoved old new n place → nat_eq k n ≡ true → lookup (nat_eq k) new ≡ place
unfolding IsMoved
place_own old new n k place move e = move k ∙ ap (λ (b : Bool). if b then place else lookup (nat_eq k) old) e

place_other : (old new : List (ℕ × ℕ)) (n k : ℕ) (place : Option ℕ) → IsMoved old new n place → nat_eq k n ≡ false → lookup (nat_eq k) new ≡ lookup (nat_eq k) old
unfolding IsMoved
place_other old new n k place move e = move k ∙ ap (λ (b : Bool). if b then place else lookup (nat_eq k) old) e

-- a number is itself
self_number : (n : ℕ) → nat_eq n n ≡ true
self_number n = grind (arith, nat_tests)

module _ {T : Type 0} where
  some_not_none : (o : Option (Waiter T)) → IsSome o → o ≡ None → ⊥
  some_not_none None some none = absurd cc
  some_not_none (Some w) some none = cc none

  module _ {X : Type 0} (f : ℕ → Waiter T → X) where
    at_place : (h : Held T) (k : ℕ) (o : Option ℕ) → lookup (nat_eq k) h.places ≡ o → at_number f h k ≡ option_and_then (λ place. option_map (f place) (slot_at h.slots place)) o
    at_place h k o e = ap (λ (x : Option ℕ). option_and_then (λ place. option_map (f place) (slot_at h.slots place)) x) e

    -- what is at a number whose place is known
    pub at_known : (h : Held T) (k p : ℕ) (w : Waiter T) → lookup (nat_eq k) h.places ≡ Some p → slot_at h.slots p ≡ Some w → at_number f h k ≡ Some (f p w)
    at_known h k p w at slot = at_place h k (Some p) at ∙ ap (λ (o : Option (Waiter T)). option_map (f p) o) slot

    -- what is at a number whose place stays
    at_other : (old new : Held T) (k : ℕ) → lookup (nat_eq k) new.places ≡ lookup (nat_eq k) old.places
        → ((q : ℕ) → lookup (nat_eq k) old.places ≡ Some q → slot_at new.slots q ≡ slot_at old.slots q) → at_number f new k ≡ at_number f old k
    at_other old new k same slots = go (lookup (nat_eq k) old.places) refl
      where
        go : (o : Option ℕ) → lookup (nat_eq k) old.places ≡ o → at_number f new k ≡ at_number f old k
        go None e = at_place new k None (same ∙ e) ∙ sym (at_place old k None e)
        go (Some q) e = at_place new k (Some q) (same ∙ e) ∙ ap (λ (o : Option (Waiter T)). option_map (f q) o) (slots q e) ∙ sym (at_place old k (Some q) e)

    -- an item more, in a place that was free
    pub number_put : (old new : Held T) (n p : ℕ) (w : Waiter T) → ArePlaced old.places old.slots → slot_at old.slots p ≡ None → IsMoved old.places new.places n (Some p) → IsSlotSet old.slots new.slots p (Some w)
        → (k : ℕ) → at_number f new k ≡ (if k == n then Some (f p w) else at_number f old k)
    number_put old new n p w placed free move set k = go (nat_eq k n) refl
      where
        go : (b : Bool) → nat_eq k n ≡ b → at_number f new k ≡ (if k == n then Some (f p w) else at_number f old k)
        go true e =
            at_known new k p w (place_own old.places new.places n k (Some p) move e) set.here
            ∙ sym (ap (λ (b : Bool). if b then Some (f p w) else at_number f old k) e)
        go false e =
            at_other old new k (place_other old.places new.places n k (Some p) move e)
            (λ q at. set.others q (λ same. some_not_none (slot_at old.slots p) (subst (λ x. IsSome (slot_at old.slots x)) same (placed.full k q at)) free))
            ∙ sym (ap (λ (b : Bool). if b then Some (f p w) else at_number f old k) e)

    -- an item less
    pub number_taken : (old new : Held T) (n p : ℕ) → ArePlaced old.places old.slots → lookup (nat_eq n) old.places ≡ Some p → IsMoved old.places new.places n None → IsSlotSet old.slots new.slots p None
        → (k : ℕ) → at_number f new k ≡ (if k == n then None else at_number f old k)
    number_taken old new n p placed at move set k = go (nat_eq k n) refl
      where
        go : (b : Bool) → nat_eq k n ≡ b → at_number f new k ≡ (if k == n then None else at_number f old k)
        go true e = at_place new k None (place_own old.places new.places n k None move e) ∙ sym (ap (λ (b : Bool). if b then None else at_number f old k) e)
        go false e =
            at_other old new k (place_other old.places new.places n k None move e)
            (λ q there. set.others q (λ same. absurd (cc (sym e ∙ ap (λ j. nat_eq j n) (placed.apart k n p (there ∙ ap (λ x. Some x) same) at) ∙ self_number n))))
            ∙ sym (ap (λ (b : Bool). if b then None else at_number f old k) e)

    -- nothing was there to be taken
    pub number_untaken : (h : Held T) (n : ℕ) → lookup (nat_eq n) h.places ≡ None → (k : ℕ) → at_number f h k ≡ (if k == n then None else at_number f h k)
    number_untaken h n none k = go (nat_eq k n) refl
      where
        go : (b : Bool) → nat_eq k n ≡ b → at_number f h k ≡ (if k == n then None else at_number f h k)
        go true e = at_place h k None (ap (λ j. lookup (nat_eq j) h.places) (eqb-true k n e) ∙ none) ∙ sym (ap (λ (b : Bool). if b then None else at_number f h k) e)
        go false e = sym (ap (λ (b : Bool). if b then None else at_number f h k) e)

  -- a number of which nothing is said has no place
  pub no_place : (h : Held T) (n : ℕ) → ArePlaced h.places h.slots → ready_at h n ≡ None → lookup (nat_eq n) h.places ≡ None
  no_place h n placed none = go (lookup (nat_eq n) h.places) refl
    where
      mapped : (o : Option (Waiter T)) → IsSome o → option_map is_over o ≡ None → ⊥
      mapped None some e = absurd cc
      mapped (Some w) some e = absurd cc

      go : (o : Option ℕ) → lookup (nat_eq n) h.places ≡ o → lookup (nat_eq n) h.places ≡ None
      go None e = e
      go (Some p) e = absurd (mapped (slot_at h.slots p) (placed.full n p e) (sym (at_place (λ _ w. is_over w) h n (Some p) e) ∙ none))

  pub placed_put : (old new : Held T) (n p : ℕ) (w : Waiter T) → ArePlaced old.places old.slots → slot_at old.slots p ≡ None → lookup (nat_eq n) old.places ≡ None → w.number ≡ n
      → IsMoved old.places new.places n (Some p) → IsSlotSet old.slots new.slots p (Some w) → ArePlaced new.places new.slots
  placed_put old new n p w placed free fresh is move set = record {
    apart = λ j k q a b. apart j k q a b (nat_eq j n) refl (nat_eq k n) refl;
    full = λ k q a. full k q a (nat_eq k n) refl;
    numbered = λ q v a. numbered q v a (cases_eq q p);
  }
    where
      taken : (k q : ℕ) → lookup (nat_eq k) old.places ≡ Some q → q ≡ p → ⊥
      taken k q at same = some_not_none (slot_at old.slots p) (subst (λ x. IsSome (slot_at old.slots x)) same (placed.full k q at)) free

      own : (k q : ℕ) → lookup (nat_eq k) new.places ≡ Some q → nat_eq k n ≡ true → q ≡ p
      own k q a e = cc (sym a ∙ place_own old.places new.places n k (Some p) move e)

      was : (k q : ℕ) → lookup (nat_eq k) new.places ≡ Some q → nat_eq k n ≡ false → lookup (nat_eq k) old.places ≡ Some q
      was k q a e = sym (place_other old.places new.places n k (Some p) move e) ∙ a

      apart : (j k q : ℕ) → lookup (nat_eq j) new.places ≡ Some q → lookup (nat_eq k) new.places ≡ Some q → (a : Bool) → nat_eq j n ≡ a → (b : Bool) → nat_eq k n ≡ b → j ≡ k
      apart j k q a b true e true f = eqb-true j n e ∙ sym (eqb-true k n f)
      apart j k q a b true e false f = absurd (taken k q (was k q b f) (own j q a e))
      apart j k q a b false e true f = absurd (taken j q (was j q a e) (own k q b f))
      apart j k q a b false e false f = placed.apart j k q (was j q a e) (was k q b f)

      full : (k q : ℕ) → lookup (nat_eq k) new.places ≡ Some q → (b : Bool) → nat_eq k n ≡ b → IsSome (slot_at new.slots q)
      full k q a true e = subst (λ (o : Option (Waiter T)). IsSome o) (sym (ap (slot_at new.slots) (own k q a e) ∙ set.here)) some
        where
          some : IsSome (Some w)
          some = search rules
      full k q a false e = subst (λ (o : Option (Waiter T)). IsSome o) (sym (set.others q (taken k q (was k q a e)))) (placed.full k q (was k q a e))

      kept : (v : Waiter T) (q : ℕ) → lookup (nat_eq v.number) old.places ≡ Some q → (b : Bool) → nat_eq v.number n ≡ b → lookup (nat_eq v.number) new.places ≡ Some q
      kept v q at true e = absurd (cc (sym at ∙ ap (λ j. lookup (nat_eq j) old.places) (eqb-true v.number n e) ∙ fresh))
      kept v q at false e = place_other old.places new.places n v.number (Some p) move e ∙ at

      numbered : (q : ℕ) (v : Waiter T) → slot_at new.slots q ≡ Some v → ((q ≡ p) ⊎ (q ≢ p)) → lookup (nat_eq v.number) new.places ≡ Some q
      numbered q v a (inl same) =
          let it : Some v ≡ Some w = sym a ∙ ap (slot_at new.slots) same ∙ set.here in
          let one : v ≡ w = cc it in
          let number : v.number ≡ n = ap (λ (x : Waiter T). x.number) one ∙ is in
          place_own old.places new.places n v.number (Some p) move (ap (λ j. nat_eq j n) number ∙ self_number n) ∙ ap (λ x. Some x) (sym same)
      numbered q v a (inr apart) = kept v q (placed.numbered q v (sym (set.others q apart) ∙ a)) (nat_eq v.number n) refl

  pub placed_taken : (old new : Held T) (n p : ℕ) → ArePlaced old.places old.slots → lookup (nat_eq n) old.places ≡ Some p → IsMoved old.places new.places n None → IsSlotSet old.slots new.slots p None
      → ArePlaced new.places new.slots
  placed_taken old new n p placed at move set = record {
    apart = λ j k q a b. placed.apart j k q (was j q a) (was k q b);
    full = λ k q a. subst (λ (o : Option (Waiter T)). IsSome o) (sym (set.others q (other k q a))) (placed.full k q (was k q a));
    numbered = λ q v a. numbered q v a (cases_eq q p);
  }
    where
      not_own : (k q : ℕ) → lookup (nat_eq k) new.places ≡ Some q → (b : Bool) → nat_eq k n ≡ b → nat_eq k n ≡ false
      not_own k q a true e = absurd (cc (sym a ∙ place_own old.places new.places n k None move e))
      not_own k q a false e = e

      was : (k q : ℕ) → lookup (nat_eq k) new.places ≡ Some q → lookup (nat_eq k) old.places ≡ Some q
      was k q a = sym (place_other old.places new.places n k None move (not_own k q a (nat_eq k n) refl)) ∙ a

      other : (k q : ℕ) → lookup (nat_eq k) new.places ≡ Some q → q ≢ p
      other k q a same = absurd (cc (sym (not_own k q a (nat_eq k n) refl) ∙ ap (λ j. nat_eq j n) (placed.apart k n p (was k q a ∙ ap (λ x. Some x) same) at) ∙ self_number n))

      kept : (v : Waiter T) (q : ℕ) → q ≢ p → lookup (nat_eq v.number) old.places ≡ Some q → (b : Bool) → nat_eq v.number n ≡ b → lookup (nat_eq v.number) new.places ≡ Some q
      kept v q apart there true e =
          let places : Some q ≡ Some p = sym there ∙ ap (λ j. lookup (nat_eq j) old.places) (eqb-true v.number n e) ∙ at in
          absurd (apart (cc places))
      kept v q apart there false e = place_other old.places new.places n v.number None move e ∙ there

      numbered : (q : ℕ) (v : Waiter T) → slot_at new.slots q ≡ Some v → ((q ≡ p) ⊎ (q ≢ p)) → lookup (nat_eq v.number) new.places ≡ Some q
      numbered q v a (inl same) = absurd (cc (sym a ∙ ap (slot_at new.slots) same ∙ set.here))
      numbered q v a (inr apart) = kept v q apart (placed.numbered q v (sym (set.others q apart) ∙ a)) (nat_eq v.number n) refl

  -- the slots, one of which was emptied
  pub slots_taken : (old new : List (Option (Waiter T))) (p : ℕ) (r : Option (Waiter T)) → IsSlotSet old new p None → slot_at old p ≡ r
      → (q : ℕ) → (slot_at new q ≡ slot_at old q) ⊎ ((slot_at new q ≡ None) × (slot_at old q ≡ r))
  slots_taken old new p r set was q = go (cases_eq q p)
    where
      go : ((q ≡ p) ⊎ (q ≢ p)) → (slot_at new q ≡ slot_at old q) ⊎ ((slot_at new q ≡ None) × (slot_at old q ≡ r))
      go (inl same) = inr (ap (slot_at new) same ∙ set.here, ap (slot_at old) same ∙ was)
      go (inr apart) = inl (set.others q apart)

  -- where a waiter is found
  pub found_at : (h : Held T) (k : ℕ) (w : Waiter T) → found h k ≡ Some w → (p : ℕ) × (lookup (nat_eq k) h.places ≡ Some p) × (slot_at h.slots p ≡ Some w)
  found_at h k w there = go (lookup (nat_eq k) h.places) refl
    where
      go : (o : Option ℕ) → lookup (nat_eq k) h.places ≡ o → (p : ℕ) × (lookup (nat_eq k) h.places ≡ Some p) × (slot_at h.slots p ≡ Some w)
      go None e = absurd (cc (sym there ∙ ap (λ (o : Option ℕ). option_and_then (λ place. slot_at h.slots place) o) e))
      go (Some p) e = (p, e, sym (ap (λ (o : Option ℕ). option_and_then (λ place. slot_at h.slots place) o) e) ∙ there)

  -- ---- a need less

  -- the slots, one of which has a need less
  pub slots_struck : (old new : List (Option (Waiter T))) (p : ℕ) (before after : Waiter T) → slot_at old p ≡ Some before → IsSlotSet old new p (Some after) → after ≡ struck_by 1 before
      → (q : ℕ) → slot_at new q ≡ (if q == p then option_map (struck_by 1) (slot_at old q) else slot_at old q)
  slots_struck old new p before after was set less q = go (nat_eq q p) refl
    where
      go : (b : Bool) → nat_eq q p ≡ b → slot_at new q ≡ (if q == p then option_map (struck_by 1) (slot_at old q) else slot_at old q)
      go true e =
          let same = eqb-true q p e in
          ap (slot_at new) same ∙ set.here ∙ ap (λ (w : Waiter T). Some w) less
          ∙ sym (ap (λ (b : Bool). if b then option_map (struck_by 1) (slot_at old q) else slot_at old q) e ∙ ap (λ (o : Option (Waiter T)). option_map (struck_by 1) o) (ap (slot_at old) same ∙ was))
      go false e =
          set.others q (λ same. absurd (cc (sym e ∙ ap (λ j. nat_eq j p) same ∙ self_number p)))
          ∙ sym (ap (λ (b : Bool). if b then option_map (struck_by 1) (slot_at old q) else slot_at old q) e)

  pub slots_unstruck : (slots : List (Option (Waiter T))) (p : ℕ) → slot_at slots p ≡ None → (q : ℕ) → slot_at slots q ≡ (if q == p then option_map (struck_by 1) (slot_at slots q) else slot_at slots q)
  slots_unstruck slots p none q = go (nat_eq q p) refl
    where
      go : (b : Bool) → nat_eq q p ≡ b → slot_at slots q ≡ (if q == p then option_map (struck_by 1) (slot_at slots q) else slot_at slots q)
      go true e =
          let here : slot_at slots q ≡ None = ap (slot_at slots) (eqb-true q p e) ∙ none in
          here ∙ sym (ap (λ (b : Bool). if b then option_map (struck_by 1) (slot_at slots q) else slot_at slots q) e ∙ ap (λ (o : Option (Waiter T)). option_map (struck_by 1) o) here)
      go false e = sym (ap (λ (b : Bool). if b then option_map (struck_by 1) (slot_at slots q) else slot_at slots q) e)

  pub placed_struck : (old new : Held T) (p : ℕ) (before after : Waiter T) → ArePlaced old.places old.slots → new.places ≡ old.places → slot_at old.slots p ≡ Some before → IsSlotSet old.slots new.slots p (Some after)
      → after ≡ struck_by 1 before → ArePlaced new.places new.slots
  placed_struck old new p before after placed same was set less = record {
    apart = λ j k q a b. placed.apart j k q (sym (ap (lookup (nat_eq j)) same) ∙ a) (sym (ap (lookup (nat_eq k)) same) ∙ b);
    full = λ k q a. full q (placed.full k q (sym (ap (lookup (nat_eq k)) same) ∙ a)) (cases_eq q p);
    numbered = λ q v a. ap (lookup (nat_eq v.number)) same ∙ numbered q v a (cases_eq q p);
  }
    where
      some : IsSome (Some after)
      some = search rules

      full : (q : ℕ) → IsSome (slot_at old.slots q) → ((q ≡ p) ⊎ (q ≢ p)) → IsSome (slot_at new.slots q)
      full q there (inl e) = subst (λ (o : Option (Waiter T)). IsSome o) (sym (ap (slot_at new.slots) e ∙ set.here)) some
      full q there (inr ne) = subst (λ (o : Option (Waiter T)). IsSome o) (sym (set.others q ne)) there

      numbered : (q : ℕ) (v : Waiter T) → slot_at new.slots q ≡ Some v → ((q ≡ p) ⊎ (q ≢ p)) → lookup (nat_eq v.number) old.places ≡ Some q
      numbered q v a (inl e) =
          let it : Some v ≡ Some after = sym a ∙ ap (slot_at new.slots) e ∙ set.here in
          let one : v ≡ after = cc it in
          let number : v.number ≡ before.number = ap (λ (x : Waiter T). x.number) (one ∙ less) in
          ap (λ j. lookup (nat_eq j) old.places) number ∙ placed.numbered p before was ∙ ap (λ x. Some x) (sym e)
      numbered q v a (inr ne) = placed.numbered q v (sym (set.others q ne) ∙ a)

  module _ (old new : Held T) (p : ℕ) (before after : Waiter T) (placed : ArePlaced old.places old.slots) (same : new.places ≡ old.places) (was : slot_at old.slots p ≡ Some before)
      (set : IsSlotSet old.slots new.slots p (Some after)) (less : after ≡ struck_by 1 before) where
    at : lookup (nat_eq before.number) old.places ≡ Some p
    at = placed.numbered p before was

    -- what is said of the waiter's number
    old_here : ready_at old before.number ≡ Some (is_over before)
    old_here = at_known (λ _ w. is_over w) old before.number p before at was

    new_here : ready_at new before.number ≡ Some (before.left - 1 == 0)
    new_here = at_known (λ _ w. is_over w) new before.number p after (ap (lookup (nat_eq before.number)) same ∙ at) set.here ∙ ap (λ (w : Waiter T). Some (is_over w)) less

    -- and of the others
    others_stay : (k : ℕ) → k ≢ before.number → ready_at new k ≡ ready_at old k
    others_stay k apart =
        at_other (λ _ w. is_over w) old new k (ap (lookup (nat_eq k)) same)
        (λ q there. set.others q (λ one. apart (placed.apart k before.number p (there ∙ ap (λ x. Some x) one) at)))

    -- it was the last need
    pub struck_last : (r : Option ℕ) → r ≡ (if before.left == 1 then Some before.number else None) → IfSome r (λ number. HasBecome (ready_at old) (ready_at new) number)
    struck_last None is = tt
    struck_last (Some x) is = go (before.left == 1) refl is
      where
        go : (b : Bool) → (before.left == 1) ≡ b → Some x ≡ (if before.left == 1 then Some before.number else None) → HasBecome (ready_at old) (ready_at new) x
        go true e is =
            let it : Some x ≡ Some before.number = is ∙ ap (λ (b : Bool). if b then Some before.number else None) e in
            let one : x ≡ before.number = cc it in
            let left : before.left ≡ 1 = eqb-true before.left 1 e in
            subst (λ (k : ℕ). HasBecome (ready_at old) (ready_at new) k) (sym one) (record {
              was = old_here ∙ ap (λ (l : ℕ). Some (l == 0)) left;
              here = new_here ∙ ap (λ (l : ℕ). Some (l - 1 == 0)) left;
              others = others_stay;
            })
        go false e is = absurd (cc (is ∙ ap (λ (b : Bool). if b then Some before.number else None) e))

    -- it wasn't
    pub struck_same : (r : Option ℕ) → r ≡ (if before.left == 1 then Some before.number else None) → IfNone r ((k : ℕ) → ready_at new k ≡ ready_at old k)
    struck_same (Some x) is = tt
    struck_same None is = λ k. by k (cases_eq k before.number)
      where
        level : (l : ℕ) → (l == 1) ≡ false → (l - 1 == 0) ≡ (l == 0)
        level l e = grind (arith, nat_tests, e)

        not_one : (b : Bool) → (before.left == 1) ≡ b → None ≡ (if before.left == 1 then Some before.number else None) → (before.left == 1) ≡ false
        not_one true e is = absurd (cc (is ∙ ap (λ (b : Bool). if b then Some before.number else None) e))
        not_one false e is = e

        by : (k : ℕ) → ((k ≡ before.number) ⊎ (k ≢ before.number)) → ready_at new k ≡ ready_at old k
        by k (inl one) =
            ap (ready_at new) one ∙ new_here ∙ ap (λ (b : Bool). Some b) (level before.left (not_one (before.left == 1) refl is)) ∙ sym old_here ∙ sym (ap (ready_at old) one)
        by k (inr apart) = others_stay k apart
