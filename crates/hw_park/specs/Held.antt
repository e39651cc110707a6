-- The parked items, each in its place of the slab.
use Rattle.std.specs.Prelude.{◌≡◌, ◌≢◌, ℕ, ◌-◌, Bool, true, false, ◌==◌, List, ◌++◌, filter, Option, None, Some, IsSome, nat_eq, slice_index_or, if◌then◌else◌}
use Rattle.std.specs.Map.{lookup}
use Rattle.std.specs.Option.{option_map, option_and_then}
use Rattle.hw_types.specs.declared.unit.Need.{Need}
use Rattle.hw_park.specs.declared.waiter.Waiter.{Waiter}
use Rattle.hw_park.specs.Numbers.{has_number, numbers_more}
use Rattle.hw_park.specs.Parked.{Waiting}

-- the places of the numbers, and what stands in each place
pub record Held (T : Type 0) : Type 0 where
  pub places : List (ℕ × ℕ)
  pub slots : List (Option (Waiter T))

-- those of the needs for which the place is noted
abbrev pub left_of : (Need → List ℕ) → ℕ → List Need → List Need
left_of notes place needs = filter (λ n. has_number (notes n) place) needs

-- what the waiter in a place stands for
abbrev pub seen : {T : Type 0} → (Need → List ℕ) → ℕ → Waiter T → Waiting T
seen notes place w = record { needs = left_of notes place w.needs.items; item = w.item }

-- what stands in a place
abbrev pub slot_at : {T : Type 0} → List (Option (Waiter T)) → ℕ → Option (Waiter T)
slot_at slots place = slice_index_or slots place None

-- what is said of a place and the waiter in it, for the number whose place it is
abbrev pub at_number : {T X : Type 0} → (ℕ → Waiter T → X) → Held T → ℕ → Option X
at_number f h k = option_and_then (λ place. option_map (f place) (slot_at h.slots place)) (lookup (nat_eq k) h.places)

-- the waiter of a number, where it is parked
abbrev pub found : {T : Type 0} → Held T → ℕ → Option (Waiter T)
found h k = option_and_then (λ place. slot_at h.slots place) (lookup (nat_eq k) h.places)

-- the item of a number, where it is parked
abbrev pub held : {T : Type 0} → Held T → (Need → List ℕ) → ℕ → Option (Waiting T)
held h notes k = at_number (seen notes) h k

-- whether a waiter has no need left
abbrev pub is_over : {T : Type 0} → Waiter T → Bool
is_over w = w.left == 0

-- whether the item of a number has no need left, where it is parked
abbrev pub ready_at : {T : Type 0} → Held T → ℕ → Option Bool
ready_at h k = at_number (λ _ w. is_over w) h k

-- the waiter with so many needs less
abbrev pub struck_by : {T : Type 0} → ℕ → Waiter T → Waiter T
struck_by count w = record w { left = w.left - count }

-- no two numbers have one place, in each place that a number has there is a waiter, and each waiter stands in its number's place
pub record ArePlaced {T : Type 0} (places : List (ℕ × ℕ)) (slots : List (Option (Waiter T))) : Type 0 where
  pub apart : (j k place : ℕ) → lookup (nat_eq j) places ≡ Some place → lookup (nat_eq k) places ≡ Some place → j ≡ k
  pub full : (k place : ℕ) → lookup (nat_eq k) places ≡ Some place → IsSome (slot_at slots place)
  pub numbered : (place : ℕ) (w : Waiter T) → slot_at slots place ≡ Some w → lookup (nat_eq w.number) places ≡ Some place

-- what one place holds is another thing now, and each other place holds what it held
pub record IsSlotSet {T : Type 0} (old new : List (Option (Waiter T))) (place : ℕ) (slot : Option (Waiter T)) : Type 0 where
  pub here : slot_at new place ≡ slot
  pub others : (q : ℕ) → q ≢ place → slot_at new q ≡ slot_at old q

-- the waiter stands in a place that was free and that no number had, and the place is noted for its needs
pub record IsPutAt {T : Type 0} (old new : Held T) (was now : Need → List ℕ) (w : Waiter T) : Type 0 where
  pub place : ℕ
  pub free : slot_at old.slots place ≡ None
  pub slots : IsSlotSet old.slots new.slots place (Some w)
  pub ready : (k : ℕ) → ready_at new k ≡ (if k == w.number then Some (is_over w) else ready_at old k)
  pub items : (notes : Need → List ℕ) (k : ℕ) → held new notes k ≡ (if k == w.number then Some (seen notes place w) else held old notes k)
  pub noted : (n : Need) → now n ≡ was n ++ numbers_more w.needs.items n place

-- the item of one number has no need left, which it had, and each other is as it was
pub record HasBecome (old new : ℕ → Option Bool) (k : ℕ) : Type 0 where
  pub was : old k ≡ Some false
  pub here : new k ≡ Some true
  pub others : (j : ℕ) → j ≢ k → new j ≡ old j
