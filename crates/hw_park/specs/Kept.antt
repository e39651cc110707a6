-- What is kept for the parked items, by their numbers, and the list that it stands for.
use Rattle.std.specs.Prelude.{◌≡◌, ℕ, zero, suc, ◌≤◌, Bool, true, false, ◌==◌, nat_eq, List, [], ◌++◌, length, filter, count_by, Option, None, Some, if◌then◌else◌}
use Rattle.std.specs.Option.{option_map, option_map_or, option_to_list}
use Rattle.std.specs.declared.cmp.Reverse.{Reverse}
use Rattle.std.specs.Ordering.{nat_cmp}
use Rattle.std.specs.BinaryHeap.{IsHeap}
use Rattle.hw_types.specs.declared.unit.Need.{Need}
use Rattle.hw_types.specs.Settled.{need_eq}
use Rattle.hw_park.specs.declared.waiter.Waiter.{Waiter}
use Rattle.hw_park.specs.Numbers.{has_number}
use Rattle.hw_park.specs.Held.{Held, slot_at, left_of, held, ready_at}
use Rattle.hw_park.specs.Parked.{Waiting, Parked, is_ready, relieved}

-- the item, if there is one, which doesn't wait for this need
abbrev pub relieved_at : {T : Type 0} → Need → Option (Waiting T) → Option (Waiting T)
relieved_at n w = option_map (relieved n) w

-- there is an item, and it has no need left
abbrev pub is_ready_at : {T : Type 0} → Option (Waiting T) → Bool
is_ready_at w = option_map_or is_ready w false

-- the answer as it is
abbrev pub itself : Bool → Bool
itself answer = answer

-- there is an answer, and it is yes
abbrev pub is_so : Option Bool → Bool
is_so answer = option_map_or itself answer false

-- what there is at the numbers below, in order
unfoldable pub listed : {W : Type 0} → (ℕ → Option W) → ℕ → List W
listed at zero = []
listed at (suc n) = listed at n ++ option_to_list (at n)

-- how often the number is among the ready ones
abbrev pub tally_of : List (Reverse ℕ) → ℕ → ℕ
tally_of ready k = count_by (λ r. r.0 == k) ready

-- the ready numbers in the order in which they are handed out
abbrev pub IsQueue : List (Reverse ℕ) → Type 0
IsQueue ready = IsHeap (λ x y. nat_cmp y.0 x.0) ready

-- the ready numbers, so many and with this much room, are those below n for which the answer is yes
pub record IsQueueOf (at : ℕ → Option Bool) (n : ℕ) (ready : List (Reverse ℕ)) (len room : ℕ) : Type 0 where
  pub ordered : IsQueue ready
  pub once : (k : ℕ) → tally_of ready k ≡ (if is_so (at k) then 1 else 0)
  pub many : len ≡ count_by itself (listed at n)
  pub fits : length (listed at n) ≤ room
  pub below : (k : ℕ) → n ≤ k → at k ≡ None

-- how often the number is among these
abbrev pub times_at : List ℕ → ℕ → ℕ
times_at numbers k = length (filter (nat_eq k) numbers)

-- how often the need is among these
abbrev pub times_of : Need → List Need → ℕ
times_of n needs = length (filter (need_eq n) needs)

-- an empty place is noted for no need. Where a place is noted for a need of its waiter, it is noted as often as the waiter has it,
-- and the waiter has as many needs left as there are for which it is noted
pub record AreNoted {T : Type 0} (slots : List (Option (Waiter T))) (notes : Need → List ℕ) : Type 0 where
  pub empty : (place : ℕ) (n : Need) → slot_at slots place ≡ None → has_number (notes n) place ≡ false
  pub wholly : (place : ℕ) (w : Waiter T) (n : Need) → slot_at slots place ≡ Some w → has_number (notes n) place ≡ true → times_at (notes n) place ≡ times_of n w.needs.items
  pub counted : (place : ℕ) (w : Waiter T) → slot_at slots place ≡ Some w → w.left ≡ length (left_of notes place w.needs.items)

-- the tables belong together
pub record IsKept {T : Type 0} (limit count n : ℕ) (h : Held T) (notes : Need → List ℕ) (ready : List (Reverse ℕ)) (len room : ℕ) : Type 0 where
  pub counted : count ≡ length (listed (held h notes) n)
  pub within : count ≤ limit
  pub noted : AreNoted h.slots notes
  pub queue : IsQueueOf (ready_at h) n ready len room

-- what the tables stand for
abbrev pub parked_by : {T : Type 0} → ℕ → ℕ → Held T → (Need → List ℕ) → Parked T
parked_by limit n waiters notes = record { limit = limit; waiting = listed (held waiters notes) n }
