-- What is parked, and what becomes of it.
-- Source: ours.
use Rattle.std.specs.Prelude.{ℕ, Bool, not, ◌==◌, List, [], ◌∷◌, map, filter, find, length, Option, if◌then◌else◌}
use Rattle.std.specs.List.{flat_map}
use Rattle.std.specs.Option.{option_map}
use Rattle.hw_types.specs.declared.unit.Need.{Need}
use Rattle.hw_types.specs.Settled.{need_eq, distinct}

-- an item with the needs that it has left
pub record Waiting (T : Type 0) : Type 0 where
  pub needs : List Need
  pub item : T

-- how many may be parked, and what is parked, in the order of parking
pub record Parked (T : Type 0) : Type 0 where
  pub limit : ℕ
  pub waiting : List (Waiting T)

-- the needs but for this one
abbrev pub without_need : Need → List Need → List Need
without_need n needs = filter (λ m. not (need_eq n m)) needs

-- the item, which doesn't wait for this need
abbrev pub relieved : {T : Type 0} → Need → Waiting T → Waiting T
relieved n w = record { needs = without_need n w.needs; item = w.item }

-- all items, none of which waits for this need
abbrev pub struck : {T : Type 0} → Need → List (Waiting T) → List (Waiting T)
struck n waiting = map (relieved n) waiting

-- the item has no need left
abbrev pub is_ready : {T : Type 0} → Waiting T → Bool
is_ready w = length w.needs == 0

-- the first item that has no need left
abbrev pub next_item : {T : Type 0} → List (Waiting T) → Option T
next_item waiting = option_map (λ w. w.item) (find is_ready waiting)

-- the others, in their order
abbrev pub without_next : {T : Type 0} → List (Waiting T) → List (Waiting T)
without_next [] = []
without_next (w ∷ ws) = if is_ready w then ws else w ∷ without_next ws

-- the needs that the items have left, those of the longest parked first, each at its first place alone
abbrev pub awaited : {T : Type 0} → List (Waiting T) → List Need
awaited waiting = distinct (flat_map (λ w. w.needs) waiting)
