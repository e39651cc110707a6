-- How a list of the first needs grows, need by need.
use Rattle.std.specs.Prelude.{ℕ, ◌||◌, nat_le, List, [], ◌∷◌, ◌++◌, length, if◌then◌else◌}
use Rattle.std.specs.List.{list_any, flat_map}
use Rattle.std.specs.Option.{option_map_or}
use Rattle.hw_types.specs.declared.unit.Need.{Need}
use Rattle.hw_types.specs.Settled.{need_eq}
use Rattle.hw_park.specs.Held.{Held, slot_at, left_of}

-- the list, and the need last, unless it is there or the list is as long as may be
abbrev pub with_first : ℕ → List Need → Need → List Need
with_first most ns n = if nat_le most (length ns) || list_any (λ m. need_eq m n) ns then ns else ns ++ n ∷ []

-- the list, and these one after the other
abbrev pub with_firsts : ℕ → List Need → List Need → List Need
with_firsts most ns [] = ns
with_firsts most ns (m ∷ ms) = with_firsts most (with_first most ns m) ms

-- the needs that the items in these places have left
abbrev pub needs_of_places : {T : Type 0} → Held T → (Need → List ℕ) → List ℕ → List Need
needs_of_places h notes places = flat_map (λ place. option_map_or (λ w. left_of notes place w.needs.items) (slot_at h.slots place) []) places
