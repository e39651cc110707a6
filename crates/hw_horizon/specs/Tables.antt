-- Pruning over tables: for each validator its start, or none.
use Rattle.std.specs.Prelude.{◌≡◌, ℕ, zero, suc, Bool, true, ◌&&◌, nat_le, ◌==◌, List, length, map, Option, None, is_some, slice_index_or, if◌then◌else◌}
use Rattle.std.specs.List.{list_any, range_with_len}
use Rattle.hw_types.specs.declared.unit.Obs.{Obs}
use Rattle.hw_types.specs.Graph.{Node, latest, past}
use Rattle.hw_types.specs.Votes.{weight_of}
use Rattle.hw_safety.specs.Pruned.{begun, or_zero, vote_start}

-- for each validator its start, where it is in the committee
abbrev pub Starts : Type 0
Starts = List (Option ℕ)

-- the start of a validator
abbrev pub entry : Starts → ℕ → Option ℕ
entry table v = slice_index_or table v None

-- the validator is in the committee
abbrev pub is_member : Starts → ℕ → Bool
is_member table v = is_some (entry table v)

-- the two committees have the same members
abbrev pub SameMembers : Starts → Starts → Type 0
SameMembers s t = (v : ℕ) → is_some (entry s v) ≡ is_some (entry t v)

-- each member of the one is a member of the other
abbrev pub AreAmong : Starts → Starts → Type 0
AreAmong s t = (v : ℕ) → is_some (entry s v) ≡ true → is_some (entry t v) ≡ true

-- the validator is present, and among the units below there is one of it from its start of the level below on
abbrev pub is_seen : List Node → Starts → Starts → ℕ → Bool
is_seen below lower present v = is_some (entry present v) && list_any (λ y. (y.unit.creator == v) && nat_le (or_zero (entry lower v)) y.unit.seq) below

-- where a slot's lane goes over to units that see a quorum of those present
abbrev pub start_over : List ℕ → List Node → List Obs → ℕ → Starts → Starts → ℕ → Option ℕ
start_over weights units panorama quorum lower present v =
    begun units (or_zero (entry lower v)) (λ x. nat_le quorum (weight_of weights (is_seen (past units x.unit.panorama) lower present))) (latest units panorama v)

-- the starts of those present, over those present
unfoldable pub next_table : List ℕ → List Node → List Obs → ℕ → Starts → Starts → Starts
next_table weights units panorama quorum lower present =
    map (λ v. if is_some (entry present v) then start_over weights units panorama quorum lower present v else None) (range_with_len 0 (length weights))

-- the same so many times
unfoldable pub table_after : ℕ → List ℕ → List Node → List Obs → ℕ → Starts → Starts
table_after zero weights units panorama quorum lower = lower
table_after (suc n) weights units panorama quorum lower = next_table weights units panorama quorum lower (table_after n weights units panorama quorum lower)

-- the table of a level: once more than there are validators is enough
unfoldable pub pruned_table : List ℕ → List Node → List Obs → Node → ℕ → ℕ → Starts
pruned_table weights units panorama block quorum zero = map (vote_start weights units panorama block) (range_with_len 0 (length weights))
pruned_table weights units panorama block quorum (suc level) =
    table_after (suc (length weights)) weights units panorama quorum (pruned_table weights units panorama block quorum level)
