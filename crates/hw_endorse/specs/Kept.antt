-- What is kept: the endorsers of each unit, what they weigh, and the units for which that is enough.
use Rattle.std.specs.Prelude.{◌≡◌, ℕ, ◌*◌, ◌^◌, ◌<◌, ◌==◌, Bool, nat_lt, List, [], map, sum}
use Rattle.std.specs.List.{list_any, flat_map}
use Rattle.std.specs.Map.{lookup, keys_of}
use Rattle.std.specs.Option.{option_map_or}
use Rattle.hw_types.specs.declared.unit.Digest.{Digest}
use Rattle.hw_types.specs.Graph.{digest_eq}
use Rattle.hw_types.specs.Votes.{weight_of}
use Rattle.hw_endorse.specs.declared.tally.Endorsers.{Endorsers}
use Rattle.hw_endorse.specs.Told.{Told, in_order, is_told}

-- the validator is one of these
abbrev pub is_one : List ℕ → ℕ → Bool
is_one who v = list_any (λ w. w == v) who

-- the endorsers of a unit
abbrev pub who_in : List (Digest × Endorsers) → Digest → List ℕ
who_in tallies d = option_map_or (λ e. e.who.items) (lookup (digest_eq d) tallies) []

-- each unit with each of its endorsers
abbrev pub pairs_in : List (Digest × Endorsers) → List (Digest × ℕ)
pairs_in tallies = flat_map (λ d. map (λ v. (d, v)) (who_in tallies d)) (keys_of tallies)

-- what the pairs stand for
abbrev pub told_by : List ℕ → List (Digest × ℕ) → Told
told_by weights pairs = record { weights = weights; pairs = in_order pairs }

-- the weight of a unit's endorsers
abbrev pub weight_in : List (Digest × Endorsers) → Digest → ℕ
weight_in tallies d = option_map_or (λ e. e.weight) (lookup (digest_eq d) tallies) 0

-- the endorsers of a unit weigh more than half of the total
abbrev pub is_heavy : ℕ → List (Digest × Endorsers) → Digest → Bool
is_heavy total tallies d = nat_lt total (2 * weight_in tallies d)

-- the unit is listed
abbrev pub is_listed : List Digest → Digest → Bool
is_listed units d = list_any (digest_eq d) units

-- exactly the units are listed whose endorsers weigh more than half of the total
abbrev pub AreListed : ℕ → List (Digest × Endorsers) → List Digest → Type 0
AreListed total tallies units = (d : Digest) → is_listed units d ≡ is_heavy total tallies d

-- the weights of units are those of the pairs, and the list is that of these weights
pub record IsKept (weights : List ℕ) (total : ℕ) (pairs : List (Digest × ℕ)) (tallies : List (Digest × Endorsers)) (endorsed : List Digest) : Type 0 where
  pub total_is : total ≡ sum weights
  pub total_fits : total < 2 ^ 62
  pub weighed : (d : Digest) → weight_in tallies d ≡ weight_of weights (is_told pairs d)
  pub listed : AreListed total tallies endorsed
