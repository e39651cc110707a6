-- What is known of endorsements: pairs of a unit's digest and an endorser.
use Rattle.std.specs.Prelude.{◌≡◌, ℕ, ◌*◌, Bool, true, ◌&&◌, nat_lt, ◌==◌, List, [], ◌∷◌, ◌++◌, map, sum, if◌then◌else◌}
use Rattle.std.specs.List.{list_any}
use Rattle.hw_types.specs.declared.unit.Digest.{Digest}
use Rattle.hw_types.specs.Graph.{digest_eq}
use Rattle.hw_types.specs.Below.{Among}
use Rattle.hw_types.specs.Votes.{weight_of}
use Rattle.hw_types.specs.Journal.{pairs_of}
use Rattle.hw_endorse.specs.declared.Added.{Added}
use Rattle.hw_endorse.specs.declared.Added.TheVariants.{New, Repeat}

-- the weight of each validator, and the pairs that were told, each once and in one order
pub record Told : Type 0 where
  pub weights : List ℕ
  pub pairs : List (Digest × ℕ)

-- the pairs, each once and in one order
abbrev pub in_order : List (Digest × ℕ) → List (Digest × ℕ)
in_order pairs = map (λ e. e.1) (pairs_of pairs)

-- the pair is there
abbrev pub is_told : List (Digest × ℕ) → Digest → ℕ → Bool
is_told pairs d v = list_any (λ p. digest_eq p.0 d && (p.1 == v)) pairs

-- what becomes of a pair
abbrev pub added_of : List (Digest × ℕ) → Digest → ℕ → Added
added_of pairs d v = if is_told pairs d v then Repeat else New

-- one pair more, unless it is there
abbrev pub with_pair : List (Digest × ℕ) → Digest → ℕ → List (Digest × ℕ)
with_pair pairs d v = in_order (pairs ++ (d, v) ∷ [])

-- twice the weight of a unit's endorsers is more than the total
abbrev pub has_majority : Told → Digest → Bool
has_majority told d = nat_lt (sum told.weights) (2 * weight_of told.weights (is_told told.pairs d))

-- these are the units with a majority
pub record HaveMajority (told : Told) (units : List Digest) : Type 0 where
  pub right : (d : Digest) → Among d units → has_majority told d ≡ true
  pub all : (d : Digest) → has_majority told d ≡ true → Among d units
