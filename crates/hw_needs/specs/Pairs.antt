-- The pairs of settled units that were looked for, kept for the next need.
-- Source: ours.
use Rattle.std.specs.Prelude.{◌≡◌, ◌≢◌, ℕ, ◌<◌, ◌≤◌, List, length, Option, Some, None, IfSome, slice_index_or}
use Rattle.std.specs.Option.{option_map}
use Rattle.hw_types.specs.declared.unit.Need.{Need}
use Rattle.hw_types.specs.declared.unit.Need.TheVariants as need
use Rattle.hw_types.specs.Graph.{Node}
use Rattle.hw_types.specs.Culprits.{pair_of}
use Rattle.hw_types.specs.Real.{CoreState, settled_in}
use Rattle.hw_core.specs.Readers.{evidence_of}
use Rattle.hw_needs.specs.declared.pairs.PairNames.{PairNames}

-- the names of two units
abbrev pub names_of : Node × Node → PairNames
names_of pair = record { left = pair.0.digest; right = pair.1.digest }

-- these are the names of the two settled units that show that the validator equivocated
abbrev pub IsPairOf : CoreState → ℕ → PairNames → Type 0
IsPairOf c v names = option_map names_of (pair_of (settled_in c) v) ≡ Some names

-- each pair that is kept is that of its validator
abbrev pub ArePairs : CoreState → List (Option PairNames) → Type 0
ArePairs c pairs = (v : ℕ) → IfSome (slice_index_or pairs v None) (IsPairOf c v)

-- what was kept stays
abbrev pub StayKept : List (Option PairNames) → List (Option PairNames) → Type 0
StayKept old new = (v : ℕ) → IfSome (slice_index_or old v None) (λ names. slice_index_or new v None ≡ Some names)

-- the pair that shows the validator is kept, and none where it has no two settled units of one sequence number
abbrev pub IsPairKept : CoreState → ℕ → List (Option PairNames) → Type 0
IsPairKept c v pairs = slice_index_or pairs v None ≡ option_map names_of (pair_of (settled_in c) v)

-- it is, where the journal has no evidence against the validator, so that a pair is looked for
abbrev pub IsSoughtKept : CoreState → ℕ → List (Option PairNames) → Type 0
IsSoughtKept c v pairs = evidence_of c v ≡ None → IsPairKept c v pairs

-- after a need of evidence the pair that was looked for is kept
abbrev pub IsNeedKept : CoreState → Need → List (Option PairNames) → Type 0
IsNeedKept c (need.Unit d) pairs = Unit {0}
IsNeedKept c (need.Evidence v) pairs = IsSoughtKept c v pairs
IsNeedKept c (need.Endorsed d) pairs = Unit {0}

-- the pair of the validator has its place, and the others stay
pub record IsPut (old new : List (Option PairNames)) (v : ℕ) (names : PairNames) : Type 0 where
  pub own : v < length old → slice_index_or new v None ≡ Some names
  pub outside : length old ≤ v → new ≡ old
  pub others : (w : ℕ) → w ≢ v → slice_index_or new w None ≡ slice_index_or old w None
