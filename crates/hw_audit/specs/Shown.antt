-- Culprits, as they are shown.
use Rattle.std.specs.Prelude.{◌≡◌, ℕ, List, map, filter, sum_by, slice_index, Some, All}
use Rattle.std.specs.List.{range_with_len}
use Rattle.hw_types.specs.declared.answers.Culprit.{Culprit}
use Rattle.hw_types.specs.Graph.{Node}
use Rattle.hw_types.specs.Below.{Among}
use Rattle.hw_types.specs.Spelling.{signed_bytes}
use Rattle.hw_types.specs.Culprits.{pair_of}
use Rattle.hw_audit.specs.declared.culprits.Blamed.{Blamed}
use Rattle.hw_audit.specs.Held.{HeldUnit, node_held}
use Rattle.hw_audit.specs.Twins.{PairUnits}
use Rattle.hw_safety.specs.Pairs.{is_culprit}

-- the validator with the bytes of its pair
abbrev pub shown_as : ℕ → PairUnits → Culprit
shown_as v p = record { validator = v; first = signed_bytes p.first.signed; second = signed_bytes p.second.signed }

-- the culprit is shown by its pair among these nodes, with the signatures of these units
pub record IsShownBy (hs : List HeldUnit) (xs : List Node) (c : Culprit) : Type 0 where
  pub pair : PairUnits
  pub pair_is : pair_of xs c.validator ≡ Some (node_held pair.first, node_held pair.second)
  pub first_in : Among pair.first hs
  pub second_in : Among pair.second hs
  pub culprit_is : c ≡ shown_as c.validator pair

-- the culprits among the first validators
abbrev pub first_culprits : List Node → ℕ → List ℕ
first_culprits xs count = filter (is_culprit xs) (range_with_len 0 count)

-- all culprits among the first validators are shown, in their order, and the weight is theirs
pub record ShowsFirst (hs : List HeldUnit) (xs : List Node) (weights : List ℕ) (count : ℕ) (b : Blamed) : Type 0 where
  pub validators_are : map (λ (c : Culprit). c.validator) b.culprits ≡ first_culprits xs count
  pub each : All (IsShownBy hs xs) b.culprits
  pub weight_is : b.weight ≡ sum_by (λ v. slice_index weights v) (first_culprits xs count)
