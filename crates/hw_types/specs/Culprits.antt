-- Who equivocated, over two journals.
-- Source: Highway; which pair shows a culprit is ours.
use Rattle.hw_types.specs.Below.{Among}
use Rattle.std.specs.Prelude.{◌≡◌, ℕ, Bool, true, ◌&&◌, ◌||◌, not, nat_lt, ◌==◌, List, [], ◌∷◌, ◌++◌, filter, flat_map, map, Option, Some, None, All, if◌then◌else◌}
use Rattle.std.specs.List.{list_any}
use Rattle.std.specs.Option.{option_map, option_and_then}
use Rattle.hw_types.specs.declared.unit.Vertex.{Vertex}
use Rattle.hw_types.specs.declared.unit.Vertex.TheVariants as vertex
use Rattle.hw_types.specs.declared.unit.SignedUnit.{SignedUnit}
use Rattle.hw_types.specs.declared.answers.Culprit.{Culprit}
use Rattle.std.specs.Ordering.{is_lt}
use Rattle.hw_types.specs.Graph.{bytes_cmp, Node, digest_eq, digest_lt}
use Rattle.hw_types.specs.Settled.{settled_of, validators}
use Rattle.hw_types.specs.Same.{unit_eq}
use Rattle.hw_types.specs.Journal.{Setting, named, received_of}
use Rattle.hw_types.specs.Spelling.{unit_bytes, signed_bytes}

-- the two units of each evidence
abbrev pub evidence_units : Setting → List Vertex → List Node
evidence_units s [] = []
evidence_units s (vertex.Evidence e ∷ vs) = named s e.left.unit ∷ named s e.right.unit ∷ evidence_units s vs
evidence_units s (vertex.Unit u ∷ vs) = evidence_units s vs
evidence_units s (vertex.Endorsement e ∷ vs) = evidence_units s vs

-- the units that a journal shows: those it settles, and those of its evidence
abbrev pub shown_in : Setting → List Vertex → List Node
shown_in s journal = settled_of s.config (received_of s journal) ++ evidence_units s journal

-- the units that one of two journals shows
abbrev pub shown_in_either : Setting → List Vertex → List Vertex → List Node
shown_in_either s left right = shown_in s left ++ shown_in s right

-- ---- the pair that shows it: the least number, and there the two first units

-- the least sequence number of these units, or the one that was found so far
abbrev pub least_seq : Option ℕ → List Node → Option ℕ
least_seq found [] = found
least_seq None (x ∷ xs) = least_seq (Some x.unit.seq) xs
least_seq (Some n) (x ∷ xs) = least_seq (if nat_lt x.unit.seq n then Some x.unit.seq else Some n) xs

-- the units of v that have another of their number
abbrev pub equivocations_of : List Node → ℕ → List Node
equivocations_of xs v = filter (λ x. (x.unit.creator == v) && list_any (λ y. (y.unit.creator == v) && (y.unit.seq == x.unit.seq) && not (unit_eq x.unit y.unit)) xs) xs

-- those of these units that have the number
abbrev pub at_seq : Option ℕ → List Node → List Node
at_seq None xs = []
at_seq (Some n) xs = filter (λ x. x.unit.seq == n) xs

-- by name, then by spelling
abbrev pub stands_before : Node → Node → Bool
stands_before x y = digest_lt x.digest y.digest || (digest_eq x.digest y.digest && is_lt (bytes_cmp (unit_bytes x.unit) (unit_bytes y.unit)))

-- the first of these units in that order, or the one that was found so far
abbrev pub first_unit : Option Node → List Node → Option Node
first_unit found [] = found
first_unit None (x ∷ xs) = first_unit (Some x) xs
first_unit (Some y) (x ∷ xs) = first_unit (if stands_before x y then Some x else Some y) xs

-- the first unit, and the first that is another unit
abbrev pub first_two : List Node → Option (Node × Node)
first_two xs = option_and_then (λ x. option_map (λ y. (x, y)) (first_unit None (filter (λ y. not (unit_eq x.unit y.unit)) xs))) (first_unit None xs)

-- the two units that show the validator: at its least number with two different units, the first two
unfoldable pub pair_of : List Node → ℕ → Option (Node × Node)
pair_of xs v = first_two (at_seq (least_seq None (equivocations_of xs v)) (equivocations_of xs v))

-- the culprits in rising order
unfoldable pub culprits_of : Setting → List Vertex → List Vertex → List ℕ
culprits_of s left right = filter (λ v. list_any (λ x. true) (equivocations_of (shown_in_either s left right) v)) (validators s.config)

-- the signed unit stands in the journal
abbrev pub signed_in : Vertex → List SignedUnit
signed_in (vertex.Unit u) = u ∷ []
signed_in (vertex.Evidence e) = e.left ∷ e.right ∷ []
signed_in (vertex.Endorsement e) = []

-- the bytes are those of the unit with a signature under which it stands in the journal
abbrev pub SignedAs : List Vertex → Node → List ℕ → Type 0
SignedAs journal x bytes = (u : SignedUnit) × Among u (flat_map signed_in journal) × (u.unit ≡ x.unit) × (bytes ≡ signed_bytes u)

-- a culprit is shown by the bytes of its pair
pub record IsShown (s : Setting) (left right : List Vertex) (c : Culprit) : Type 0 where
  pub first : Node
  pub second : Node
  pub pair : pair_of (shown_in_either s left right) c.validator ≡ Some (first, second)
  pub first_bytes : SignedAs (left ++ right) first c.first
  pub second_bytes : SignedAs (left ++ right) second c.second

-- the culprits of two journals in rising order, each with its pair
pub record AreCulprits (s : Setting) (left right : List Vertex) (cs : List Culprit) : Type 0 where
  pub validators_are : map (λ c. c.validator) cs ≡ culprits_of s left right
  pub each : All (IsShown s left right) cs
