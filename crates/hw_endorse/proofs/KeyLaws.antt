-- Laws of what ordered sets and maps answer of digests.
use Rattle.std.proofs.Common.{◌≡◌, List, Ordering}
use Rattle.std.specs.Ordering.{is_eq, nat_cmp}
use Rattle.std.specs.Cmp.Lexicographic.{slice_cmp}
use Rattle.std.specs.List.{list_any}
use Rattle.std.specs.Map.{lookup}
use Rattle.std.proofs.lemmas.Map.Text.{is_eq-slice_cmp}
use Rattle.hw_types.specs.declared.unit.Digest.{Digest}
use Rattle.hw_types.specs.Graph.{digest_eq}
use Rattle.hw_endorse.specs.Kept.{is_listed}

-- the order of digests
abbrev pub order : Digest → Digest → Ordering
order d e = slice_cmp nat_cmp d.0 e.0

-- digests tie where they are equal
pub tie : (d e : Digest) → is_eq (order d e) ≡ digest_eq d e
tie d e = is_eq-slice_cmp d.0 e.0

-- what a map has at a digest
pub looked_up : {X : Type 0} (tallies : List (Digest × X)) (d : Digest) → lookup (λ e. is_eq (order d e)) tallies ≡ lookup (digest_eq d) tallies
looked_up tallies d = λ i. lookup (λ e. tie d e i) tallies

-- whether a set has a digest
pub listed_found : (units : List Digest) (d : Digest) → list_any (λ e. is_eq (order d e)) units ≡ is_listed units d
listed_found units d = λ i. list_any (λ e. tie d e i) units
