-- Two chains of decided blocks, side by side.
use Rattle.std.specs.Prelude.{ℕ, not, List, Option, Some, None, position, slice_get}
use Rattle.std.specs.List.{zip}
use Rattle.std.specs.Option.{option_and_then}
use Rattle.hw_types.specs.declared.unit.Digest.{Digest}
use Rattle.hw_types.specs.Graph.{digest_eq}
use Rattle.hw_audit.specs.declared.chains.Parting.{Parting}

-- the least height at which both have a block and the two differ
abbrev pub first_apart : List Digest → List Digest → Option ℕ
first_apart left right = position (λ (p : Digest × Digest). not (digest_eq p.0 p.1)) (zip left right)

-- a height with the block of each chain there
abbrev pub parting_at : ℕ → Option Digest → Option Digest → Option Parting
parting_at height (Some l) (Some r) = Some (record { height = height; left = l; right = r })
parting_at height None r = None
parting_at height (Some l) None = None

-- where the two part first
abbrev pub parting_of : List Digest → List Digest → Option Parting
parting_of left right = option_and_then (λ height. parting_at height (slice_get left height) (slice_get right height)) (first_apart left right)
