-- Where what is defined stands: maps from a name, or from a digest, to a place.
-- For the prover: how look-ups are found fast. What they answer is in Names.
-- Source: ours.
use Rattle.std.specs.Prelude.{◌≡◌, ℕ, suc, Bool, List, [], ◌∷◌, Option, Some, None, if◌then◌else◌}
use Rattle.std.specs.Map.{lookup}
use Rattle.std.specs.Option.{unwrap_or, option_map}
use Rattle.std.specs.declared.cmp.Ordering.{Ordering}
use Rattle.std.specs.Ordering.{is_eq, nat_cmp}
use Rattle.std.specs.Cmp.Lexicographic.{slice_cmp}
use Rattle.std.specs.BTreeMap.{BTreeMap, get, Updates}
use Rattle.std.specs.declared.vec.Vec.{Vec}
use Rattle.std.specs.declared.alloc.Global.{Global}
use Rattle.hw_types.specs.declared.unit.Digest.{Digest}
use Rattle.hw_script_grammar.specs.declared.named.Named.{Named}
use Rattle.hw_script_grammar.specs.Words.{Word}
use Rattle.hw_script_grammar.specs.Names.{has_name, is_digest}

-- the place of the first that passes
abbrev pub place_of : {X : Type 0} → (X → Bool) → List X → Option ℕ
place_of p [] = None
place_of p (x ∷ xs) = if p x then Some 0 else option_map suc (place_of p xs)

-- the map has the place of the first definition under each name
abbrev pub KnowsNames : List (Vec ℕ Global × ℕ) → List Named → Type 0
KnowsNames places names = (w : Word) → lookup (λ k. is_eq (slice_cmp nat_cmp w k.items)) places ≡ place_of (has_name w) names

-- the map has the place of the first unit of each digest
abbrev pub KnowsDigests : List (Digest × ℕ) → List Named → Type 0
KnowsDigests places names = (d : Digest) → lookup (λ k. is_eq (slice_cmp nat_cmp d.0 k.0)) places ≡ place_of (λ n. is_digest d n.digest) names

-- the key has this place, unless it has one
abbrev pub HasNoted : {K : Type 0} → (K → K → Ordering) → BTreeMap K ℕ → BTreeMap K ℕ → K → ℕ → Type 0
HasNoted cmp old new key place = Updates cmp old new key (Some (unwrap_or (get cmp old key) place))

-- the same of a digest, if there is one
abbrev pub HasNotedDigest : BTreeMap Digest ℕ → BTreeMap Digest ℕ → Option Digest → ℕ → Type 0
HasNotedDigest old new None place = new.entries ≡ old.entries
HasNotedDigest old new (Some d) place = HasNoted (λ d e. slice_cmp nat_cmp d.0 e.0) old new d place
