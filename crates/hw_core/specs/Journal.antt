-- A node's journal, and where in it evidence and endorsements stand.
use Rattle.std.specs.Prelude.{◌≡◌, ℕ, Bool, false, List, [], ◌∷◌, ◌++◌, map, filter, Option, Some, None, slice_get, if◌then◌else◌}
use Rattle.std.specs.Map.{lookup}
use Rattle.std.specs.Option.{option_map_or, unwrap_or}
use Rattle.hw_types.specs.declared.unit.Need.{Need}
use Rattle.hw_types.specs.declared.unit.Need.TheVariants as need
use Rattle.hw_types.specs.declared.unit.Vertex.{Vertex}
use Rattle.hw_types.specs.declared.unit.Vertex.TheVariants as vertex
use Rattle.hw_types.specs.Settled.{need_eq}
use Rattle.hw_park.specs.declared.key.NeedKey.{NeedKey}
use Rattle.hw_park.specs.Keys.{key_of, ties}

-- the vertices, and for how many in all there is room
pub record JournalState : Type 0 where
  pub items : List Vertex
  pub capacity : ℕ

-- the need of which a vertex tells: evidence against its creator, or an endorsement of its unit
abbrev pub told_need : Vertex → Option Need
told_need (vertex.Unit u) = None
told_need (vertex.Evidence e) = Some (need.Evidence e.left.unit.creator)
told_need (vertex.Endorsement e) = Some (need.Endorsed e.unit)

-- the vertex tells of this need
abbrev pub tells : Need → Vertex → Bool
tells n v = option_map_or (need_eq n) (told_need v) false

-- places, and one that may stand last
abbrev pub with_last : List ℕ → Option ℕ → List ℕ
with_last earlier None = earlier
with_last earlier (Some last) = earlier ++ last ∷ []

-- the places that stand under a need
abbrev pub places_at : List (NeedKey × List ℕ) → Need → List ℕ
places_at told n = unwrap_or (lookup (ties (key_of n)) told) []

-- under each need the table has the places of the vertices that tell of it, in their order
abbrev pub AreTold : List Vertex → List (NeedKey × List ℕ) → Type 0
AreTold journal told = (n : Need) → map (slice_get journal) (places_at told n) ≡ map Some (filter (tells n) journal)

-- under each need stand the same places
abbrev pub HasSamePlaces : List (NeedKey × List ℕ) → List (NeedKey × List ℕ) → Type 0
HasSamePlaces old new = (n : Need) → places_at new n ≡ places_at old n

-- under this need one place more stands last
abbrev pub HasOnePlaceMore : List (NeedKey × List ℕ) → List (NeedKey × List ℕ) → Need → ℕ → Type 0
HasOnePlaceMore old new m place = (n : Need) → places_at new n ≡ places_at old n ++ (if need_eq n m then place ∷ [] else [])
