-- The one byte string of each value.
-- Source: ours.
use Rattle.std.specs.Prelude.{◌≡◌, ℕ, ◌<◌, ◌≤◌, ◌^◌, List, [], ◌∷◌, ◌++◌, length, Option, Some, None, IfSome}
use Rattle.std.specs.List.{flat_map}
use Rattle.std.specs.Int.{w32, w64, to_be_bytes}
use Rattle.sha2.specs.Sha256.{sha256}
use Rattle.hw_types.specs.declared.unit.Digest.{Digest}
use Rattle.hw_types.specs.declared.unit.Obs.{Obs}
use Rattle.hw_types.specs.declared.unit.Obs.TheVariants.{Absent, Correct, Faulty}
use Rattle.hw_types.specs.declared.unit.WireUnit.{WireUnit}
use Rattle.hw_types.specs.declared.unit.SignedUnit.{SignedUnit}
use Rattle.hw_types.specs.declared.unit.Vertex.{Vertex}
use Rattle.hw_types.specs.declared.unit.Vertex.TheVariants as vertex
use Rattle.hw_types.specs.declared.config.Config.{Config}
use Rattle.hw_types.specs.declared.config.Leaders.{Leaders}
use Rattle.hw_types.specs.declared.config.Leaders.TheVariants.{Table, Drawn}
use Rattle.hw_types.specs.declared.unit.Need.{Need}
use Rattle.hw_types.specs.declared.unit.Need.TheVariants as need
use Rattle.hw_types.specs.declared.answers.Frame.{Frame}
use Rattle.hw_types.specs.declared.answers.Frame.TheVariants as frame
use Rattle.hw_types.specs.Graph.{Node}

-- four bytes, the greatest first
abbrev pub u32_bytes : ℕ → List ℕ
u32_bytes n = to_be_bytes w32 n

-- eight bytes, the greatest first
abbrev pub u64_bytes : ℕ → List ℕ
u64_bytes n = to_be_bytes w64 n

-- how many, and then each
abbrev pub counted : {A : Type 0} → (A → List ℕ) → List A → List ℕ
counted bytes xs = u32_bytes (length xs) ++ flat_map bytes xs

-- a tag, and the digest where there is one
abbrev pub obs_bytes : Obs → List ℕ
obs_bytes Absent = 0 ∷ []
obs_bytes (Correct d) = 1 ∷ d.0
obs_bytes Faulty = 2 ∷ []

-- a flag, and the value where there is one
abbrev pub value_bytes : Option (List ℕ) → List ℕ
value_bytes None = 0 ∷ []
value_bytes (Some value) = 1 ∷ (u32_bytes (length value) ++ value)

-- the fields of a unit, in order
abbrev pub unit_bytes : WireUnit → List ℕ
unit_bytes u =
    u.instance.0 ++ u32_bytes u.creator ++ u64_bytes u.seq ++ u64_bytes u.time ++ (u.exponent ∷ [])
    ++ counted obs_bytes u.panorama ++ value_bytes u.value ++ counted (λ (d : Digest). d.0) u.endorsed

-- a unit and its signature
abbrev pub signed_bytes : SignedUnit → List ℕ
signed_bytes s = unit_bytes s.unit ++ s.signature.0

-- a kind, and the content
abbrev pub vertex_bytes : Vertex → List ℕ
vertex_bytes (vertex.Unit s) = 1 ∷ signed_bytes s
vertex_bytes (vertex.Evidence e) = 2 ∷ (signed_bytes e.left ++ signed_bytes e.right)
vertex_bytes (vertex.Endorsement e) = 3 ∷ (e.unit.0 ++ u32_bytes e.endorser ++ e.signature.0)

-- a tag, and the table or the key
abbrev pub leaders_bytes : Leaders → List ℕ
leaders_bytes (Table entries) = 0 ∷ counted u32_bytes entries
leaders_bytes (Drawn key) = 1 ∷ key

-- the version of a configuration, which says whether it has an end
abbrev pub end_version : Option ℕ → ℕ
end_version None = 1
end_version (Some n) = 2

-- the end, where there is one
abbrev pub end_bytes : Option ℕ → List ℕ
end_bytes None = []
end_bytes (Some n) = u64_bytes n

-- the fields of a configuration, in order
abbrev pub config_bytes : Config → List ℕ
config_bytes c =
    (end_version c.end ∷ []) ++ counted u64_bytes c.weights ++ u64_bytes c.ftt ++ (c.levels ∷ c.min_exponent ∷ c.max_exponent ∷ [])
    ++ leaders_bytes c.leaders ++ u32_bytes c.max_records ++ u32_bytes c.max_parked ++ end_bytes c.end

-- a tag, and what is needed
abbrev pub need_bytes : Need → List ℕ
need_bytes (need.Unit d) = 1 ∷ d.0
need_bytes (need.Evidence v) = 2 ∷ u32_bytes v
need_bytes (need.Endorsed d) = 3 ∷ d.0

-- a frame without its length
abbrev pub frame_bytes : Frame → List ℕ
frame_bytes (frame.Hello instance) = 1 ∷ instance.0
frame_bytes (frame.Vertex v) = 2 ∷ vertex_bytes v
frame_bytes (frame.Have n) = 3 ∷ u64_bytes n
frame_bytes (frame.Want needs) = 4 ∷ counted need_bytes needs
frame_bytes frame.Done = 5 ∷ []
frame_bytes (frame.Missing n) = 6 ∷ need_bytes n

-- ---- the limits of the format

-- the unit keeps the limits of its format
pub record Fits (u : WireUnit) : Type 0 where
  pub time : u.time < 2 ^ 63
  pub panorama : length u.panorama ≤ 1024
  pub value : IfSome u.value (λ value. length value ≤ 4096)
  pub endorsed : length u.endorsed ≤ 256

-- each unit of the vertex keeps them
abbrev pub VertexFits : Vertex → Type 0
VertexFits (vertex.Unit s) = Fits s.unit
VertexFits (vertex.Evidence e) = Fits e.left.unit × Fits e.right.unit
VertexFits (vertex.Endorsement e) = Unit {0}

-- the table is no longer than its format allows
abbrev pub LeadersFit : Leaders → Type 0
LeadersFit (Table entries) = length entries ≤ 4096
LeadersFit (Drawn key) = Unit {0}

-- the lists of the configuration are no longer than their format allows
pub record ConfigFits (c : Config) : Type 0 where
  pub weights : length c.weights ≤ 1024
  pub leaders : LeadersFit c.leaders

-- the content of the frame keeps the limits of its format
abbrev pub FrameFits : Frame → Type 0
FrameFits (frame.Hello instance) = Unit {0}
FrameFits (frame.Vertex v) = VertexFits v
FrameFits (frame.Have n) = Unit {0}
FrameFits (frame.Want needs) = length needs ≤ 256
FrameFits frame.Done = Unit {0}
FrameFits (frame.Missing n) = Unit {0}

-- ---- spellings

-- the bytes are the one spelling of the value, which keeps the limits of its format
pub record IsSpelling {A : Type 0} (KeepsLimits : A → Type 0) (spelling : A → List ℕ) (bytes : List ℕ) (x : A) : Type 0 where
  pub limits : KeepsLimits x
  pub is : bytes ≡ spelling x

-- the bytes spell the unit
abbrev pub SpellsUnit : List ℕ → WireUnit → Type 0
SpellsUnit = IsSpelling Fits unit_bytes

-- the bytes spell the vertex
abbrev pub SpellsVertex : List ℕ → Vertex → Type 0
SpellsVertex = IsSpelling VertexFits vertex_bytes

-- the bytes spell the configuration
abbrev pub SpellsConfig : List ℕ → Config → Type 0
SpellsConfig = IsSpelling ConfigFits config_bytes

-- the bytes spell the frame
abbrev pub SpellsFrame : List ℕ → Frame → Type 0
SpellsFrame = IsSpelling FrameFits frame_bytes

-- ---- names

-- names are digests of spellings
unfoldable pub digest_of : WireUnit → Digest
digest_of u = record { 0 = sha256 (unit_bytes u) }

-- the configuration's digest
unfoldable pub instance_of : Config → Digest
instance_of c = record { 0 = sha256 (config_bytes c) }

-- a unit under the digest of its spelling
abbrev pub node_of : WireUnit → Node
node_of u = record { digest = digest_of u; unit = u }
