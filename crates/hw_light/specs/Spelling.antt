-- The one byte string of each certificate.
-- Source: ours.
use Rattle.std.specs.Prelude.{ℕ, ◌≤◌, List, [], ◌∷◌, ◌++◌, length, codes}
use Rattle.std.specs.List.{All}
use Rattle.hw_types.specs.declared.unit.Vertex.{Vertex}
use Rattle.hw_types.specs.Spelling.{u32_bytes, counted, config_bytes, vertex_bytes, ConfigFits, VertexFits, IsSpelling}
use Rattle.hw_codec.specs.Ranges.{DigestInRange, ConfigInRange, VertexInRange}
use Rattle.hw_light.specs.declared.certificate.Certificate.{Certificate}

-- a text, with its length before it
abbrev pub part_bytes : List ℕ → List ℕ
part_bytes text = u32_bytes (length text) ++ text

-- a vertex, with its length before it
abbrev pub counted_vertex : Vertex → List ℕ
counted_vertex v = part_bytes (vertex_bytes v)

-- HWCT, the version 1, the configuration after its length, the block, how many vertices there are, and each of them
abbrev pub certificate_bytes : Certificate → List ℕ
certificate_bytes c = codes "HWCT" ++ (1 ∷ []) ++ part_bytes (config_bytes c.config) ++ c.block.0 ++ counted counted_vertex c.vertices

-- the configuration and each vertex keep the limits of their formats, and there are few enough vertices
pub record CertificateFits (c : Certificate) : Type 0 where
  pub config : ConfigFits c.config
  pub vertices : All VertexFits c.vertices
  pub count : length c.vertices ≤ 131072

-- the bytes spell the certificate
abbrev pub SpellsCertificate : List ℕ → Certificate → Type 0
SpellsCertificate = IsSpelling CertificateFits certificate_bytes

-- what the types of its fields hold
pub record CertificateInRange (c : Certificate) : Type 0 where
  pub config : ConfigInRange c.config
  pub block : DigestInRange c.block
  pub vertices : All VertexInRange c.vertices
