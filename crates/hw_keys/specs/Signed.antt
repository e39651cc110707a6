-- What the keys of a test network sign, and the verdict on a vertex.
-- Source: ours, a stand-in for a signature scheme.
use Rattle.std.specs.Prelude.{ℕ, Bool, ◌&&◌, List, ◌++◌, codes, bytes_eq, slice_get}
use Rattle.sha2.specs.Sha256.{sha256}
use Rattle.hw_types.specs.declared.unit.Digest.{Digest}
use Rattle.hw_types.specs.declared.unit.Signature.{Signature}
use Rattle.hw_types.specs.declared.unit.SignedUnit.{SignedUnit}
use Rattle.hw_types.specs.declared.unit.Endorsement.{Endorsement}
use Rattle.hw_types.specs.declared.unit.Vertex.{Vertex}
use Rattle.hw_types.specs.declared.unit.Vertex.TheVariants as vertex
use Rattle.hw_types.specs.Graph.{is_some_and}
use Rattle.hw_types.specs.Spelling.{u32_bytes, digest_of}

-- what the owner of the key signs for a unit of this digest
abbrev pub unit_signature : Digest → List ℕ → Signature
unit_signature unit key = record { 0 = sha256 (key ++ unit.0) }

-- what is signed of an endorsement: that this validator endorses the unit
abbrev pub endorsed_digest : Digest → ℕ → List ℕ
endorsed_digest unit endorser = sha256 (codes "endorse" ++ unit.0 ++ u32_bytes endorser)

-- what the owner of the key signs for an endorsement of the unit
abbrev pub endorsement_signature : Digest → ℕ → List ℕ → Signature
endorsement_signature unit endorser key = record { 0 = sha256 (key ++ endorsed_digest unit endorser) }

-- there is such a validator, and the signature is the one that its key makes
abbrev pub is_signature_of : List (List ℕ) → ℕ → (List ℕ → Signature) → Signature → Bool
is_signature_of keys validator made signature = is_some_and (λ key. bytes_eq signature.0 (made key).0) (slice_get keys validator)

-- the unit is signed by its creator
abbrev pub is_signed : List (List ℕ) → SignedUnit → Bool
is_signed keys s = is_signature_of keys s.unit.creator (unit_signature (digest_of s.unit)) s.signature

-- the endorsement is signed by its endorser
abbrev pub is_endorsed : List (List ℕ) → Endorsement → Bool
is_endorsed keys e = is_signature_of keys e.endorser (endorsement_signature e.unit e.endorser) e.signature

-- The verdict on a vertex: each signer is a validator, and each signature is its own. Evidence has two.
unfoldable pub verdict_of : List (List ℕ) → Vertex → Bool
verdict_of keys (vertex.Unit s) = is_signed keys s
verdict_of keys (vertex.Evidence e) = is_signed keys e.left && is_signed keys e.right
verdict_of keys (vertex.Endorsement e) = is_endorsed keys e
