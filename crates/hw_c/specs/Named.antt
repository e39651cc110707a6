-- The names of units whose vertices are among other bytes. A name can be worked out before its unit is delivered. No
-- contract of an export mentions these names.
-- Source: ours.
use Rattle.std.specs.Prelude.{◌≡◌, ℕ, ◌+◌, ◌-◌, nat_lt, nat_le, ◌==◌, ◌&&◌, Bool, List, length, slice_index, if◌then◌else◌, Ok}
use Rattle.sha2.specs.Sha256.{sha256}
use Rattle.hw_types.specs.declared.unit.Digest.{Digest}
use Rattle.hw_types.specs.declared.unit.SignedUnit.{SignedUnit}
use Rattle.hw_types.specs.declared.unit.Vertex.TheVariants as vertex
use Rattle.hw_types.specs.Reading.{vertex_of}
use Rattle.hw_types.specs.Spelling.{digest_of}
use Rattle.hw_lanes.specs.declared.pieces.Part.{Part}
use Rattle.hw_lanes.specs.Pieces.{part_of}
use Rattle.hw_c.specs.declared.sent.Sent.{Sent}

-- The verdict is yes, the vertex is in range, it is longer than a signature, and it begins as a unit does.
abbrev pub looks_like_unit : List ℕ → Sent → Bool
looks_like_unit bytes sent = (sent.verdict == 1) && (nat_le (sent.start + sent.length) (length bytes) && (nat_lt 32 sent.length && (slice_index bytes sent.start == 1)))

-- The part between the kind and the signature, where the vertex looks like a unit. Else an empty part.
abbrev pub unit_part : List ℕ → Sent → Part
unit_part bytes sent = if looks_like_unit bytes sent then record { start = sent.start + 1; end = sent.start + sent.length - 32 } else record { start = 0; end = 0 }

-- the digest of that part
abbrev pub name_of : List ℕ → Sent → List ℕ
name_of bytes sent = sha256 (part_of bytes (unit_part bytes sent))

-- where the bytes spell a unit, this is its name
abbrev pub IsNameIn : List ℕ → Digest → Type 0
IsNameIn bytes name = (s : SignedUnit) → vertex_of bytes ≡ Ok (vertex.Unit s) → name ≡ digest_of s.unit
