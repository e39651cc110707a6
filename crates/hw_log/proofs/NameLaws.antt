-- The names of units: a unit's spelling stands in that of its vertex, between the kind and the signature, and the last unit's
-- name is kept.
use Rattle.std.proofs.Common.{◌≡◌, ℕ, ◌+◌, ◌-◌, ◌<◌, nat_lt, Bool, true, false, if◌then◌else◌, List, ◌∷◌, ◌++◌, length, take, drop, Option, Some, None, Ok, IfSome, refl, sym, ap, subst, ◌∙◌, arith, length-append}
use Rattle.std.specs.Prelude.{slice_range}
use Rattle.std.specs.Option.{option_or}
use Rattle.std.proofs.Math.Seq.{take-append_seam}
use Rattle.sha2.specs.Sha256.{sha256}
use Rattle.hw_types.specs.declared.unit.Digest.{Digest}
use Rattle.hw_types.specs.declared.unit.SignedUnit.{SignedUnit}
use Rattle.hw_types.specs.declared.unit.Vertex.{Vertex}
use Rattle.hw_types.specs.declared.unit.Vertex.TheVariants as vertex
use Rattle.hw_types.specs.Spelling.{unit_bytes, digest_of}
use Rattle.hw_types.specs.Reading.{vertex_of}
use Rattle.hw_codec.specs.Last.{last_of}
use Rattle.hw_codec.specs.Ranges.{AreBytes}
use Rattle.hw_codec.proofs.Spelled.{vertex_read_spells, vertex_read_in_range}
use Rattle.hw_lanes.specs.declared.pieces.Part.{Part}
use Rattle.hw_log.specs.Lasts.{LastUnits, NotedUnit, noted_in, noted_name}
use Rattle.hw_log.specs.Named.{IsNameOf, NamesUnit}

long : (bytes unit signature : List ℕ) (kind : ℕ) → bytes ≡ kind ∷ (unit ++ signature) → length bytes ≡ 1 + length unit + length signature
long bytes unit signature kind is = let same = ap (λ (l : List ℕ). length l) is in omega (arith, length-append unit signature)

between : (bytes unit signature : List ℕ) (kind size : ℕ) → bytes ≡ kind ∷ (unit ++ signature) → length signature ≡ size → slice_range bytes 1 (length bytes - size) ≡ unit
between bytes unit signature kind size is count =
    let whole = long bytes unit signature kind is in
    let n : length bytes - size - 1 ≡ length unit = omega arith in
    ap (λ (l : List ℕ). take (length bytes - size - 1) (drop 1 l)) is ∙ ap (λ (m : ℕ). take m (unit ++ signature)) n ∙ take-append_seam unit signature

-- there are more bytes than those of the signature
pub holds_unit : (bytes : List ℕ) (v : Vertex) (s : SignedUnit) → AreBytes bytes → vertex_of bytes ≡ Ok v → v ≡ vertex.Unit s → 32 < length bytes
holds_unit bytes v s are read is =
    let read' = read ∙ ap Ok is in
    let whole = long bytes (unit_bytes s.unit) s.signature.0 1 (vertex_read_spells bytes (vertex.Unit s) are read').is in
    let size = (vertex_read_in_range bytes (vertex.Unit s) are read').signature.size in
    omega arith

-- the digest of what stands between is the unit's name
pub names_unit : (bytes : List ℕ) (part : Part) (v : Vertex) (s : SignedUnit) → AreBytes bytes → vertex_of bytes ≡ Ok v → v ≡ vertex.Unit s
    → part ≡ record { start = 1; end = length bytes - 32 } → NamesUnit v bytes part
unfolding digest_of
names_unit bytes part v s are read is part_is =
    let more = holds_unit bytes v s are read is in
    let read' = read ∙ ap Ok is in
    let spelled = (vertex_read_spells bytes (vertex.Unit s) are read').is in
    let size = (vertex_read_in_range bytes (vertex.Unit s) are read').signature.size in
    let whole : sha256 (slice_range bytes 1 (length bytes - 32)) ≡ sha256 (unit_bytes s.unit) = ap sha256 (between bytes (unit_bytes s.unit) s.signature.0 1 32 spelled size) in
    rw part_is (
      (omega arith, omega arith),
      subst (λ (w : Vertex). IsNameOf w (record { 0 = sha256 (slice_range bytes 1 (length bytes - 32)) })) (sym is) (ap (λ (h : List ℕ). record { 0 = h }) whole),
    )

-- ---- the name that is kept of a creator's last unit

of_kept : (s : SignedUnit) (there : Bool) → IfSome (noted_name (if there then Some (record { creator = s.unit.creator; last = last_of s.unit }) else None)) (IsNameOf (vertex.Unit s))
of_kept s true = refl
of_kept s false = tt

of_noted : (lasts : LastUnits) (v : Vertex) → IfSome (noted_name (noted_in lasts v)) (IsNameOf v)
of_noted lasts (vertex.Unit s) = of_kept s (nat_lt s.unit.creator (length lasts.units))
of_noted lasts (vertex.Evidence e) = tt
of_noted lasts (vertex.Endorsement e) = tt

of_either : (noted name : Option Digest) (v : Vertex) → IfSome noted (IsNameOf v) → IfSome name (IsNameOf v) → IfSome (option_or noted name) (IsNameOf v)
of_either None name v first second = second
of_either (Some d) name v first second = first

-- it is handed out where it is kept, and else the one that was read
pub handed_names : (lasts : LastUnits) (v : Vertex) (noted name out : Option Digest) → noted ≡ noted_name (noted_in lasts v) → IfSome name (IsNameOf v) → out ≡ option_or noted name
    → IfSome out (IsNameOf v)
handed_names lasts v noted name out is names handed =
    subst (λ (o : Option Digest). IfSome o (IsNameOf v)) (sym handed)
    (of_either noted name v (subst (λ (o : Option Digest). IfSome o (IsNameOf v)) (sym is) (of_noted lasts v)) names)

first_of : (noted name : Option Digest) → IfSome noted (λ d. option_or noted name ≡ Some d)
first_of None name = tt
first_of (Some d) name = refl

pub handed_first : (lasts : LastUnits) (v : Vertex) (noted name out : Option Digest) → noted ≡ noted_name (noted_in lasts v) → out ≡ option_or noted name
    → IfSome (noted_name (noted_in lasts v)) (λ d. out ≡ Some d)
handed_first lasts v noted name out is handed =
    subst (λ (o : Option Digest). IfSome o (λ d. out ≡ Some d)) is
    (subst (λ (o : Option Digest). IfSome noted (λ d. o ≡ Some d)) (sym handed) (first_of noted name))
