-- A unit's spelling stands in that of its vertex, between the kind and the signature, also where the vertex stands among other bytes.
use Rattle.std.proofs.Common.{◌≡◌, ℕ, ◌+◌, ◌-◌, ◌^◌, ◌<◌, ◌≤◌, ◌==◌, Bool, true, List, ◌∷◌, ◌++◌, length, take, drop, map, slice_index, if◌then◌else◌, refl, sym, ap, subst₂, ◌∙◌, arith, length-append}
use Rattle.std.proofs.lemmas.Bool.{eq-eqb, le-leb, lt-ltb}
use Rattle.std.proofs.lemmas.List.{drop-drop, drop-take, length-take-le, length-drop, get_or-drop, get_or-take, take-take, take_all}
use Rattle.std.proofs.lemmas.Simd.{map-map}
use Rattle.std.proofs.lemmas.List.Elements.{All-drop, All-take}
use Rattle.std.proofs.Math.Seq.{take-append_seam}
use Rattle.sha2.specs.Sha256.{sha256}
use Rattle.hw_types.specs.declared.unit.Vertex.TheVariants as vertex
use Rattle.hw_types.specs.Spelling.{unit_bytes, digest_of}
use Rattle.hw_codec.specs.Ranges.{AreBytes}
use Rattle.hw_codec.proofs.Spelled.{vertex_read_spells, vertex_read_in_range}
use Rattle.hw_lanes.specs.declared.pieces.Part.{Part}
use Rattle.hw_lanes.specs.Pieces.{part_of}
use Rattle.hw_c.specs.declared.sent.Sent.{Sent}
use Rattle.hw_c.specs.Deliveries.{bytes_of, IsInRange}
use Rattle.hw_c.specs.Named.{looks_like_unit, unit_part, name_of, IsNameIn}

-- ---- the spelling of a unit's vertex

-- it is longer than the signature
long : (bytes unit signature : List ℕ) (kind : ℕ) → bytes ≡ kind ∷ (unit ++ signature) → length bytes ≡ 1 + length unit + length signature
long bytes unit signature kind is = let same = ap (λ (l : List ℕ). length l) is in omega (arith, length-append unit signature)

-- the unit stands between
between : (bytes unit signature : List ℕ) (kind n : ℕ) → bytes ≡ kind ∷ (unit ++ signature) → n ≡ length unit → take n (drop 1 bytes) ≡ unit
between bytes unit signature kind n is count =
    ap (λ (l : List ℕ). take n (drop 1 l)) is ∙ ap (λ (m : ℕ). take m (unit ++ signature)) count ∙ take-append_seam unit signature

-- ---- among other bytes

-- a part of a part
part_in : (bytes : List ℕ) (start count n : ℕ) → 1 + n ≤ count → take n (drop (start + 1) bytes) ≡ take n (drop 1 (take count (drop start bytes)))
part_in bytes start count n within =
    let rest : List ℕ = drop start bytes in
    let m : ℕ = count - 1 in
    let whole : 1 + m ≡ count = omega arith in
    ap (λ (l : List ℕ). take n l) (sym (drop-drop 1 start bytes))
    ∙ sym (take-take n m (drop 1 rest) (omega arith))
    ∙ ap (λ (l : List ℕ). take n l) (sym (drop-take 1 m rest))
    ∙ ap (λ (k : ℕ). take n (drop 1 (take k rest))) whole

-- the first byte of a part
first_in : (bytes : List ℕ) (start count : ℕ) → 0 < count → slice_index (take count (drop start bytes)) 0 ≡ slice_index bytes start
first_in bytes start count some =
    get_or-take count (drop start bytes) 0 0 some ∙ get_or-drop start bytes 0 0 ∙ ap (λ (i : ℕ). slice_index bytes i) (omega arith)

-- a vertex of a unit with a right verdict looks like one
looks : (bytes : List ℕ) (sent : Sent) → (sent.verdict == 1) ≡ true → sent.start + sent.length ≤ length bytes → 32 < sent.length → slice_index bytes sent.start ≡ 1
    → looks_like_unit bytes sent ≡ true
looks bytes sent right within more kind = rw (right, le-leb _ _ within, lt-ltb _ _ more, eq-eqb _ _ kind) refl

-- its name is the digest of the part that spells its unit
pub name_is : (bytes : List ℕ) (sent : Sent) → AreBytes bytes → IsInRange bytes sent → (sent.verdict == 1) ≡ true
    → IsNameIn (bytes_of bytes sent) (record { 0 = name_of bytes sent })
unfolding digest_of
name_is bytes sent are range right s read =
    let start : ℕ = sent.start in
    let count : ℕ = sent.start + sent.length - sent.start in
    let vertex_bytes : List ℕ = bytes_of bytes sent in
    let unit : List ℕ = unit_bytes s.unit in
    let are_bytes : AreBytes vertex_bytes = All-take (λ b. b < 2 ^ 8) count (drop start bytes) (All-drop (λ b. b < 2 ^ 8) start bytes are) in
    let spelled = (vertex_read_spells vertex_bytes (vertex.Unit s) are_bytes read).is in
    let size = (vertex_read_in_range vertex_bytes (vertex.Unit s) are_bytes read).signature.size in
    let whole = long vertex_bytes unit s.signature.0 1 spelled in
    let held : length vertex_bytes ≡ count = length-take-le count (drop start bytes) (omega (arith, range.0, length-drop start bytes)) in
    let more : 32 < sent.length = omega arith in
    let kind : slice_index bytes start ≡ 1 = sym (first_in bytes start count (omega arith)) ∙ ap (λ (l : List ℕ). slice_index l 0) spelled in
    let part : Part = record { start = start + 1; end = start + sent.length - 32 } in
    let part_is : unit_part bytes sent ≡ part = ap (λ (b : Bool). if b then part else record { start = 0; end = 0 }) (looks bytes sent right range.0 more kind) in
    let n : ℕ = start + sent.length - 32 - (start + 1) in
    let spelling : part_of bytes part ≡ unit = part_in bytes start count n (omega arith) ∙ between vertex_bytes unit s.signature.0 1 n spelled (omega arith) in
    ap (λ (h : List ℕ). record { 0 = h }) (ap (λ (p : Part). sha256 (part_of bytes p)) part_is ∙ ap sha256 spelling)

pub name_told : (bytes : List ℕ) (sent : Sent) (vertex name : List ℕ) → AreBytes bytes → IsInRange bytes sent → vertex ≡ bytes_of bytes sent → name ≡ name_of bytes sent
    → (sent.verdict == 1) ≡ true → IsNameIn vertex (record { 0 = name })
name_told bytes sent vertex name are range vertex_is told right =
    subst₂ (λ (v n : List ℕ). IsNameIn v (record { 0 = n })) (sym vertex_is) (sym told) (name_is bytes sent are range right)

-- the digests of the parts are the names
pub names_are : (bytes : List ℕ) (vertices : List Sent) (parts : List Part) (names : List (List ℕ)) (k : ℕ) → length vertices ≤ k → length parts ≡ length vertices
    → take k parts ≡ map (unit_part bytes) (take k vertices) → names ≡ map (λ (part : Part). sha256 (part_of bytes part)) parts → names ≡ map (name_of bytes) vertices
names_are bytes vertices parts names k all count spell hashed =
    let parts_are : parts ≡ map (unit_part bytes) vertices =
    sym (take_all k parts (omega arith)) ∙ spell ∙ ap (λ (ss : List Sent). map (unit_part bytes) ss) (take_all k vertices all) in
    hashed ∙ ap (λ (ps : List Part). map (λ (part : Part). sha256 (part_of bytes part)) ps) parts_are ∙ map-map (λ (part : Part). sha256 (part_of bytes part)) (unit_part bytes) vertices
