-- Units that were decoded ahead: their spellings, their names, and that they stay what follows while other units are noted.
use Rattle.std.proofs.Common.{◌≡◌, ◌≢◌, ◌⊎◌, inl, inr, ℕ, zero, suc, ◌+◌, ◌-◌, ◌<◌, ◌≤◌, List, [], ◌∷◌, ◌++◌, length, take, drop, map, set, Option, Some, None, Ok, IfSome, refl, sym, ap, subst, ◌∙◌, arith, length-append, ◌==◌, if◌then◌else◌}
use Rattle.std.specs.Prelude.{All}
use Rattle.std.specs.Option.{option_map, option_flatten, option_to_list}
use Rattle.std.specs.List.{slice_get}
use Rattle.std.proofs.lemmas.List.{map-append, take-append-le, same_from_push, get_or_append_left, get_or_push, length_push}
use Rattle.std.proofs.lemmas.List.Elements.{All-append}
use Rattle.std.proofs.lemmas.Slice.{between_is}
use Rattle.std.proofs.Math.Seq.{take-length, drop-append_seam}
use Rattle.sha2.specs.Sha256.{sha256}
use Rattle.hw_types.specs.declared.unit.SignedUnit.{SignedUnit}
use Rattle.hw_types.specs.declared.unit.Vertex.TheVariants as vertex
use Rattle.hw_types.specs.Spelling.{unit_bytes, vertex_bytes, digest_of}
use Rattle.hw_codec.specs.Last.{LastUnit, gone_on, last_by}
use Rattle.hw_codec.specs.Compact.{told_bytes}
use Rattle.hw_lanes.specs.declared.pieces.Part.{Part}
use Rattle.hw_lanes.specs.Pieces.{IsWithin, part_of}
use Rattle.hw_log.specs.Lasts.{LastUnits, NotedUnit, vertex_in, vertex_bytes_in, with_noted}
use Rattle.hw_log.specs.Following.{AreSpelled, Follows, IsFirst, IsRead, IsByOther, unit_of}
use Rattle.hw_log.specs.declared.following.ReadUnit.{ReadUnit}
use Rattle.hw_log.specs.declared.following.NextUnit.{NextUnit}
use Rattle.hw_log.proofs.AppendLaws.{vertex_again}

-- ---- parts, where more bytes follow

part_stays : (xs ys : List ℕ) (part : Part) → part.end ≤ length xs → part_of (xs ++ ys) part ≡ part_of xs part
part_stays xs ys part within =
    between_is (xs ++ ys) part.start part.end
    ∙ ap (drop part.start) (take-append-le part.end xs ys within)
    ∙ sym (between_is xs part.start part.end)

parts_stay : (xs ys : List ℕ) (parts : List Part) → All (IsWithin (length xs)) parts → map (part_of (xs ++ ys)) parts ≡ map (part_of xs) parts
parts_stay xs ys [] within = refl
parts_stay xs ys (p ∷ ps) within =
    ap (λ (b : List ℕ). b ∷ map (part_of (xs ++ ys)) ps) (part_stays xs ys p (within 0 p (omega arith)).1)
    ∙ ap (λ (bs : List (List ℕ)). part_of xs p ∷ bs) (parts_stay xs ys ps (λ k d low. within (suc k) d (omega (arith, low))))

-- the part behind all others
last_part : (xs ys : List ℕ) → part_of (xs ++ ys) (record { start = length xs; end = length xs + length ys }) ≡ ys
last_part xs ys =
    let whole : length xs + length ys ≡ length (xs ++ ys) = omega (arith, length-append xs ys) in
    between_is (xs ++ ys) (length xs) (length xs + length ys)
    ∙ ap (λ (n : ℕ). drop (length xs) (take n (xs ++ ys))) whole
    ∙ ap (drop (length xs)) (take-length (xs ++ ys))
    ∙ drop-append_seam xs ys

-- ---- units and their spellings

abbrev spelling_of : ReadUnit → List ℕ
spelling_of read = unit_bytes (unit_of read)

pub none_spelled : AreSpelled [] [] []
none_spelled = record { within = λ k d low. absurd (omega arith); spelled = refl }

within_more : (xs ys : List ℕ) (parts : List Part) → All (IsWithin (length xs)) parts → All (IsWithin (length (xs ++ ys))) parts
within_more xs ys parts within = λ k d low.
    let more = length-append xs ys in
    ((within k d low).0, omega (arith, (within k d low).1))

one_within : (n : ℕ) (part : Part) → IsWithin n part → All (IsWithin n) (part ∷ [])
one_within n part is zero d low = is
one_within n part is (suc k) d low = absurd (omega (arith, low))

-- behind these units one more, and its spelling behind theirs
pub one_more : (bytes spelling more : List ℕ) (parts parts' : List Part) (units units' : List ReadUnit) (read : ReadUnit) (start end : ℕ) → AreSpelled bytes parts units
    → spelling ≡ unit_bytes (unit_of read) → more ≡ bytes ++ spelling → parts' ≡ parts ++ record { start = start; end = end } ∷ [] → units' ≡ units ++ read ∷ []
    → start ≡ length bytes → end ≡ length more → AreSpelled more parts' units'
one_more bytes spelling more parts parts' units units' read start end are spells bytes_are parts_are units_are start_is end_is =
    let part : Part = record { start = start; end = end } in
    let longer = ap (λ (l : List ℕ). length l) bytes_are in
    let whole = length-append bytes spelling in
    let last : part ≡ record { start = length bytes; end = length bytes + length spelling } =
    ap (λ (n : ℕ). record { start = n; end = end }) start_is ∙ ap (λ (n : ℕ). record { start = length bytes; end = n }) (omega (arith, longer, whole, end_is)) in
    let within : All (IsWithin (length (bytes ++ spelling))) (parts ++ part ∷ []) =
    All-append (IsWithin (length (bytes ++ spelling))) parts (part ∷ []) (within_more bytes spelling parts are.within)
    (one_within (length (bytes ++ spelling)) part (omega (arith, start_is, end_is, longer, whole), omega (arith, longer, whole, end_is))) in
    let spelled : map (part_of (bytes ++ spelling)) (parts ++ part ∷ []) ≡ map spelling_of (units ++ read ∷ []) =
    map-append (part_of (bytes ++ spelling)) parts (part ∷ [])
    ∙ ap (λ (bs : List (List ℕ)). bs ++ part_of (bytes ++ spelling) part ∷ []) (parts_stay bytes spelling parts are.within ∙ are.spelled)
    ∙ ap (λ (b : List ℕ). map spelling_of units ++ b ∷ []) (ap (part_of (bytes ++ spelling)) last ∙ last_part bytes spelling ∙ spells)
    ∙ sym (map-append spelling_of units (read ∷ [])) in
    rw (bytes_are, parts_are, units_are) (record { within = within; spelled = spelled })

map_twice : {A B : Type 0} (f : B → List ℕ) (g : A → B) (xs : List A) → map (λ x. f (g x)) xs ≡ map f (map g xs)
map_twice f g [] = refl
map_twice f g (x ∷ xs) = ap (λ l. f (g x) ∷ l) (map_twice f g xs)

-- the digests of the parts are those of the spellings
pub spelled_hashed : (bytes : List ℕ) (parts : List Part) (units : List ReadUnit) → AreSpelled bytes parts units
    → map (λ (part : Part). sha256 (part_of bytes part)) parts ≡ map (λ (read : ReadUnit). sha256 (unit_bytes (unit_of read))) units
spelled_hashed bytes parts units are =
    map_twice sha256 (part_of bytes) parts ∙ ap (map sha256) are.spelled ∙ sym (map_twice sha256 spelling_of units)

-- ---- the last of both lists

abbrev hash_of : ReadUnit → List ℕ
hash_of read = sha256 (unit_bytes (unit_of read))

named_follows : (lasts : LastUnits) (read : ReadUnit) (digest : List ℕ) → IsRead lasts read → digest ≡ hash_of read → Follows lasts (record { read = read; name = record { 0 = digest } })
unfolding digest_of
named_follows lasts read digest is hashed = record { read = is; name = ap (λ (d : List ℕ). record { 0 = d }) hashed }

pub all_but_last : {A : Type 0} (P : A → Type 0) (xs : List A) (x : A) → All P (xs ++ x ∷ []) → All P xs
all_but_last P xs x all = λ k d low. subst P (get_or_append_left xs (x ∷ []) d k low) (all k d (omega (arith, low, length_push xs x)))

pub last_of_all : {A : Type 0} (P : A → Type 0) (xs : List A) (x : A) → All P (xs ++ x ∷ []) → P x
last_of_all P xs x all = subst P (get_or_push xs x x (length xs) refl) (all (length xs) x (omega (arith, length_push xs x)))

one_is : {A : Type 0} (P : A → Type 0) (x : A) → P x → All P (x ∷ [])
one_is P x is zero d low = is
one_is P x is (suc k) d low = absurd (omega (arith, low))

pub all_and_last : {A : Type 0} (P : A → Type 0) (xs : List A) (x : A) → All P xs → P x → All P (xs ++ x ∷ [])
all_and_last P xs x all is = All-append P xs (x ∷ []) all (one_is P x is)

-- one more has its name
pub one_named : (lasts : LastUnits) (units : List ReadUnit) (read : ReadUnit) (digests : List (List ℕ)) (digest : List ℕ) (named : List NextUnit)
    → All (IsRead lasts) (units ++ read ∷ []) → digests ++ digest ∷ [] ≡ map (λ (r : ReadUnit). sha256 (unit_bytes (unit_of r))) (units ++ read ∷ []) → All (Follows lasts) named
    → All (IsRead lasts) units × (digests ≡ map (λ (r : ReadUnit). sha256 (unit_bytes (unit_of r))) units) × All (Follows lasts) (named ++ record { read = read; name = record { 0 = digest } } ∷ [])
one_named lasts units read digests digest named are hashed follow =
    let same = same_from_push digests (map hash_of units) digest (hash_of read) (hashed ∙ map-append hash_of units (read ∷ [])) in
    let is = last_of_all (IsRead lasts) units read are in
    (all_but_last (IsRead lasts) units read are, same.0, all_and_last (Follows lasts) named _ follow (named_follows lasts read digest is same.1))

-- ---- what follows

pub follows_first : (lasts : LastUnits) (bytes : List ℕ) (next : NextUnit) → Follows lasts next → next.read.bytes ≡ bytes → IsFirst lasts bytes next
follows_first lasts bytes next is same =
    let v = vertex.Unit next.read.signed in
    let read = is.read in
    record {
      read = ap (λ (b : List ℕ). vertex_in lasts b) (sym same ∙ read.spelled.is) ∙ vertex_again lasts v read.range read.spelled.limits;
      fits = read.spelled.limits;
      name = is.name;
    }

-- the last unit of another validator changes
other_last : (xs : List (Option LastUnit)) (i j : ℕ) (y : Option LastUnit) → j ≢ i → option_flatten (slice_get (set xs i y) j) ≡ option_flatten (slice_get xs j)
other_last [] i j y other = refl
other_last (x ∷ xs) zero zero y other = absurd (other refl)
other_last (x ∷ xs) zero (suc j) y other = refl
other_last (x ∷ xs) (suc i) zero y other = refl
other_last (x ∷ xs) (suc i) (suc j) y other = other_last xs i j y (λ same. other (ap suc same))

same_bytes : (lasts : LastUnits) (kept : NotedUnit) (s : SignedUnit) → s.unit.creator ≢ kept.creator
    → vertex_bytes_in lasts (vertex.Unit s) ≡ vertex_bytes_in (with_noted lasts (Some kept)) (vertex.Unit s)
same_bytes lasts kept s other =
    let last : last_by lasts.units s.unit.creator ≡ last_by (set lasts.units kept.creator (Some kept.last)) s.unit.creator = sym (other_last lasts.units kept.creator s.unit.creator (Some kept.last) other) in
    ap (λ (o : Option LastUnit). if lasts.version == 1 then vertex_bytes (vertex.Unit s) else told_bytes (gone_on o s.unit) s) last

still_follows : (lasts : LastUnits) (kept : NotedUnit) (next : NextUnit) → next.read.signed.unit.creator ≢ kept.creator → Follows lasts next → Follows (with_noted lasts (Some kept)) next
still_follows lasts kept next other is =
    let read = is.read in
    record {
      read = record { range = read.range; spelled = record { limits = read.spelled.limits; is = read.spelled.is ∙ same_bytes lasts kept next.read.signed other } };
      name = is.name;
    }

pub noted_follow : (lasts : LastUnits) (noted : Option NotedUnit) (units left : List NextUnit) → IfSome (option_map (λ (kept : NotedUnit). kept.creator) noted) (λ validator. All (IsByOther validator) left)
    → (left ≡ units) ⊎ (left ≡ []) → All (Follows lasts) units → All (Follows (with_noted lasts noted)) left
noted_follow lasts None units left others (inl same) follow = subst (All (Follows lasts)) (sym same) follow
noted_follow lasts (Some kept) units left others (inl same) follow = λ k d low. still_follows lasts kept _ (others k d low) (subst (All (Follows lasts)) (sym same) follow k d low)
noted_follow lasts noted units left others (inr none) follow = λ k d low. absurd (omega (arith, low, ap (λ (l : List NextUnit). length l) none))
