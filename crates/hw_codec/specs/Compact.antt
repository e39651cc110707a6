-- The compact form of a unit: what changed since its creator's last one. A log of version 2 alone has it.
-- Source: ours.
use Rattle.std.specs.Prelude.{◌≡◌, ◌≤◌, ℕ, zero, suc, ◌+◌, Bool, false, ◌&&◌, ◌||◌, not, nat_lt, nat_le, ◌==◌, List, [], ◌∷◌, ◌++◌, length, set, get_or, slice_index, Option, Some, None, is_some, Result, Ok, Err, if◌then◌else◌}
use Rattle.std.specs.Int.{w8, w32, w64}
use Rattle.hw_types.specs.declared.answers.CodecError.{CodecError}
use Rattle.hw_types.specs.declared.answers.CodecError.TheVariants as error
use Rattle.hw_types.specs.declared.unit.Digest.{Digest}
use Rattle.hw_types.specs.declared.unit.Obs.{Obs}
use Rattle.hw_types.specs.declared.unit.Obs.TheVariants.{Absent, Correct}
use Rattle.hw_types.specs.declared.unit.WireUnit.{WireUnit}
use Rattle.hw_types.specs.declared.unit.SignedUnit.{SignedUnit}
use Rattle.hw_types.specs.declared.unit.Vertex.{Vertex}
use Rattle.hw_types.specs.declared.unit.Vertex.TheVariants as vertex
use Rattle.hw_types.specs.Same.{obs_eq}
use Rattle.hw_types.specs.Spelling.{u32_bytes, u64_bytes, counted, obs_bytes, value_bytes, vertex_bytes, VertexFits, IsSpelling}
use Rattle.hw_types.specs.Reading.{Rest, Read, ◌>>=◌, number_at, bytes_at, digest_at, count_at, counted_at, obs_at, time_at, value_at, whole, vertex_of}
use Rattle.hw_codec.specs.declared.compact.Change.{Change}
use Rattle.hw_codec.specs.Last.{LastUnit, last_by, due}

-- ---- spelled

-- the change in this slot, if the unit observes there what its last one doesn't; its creator's slot has none
abbrev pub change_in : ℕ → ℕ → Obs → Obs → List Change
change_in creator slot before now = if (slot == creator) || obs_eq now before then [] else (record { slot = slot; obs = now } ∷ [])

-- the changes of a panorama, from this slot on
abbrev pub changes_from : ℕ → ℕ → List Obs → List Obs → List Change
changes_from creator slot [] [] = []
changes_from creator slot [] (o ∷ now) = []
changes_from creator slot (b ∷ before) [] = []
changes_from creator slot (b ∷ before) (o ∷ now) = change_in creator slot b o ++ changes_from creator (suc slot) before now

-- a slot, and what is observed there
abbrev pub change_bytes : Change → List ℕ
change_bytes c = u32_bytes c.slot ++ obs_bytes c.obs

-- the numbers of a unit
abbrev pub numbers_bytes : WireUnit → List ℕ
numbers_bytes u = u32_bytes u.creator ++ u64_bytes u.seq ++ u64_bytes u.time ++ (u.exponent ∷ [])

-- the last fields of a unit, and its signature
abbrev pub tail_bytes : SignedUnit → List ℕ
tail_bytes s = value_bytes s.unit.value ++ counted (λ (d : Digest). d.0) s.unit.endorsed ++ s.signature.0

-- the kind 4, and the fields of a unit with these changes in place of the instance and the panorama
abbrev pub changed_bytes : List Change → SignedUnit → List ℕ
changed_bytes changes s = 4 ∷ (numbers_bytes s.unit ++ counted change_bytes changes ++ tail_bytes s)

-- a unit in the compact form, told against this last one
abbrev pub compact_bytes : LastUnit → SignedUnit → List ℕ
compact_bytes last s = changed_bytes (changes_from s.unit.creator 0 last.panorama s.unit.panorama) s

-- the compact form against this last one, or the full form
abbrev pub told_bytes : Option LastUnit → SignedUnit → List ℕ
told_bytes (Some last) s = compact_bytes last s
told_bytes None s = vertex_bytes (vertex.Unit s)

-- The one byte string of a vertex where these are the last units: the compact form where it is due, else the full one.
abbrev pub bytes_after : List (Option LastUnit) → Vertex → List ℕ
bytes_after lasts (vertex.Unit s) = told_bytes (due lasts s.unit) s
bytes_after lasts (vertex.Evidence e) = vertex_bytes (vertex.Evidence e)
bytes_after lasts (vertex.Endorsement e) = vertex_bytes (vertex.Endorsement e)

-- the bytes spell the vertex where these are the last units
abbrev pub SpellsAfter : List (Option LastUnit) → List ℕ → Vertex → Type 0
SpellsAfter lasts = IsSpelling VertexFits (bytes_after lasts)

-- ---- read

-- the creator with its last one, which observes it
abbrev pub known_creator : ℕ → ℕ × Rest → Option LastUnit → Read (ℕ × LastUnit)
known_creator place n None = Err (error.OutOfRange place)
known_creator place n (Some last) = if nat_lt n.0 (length last.panorama) then Ok ((n.0, last), n.1) else Err (error.OutOfRange place)

-- a creator that has a last one
abbrev pub creator_at : List (Option LastUnit) → Rest → Read (ℕ × LastUnit)
creator_at lasts r = number_at w32 r >>= λ n. known_creator r.place n (last_by lasts n.0)

-- the last one's panorama, with its name in the creator's slot
abbrev pub base_of : LastUnit → ℕ → List Obs
base_of last creator = set last.panorama creator (Correct last.name)

-- a slot of the panorama, from this one on, and not the creator's
abbrev pub is_slot : ℕ → ℕ → List Obs → ℕ → Bool
is_slot creator from panorama slot = nat_le from slot && nat_lt slot (length panorama) && not (slot == creator)

-- such a slot
abbrev pub slot_at : ℕ → ℕ → List Obs → Rest → Read ℕ
slot_at creator from panorama r = number_at w32 r >>= λ slot. if is_slot creator from panorama slot.0 then Ok slot else Err (error.OutOfRange r.place)

-- an observation other than this one
abbrev pub other_at : Obs → Rest → Read Obs
other_at before r = obs_at r >>= λ o. if obs_eq o.0 before then Err (error.OutOfRange r.place) else Ok o

-- a change of the panorama, from this slot on
unfoldable pub change_at : ℕ → ℕ → List Obs → Rest → Read Change
change_at creator from panorama r = do
  slot ← slot_at creator from panorama r
  obs ← other_at (get_or panorama slot.0 Absent) slot.1
  Ok (record { slot = slot.0; obs = obs.0 }, obs.1)

-- the panorama after so many changes, each in a slot behind the one before
unfoldable pub changed_at : ℕ → ℕ → ℕ → List Obs → Rest → Read (List Obs)
changed_at creator zero from panorama r = Ok (panorama, r)
changed_at creator (suc n) from panorama r = do
  change ← change_at creator from panorama r
  changed_at creator n (change.0.slot + 1) (set panorama change.0.slot change.0.obs) change.1

-- a panorama, by the count of its changes and each of them
unfoldable pub panorama_at : ℕ → LastUnit → Rest → Read (List Obs)
panorama_at creator last r = count_at 1024 r >>= λ n. changed_at creator n.0 0 (base_of last creator) n.1

-- the fields behind the creator
unfoldable pub told_at : ℕ → LastUnit → Rest → Read SignedUnit
told_at creator last r = do
  seq ← number_at w64 r
  time ← time_at seq.1
  exponent ← number_at w8 time.1
  panorama ← panorama_at creator last exponent.1
  value ← value_at panorama.1
  endorsed ← counted_at digest_at 256 value.1
  signature ← bytes_at 32 endorsed.1
  Ok (record { unit = record { instance = last.instance; creator = creator; seq = seq.0; time = time.0; exponent = exponent.0; panorama = panorama.0; value = value.0; endorsed = endorsed.0 }; signature = record { 0 = signature.0 } }, signature.1)

-- the kind of the compact form
abbrev pub compact_kind_at : Rest → Read ℕ
compact_kind_at r = number_at w8 r >>= λ kind. if kind.0 == 4 then Ok kind else Err (error.BadTag r.place)

-- a unit in the compact form
unfoldable pub compact_at : List (Option LastUnit) → Rest → Read SignedUnit
compact_at lasts r = do
  kind ← compact_kind_at r
  creator ← creator_at lasts kind.1
  told_at creator.0.0 creator.0.1 creator.1

-- the unit that all of the bytes are in the compact form
abbrev pub compact_of : List (Option LastUnit) → List ℕ → Result SignedUnit CodecError
compact_of lasts bytes = whole (compact_at lasts) bytes

-- the compact form is due for the vertex
abbrev pub is_due : List (Option LastUnit) → Vertex → Bool
is_due lasts (vertex.Unit s) = is_some (due lasts s.unit)
is_due lasts (vertex.Evidence e) = false
is_due lasts (vertex.Endorsement e) = false

-- a vertex in the full form, if that is its form here
abbrev pub unless_due : List (Option LastUnit) → Vertex → Result Vertex CodecError
unless_due lasts v = if is_due lasts v then Err (error.BadTag 0) else Ok v

-- The vertex that all of the bytes are where these are the last units, or the first error. That of a full form in place of the
-- compact one comes after all others.
unfoldable pub vertex_after : List (Option LastUnit) → List ℕ → Result Vertex CodecError
vertex_after lasts bytes = if slice_index bytes 0 == 4 then (compact_of lasts bytes >>= λ s. Ok (vertex.Unit s)) else (vertex_of bytes >>= unless_due lasts)

-- its panorama, if it is a unit, has no more observations than a unit may have
abbrev pub PanoramaFits : Vertex → Type 0
PanoramaFits (vertex.Unit s) = length s.unit.panorama ≤ 1024
PanoramaFits (vertex.Evidence e) = Unit {0}
PanoramaFits (vertex.Endorsement e) = Unit {0}
