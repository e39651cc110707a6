-- Spellings byte by byte, and every error of reading at its place.
use Rattle.std.specs.Prelude.{ℕ, ◌≡◌, ◌+◌, ◌++◌, ◌∷◌, [], List, length, map, Some, Result, Ok, Err, replicate, take, drop}
use Rattle.std.specs.List.{range_with_len}
use Rattle.hw_types.specs.declared.unit.Obs.TheVariants.{Absent}
use Rattle.hw_types.specs.declared.unit.WireUnit.{WireUnit}
use Rattle.hw_types.specs.declared.unit.SignedUnit.{SignedUnit}
use Rattle.hw_types.specs.declared.unit.Vertex.{Vertex}
use Rattle.hw_types.specs.declared.config.Config.{Config}
use Rattle.hw_types.specs.declared.config.Leaders.TheVariants.{Drawn}
use Rattle.hw_types.specs.declared.answers.CodecError.{CodecError}
use Rattle.hw_types.specs.declared.answers.Frame.{Frame}
use Rattle.hw_types.specs.Spelling.{unit_bytes, vertex_bytes, config_bytes, frame_bytes}
use Rattle.hw_types.specs.Reading.{unit_of, vertex_of, config_of, frame_of}
use Rattle.hw_samples.specs.Words.{digest, equal_three}
use Rattle.hw_types.specs.declared.unit.Vertex.TheVariants as vertex
use Rattle.hw_types.specs.declared.unit.Need.TheVariants as need
use Rattle.hw_types.specs.declared.answers.CodecError.TheVariants as error
use Rattle.hw_types.specs.declared.answers.Frame.TheVariants as frame

-- these bytes, each shorter part of them
abbrev pub parts_of : List ℕ → List (List ℕ)
parts_of bytes = map (λ n. take n bytes) (range_with_len 0 (length bytes))

abbrev pub with_byte : ℕ → ℕ → List ℕ → List ℕ
with_byte place byte bytes = take place bytes ++ byte ∷ drop (place + 1) bytes

abbrev pub cut_in : {A : Type 0} → ℕ → ℕ → List (Result A CodecError)
cut_in n place = replicate n (Err (error.Truncated place))

-- ---- a unit

abbrev pub small_unit : WireUnit
small_unit = record { instance = digest (replicate 32 0); creator = 1; seq = 0; time = 17; exponent = 4; panorama = Absent ∷ Absent ∷ []; value = Some (0x78 ∷ []); endorsed = [] }

abbrev pub small_unit_bytes : List ℕ
small_unit_bytes = (0x00 ∷ 0x00 ∷ 0x00 ∷ 0x00 ∷ 0x00 ∷ 0x00 ∷ 0x00 ∷ 0x00 ∷ 0x00 ∷ 0x00 ∷ 0x00 ∷ 0x00 ∷ 0x00 ∷ 0x00 ∷ 0x00 ∷ 0x00 ∷ 0x00 ∷ 0x00 ∷ 0x00 ∷ 0x00 ∷ 0x00 ∷ 0x00 ∷ 0x00 ∷ 0x00 ∷ 0x00 ∷ 0x00 ∷ 0x00 ∷ 0x00 ∷ 0x00 ∷ 0x00 ∷ 0x00 ∷ 0x00 ∷ 0x00 ∷ 0x00 ∷ 0x00 ∷ 0x01 ∷ 0x00 ∷ 0x00 ∷ 0x00 ∷ 0x00 ∷ 0x00 ∷ 0x00 ∷ 0x00 ∷ 0x00 ∷ 0x00 ∷ 0x00 ∷ 0x00 ∷ 0x00 ∷ 0x00 ∷ 0x00 ∷ 0x00 ∷ 0x11 ∷ 0x04 ∷ 0x00 ∷ 0x00 ∷ 0x00 ∷ 0x02 ∷ 0x00 ∷ 0x00 ∷ 0x01 ∷ 0x00 ∷ 0x00 ∷ 0x00 ∷ 0x01 ∷ 0x78 ∷ 0x00 ∷ 0x00 ∷ 0x00 ∷ 0x00 ∷ [])

-- 69 bytes. A field that is cut is named by its place, and an entry of a list is a field
pub record UnitIsSpelled : Type 0 where
  pub spelled : unit_bytes small_unit ≡ small_unit_bytes
  pub count : length small_unit_bytes ≡ 69
  pub read : unit_of small_unit_bytes ≡ Ok small_unit
  pub cut : map unit_of (parts_of small_unit_bytes)
      ≡ cut_in 32 0 ++ cut_in 4 32 ++ cut_in 8 36 ++ cut_in 8 44 ++ cut_in 1 52 ++ cut_in 4 53 ++ cut_in 1 57 ++ cut_in 1 58 ++ cut_in 1 59 ++ cut_in 4 60 ++ cut_in 1 64 ++ cut_in 4 65
  pub trailing : unit_of (small_unit_bytes ++ 0 ∷ []) ≡ Err (error.Trailing 69)
  pub late : unit_of (with_byte 44 128 small_unit_bytes) ≡ Err (error.OutOfRange 44)
  -- 257 observations may come, and the third one's digest is cut; 1,025 may not
  pub many : unit_of (with_byte 55 1 (with_byte 56 1 small_unit_bytes)) ≡ Err (error.Truncated 60)
  pub panorama : unit_of (with_byte 55 4 (with_byte 56 1 small_unit_bytes)) ≡ Err (error.TooLong 53)
  pub observation : unit_of (with_byte 57 3 small_unit_bytes) ≡ Err (error.BadTag 57)
  pub flag : unit_of (with_byte 59 2 small_unit_bytes) ≡ Err (error.BadTag 59)
  pub value : unit_of (with_byte 62 16 (with_byte 63 1 small_unit_bytes)) ≡ Err (error.TooLong 60)
  pub endorsed : unit_of (with_byte 67 1 (with_byte 68 1 small_unit_bytes)) ≡ Err (error.TooLong 65)
  -- the first error counts
  pub first : unit_of (with_byte 44 128 (with_byte 59 2 small_unit_bytes)) ≡ Err (error.OutOfRange 44)

-- ---- vertices

abbrev pub signed_small : SignedUnit
signed_small = record { unit = small_unit; signature = record { 0 = replicate 32 9 } }

abbrev pub unit_vertex : Vertex
unit_vertex = vertex.Unit signed_small

abbrev pub evidence_vertex : Vertex
evidence_vertex = vertex.Evidence (record { left = signed_small; right = signed_small })

abbrev pub endorsement : Vertex
endorsement = vertex.Endorsement (record { unit = digest (replicate 32 7); endorser = 258; signature = record { 0 = replicate 32 8 } })

abbrev pub unit_cuts : {A : Type 0} → ℕ → List (Result A CodecError)
unit_cuts p = cut_in 32 p ++ cut_in 4 (p + 32) ++ cut_in 8 (p + 36) ++ cut_in 8 (p + 44) ++ cut_in 1 (p + 52) ++ cut_in 4 (p + 53) ++ cut_in 1 (p + 57) ++ cut_in 1 (p + 58) ++ cut_in 1 (p + 59) ++ cut_in 4 (p + 60) ++ cut_in 1 (p + 64) ++ cut_in 4 (p + 65)

-- a kind, and then one signed unit, two of them, or a digest, an endorser and a signature
pub record VerticesAreSpelled : Type 0 where
  pub unit : vertex_bytes unit_vertex ≡ 1 ∷ small_unit_bytes ++ replicate 32 9
  pub evidence : vertex_bytes evidence_vertex ≡ 2 ∷ small_unit_bytes ++ replicate 32 9 ++ small_unit_bytes ++ replicate 32 9
  pub endorses : vertex_bytes endorsement ≡ 3 ∷ replicate 32 7 ++ (0 ∷ 0 ∷ 1 ∷ 2 ∷ []) ++ replicate 32 8
  pub counts : map (λ v. length (vertex_bytes v)) (unit_vertex ∷ evidence_vertex ∷ endorsement ∷ []) ≡ 102 ∷ 203 ∷ 69 ∷ []
  pub read : map (λ v. vertex_of (vertex_bytes v)) (unit_vertex ∷ evidence_vertex ∷ endorsement ∷ []) ≡ Ok unit_vertex ∷ Ok evidence_vertex ∷ Ok endorsement ∷ []
  pub cut_unit : map vertex_of (parts_of (vertex_bytes unit_vertex)) ≡ cut_in 1 0 ++ unit_cuts 1 ++ cut_in 32 70
  pub cut_evidence : map vertex_of (parts_of (vertex_bytes evidence_vertex)) ≡ cut_in 1 0 ++ unit_cuts 1 ++ cut_in 32 70 ++ unit_cuts 102 ++ cut_in 32 171
  pub cut_endorsement : map vertex_of (parts_of (vertex_bytes endorsement)) ≡ cut_in 1 0 ++ cut_in 32 1 ++ cut_in 4 33 ++ cut_in 32 37
  pub trailing : map (λ v. vertex_of (vertex_bytes v ++ 0 ∷ [])) (unit_vertex ∷ evidence_vertex ∷ endorsement ∷ []) ≡ Err (error.Trailing 102) ∷ Err (error.Trailing 203) ∷ Err (error.Trailing 69) ∷ []
  pub kind : vertex_of (0 ∷ []) ∷ vertex_of (4 ∷ []) ∷ vertex_of (255 ∷ []) ∷ [] ≡ Err (error.BadTag 0) ∷ Err (error.BadTag 0) ∷ Err (error.BadTag 0) ∷ []
  pub late : vertex_of (with_byte 45 128 (vertex_bytes unit_vertex)) ≡ Err (error.OutOfRange 45)
  pub observation : vertex_of (with_byte 58 3 (vertex_bytes unit_vertex)) ≡ Err (error.BadTag 58)
  pub right_late : vertex_of (with_byte 146 128 (vertex_bytes evidence_vertex)) ≡ Err (error.OutOfRange 146)

-- ---- configurations

abbrev pub equal_three_bytes : List ℕ
equal_three_bytes = (0x01 ∷ 0x00 ∷ 0x00 ∷ 0x00 ∷ 0x03 ∷ 0x00 ∷ 0x00 ∷ 0x00 ∷ 0x00 ∷ 0x00 ∷ 0x00 ∷ 0x00 ∷ 0x01 ∷ 0x00 ∷ 0x00 ∷ 0x00 ∷ 0x00 ∷ 0x00 ∷ 0x00 ∷ 0x00 ∷ 0x01 ∷ 0x00 ∷ 0x00 ∷ 0x00 ∷ 0x00 ∷ 0x00 ∷ 0x00 ∷ 0x00 ∷ 0x01 ∷ 0x00 ∷ 0x00 ∷ 0x00 ∷ 0x00 ∷ 0x00 ∷ 0x00 ∷ 0x00 ∷ 0x00 ∷ 0x01 ∷ 0x04 ∷ 0x08 ∷ 0x00 ∷ 0x00 ∷ 0x00 ∷ 0x00 ∷ 0x03 ∷ 0x00 ∷ 0x00 ∷ 0x00 ∷ 0x00 ∷ 0x00 ∷ 0x00 ∷ 0x00 ∷ 0x00 ∷ 0x00 ∷ 0x00 ∷ 0x00 ∷ 0x02 ∷ 0x00 ∷ 0x02 ∷ 0x00 ∷ 0x00 ∷ 0x00 ∷ 0x00 ∷ 0x10 ∷ 0x00 ∷ [])

abbrev pub with_end : Config
with_end = record equal_three { end = Some 258 }

abbrev pub with_key : Config
with_key = record equal_three { leaders = Drawn (replicate 32 5) }

-- 65 bytes; the version tells whether there is an end
pub record ConfigIsSpelled : Type 0 where
  pub spelled : config_bytes equal_three ≡ equal_three_bytes
  pub count : length equal_three_bytes ≡ 65
  pub read : config_of equal_three_bytes ≡ Ok equal_three
  pub end_spelled : config_bytes with_end ≡ with_byte 0 2 equal_three_bytes ++ 0 ∷ 0 ∷ 0 ∷ 0 ∷ 0 ∷ 0 ∷ 1 ∷ 2 ∷ []
  pub end_read : config_of (config_bytes with_end) ≡ Ok with_end
  pub key_read : config_of (config_bytes with_key) ≡ Ok with_key
  pub cut : map config_of (parts_of equal_three_bytes)
      ≡ cut_in 1 0 ++ cut_in 4 1 ++ cut_in 8 5 ++ cut_in 8 13 ++ cut_in 8 21 ++ cut_in 8 29 ++ cut_in 1 37 ++ cut_in 1 38 ++ cut_in 1 39 ++ cut_in 1 40 ++ cut_in 4 41 ++ cut_in 4 45 ++ cut_in 4 49 ++ cut_in 4 53 ++ cut_in 4 57 ++ cut_in 4 61
  pub cut_key : config_of (take 72 (config_bytes with_key)) ≡ Err (error.Truncated 41)
  pub cut_end : config_of (with_byte 0 2 equal_three_bytes) ∷ config_of (take 72 (config_bytes with_end)) ∷ [] ≡ Err (error.Truncated 65) ∷ Err (error.Truncated 65) ∷ []
  pub trailing : config_of (equal_three_bytes ++ 0 ∷ []) ∷ config_of (config_bytes with_end ++ 0 ∷ []) ∷ [] ≡ Err (error.Trailing 65) ∷ Err (error.Trailing 73) ∷ []
  pub version : config_of (with_byte 0 0 equal_three_bytes) ∷ config_of (with_byte 0 3 equal_three_bytes) ∷ [] ≡ Err (error.BadTag 0) ∷ Err (error.BadTag 0) ∷ []
  pub many : config_of (with_byte 3 1 (with_byte 4 1 equal_three_bytes)) ≡ Err (error.Truncated 61)
  pub weights : config_of (with_byte 3 4 (with_byte 4 1 equal_three_bytes)) ≡ Err (error.TooLong 1)
  pub leaders : config_of (with_byte 40 2 equal_three_bytes) ≡ Err (error.BadTag 40)
  pub table : config_of (with_byte 43 16 (with_byte 44 1 equal_three_bytes)) ≡ Err (error.TooLong 41)

-- ---- frames

abbrev pub each_frame : List Frame
each_frame =
    frame.Hello (digest (replicate 32 6)) ∷ frame.Vertex endorsement ∷ frame.Have 258 ∷ frame.Want [] ∷ frame.Done
    ∷ frame.Want (need.Unit (digest (replicate 32 6)) ∷ need.Evidence 258 ∷ need.Endorsed (digest (replicate 32 7)) ∷ [])
    ∷ frame.Missing (need.Evidence 1) ∷ []

abbrev pub each_frame_bytes : List (List ℕ)
each_frame_bytes =
    (1 ∷ replicate 32 6) ∷ (2 ∷ vertex_bytes endorsement) ∷ (3 ∷ 0 ∷ 0 ∷ 0 ∷ 0 ∷ 0 ∷ 0 ∷ 1 ∷ 2 ∷ []) ∷ (4 ∷ 0 ∷ 0 ∷ 0 ∷ 0 ∷ []) ∷ (5 ∷ [])
    ∷ (4 ∷ 0 ∷ 0 ∷ 0 ∷ 3 ∷ 1 ∷ replicate 32 6 ++ (2 ∷ 0 ∷ 0 ∷ 1 ∷ 2 ∷ []) ++ 3 ∷ replicate 32 7)
    ∷ (6 ∷ 2 ∷ 0 ∷ 0 ∷ 0 ∷ 1 ∷ []) ∷ []

-- a kind, and then what the kind says
pub record FramesAreSpelled : Type 0 where
  pub spelled : map frame_bytes each_frame ≡ each_frame_bytes
  pub read : map frame_of each_frame_bytes ≡ map Ok each_frame
  pub cut : map (λ bytes. map frame_of (parts_of bytes)) each_frame_bytes
      ≡ (cut_in 1 0 ++ cut_in 32 1)
      ∷ (cut_in 1 0 ++ cut_in 1 1 ++ cut_in 32 2 ++ cut_in 4 34 ++ cut_in 32 38)
      ∷ (cut_in 1 0 ++ cut_in 8 1)
      ∷ (cut_in 1 0 ++ cut_in 4 1)
      ∷ cut_in 1 0
      ∷ (cut_in 1 0 ++ cut_in 4 1 ++ cut_in 1 5 ++ cut_in 32 6 ++ cut_in 1 38 ++ cut_in 4 39 ++ cut_in 1 43 ++ cut_in 32 44)
      ∷ (cut_in 1 0 ++ cut_in 1 1 ++ cut_in 4 2) ∷ []
  pub trailing : map (λ bytes. frame_of (bytes ++ 0 ∷ [])) each_frame_bytes
      ≡ Err (error.Trailing 33) ∷ Err (error.Trailing 70) ∷ Err (error.Trailing 9) ∷ Err (error.Trailing 5) ∷ Err (error.Trailing 1) ∷ Err (error.Trailing 76) ∷ Err (error.Trailing 6) ∷ []
  pub kind : frame_of (0 ∷ []) ∷ frame_of (7 ∷ []) ∷ [] ≡ Err (error.BadTag 0) ∷ Err (error.BadTag 0) ∷ []
  pub vertex : frame_of (2 ∷ 0 ∷ []) ∷ frame_of (2 ∷ with_byte 45 128 (vertex_bytes unit_vertex)) ∷ [] ≡ Err (error.BadTag 1) ∷ Err (error.OutOfRange 46) ∷ []
  pub needs : frame_of (4 ∷ 0 ∷ 0 ∷ 1 ∷ 1 ∷ []) ≡ Err (error.TooLong 1)
  pub need : frame_of (4 ∷ 0 ∷ 0 ∷ 0 ∷ 1 ∷ 0 ∷ []) ∷ frame_of (6 ∷ 4 ∷ []) ∷ [] ≡ Err (error.BadTag 5) ∷ Err (error.BadTag 1) ∷ []
