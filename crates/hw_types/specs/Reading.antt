-- Reading from left to right, with the first error and its place.
-- Source: ours.
use Rattle.std.specs.Prelude.{◌≡◌, ℕ, zero, suc, ◌+◌, ◌^◌, List, [], ◌∷◌, length, take, drop, Option, Some, None, Result, Ok, Err, nat_lt, ◌||◌, ◌==◌, if◌then◌else◌}
use Rattle.std.specs.Int.{Width, w8, w32, w64, byte_len, from_be_bytes}
use Rattle.hw_types.specs.declared.unit.Digest.{Digest}
use Rattle.hw_types.specs.declared.unit.Obs.{Obs}
use Rattle.hw_types.specs.declared.unit.Obs.TheVariants.{Absent, Correct, Faulty}
use Rattle.hw_types.specs.declared.unit.WireUnit.{WireUnit}
use Rattle.hw_types.specs.declared.unit.SignedUnit.{SignedUnit}
use Rattle.hw_types.specs.declared.unit.Vertex.{Vertex}
use Rattle.hw_types.specs.declared.unit.Vertex.TheVariants as vertex
use Rattle.hw_types.specs.declared.config.Config.{Config}
use Rattle.hw_types.specs.declared.config.Leaders.{Leaders}
use Rattle.hw_types.specs.declared.config.Leaders.TheVariants.{Table, Drawn}
use Rattle.hw_types.specs.declared.unit.Need.{Need}
use Rattle.hw_types.specs.declared.unit.Need.TheVariants as need
use Rattle.hw_types.specs.declared.answers.Frame.{Frame}
use Rattle.hw_types.specs.declared.answers.Frame.TheVariants as frame
use Rattle.hw_types.specs.declared.answers.CodecError.{CodecError}
use Rattle.hw_types.specs.declared.answers.CodecError.TheVariants as error

-- how many bytes were read, and the bytes that are left
pub record Rest : Type 0 where
  pub place : ℕ
  pub bytes : List ℕ

-- a value and what is left behind it, or the first error
abbrev pub Read : Type 0 → Type 0
Read A = Result (A × Rest) CodecError

-- go on with what was read, or stop at the error
infixl 10 ◌>>=◌
abbrev pub ◌>>=◌ : {A B : Type 0} → Result A CodecError → (A → Result B CodecError) → Result B CodecError
(Ok x) >>= f = f x
(Err e) >>= f = Err e

-- What a function returned, seen by view, is what reading gives, unless memory ran out.
abbrev pub Fails : {Y : Type 0} → CodecError → Result Y CodecError → Type 0
Fails error.OutOfMemory read = Unit {0}
Fails (error.Truncated at) read = read ≡ Err (error.Truncated at)
Fails (error.Trailing at) read = read ≡ Err (error.Trailing at)
Fails (error.BadTag at) read = read ≡ Err (error.BadTag at)
Fails (error.TooLong at) read = read ≡ Err (error.TooLong at)
Fails (error.OutOfRange at) read = read ≡ Err (error.OutOfRange at)

-- the same of a whole result: its value is the one that reading gives
abbrev pub Gives : {X Y : Type 0} → (X → Y) → Result X CodecError → Result Y CodecError → Type 0
Gives view (Ok x) read = read ≡ Ok (view x)
Gives view (Err e) read = Fails e read

-- a field of so many bytes
abbrev pub bytes_at : ℕ → Rest → Read (List ℕ)
bytes_at n r = if nat_lt (length r.bytes) n then Err (error.Truncated r.place) else Ok (take n r.bytes, record { place = r.place + n; bytes = drop n r.bytes })

-- a number of so many bytes
abbrev pub number_at : Width → Rest → Read ℕ
number_at w r = bytes_at (byte_len w) r >>= λ b. Ok (from_be_bytes w b.0, b.1)

-- a digest
abbrev pub digest_at : Rest → Read Digest
digest_at r = bytes_at 32 r >>= λ b. Ok (record { 0 = b.0 }, b.1)

-- a number that is at most the limit
abbrev pub count_at : ℕ → Rest → Read ℕ
count_at limit r = number_at w32 r >>= λ n. if nat_lt limit n.0 then Err (error.TooLong r.place) else Ok n

-- so many values, one after the other
unfoldable pub many_at : {A : Type 0} → (Rest → Read A) → ℕ → Rest → Read (List A)
many_at item zero r = Ok ([], r)
many_at item (suc n) r = do
  first ← item r
  others ← many_at item n first.1
  Ok (first.0 ∷ others.0, others.1)

-- a count, and so many values
unfoldable pub counted_at : {A : Type 0} → (Rest → Read A) → ℕ → Rest → Read (List A)
counted_at item limit r = count_at limit r >>= λ n. many_at item n.0 n.1

-- what stands behind the tag of an observation
abbrev pub obs_behind : ℕ → ℕ → Rest → Read Obs
obs_behind place zero r = Ok (Absent, r)
obs_behind place (suc zero) r = digest_at r >>= λ d. Ok (Correct d.0, d.1)
obs_behind place (suc (suc zero)) r = Ok (Faulty, r)
obs_behind place (suc (suc (suc tag))) r = Err (error.BadTag place)

-- an observation
unfoldable pub obs_at : Rest → Read Obs
obs_at r = number_at w8 r >>= λ tag. obs_behind r.place tag.0 tag.1

-- what stands behind the flag of a value
abbrev pub value_behind : ℕ → ℕ → Rest → Read (Option (List ℕ))
value_behind place zero r = Ok (None, r)
value_behind place (suc zero) r = do
  n ← count_at 4096 r
  value ← bytes_at n.0 n.1
  Ok (Some value.0, value.1)
value_behind place (suc (suc flag)) r = Err (error.BadTag place)

-- a value, if there is one
unfoldable pub value_at : Rest → Read (Option (List ℕ))
value_at r = number_at w8 r >>= λ flag. value_behind r.place flag.0 flag.1

-- a time, below 2^63
abbrev pub time_at : Rest → Read ℕ
time_at r = number_at w64 r >>= λ t. if nat_lt t.0 (2 ^ 63) then Ok t else Err (error.OutOfRange r.place)

-- a unit
unfoldable pub unit_at : Rest → Read WireUnit
unit_at r = do
  instance ← digest_at r
  creator ← number_at w32 instance.1
  seq ← number_at w64 creator.1
  time ← time_at seq.1
  exponent ← number_at w8 time.1
  panorama ← counted_at obs_at 1024 exponent.1
  value ← value_at panorama.1
  endorsed ← counted_at digest_at 256 value.1
  Ok (record { instance = instance.0; creator = creator.0; seq = seq.0; time = time.0; exponent = exponent.0; panorama = panorama.0; value = value.0; endorsed = endorsed.0 }, endorsed.1)

-- a unit and its signature
unfoldable pub signed_at : Rest → Read SignedUnit
signed_at r = do
  u ← unit_at r
  signature ← bytes_at 32 u.1
  Ok (record { unit = u.0; signature = record { 0 = signature.0 } }, signature.1)

-- what stands behind the kind of a vertex
abbrev pub vertex_behind : ℕ → ℕ → Rest → Read Vertex
vertex_behind place (suc zero) r = signed_at r >>= λ s. Ok (vertex.Unit s.0, s.1)
vertex_behind place (suc (suc zero)) r = do
  left ← signed_at r
  right ← signed_at left.1
  Ok (vertex.Evidence (record { left = left.0; right = right.0 }), right.1)
vertex_behind place (suc (suc (suc zero))) r = do
  unit ← digest_at r
  endorser ← number_at w32 unit.1
  signature ← bytes_at 32 endorser.1
  Ok (vertex.Endorsement (record { unit = unit.0; endorser = endorser.0; signature = record { 0 = signature.0 } }), signature.1)
vertex_behind place zero r = Err (error.BadTag place)
vertex_behind place (suc (suc (suc (suc kind)))) r = Err (error.BadTag place)

-- a vertex
unfoldable pub vertex_at : Rest → Read Vertex
vertex_at r = number_at w8 r >>= λ kind. vertex_behind r.place kind.0 kind.1

-- what stands behind the tag of the leaders
abbrev pub leaders_behind : ℕ → ℕ → Rest → Read Leaders
leaders_behind place zero r = counted_at (number_at w32) 4096 r >>= λ l. Ok (Table l.0, l.1)
leaders_behind place (suc zero) r = bytes_at 32 r >>= λ k. Ok (Drawn k.0, k.1)
leaders_behind place (suc (suc tag)) r = Err (error.BadTag place)

-- the version of a configuration, 1 or 2
abbrev pub version_at : Rest → Read ℕ
version_at r = number_at w8 r >>= λ v. if (v.0 == 1) || (v.0 == 2) then Ok v else Err (error.BadTag r.place)

-- version 2 alone has an end
abbrev pub end_behind : ℕ → Rest → Read (Option ℕ)
end_behind version r = if version == 2 then (number_at w64 r >>= λ e. Ok (Some e.0, e.1)) else Ok (None, r)

-- a configuration
unfoldable pub config_at : Rest → Read Config
config_at r = do
  version ← version_at r
  weights ← counted_at (number_at w64) 1024 version.1
  ftt ← number_at w64 weights.1
  levels ← number_at w8 ftt.1
  least ← number_at w8 levels.1
  greatest ← number_at w8 least.1
  tag ← number_at w8 greatest.1
  leaders ← leaders_behind greatest.1.place tag.0 tag.1
  records ← number_at w32 leaders.1
  parked ← number_at w32 records.1
  end ← end_behind version.0 parked.1
  Ok (record { weights = weights.0; ftt = ftt.0; levels = levels.0; min_exponent = least.0; max_exponent = greatest.0; leaders = leaders.0; max_records = records.0; max_parked = parked.0; end = end.0 }, end.1)

-- what stands behind the tag of a need
abbrev pub need_behind : ℕ → ℕ → Rest → Read Need
need_behind place (suc zero) r = digest_at r >>= λ d. Ok (need.Unit d.0, d.1)
need_behind place (suc (suc zero)) r = number_at w32 r >>= λ v. Ok (need.Evidence v.0, v.1)
need_behind place (suc (suc (suc zero))) r = digest_at r >>= λ d. Ok (need.Endorsed d.0, d.1)
need_behind place zero r = Err (error.BadTag place)
need_behind place (suc (suc (suc (suc tag)))) r = Err (error.BadTag place)

-- a need
unfoldable pub need_at : Rest → Read Need
need_at r = number_at w8 r >>= λ tag. need_behind r.place tag.0 tag.1

-- what stands behind the kind of a frame
abbrev pub frame_behind : ℕ → ℕ → Rest → Read Frame
frame_behind place (suc zero) r = digest_at r >>= λ d. Ok (frame.Hello d.0, d.1)
frame_behind place (suc (suc zero)) r = vertex_at r >>= λ v. Ok (frame.Vertex v.0, v.1)
frame_behind place (suc (suc (suc zero))) r = number_at w64 r >>= λ n. Ok (frame.Have n.0, n.1)
frame_behind place (suc (suc (suc (suc zero)))) r = counted_at need_at 256 r >>= λ needs. Ok (frame.Want needs.0, needs.1)
frame_behind place (suc (suc (suc (suc (suc zero))))) r = Ok (frame.Done, r)
frame_behind place (suc (suc (suc (suc (suc (suc zero)))))) r = need_at r >>= λ n. Ok (frame.Missing n.0, n.1)
frame_behind place zero r = Err (error.BadTag place)
frame_behind place (suc (suc (suc (suc (suc (suc (suc kind))))))) r = Err (error.BadTag place)

-- a frame without its length
unfoldable pub frame_at : Rest → Read Frame
frame_at r = number_at w8 r >>= λ kind. frame_behind r.place kind.0 kind.1

-- all of the bytes are one value
unfoldable pub whole : {A : Type 0} → (Rest → Read A) → List ℕ → Result A CodecError
whole item bytes = item (record { place = 0; bytes = bytes }) >>= λ x. if length x.1.bytes == 0 then Ok x.0 else Err (error.Trailing x.1.place)

-- the unit that all of the bytes are, or the first error
abbrev pub unit_of : List ℕ → Result WireUnit CodecError
unit_of bytes = whole unit_at bytes

-- the same for a vertex
abbrev pub vertex_of : List ℕ → Result Vertex CodecError
vertex_of bytes = whole vertex_at bytes

-- the same for a configuration
abbrev pub config_of : List ℕ → Result Config CodecError
config_of bytes = whole config_at bytes

-- the same for a frame
abbrev pub frame_of : List ℕ → Result Frame CodecError
frame_of bytes = whole frame_at bytes

-- the first field that is refused in reading order, with its place
abbrev pub IsFirstError : {A : Type 0} → Result A CodecError → CodecError → Type 0
IsFirstError read e = read ≡ Err e
