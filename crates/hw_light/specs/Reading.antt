-- Reading a certificate from left to right, with the first error and its place.
-- Source: ours.
use Rattle.std.specs.Prelude.{◌≡◌, ℕ, zero, suc, ◌+◌, nat_lt, nat_eq, ◌==◌, List, [], ◌∷◌, length, take, drop, slice_index, codes, Result, Ok, Err, ◌⊎◌, if◌then◌else◌}
use Rattle.std.specs.Int.{w32, from_be_bytes}
use Rattle.std.specs.List.{starts_with}
use Rattle.hw_types.specs.declared.unit.Vertex.{Vertex}
use Rattle.hw_types.specs.declared.config.Config.{Config}
use Rattle.hw_types.specs.declared.answers.CodecError.{CodecError}
use Rattle.hw_types.specs.declared.answers.CodecError.TheVariants as codec
use Rattle.hw_types.specs.Limits.{most_bytes}
use Rattle.hw_types.specs.Reading.{Rest, config_of, vertex_of}
use Rattle.hw_light.specs.declared.certificate.Certificate.{Certificate}
use Rattle.hw_light.specs.declared.error.CertError.{CertError}
use Rattle.hw_light.specs.declared.error.CertError.TheVariants.{BadMagic, Version, Torn, TooLong, BadConfig, BadVertex, Trailing, OutOfMemory}

-- a value and what is left after it, or the first error
abbrev pub Read : Type 0 → Type 0
Read A = Result (A × Rest) CertError

-- go on with what was read, or stop at the error
infixl 10 ◌>>=◌
abbrev pub ◌>>=◌ : {A B : Type 0} → Result A CertError → (A → Result B CertError) → Result B CertError
(Ok x) >>= f = f x
(Err e) >>= f = Err e

-- these bytes from a place on
abbrev pub rest_at : ℕ → List ℕ → Rest
rest_at place bytes = record { place = place; bytes = bytes }

-- a field of this many bytes
abbrev pub field_at : ℕ → Rest → Read (List ℕ)
field_at n r = if nat_lt (length r.bytes) n then Err (Torn r.place) else Ok (take n r.bytes, rest_at (r.place + n) (drop n r.bytes))

-- a number of four bytes that is at most the limit
abbrev pub count_at : ℕ → Rest → Read ℕ
count_at limit r = field_at 4 r >>= λ b. if nat_lt limit (from_be_bytes w32 b.0) then Err (TooLong r.place) else Ok (from_be_bytes w32 b.0, b.1)

-- a length of at most 1,048,576, and that many bytes
unfoldable pub part_at : Rest → Read (List ℕ)
part_at r = count_at most_bytes r >>= λ n. field_at n.0 n.1

-- what a codec answers, with its error as one of the certificate
abbrev pub decoded : {A : Type 0} → (CodecError → CertError) → Result A CodecError → Result A CertError
decoded wrap (Ok x) = Ok x
decoded wrap (Err e) = Err (wrap e)

-- a configuration after its length
unfoldable pub config_at : Rest → Read Config
config_at r = do
  part ← part_at r
  config ← decoded BadConfig (config_of part.0)
  Ok (config, part.1)

-- a vertex after its length
unfoldable pub vertex_at : Rest → Read Vertex
vertex_at r = do
  part ← part_at r
  vertex ← decoded (BadVertex r.place) (vertex_of part.0)
  Ok (vertex, part.1)

-- this many vertices
unfoldable pub vertices_at : ℕ → Rest → Read (List Vertex)
vertices_at zero r = Ok ([], r)
vertices_at (suc n) r = do
  first ← vertex_at r
  others ← vertices_at n first.1
  Ok (first.0 ∷ others.0, others.1)

-- what is left after the four first bytes, which say what this is
abbrev pub behind_magic : List ℕ → Result Rest CertError
behind_magic bytes = if starts_with nat_eq bytes (codes "HWCT") then Ok (rest_at 4 (drop 4 bytes)) else Err BadMagic

-- what is left after the version, which is 1
abbrev pub behind_version : Rest → Result Rest CertError
behind_version r = field_at 1 r >>= λ v. if slice_index v.0 0 == 1 then Ok v.1 else Err (Version (slice_index v.0 0))

-- nothing is left
abbrev pub ended_at : Rest → Result Unit CertError
ended_at r = if length r.bytes == 0 then Ok tt else Err (Trailing r.place)

-- The certificate that all of the bytes are, or the first error.
unfoldable pub certificate_of : List ℕ → Result Certificate CertError
certificate_of bytes = do
  magic ← behind_magic bytes
  version ← behind_version magic
  config ← config_at version
  block ← field_at 32 config.1
  count ← count_at 131072 block.1
  vertices ← vertices_at count.0 count.1
  end ← ended_at vertices.1
  Ok (record { config = config.0; block = record { 0 = block.0 }; vertices = vertices.0 })

-- ---- what calls answer

-- the error is the one that reading gives, unless memory ran out
abbrev pub Fails : {Y : Type 0} → CertError → Result Y CertError → Type 0
Fails OutOfMemory read = Unit {0}
Fails BadMagic read = read ≡ Err BadMagic
Fails (Version v) read = read ≡ Err (Version v)
Fails (Torn at) read = read ≡ Err (Torn at)
Fails (TooLong at) read = read ≡ Err (TooLong at)
Fails (BadConfig e) read = read ≡ Err (BadConfig e)
Fails (BadVertex at e) read = read ≡ Err (BadVertex at e)
Fails (Trailing at) read = read ≡ Err (Trailing at)

-- What a function returned, seen by view, is what reading gives, unless memory ran out.
abbrev pub Gives : {X Y : Type 0} → (X → Y) → Result X CertError → Result Y CertError → Type 0
Gives view (Ok x) read = read ≡ Ok (view x)
Gives view (Err e) read = Fails e read

-- the certificate is answered, unless memory runs out
abbrev pub IsReadAs : Result Certificate CertError → Certificate → Type 0
IsReadAs result c = (result ≡ Ok c) ⊎ (result ≡ Err OutOfMemory)

-- memory ran out, or this is the first error in reading order, with its place
abbrev pub IsErrorOf : Result Certificate CertError → CertError → Type 0
IsErrorOf read e = (e ≡ OutOfMemory) ⊎ (read ≡ Err e)

-- no error of content contains "out of memory"
abbrev pub WrapsNoWant : CertError → Type 0
WrapsNoWant (BadConfig codec.OutOfMemory) = ⊥
WrapsNoWant (BadVertex at codec.OutOfMemory) = ⊥
WrapsNoWant e = Unit {0}
