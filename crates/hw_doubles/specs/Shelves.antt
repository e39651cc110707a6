-- What files in memory hold, and what is read of them.
use Rattle.std.specs.Prelude.{ℕ, ◌-◌, ◌^◌, ◌≡◌, Bool, List, [], ◌∷◌, ◌++◌, drop, count_by, Option, None, Some, slice_get}
use Rattle.std.specs.List.{find, position}
use Rattle.std.specs.Str.{bytes_eq}
use Rattle.std.specs.Option.{option_map, option_and_then}
use Rattle.std.specs.declared.vec.Vec.{Vec}
use Rattle.std.specs.declared.alloc.Global.{Global}
use Rattle.hw_io.specs.Files.{bytes_of}
use Rattle.hw_doubles.specs.declared.shelf.StoredFile.{StoredFile}
use Rattle.hw_doubles.specs.declared.shelf.Reading.{Reading}

-- whether the file has this name
abbrev pub has_name : List ℕ → StoredFile → Bool
has_name name file = bytes_eq file.name.items name

-- the place of the first file of that name
abbrev pub place_in : List StoredFile → List ℕ → Option ℕ
place_in files name = position (has_name name) files

-- the bytes of the first file of that name
abbrev pub held_in : List StoredFile → List ℕ → Option (List ℕ)
held_in files name = option_map (λ file. file.bytes.items) (find (has_name name) files)

-- the file that was begun
abbrev pub begun_file : List StoredFile → Option Reading → Option StoredFile
begun_file files reading = option_and_then (λ r. slice_get files r.place) reading

-- its name
abbrev pub begun_in : List StoredFile → Option Reading → Option (List ℕ)
begun_in files reading = option_map (λ file. file.name.items) (begun_file files reading)

-- how many bytes were given of it
abbrev pub given_of : Option Reading → ℕ
given_of None = 0
given_of (Some reading) = reading.given

-- its bytes that are not yet read
abbrev pub unread_in : List StoredFile → Option Reading → List ℕ
unread_in files reading = drop (given_of reading) (bytes_of (option_map (λ file. file.bytes.items) (begun_file files reading)))

-- how many bytes may still be given of it
abbrev pub allowance_of : Option Reading → ℕ
allowance_of reading = 2 ^ 62 - given_of reading

-- one more file, of this name with these bytes
pub record AddsFile (old new : List StoredFile) (name bytes : List ℕ) : Type 0 where
  pub file : StoredFile
  pub named : file.name.items ≡ name
  pub holds : file.bytes.items ≡ bytes
  pub last : new ≡ old ++ file ∷ []

-- how many of the names about which calls failed are this one
abbrev pub faults_in : List (Vec ℕ Global) → List ℕ → ℕ
faults_in blamed name = count_by (λ n. bytes_eq n.items name) blamed
