-- What decoders answer.
use Rattle.std.specs.Prelude.{◌≡◌, ◌⊎◌, Result, Ok, Err}
use Rattle.hw_types.specs.declared.answers.CodecError.{CodecError}
use Rattle.hw_types.specs.declared.answers.CodecError.TheVariants as error
use Rattle.hw_types.specs.Reading.{IsFirstError}

-- the value is answered, unless memory runs out
abbrev pub IsReadAs : {A : Type 0} → Result A CodecError → A → Type 0
IsReadAs result x = (result ≡ Ok x) ⊎ (result ≡ Err error.OutOfMemory)

-- there is no memory, or it is the first error in reading order, with its place
abbrev pub IsErrorOf : {A : Type 0} → Result A CodecError → CodecError → Type 0
IsErrorOf read e = (e ≡ error.OutOfMemory) ⊎ IsFirstError read e
