-- What a decoder answers, where it answers what reading gives.
use Rattle.std.proofs.Common.{◌≡◌, Result, Ok, Err, refl, inl, inr}
use Rattle.hw_types.specs.declared.answers.CodecError.{CodecError}
use Rattle.hw_types.specs.declared.answers.CodecError.TheVariants as error
use Rattle.hw_types.specs.Reading.{Gives}
use Rattle.hw_codec.specs.Decoded.{IsReadAs}

-- what reading gives is answered, unless memory runs out
pub given_is_read : {A : Type 0} (result read : Result A CodecError) (x : A) → Gives (λ y. y) result read → read ≡ Ok x → IsReadAs result x
given_is_read (Ok y) read x given is = inl (cc)
given_is_read (Err error.OutOfMemory) read x given is = inr refl
given_is_read (Err (error.Truncated at)) read x given is = absurd cc
given_is_read (Err (error.Trailing at)) read x given is = absurd cc
given_is_read (Err (error.BadTag at)) read x given is = absurd cc
given_is_read (Err (error.TooLong at)) read x given is = absurd cc
given_is_read (Err (error.OutOfRange at)) read x given is = absurd cc
