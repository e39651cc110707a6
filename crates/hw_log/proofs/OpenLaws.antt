-- What the answer of `begin` says of the file.
use Rattle.std.proofs.Common.{◌≡◌, List, ℕ, Option, Some, None, Result, Err, inl, sym, subst}
use Rattle.hw_log.specs.declared.error.LogError.{LogError}
use Rattle.hw_log.specs.Log.{header_of}
use Rattle.hw_log.specs.Causes.{IsOutside, Gives}
use Rattle.hw_log.specs.Reader.{Reading, left_of, Opens}

-- an error of the outside says nothing of the file
pub opens_outside : (file : Option (List ℕ)) (unread : List ℕ) (e : LogError) → IsOutside e → Opens file unread (Err e)
opens_outside None unread e outside = outside
opens_outside (Some bytes) unread e outside = inl outside

-- the file is there
pub opens_there : (file : Option (List ℕ)) (unread bytes : List ℕ) (result : Result Reading LogError) → file ≡ Some bytes → Gives (λ (reader : Reading). (reader.config, left_of reader unread)) result (header_of bytes) → Opens file unread result
opens_there file unread bytes result there said = subst (λ (f : Option (List ℕ)). Opens f unread result) (sym there) said
