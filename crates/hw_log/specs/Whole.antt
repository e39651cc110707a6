-- What a whole log says.
use Rattle.std.specs.Prelude.{◌≡◌, ◌⊎◌, ℕ, List, Option, Some, None, Result, Ok, Err}
use Rattle.hw_types.specs.declared.config.Config.{Config}
use Rattle.hw_log.specs.declared.error.LogError.{LogError}
use Rattle.hw_log.specs.declared.whole.Log.{Log}
use Rattle.hw_log.specs.Log.{Entries, log_of}
use Rattle.hw_log.specs.Causes.{IsOutside}

-- the first error of a log, in its header or its entries, if any
abbrev pub first_fault : Result (Config × Entries) LogError → Option LogError
first_fault (Ok said) = said.1.fault
first_fault (Err e) = Some e

-- the error is one of the outside, or the first one that the log has
abbrev pub IsFaultOf : Result (Config × Entries) LogError → LogError → Type 0
IsFaultOf said e = IsOutside e ⊎ (first_fault said ≡ Some e)

-- there is such a file, and its bytes say this configuration and these entries up to their end
pub record SaysWhole (file : Option (List ℕ)) (log : Log) : Type 0 where
  pub bytes : List ℕ
  pub there : file ≡ Some bytes
  pub says : log_of bytes ≡ Ok (log.config, record { given = log.entries; fault = None })

-- it is an error of the outside, or there is such a file and the error is the first one of its bytes
abbrev pub SaysFault : Option (List ℕ) → LogError → Type 0
SaysFault (Some bytes) e = IsFaultOf (log_of bytes) e
SaysFault None e = IsOutside e
