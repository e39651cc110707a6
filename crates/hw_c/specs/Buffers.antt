-- What a caller's buffer holds after a call.
-- Source: ours.
use Rattle.std.specs.Prelude.{◌≡◌, ℕ, List, ◌++◌, length, take, drop, Result, Ok, Err}
use Rattle.hw_c.specs.declared.codes.Fault.{Fault}
use Rattle.hw_c.specs.declared.put.WithBytes.{WithBytes}

-- as many of the values as fit, and after them what was there before
abbrev pub copied : {A : Type 0} → List A → List A → List A
copied values old = take (length old) values ++ drop (length values) old

-- As many bytes as fit are in the buffer, and the length counts all of them. After a fault nothing has changed.
abbrev pub IsWritten : Result (List ℕ) Fault → List ℕ → List ℕ → ℕ → ℕ → Type 0
IsWritten (Ok bytes) old new old_len len = (new ≡ copied bytes old) × (len ≡ length bytes)
IsWritten (Err f) old new old_len len = (new ≡ old) × (len ≡ old_len)

-- The value is in the caller's struct, and as many of its bytes as fit are in the buffer. After a fault nothing has
-- changed.
abbrev pub IsPutWithBytes : {A : Type 0} → Result (WithBytes A) Fault → A → A → List ℕ → List ℕ → Type 0
IsPutWithBytes (Ok both) old new buf_old buf_new = (new ≡ both.value) × (buf_new ≡ copied both.bytes buf_old)
IsPutWithBytes (Err f) old new buf_old buf_new = (new ≡ old) × (buf_new ≡ buf_old)
