-- The keys of a text, worked out.
-- Source: ours.
use Rattle.std.specs.Prelude.{◌≡◌, ℕ, zero, suc, ◌*◌, nat_lt, not, List, [], ◌∷◌, length, take, drop, slice_index, find, Option, Some, None, Result, Ok, Err, if◌then◌else◌}
use Rattle.std.specs.List.{range_with_len}
use Rattle.std.specs.Option.{option_or}
use Rattle.std.specs.Result.{result_unwrap_or}
use Rattle.hex.specs.Hex.{decode_of}
use Rattle.hw_keys.specs.declared.fault.KeysFault.{KeysFault}
use Rattle.hw_keys.specs.declared.fault.KeysFault.TheVariants.{At, OutOfMemory}
use Rattle.hw_keys.specs.Keys.{may_stand}

-- the first byte that may not be where it is
abbrev pub wrong_byte : ℕ → List ℕ → Option ℕ
wrong_byte validators text = find (λ place. not (may_stand validators place (slice_index text place))) (range_with_len 0 (length text))

-- the end of a text that is too short for this many lines
abbrev pub short_end : ℕ → List ℕ → Option ℕ
short_end validators text = if nat_lt (length text) (65 * validators) then Some (length text) else None

-- the keys of this many lines, each of 64 digits and a line feed
unfoldable pub keys_in : ℕ → List ℕ → List (List ℕ)
keys_in zero text = []
keys_in (suc n) text = result_unwrap_or (decode_of (take 64 text)) [] ∷ keys_in n (drop 65 text)

-- The keys in the text, one for each validator, or the first place that is wrong.
unfoldable pub keys_of : ℕ → List ℕ → Result (List (List ℕ)) ℕ
keys_of validators text = elim (option_or (wrong_byte validators text) (short_end validators text)) [ Some place ↦ Err place | None ↦ Ok (keys_in validators text) ]

-- these keys, or this place, are what the text says, unless memory ran out
abbrev pub ReadsKeys : ℕ → List ℕ → Result (List (List ℕ)) KeysFault → Type 0
ReadsKeys validators text (Ok keys) = keys_of validators text ≡ Ok keys
ReadsKeys validators text (Err (At place)) = keys_of validators text ≡ Err place
ReadsKeys validators text (Err OutOfMemory) = Unit {0}
