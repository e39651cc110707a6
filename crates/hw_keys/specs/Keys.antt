-- The text of keys.
-- Source: ours.
use Rattle.std.specs.Prelude.{◌≡◌, ℕ, ◌*◌, ◌%◌, ◌<◌, nat_lt, ◌==◌, Bool, true, false, ◌&&◌, ◌⊎◌, List, [], ◌∷◌, ◌++◌, length, slice_index, if◌then◌else◌}
use Rattle.std.specs.List.{All, flat_map}
use Rattle.hex.specs.Hex.{encode_lower}
use Rattle.hw_text.specs.Digits.{is_lower_digit}
use Rattle.hw_codec.specs.Ranges.{AreBytesOf}
use Rattle.hw_keys.specs.declared.fault.KeysFault.{KeysFault}
use Rattle.hw_keys.specs.declared.fault.KeysFault.TheVariants.{At, OutOfMemory}

-- the line of a key: its hexadecimal digits in lower case, two for each byte, and a line feed
abbrev pub key_line : List ℕ → List ℕ
key_line key = encode_lower key ++ 10 ∷ []

-- the text of keys: a line for each
abbrev pub keys_text : List (List ℕ) → List ℕ
keys_text keys = flat_map key_line keys

-- The text is that of these keys, one of 32 bytes for each validator.
pub record IsTextOf (validators : ℕ) (text : List ℕ) (keys : List (List ℕ)) : Type 0 where
  pub each : All (AreBytesOf 32) keys
  pub count : length keys ≡ validators
  pub is : text ≡ keys_text keys

-- ---- by places

-- what may stand in a line of 65 bytes: a digit, and a line feed at the last place
abbrev pub may_stand_in_line : ℕ → ℕ → Bool
may_stand_in_line place c = if place == 64 then c == 10 else is_lower_digit c

-- what may stand in a text of so many lines; behind the last one nothing may
abbrev pub may_stand : ℕ → ℕ → ℕ → Bool
may_stand validators place c = nat_lt place (65 * validators) && may_stand_in_line (place % 65) c

-- the byte at the place may stand there
abbrev pub StandsAt : ℕ → List ℕ → ℕ → Type 0
StandsAt validators text place = may_stand validators place (slice_index text place) ≡ true

-- The first place that is wrong: its byte may not stand there, or the text ends before its last line does.
pub record IsFirstFault (validators : ℕ) (text : List ℕ) (place : ℕ) : Type 0 where
  pub before : (k : ℕ) → k < place → StandsAt validators text k
  pub here : ((place < length text) × (may_stand validators place (slice_index text place) ≡ false)) ⊎ ((place ≡ length text) × (place < 65 * validators))

-- no place is wrong
pub record HasNoFault (validators : ℕ) (text : List ℕ) : Type 0 where
  pub each : (k : ℕ) → k < length text → StandsAt validators text k
  pub size : length text ≡ 65 * validators

-- a fault is the first place that is wrong, unless memory ran out
abbrev pub IsFaultOf : ℕ → List ℕ → KeysFault → Type 0
IsFaultOf validators text (At place) = IsFirstFault validators text place
IsFaultOf validators text OutOfMemory = Unit {0}
