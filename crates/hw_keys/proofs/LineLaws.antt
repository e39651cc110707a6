-- The line of a key.
use Rattle.std.proofs.Common.{◌≡◌, ℕ, ◌<◌, true, inl, inr, List, [], ◌∷◌, ◌++◌, length, get_or, slice_index, take, drop, Result, Ok, refl, sym, ap, ◌∙◌, arith, length-append}
use Rattle.std.specs.Result.{result_unwrap_or}
use Rattle.std.proofs.lemmas.Bool.{cases_lt}
use Rattle.std.proofs.lemmas.List.{get_or_append_left, get_or_at, get_or_past, take_at, drop_at}
use Rattle.std.proofs.lemmas.Bool.Decides.{nat_tests}
use Rattle.hex.specs.Hex.{decode_of, encode_lower, lower_digits, IsBytes}
use Rattle.hex.specs.declared.error.FromHexError.{FromHexError}
use Rattle.hex.proofs.HexLemmas.{length-encode_with, decode_of-encode_lower}
use Rattle.hw_codec.specs.Ranges.{AreBytesOf}
use Rattle.hw_text.specs.Digits.{is_lower_digit}
use Rattle.hw_keys.specs.Keys.{key_line, may_stand_in_line}
use Rattle.hw_keys.proofs.DigitLaws.{encoded_lower}

pub digits_size : (key : List ℕ) → AreBytesOf 32 key → length (encode_lower key) ≡ 64
digits_size key h = let len = length-encode_with lower_digits key in omega (arith, len, h.size)

pub line_size : (key : List ℕ) → AreBytesOf 32 key → length (key_line key) ≡ 65
line_size key h = omega (arith, length-append (encode_lower key) (10 ∷ []), digits_size key h)

-- a digit may stand at each place but the last
digit_stands : (k c : ℕ) → k < 64 → is_lower_digit c ≡ true → may_stand_in_line k c ≡ true
digit_stands k c lt h = grind (arith, nat_tests)

pub line_stands : (key : List ℕ) → AreBytesOf 32 key → (k : ℕ) → k < 65 → may_stand_in_line k (slice_index (key_line key) k) ≡ true
line_stands key h k lt =
    let size = digits_size key h in
    elim (cases_lt k 64) [
      | inl below ↦
          let within : k < length (encode_lower key) = omega (arith, size, below) in
          rw (get_or_append_left (encode_lower key) (10 ∷ []) 0 k within) (digit_stands k (get_or (encode_lower key) k 0) below (encoded_lower key h.each k 0 within))
      | inr top ↦
          let last : k ≡ 64 = omega arith in
          rw (last, get_or_at (encode_lower key) 10 [] 0 64 size) refl
    ]

-- ---- a line tells one key

bytes_are : (key : List ℕ) → AreBytesOf 32 key → IsBytes key
bytes_are key h i =
    elim (cases_lt i (length key)) [
      | inl within ↦ h.each i 0 within
      | inr past ↦ rw (get_or_past key i 0 past) (omega arith)
    ]

same_digits : (x y : List ℕ) → AreBytesOf 32 x → AreBytesOf 32 y → encode_lower x ≡ encode_lower y → x ≡ y
same_digits x y hx hy e =
    let same : Ok x ≡ Ok y = sym (decode_of-encode_lower x (bytes_are x hx)) ∙ ap decode_of e ∙ decode_of-encode_lower y (bytes_are y hy) in
    ap (λ (r : Result (List ℕ) FromHexError). result_unwrap_or r []) same

-- lines in front of other text that are equal are of one key, and what is behind them is equal
pub same_lines : (x y more rest : List ℕ) → AreBytesOf 32 x → AreBytesOf 32 y → key_line x ++ more ≡ key_line y ++ rest → (x ≡ y) × (more ≡ rest)
same_lines x y more rest hx hy e =
    let front : key_line x ≡ key_line y = sym (take_at (key_line x) more 65 (line_size x hx)) ∙ ap (take 65) e ∙ take_at (key_line y) rest 65 (line_size y hy) in
    let behind : more ≡ rest = sym (drop_at (key_line x) more 65 (line_size x hx)) ∙ ap (drop 65) e ∙ drop_at (key_line y) rest 65 (line_size y hy) in
    let digits : encode_lower x ≡ encode_lower y = sym (take_at (encode_lower x) (10 ∷ []) 64 (digits_size x hx)) ∙ ap (take 64) front ∙ take_at (encode_lower y) (10 ∷ []) 64 (digits_size y hy) in
    (same_digits x y hx hy digits, behind)
