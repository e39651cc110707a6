-- Lower-case digits: those that bytes are spelled with, and that decoding gives them back.
use Rattle.std.proofs.Common.{◌≡◌, ℕ, zero, suc, ◌+◌, ◌-◌, ◌*◌, ◌/◌, ◌%◌, ◌<◌, ◌≤◌, ◌^◌, ◌==◌, Bool, true, ◌&&◌, ◌⊎◌, inl, inr, List, [], ◌∷◌, slice_index, Option, Some, None, unwrap_or, Result, Ok, Err, refl, sym, ap, ◌∙◌, arith}
use Rattle.std.specs.List.{AllPass}
use Rattle.std.specs.Result.{result_unwrap_or}
use Rattle.std.proofs.lemmas.Bool.{and_parts, cases_lt, eqb-true}
use Rattle.std.proofs.lemmas.List.Elements.{All-cons, All-head, All-nil, All-tail, All-weaker}
use Rattle.hex.specs.Hex.{decode_pairs, digit_or_error, hex_digit_value, is_hex_digit, lower_digits, encode_lower, encode_with, pair_value, value_at, ◌>>=◌}
use Rattle.hex.specs.declared.error.FromHexError.{FromHexError}
use Rattle.hw_codec.specs.Ranges.{AreBytes}
use Rattle.hw_text.specs.Digits.{is_lower_digit}

abbrev pub IsLower : ℕ → Type 0
IsLower c = is_lower_digit c ≡ true

pub lower_is_hex : (c : ℕ) → IsLower c → is_hex_digit c ≡ true
lower_is_hex c h = grind (arith)

pub lower_are_hex : (s : List ℕ) → AllPass is_lower_digit s → AllPass is_hex_digit s
lower_are_hex s h = All-weaker IsLower (λ c. is_hex_digit c ≡ true) lower_is_hex s h

-- ---- the table

-- what is said of one place of the table, which computes
abbrev is_digit_at : ℕ → Bool
is_digit_at d = is_lower_digit (slice_index lower_digits d) && (unwrap_or (hex_digit_value (slice_index lower_digits d)) 99 == d)

abbrev are_digits : ℕ → Bool
are_digits zero = true
are_digits (suc n) = is_digit_at n && are_digits n

are_digits-at : (n d : ℕ) → are_digits n ≡ true → d < n → is_digit_at d ≡ true
are_digits-at zero d h lt = absurd (omega arith)
are_digits-at (suc n) d h lt =
    let parts = and_parts (is_digit_at n) (are_digits n) h in
    elim (cases_lt d n) [
      | inl below ↦ are_digits-at n d parts.1 below
      | inr top ↦ let e : d ≡ n = omega arith in rw e parts.0
    ]

pub lower_at : (d : ℕ) → d < 16 → IsLower (slice_index lower_digits d)
lower_at d lt = (and_parts (is_lower_digit (slice_index lower_digits d)) _ (are_digits-at 16 d refl lt)).0

-- a digit below ten, and one from ten on
abbrev low_is : ℕ → Bool
low_is d = slice_index lower_digits d == d + 48

abbrev high_is : ℕ → Bool
high_is d = slice_index lower_digits (d + 10) == d + 97

abbrev all_below : (ℕ → Bool) → ℕ → Bool
all_below test zero = true
all_below test (suc n) = test n && all_below test n

all_below-at : (test : ℕ → Bool) (n d : ℕ) → all_below test n ≡ true → d < n → test d ≡ true
all_below-at test zero d h lt = absurd (omega arith)
all_below-at test (suc n) d h lt =
    let parts = and_parts (test n) (all_below test n) h in
    elim (cases_lt d n) [
      | inl below ↦ all_below-at test n d parts.1 below
      | inr top ↦ let e : d ≡ n = omega arith in rw e parts.0
    ]

low_at : (d : ℕ) → d < 10 → slice_index lower_digits d ≡ d + 48
low_at d lt = eqb-true _ _ (all_below-at low_is 10 d refl lt)

high_at : (d : ℕ) → d < 6 → slice_index lower_digits (d + 10) ≡ d + 97
high_at d lt = eqb-true _ _ (all_below-at high_is 6 d refl lt)

-- what a lower-case digit stands for
value_cases : (c v : ℕ) → IsLower c → hex_digit_value c ≡ Some v → ((v < 10) × (c ≡ v + 48)) ⊎ ((10 ≤ v) × (v < 16) × (c ≡ v + 87))
value_cases c v lower h = grind (arith)

-- its value leads back to it
pub digit_again : (c v : ℕ) → IsLower c → hex_digit_value c ≡ Some v → (v < 16) × (slice_index lower_digits v ≡ c)
digit_again c v lower h =
    elim (value_cases c v lower h) [
      | inl low ↦ (omega (arith, low.0), low_at v low.0 ∙ sym low.1)
      | inr high ↦
          let d = v - 10 in
          let is : v ≡ d + 10 = omega (arith, high.0) in
          let at = high_at d (omega (arith, high.0, high.1)) in
          (high.1, rw is (at ∙ omega (arith, high.0, high.2)))
    ]

-- ---- pairs of digits

-- what an `Ok` after `>>=` shows
bind_ok : {A B : Type 0} (r : Result A FromHexError) (f : A → Result B FromHexError) (y : B) → (r >>= f) ≡ Ok y → (x : A) × (r ≡ Ok x) × (f x ≡ Ok y)
bind_ok (Ok x) f y h = (x, refl, h)
bind_ok (Err e) f y h = cc h

-- the value of a digit that was read
digit_read : (c i : ℕ) (o : Option ℕ) (v : ℕ) → digit_or_error c i o ≡ Ok v → o ≡ Some v
digit_read c i (Some w) v h = ap Some (ap (λ (r : Result ℕ FromHexError). result_unwrap_or r 0) h)
digit_read c i None v h = cc h

-- the byte that two digits make is spelled by them
pair_again : (high low i byte : ℕ) → IsLower high → IsLower low → pair_value high low i ≡ Ok byte
    → (byte < 256) × (slice_index lower_digits (byte / 16) ≡ high) × (slice_index lower_digits (byte % 16) ≡ low)
pair_again high low i byte lower_high lower_low read =
    let h = bind_ok (value_at high i) _ byte read in
    let l = bind_ok (value_at low (i + 1)) _ byte h.2 in
    let vh = h.0 in
    let vl = l.0 in
    let dh = digit_again high vh lower_high (digit_read high i (hex_digit_value high) vh h.1) in
    let dl = digit_again low vl lower_low (digit_read low (i + 1) (hex_digit_value low) vl l.1) in
    let is : vh * 16 + vl ≡ byte = ap (λ (r : Result ℕ FromHexError). result_unwrap_or r 0) l.2 in
    let first : byte / 16 ≡ vh = omega (arith, is, dl.0) in
    let second : byte % 16 ≡ vl = omega (arith, is, dl.0) in
    (omega (arith, is, dh.0, dl.0), rw first dh.1, rw second dl.1)

-- bytes that lower-case digits were decoded to are spelled by them
pub encoded_again : (i : ℕ) (s bytes : List ℕ) → AllPass is_lower_digit s → decode_pairs i s ≡ Ok bytes → encode_lower bytes ≡ s
unfolding decode_pairs encode_with
encoded_again i [] bytes h e =
    let is : [] ≡ bytes = ap (λ (r : Result (List ℕ) FromHexError). result_unwrap_or r []) e in
    rw (← is) refl
encoded_again i (a ∷ []) bytes h e = cc e
encoded_again i (a ∷ b ∷ rest) bytes h e =
    let m = bind_ok (pair_value a b i) _ bytes e in
    let n = bind_ok (decode_pairs (i + 2) rest) _ bytes m.2 in
    let is : m.0 ∷ n.0 ≡ bytes = ap (λ (r : Result (List ℕ) FromHexError). result_unwrap_or r []) n.2 in
    let others = All-tail IsLower a (b ∷ rest) h in
    let pair = pair_again a b i m.0 (All-head IsLower a (b ∷ rest) h) (All-head IsLower b rest others) m.1 in
    let more = encoded_again (i + 2) rest n.0 (All-tail IsLower b rest others) n.1 in
    rw (← is) (rw (pair.1, pair.2, more) refl)

-- ---- what bytes are spelled with

pub encoded_lower : (bytes : List ℕ) → AreBytes bytes → AllPass is_lower_digit (encode_lower bytes)
unfolding encode_with
encoded_lower [] h = All-nil IsLower
encoded_lower (b ∷ rest) h =
    let fits : b < 2 ^ 8 = All-head (λ (c : ℕ). c < 2 ^ 8) b rest h in
    All-cons IsLower (slice_index lower_digits (b / 16)) (slice_index lower_digits (b % 16) ∷ encode_lower rest) (lower_at (b / 16) (omega arith))
    (All-cons IsLower (slice_index lower_digits (b % 16)) (encode_lower rest) (lower_at (b % 16) (omega arith)) (encoded_lower rest (All-tail (λ (c : ℕ). c < 2 ^ 8) b rest h)))
