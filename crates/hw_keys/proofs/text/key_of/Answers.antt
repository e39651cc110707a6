use Rattle.std.proofs.Common.{◌≡◌, ℕ, ◌<◌, ◌^◌, List, length, Result, Ok, Err, sym, ◌∙◌, arith}
use Rattle.std.specs.Prelude.{MatchResult, IsOk}
use Rattle.std.proofs.lemmas.List.Elements.{All-from_get_or}
use Rattle.hex.specs.Hex.{decode_of, decode_sized, encode_lower}
use Rattle.hex.specs.declared.error.FromHexError.{FromHexError}
use Rattle.hex.proofs.HexLemmas.{IsOk-decode_sized, IsOk-written, decode_sized-twice, decode_of-even, decode_of-ok}
use Rattle.hw_codec.specs.Ranges.{AreBytesOf}
use Rattle.std.specs.List.{AllPass}
use Rattle.hw_text.specs.Digits.{is_lower_digit}
use Rattle.hw_keys.proofs.DigitLaws.{lower_are_hex, encoded_again}
use Rattle.hw_keys.proofs.text.key_of.Goals as goal

-- the value that was written
written : (d : Result (List ℕ) FromHexError) (r : Result Unit FromHexError) (out : List ℕ)
    → MatchResult d (λ bytes. (r ≡ Ok tt) × (out ≡ bytes)) (λ e. r ≡ Err e) → IsOk d → d ≡ Ok out
written (Ok bytes) r out h is_ok = cc h.1
written (Err e) r out h is_ok = cc is_ok

decodes : (s : List ℕ) → length s ≡ 64 → (bytes : List ℕ) → decode_sized s 32 ≡ Ok bytes → decode_of s ≡ Ok bytes
decodes s size bytes e = sym (decode_sized-twice s 32 size) ∙ e

-- digits decode
decoded : (s : List ℕ) → length s ≡ 64 → AllPass is_lower_digit s → IsOk (decode_sized s 32)
decoded s size each = (IsOk-decode_sized s 32).1 (size, lower_are_hex s each)

-- what was written is what they decode to
told : (s : List ℕ) (r : Result Unit FromHexError) (out : List ℕ) → length s ≡ 64 → AllPass is_lower_digit s
    → MatchResult (decode_sized s 32) (λ bytes. (r ≡ Ok tt) × (out ≡ bytes)) (λ e. r ≡ Err e) → (encode_lower out ≡ s) × AreBytesOf 32 out
told s r out size each h =
    let of = decodes s size out (written (decode_sized s 32) r out h (decoded s size each)) in
    let ok = decode_of-ok s out of in (
      encoded_again 0 s out each (sym (decode_of-even s ok.0) ∙ of),
      record {
        size = omega (arith, ok.2, size);
        each = All-from_get_or (λ (b : ℕ). b < 2 ^ 8) out 0 (λ i lt. ok.3 i);
      },
    )

pub unwrap-requires : goal.unwrap-requires
unwrap-requires c =
    let s = c.args.digits.now in
    (IsOk-written (decode_sized s 32) c.decode_to_slice.result c.decode_to_slice.new.out c.decode_to_slice.ensures.value).1 (decoded s c.requires.size c.requires.each)

pub returns-clause-is : goal.returns-clause-is
returns-clause-is c = (told c.args.digits.now c.decode_to_slice.result c.decode_to_slice.new.out c.requires.size c.requires.each c.decode_to_slice.ensures.value).0

pub returns-clause-bytes : goal.returns-clause-bytes
returns-clause-bytes c = (told c.args.digits.now c.decode_to_slice.result c.decode_to_slice.new.out c.requires.size c.requires.each c.decode_to_slice.ensures.value).1
