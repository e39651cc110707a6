-- The text of keys, by places and as lines.
use Rattle.std.proofs.Common.{◌≡◌, ℕ, ◌+◌, ◌-◌, ◌*◌, ◌%◌, ◌<◌, nat_lt, true, inl, inr, List, [], ◌∷◌, ◌++◌, length, get_or, slice_index, take, drop, refl, sym, ap, ◌∙◌, arith, length-append}
use Rattle.std.specs.List.{All}
use Rattle.std.proofs.lemmas.Bool.{and_parts, cases_lt, eqb-true, lt-ltb, false≢true}
use Rattle.std.proofs.lemmas.List.{append-nil, get_or_append_left, get_or-append_right, get_or-drop, take_more, length-drop}
use Rattle.std.proofs.lemmas.List.Concat.{flat_map-append}
use Rattle.std.proofs.lemmas.List.Elements.{All-head, All-tail}
use Rattle.std.proofs.Math.Seq.{take-add}
use Rattle.hex.specs.Hex.{encode_lower}
use Rattle.hw_codec.specs.Ranges.{AreBytesOf}
use Rattle.hw_keys.specs.Keys.{key_line, keys_text, IsTextOf, may_stand_in_line, IsFirstFault, HasNoFault}
use Rattle.hw_keys.proofs.LineLaws.{line_size, line_stands, same_lines}

-- ---- one line more

line_feed : (n : ℕ) (text : List ℕ) (i : ℕ) → HasNoFault n text → i < n → slice_index text (65 * i + 64) ≡ 10
line_feed n text i good lt =
    let place = 65 * i + 64 in
    let stands = good.each place (omega (arith, good.size, lt)) in
    let in_line = (and_parts (nat_lt place (65 * n)) (may_stand_in_line (place % 65) (slice_index text place)) stands).1 in
    let last : place % 65 ≡ 64 = omega arith in
    eqb-true (slice_index text place) 10 (rw last at in_line)

pub one_line_more : (n : ℕ) (text : List ℕ) (i : ℕ) (keys : List (List ℕ)) (key : List ℕ) → HasNoFault n text → i < n
    → keys_text keys ≡ take (65 * i) text → encode_lower key ≡ take 64 (drop (65 * i) text) → keys_text (keys ++ key ∷ []) ≡ take (65 * (i + 1)) text
one_line_more n text i keys key good lt so_far digits =
    let rest = drop (65 * i) text in
    let size : 64 < length rest = omega (arith, length-drop (65 * i) text, good.size, lt) in
    let last : get_or rest 64 0 ≡ 10 = get_or-drop (65 * i) text 64 0 ∙ line_feed n text i good lt in
    let line : key_line key ≡ take 65 rest = ap (λ (d : List ℕ). d ++ 10 ∷ []) digits ∙ ap (λ (c : ℕ). take 64 rest ++ c ∷ []) (sym last) ∙ sym (take_more rest 64 0 size) in
    let more : 65 * i + 65 ≡ 65 * (i + 1) = omega arith in
    flat_map-append key_line keys (key ∷ [])
    ∙ ap (λ (t : List ℕ). keys_text keys ++ t) (append-nil (key_line key) ∙ line)
    ∙ ap (λ (t : List ℕ). t ++ take 65 rest) so_far
    ∙ sym (take-add (65 * i) 65 text) ∙ ap (λ (m : ℕ). take m text) more

-- ---- a text of keys has no fault

text_size : (keys : List (List ℕ)) → All (AreBytesOf 32) keys → length (keys_text keys) ≡ 65 * length keys
text_size [] h = refl
text_size (key ∷ keys) h =
    omega (arith, length-append (key_line key) (keys_text keys), line_size key (All-head (AreBytesOf 32) key keys h), text_size keys (All-tail (AreBytesOf 32) key keys h))

text_stands : (keys : List (List ℕ)) → All (AreBytesOf 32) keys → (k : ℕ) → k < 65 * length keys → may_stand_in_line (k % 65) (slice_index (keys_text keys) k) ≡ true
text_stands [] h k lt = absurd (omega arith)
text_stands (key ∷ keys) h k lt =
    let first = All-head (AreBytesOf 32) key keys h in
    let size = line_size key first in
    elim (cases_lt k 65) [
      | inl below ↦
          let within : k < length (key_line key) = omega (arith, size, below) in
          let place : k % 65 ≡ k = omega arith in
          rw (place, get_or_append_left (key_line key) (keys_text keys) 0 k within) (line_stands key first k below)
      | inr behind ↦
          let place : k % 65 ≡ (k - 65) % 65 = omega arith in
          rw (place, get_or-append_right (key_line key) (keys_text keys) 65 k 0 size behind)
          (text_stands keys (All-tail (AreBytesOf 32) key keys h) (k - 65) (omega arith))
    ]

pub text_has_no_fault : (n : ℕ) (text : List ℕ) (keys : List (List ℕ)) → IsTextOf n text keys → HasNoFault n text
text_has_no_fault n text keys is =
    let size : length text ≡ 65 * n = ap length is.is ∙ text_size keys is.each ∙ ap (λ (m : ℕ). 65 * m) is.count in
    record {
      each = λ k lt.
          let within : k < 65 * n = omega (arith, size, lt) in
          let here : k < 65 * length keys = rw is.count within in
          rw (lt-ltb k (65 * n) within, is.is) (text_stands keys is.each k here);
      size = size;
    }

-- what has no fault has no first one
pub no_first_fault : (n : ℕ) (text : List ℕ) (place : ℕ) → HasNoFault n text → IsFirstFault n text place → ⊥
no_first_fault n text place good fault =
    elim fault.here [
      | inl wrong ↦ false≢true (sym wrong.1 ∙ good.each place wrong.0)
      | inr short ↦ omega (arith, good.size, short.0, short.1)
    ]

-- ---- a text tells one list of keys

same_keys : (xs ys : List (List ℕ)) → All (AreBytesOf 32) xs → All (AreBytesOf 32) ys → length xs ≡ length ys → keys_text xs ≡ keys_text ys → xs ≡ ys
same_keys [] [] hx hy size e = refl
same_keys [] (y ∷ ys) hx hy size e = absurd (omega arith)
same_keys (x ∷ xs) [] hx hy size e = absurd (omega arith)
same_keys (x ∷ xs) (y ∷ ys) hx hy size e =
    let parts = same_lines x y (keys_text xs) (keys_text ys) (All-head (AreBytesOf 32) x xs hx) (All-head (AreBytesOf 32) y ys hy) e in
    let others = same_keys xs ys (All-tail (AreBytesOf 32) x xs hx) (All-tail (AreBytesOf 32) y ys hy) (omega arith) parts.1 in
    ap (λ (z : List ℕ). z ∷ xs) parts.0 ∙ ap (λ (zs : List (List ℕ)). y ∷ zs) others

pub text_tells_one : (n : ℕ) (text : List ℕ) (xs ys : List (List ℕ)) → IsTextOf n text xs → IsTextOf n text ys → xs ≡ ys
text_tells_one n text xs ys of_xs of_ys = same_keys xs ys of_xs.each of_ys.each (of_xs.count ∙ sym of_ys.count) (sym of_xs.is ∙ of_ys.is)
