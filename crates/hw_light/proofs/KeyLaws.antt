-- What a text of keys is read as is what is worked out.
use Rattle.std.proofs.Common.{◌≡◌, ℕ, ◌*◌, ◌≤◌, inl, inr, nat_lt, Bool, true, false, List, [], ◌∷◌, ◌++◌, length, slice_index, take, drop, Option, Some, None, Result, Ok, Err, refl, sym, ap, ◌∙◌, arith, append_assoc}
use Rattle.std.specs.Prelude.{not, find, if◌then◌else◌}
use Rattle.std.specs.List.{All, range_with_len}
use Rattle.std.specs.Option.{option_or}
use Rattle.std.specs.Result.{result_unwrap_or}
use Rattle.std.proofs.lemmas.Bool.{cases_lt, lt-ltb, ltb-true}
use Rattle.std.proofs.lemmas.List.{take_at, drop_at, get_or_past}
use Rattle.std.proofs.lemmas.List.Elements.{All-head, All-tail}
use Rattle.hex.specs.Hex.{decode_of, encode_lower, IsBytes}
use Rattle.hex.specs.declared.error.FromHexError.{FromHexError}
use Rattle.hex.proofs.HexLemmas.{decode_of-encode_lower}
use Rattle.hw_codec.specs.Ranges.{AreBytesOf}
use Rattle.hw_keys.specs.declared.fault.KeysFault.{KeysFault}
use Rattle.hw_keys.specs.declared.fault.KeysFault.TheVariants.{At, OutOfMemory}
use Rattle.hw_keys.specs.Keys.{key_line, keys_text, may_stand, IsTextOf, IsFirstFault, IsFaultOf}
use Rattle.hw_keys.proofs.LineLaws.{digits_size, line_size}
use Rattle.hw_keys.proofs.TextLaws.{text_has_no_fault}
use Rattle.hw_light.specs.Keys.{short_end, keys_in, keys_of, ReadsKeys}
use Rattle.hw_light.proofs.FindLaws.{none_between, first_between}

-- ---- the keys of lines

bytes_are : (key : List ℕ) → AreBytesOf 32 key → IsBytes key
bytes_are key h i =
    elim (cases_lt i (length key)) [
      | inl within ↦ h.each i 0 within
      | inr past ↦ rw (get_or_past key i 0 past) (omega arith)
    ]

line_read : (key rest : List ℕ) → AreBytesOf 32 key → result_unwrap_or (decode_of (take 64 (key_line key ++ rest))) [] ≡ key
line_read key rest h =
    ap (λ (t : List ℕ). result_unwrap_or (decode_of (take 64 t)) []) (append_assoc (encode_lower key) (10 ∷ []) rest)
    ∙ ap (λ (t : List ℕ). result_unwrap_or (decode_of t) []) (take_at (encode_lower key) (10 ∷ rest) 64 (digits_size key h))
    ∙ ap (λ (r : Result (List ℕ) FromHexError). result_unwrap_or r []) (decode_of-encode_lower key (bytes_are key h))

lines_read : (keys : List (List ℕ)) → All (AreBytesOf 32) keys → keys_in (length keys) (keys_text keys) ≡ keys
unfolding keys_in
lines_read [] h = refl
lines_read (key ∷ keys) h =
    let first = All-head (AreBytesOf 32) key keys h in
    ap (λ (k : List ℕ). k ∷ keys_in (length keys) (drop 65 (key_line key ++ keys_text keys))) (line_read key (keys_text keys) first)
    ∙ ap (λ (t : List ℕ). key ∷ keys_in (length keys) t) (drop_at (key_line key) (keys_text keys) 65 (line_size key first))
    ∙ ap (λ (ks : List (List ℕ)). key ∷ ks) (lines_read keys (All-tail (AreBytesOf 32) key keys h))

-- ---- the first place that is wrong

module _ (n : ℕ) (text : List ℕ) where
  abbrev is_wrong : ℕ → Bool
  is_wrong place = not (may_stand n place (slice_index text place))

  abbrev answer : Option ℕ → Result (List (List ℕ)) ℕ
  answer o = elim o as (λ z. Result (List (List ℕ)) ℕ) [ Some place ↦ Err place | None ↦ Ok (keys_in n text) ]

  -- a text that is long enough has no end that comes too soon
  no_short : 65 * n ≤ length text → short_end n text ≡ None
  no_short le = go (nat_lt (length text) (65 * n)) refl
    where
      go : (b : Bool) → nat_lt (length text) (65 * n) ≡ b → (if b then Some (length text) else None) ≡ None
      go true e = absurd (let lt = ltb-true (length text) (65 * n) e in omega arith)
      go false e = refl

  pub keys_read : (keys : List (List ℕ)) → IsTextOf n text keys → keys_of n text ≡ Ok keys
  unfolding keys_of
  keys_read keys is =
      let good = text_has_no_fault n text keys is in
      let none = none_between is_wrong 0 (length text) (λ k le lt. ap not (good.each k (omega arith))) in
      let long = no_short (let size = good.size in omega arith) in
      ap (λ (o : Option ℕ). answer (option_or o (short_end n text))) none ∙ ap answer long
      ∙ ap (λ (ks : List (List ℕ)). Ok ks) (
      ap (λ (m : ℕ). keys_in m text) (sym is.count) ∙ ap (keys_in (length keys)) is.is ∙ lines_read keys is.each
      )

  pub place_read : (place : ℕ) → IsFirstFault n text place → keys_of n text ≡ Err place
  unfolding keys_of
  place_read place fault = elim fault.here [
    | inl wrong ↦ ap (λ (o : Option ℕ). answer (option_or o (short_end n text))) (first_between is_wrong (length text) place wrong.0 (ap not wrong.1) (λ k lt. ap not (fault.before k lt)))
    | inr short ↦
        ap (λ (o : Option ℕ). answer (option_or o (short_end n text))) (none_between is_wrong 0 (length text) (λ k le lt. ap not (fault.before k (let e = short.0 in omega arith))))
        ∙ ap (λ (b : Bool). answer (if b then Some (length text) else None)) (lt-ltb (length text) (65 * n) (let e = short.0 in let lt = short.1 in omega arith))
        ∙ ap (λ (k : ℕ). Err k) (sym short.0)
  ]

pub reads_keys : (n : ℕ) (text : List ℕ) (r : Result (List (List ℕ)) KeysFault) → Rattle.std.specs.Prelude.IfOk r (IsTextOf n text) → Rattle.std.specs.Prelude.IfErr r (IsFaultOf n text) → ReadsKeys n text r
reads_keys n text (Ok keys) ok err = keys_read n text keys ok
reads_keys n text (Err (At place)) ok err = place_read n text place err
reads_keys n text (Err OutOfMemory) ok err = tt
