-- Where the reader's steps stop at an error it is the first one, and where that one stands they stop at it.
use Rattle.std.proofs.Common.{◌≡◌, ℕ, ◌+◌, ◌<◌, ◌≤◌, ◌^◌, Bool, true, false, cond, ltb, not, ◌==◌, nat_eq, if◌then◌else◌, List, [], ◌∷◌, ◌++◌, length, take, drop, codes, slice_index, Option, Some, None, Result, Ok, Err, ◌⊎◌, inl, inr, refl, sym, ap, subst, ◌∙◌, arith, length-append}
use Rattle.std.specs.List.{starts_with}
use Rattle.std.specs.Int.{w32, from_be_bytes}
use Rattle.std.proofs.lemmas.Bool.{ltb-true, ltb-false, lt-ltb, le-ltb, eqb-true, eqb-false, ne_eqb, not-true, not-false, false_from_ne_true, cases_lt}
use Rattle.std.proofs.lemmas.List.{take-append-drop, length-take, take_all, drop_all}
use Rattle.std.proofs.lemmas.List.Elements.{All-take, All-drop}
use Rattle.std.proofs.lemmas.Nat.{from_be_bytes-to_be_bytes_4}
use lib.Pointwise.{bytes_decides}
use Rattle.hw_types.specs.declared.config.Config.{Config}
use Rattle.hw_types.specs.declared.config.ConfigFault.{ConfigFault}
use Rattle.hw_types.specs.declared.answers.CodecError.{CodecError}
use Rattle.hw_types.specs.Limits.{config_fault}
use Rattle.hw_types.specs.Spelling.{u32_bytes, config_bytes}
use Rattle.hw_types.specs.Reading.{Rest, config_of}
use Rattle.hw_codec.specs.Ranges.{AreBytes}
use Rattle.hw_codec.proofs.Fields.{wide32}
use Rattle.hw_codec.proofs.Spelled.{config_read_spells, config_read_in_range, config_spelled_reads}
use Rattle.hw_log.specs.declared.head.Front.{Front}
use Rattle.hw_log.specs.declared.head.EntryHead.{EntryHead}
use Rattle.hw_log.specs.declared.error.LogError.{LogError}
use Rattle.hw_log.specs.declared.error.LogError.TheVariants.{BadMagic, Version, Torn, TooLong, BadConfig, ConfigFault as Refused, BadEvent, BadVerdict, BadVertex, ReadFault, WriteFault, OutOfMemory}
use Rattle.hw_log.specs.Lasts.{LastUnits, IsVersion, vertex_in}
use Rattle.hw_log.specs.Log.{◌>>=◌, Left, rest_at, bytes_at, decoded, is_too_long, is_version, front_of, refuse, checked_config, header_of, head_of, head_at, body_at, entry_at, next_at, header_bytes}
use Rattle.hw_log.specs.Grammar.{IsWrongHeader, IsWrongEntry}
use Rattle.hw_log.proofs.FieldLaws.{bytes_held}
use Rattle.hw_log.proofs.LengthLaws.{config_short}
use Rattle.hw_log.proofs.EntryLaws.{bind_ok, chosen, with_head, with_vertex, with_body, as_next, next_at-end, next_at-entry}
use Rattle.hw_log.proofs.MoreLaws.{with_config, with_spelled, front_of-whole}
use Rattle.hw_log.proofs.AppendLaws.{head_bytes, verdict_known, head_of-is, front_bytes, version_there, front_again}
use Rattle.hw_log.proofs.SpelledLaws.{took, four_bytes, verdict_byte, head_spelled, bind_err, version_is, front_spelled, config_decoded}

-- ---- steps that fail

-- a choice that is an error
wrong_or : (A : Type 0) (b : Bool) (d e : LogError) (x : Result A LogError) → cond b (Err d) x ≡ Err e → ((b ≡ true) × (d ≡ e)) ⊎ ((b ≡ false) × (x ≡ Err e))
wrong_or A true d e x is = inl (refl, cc)
wrong_or A false d e x is = inr (refl, is)

decoded_err : {A : Type 0} (wrap : CodecError → LogError) (x : Result A CodecError) (e : LogError) → decoded wrap x ≡ Err e → (c : CodecError) × (x ≡ Err c) × (wrap c ≡ e)
decoded_err wrap (Ok x) e is = absurd cc
decoded_err wrap (Err c) e is = (c, refl, cc)

-- fewer bytes are left
bytes_short : (n : ℕ) (torn e : LogError) (r : Rest) → bytes_at n torn r ≡ Err e → (torn ≡ e) × (length r.bytes < n)
bytes_short n torn e r is = elim (wrong_or (List ℕ × Rest) (ltb (length r.bytes) n) torn e (Ok (take n r.bytes, rest_at (r.place + n) (drop n r.bytes))) is) [
  | inl short ↦ (short.1, ltb-true _ _ short.0)
  | inr made ↦ absurd (let no = made.1 in cc)
]

bytes_missing : (n : ℕ) (torn : LogError) (place : ℕ) (bytes : List ℕ) → length bytes < n → bytes_at n torn (rest_at place bytes) ≡ Err torn
bytes_missing n torn place bytes less = rw (lt-ltb (length bytes) n less) refl

bytes_there : (n : ℕ) (torn : LogError) (place : ℕ) (bytes : List ℕ) → n ≤ length bytes → bytes_at n torn (rest_at place bytes) ≡ Ok (take n bytes, rest_at (place + n) (drop n bytes))
bytes_there n torn place bytes enough = rw (le-ltb (length bytes) n enough) refl

-- a text in front is taken
bytes_front : (torn : LogError) (place : ℕ) (text behind : List ℕ) → bytes_at (length text) torn (rest_at place (text ++ behind)) ≡ Ok (text, rest_at (place + length text) behind)
bytes_front torn place text behind =
    bytes_held (length text) torn place text behind (omega arith)
    ∙ rw (take_all (length text) text (omega arith), drop_all (length text) text (omega arith)) refl

-- ---- an entry's error is the first

head_wrong : (lasts : LastUnits) (place : ℕ) (head behind : List ℕ) (e : LogError) → AreBytes head → length head ≡ 6 → head_of place head ≡ Err e → IsWrongEntry lasts place (head ++ behind) e
unfolding head_of
head_wrong lasts place [] behind e fits size is = absurd (omega arith)
head_wrong lasts place (a ∷ []) behind e fits size is = absurd (omega arith)
head_wrong lasts place (a ∷ b ∷ rest) behind e fits size is =
    let n = from_be_bytes w32 rest in
    let long : 6 ≤ length ((a ∷ b ∷ rest) ++ behind) = omega (arith, length-append (a ∷ b ∷ rest) behind) in
    let counts : AreBytes rest = All-drop (λ (x : ℕ). x < 2 ^ 8) 2 (a ∷ b ∷ rest) fits in
    elim (wrong_or EntryHead (not (a == 1)) (BadEvent place) e _ is) [
      | inl event ↦ subst (IsWrongEntry lasts place ((a ∷ b ∷ rest) ++ behind)) event.1 (refl, (a, b ∷ (rest ++ behind), refl, eqb-false a 1 (not-true (a == 1) event.0), long))
      | inr known ↦
          let one : a ≡ 1 = eqb-true a 1 (not-false (a == 1) known.0) in
          elim (wrong_or EntryHead (ltb 1 b) (BadVerdict place) e _ known.1) [
            | inl verdict ↦ subst (IsWrongEntry lasts place ((a ∷ b ∷ rest) ++ behind)) verdict.1 (refl, (b, rest ++ behind, ap (λ (x : ℕ). x ∷ b ∷ (rest ++ behind)) one, ltb-true 1 b verdict.0, long))
            | inr said ↦ elim (wrong_or EntryHead (is_too_long n) (TooLong place) e _ said.1) [
              | inl great ↦
                  let same : (a ∷ b ∷ rest) ++ behind ≡ 1 ∷ (if b == 1 then 1 else 0) ∷ (u32_bytes n ++ behind) =
                  ap (λ (x : ℕ). x ∷ b ∷ (rest ++ behind)) one
                  ∙ ap (λ (x : ℕ). 1 ∷ x ∷ (rest ++ behind)) (verdict_byte b (ltb-false 1 b said.0))
                  ∙ ap (λ (x : List ℕ). 1 ∷ (if b == 1 then 1 else 0) ∷ (x ++ behind)) (four_bytes rest n counts (omega arith) refl) in
                  subst (IsWrongEntry lasts place ((a ∷ b ∷ rest) ++ behind)) great.1 (refl, (n, behind, (b == 1, same), ltb-true 1048576 n great.0, wide32.below rest counts))
              | inr made ↦ absurd (let no = made.1 in cc)
            ]
          ]
    ]

head_at_wrong : (lasts : LastUnits) (r : Rest) (e : LogError) → AreBytes r.bytes → 0 < length r.bytes → head_at r ≡ Err e → IsWrongEntry lasts r.place r.bytes e
unfolding head_at
head_at_wrong lasts r e fits some is = elim (bind_err (bytes_at 6 (Torn r.place) r) (λ head. head_of r.place head.0 >>= with_head head) e is) [
  | inl few ↦ (let short = bytes_short 6 (Torn r.place) e r few in subst (IsWrongEntry lasts r.place r.bytes) short.0 (refl, inl (some, short.1)))
  | inr front ↦ elim (bind_err (head_of r.place front.0.0) (with_head front.0) e front.2) [
    | inl said ↦
        let six = took 6 (Torn r.place) r front.0 front.1 in
        subst (λ (b : List ℕ). IsWrongEntry lasts r.place b e) (sym six.bytes) (head_wrong lasts r.place front.0.0 front.0.1.bytes e (six.taken fits) six.size said)
    | inr made ↦ absurd (let no = made.2 in cc)
  ]
]

-- what stands in front of a vertex
record HasRead (r : Rest) (x : EntryHead × Rest) : Type 0 where
  bytes : r.bytes ≡ 1 ∷ (if x.0.verdict then 1 else 0) ∷ (u32_bytes x.0.length ++ x.1.bytes)
  short : x.0.length ≤ 1048576

head_short : (at : ℕ) (head : List ℕ) (said : EntryHead) → head_of at head ≡ Ok said → said.length ≤ 1048576
unfolding head_of
head_short at head said e =
    let event = chosen (not (slice_index head 0 == 1)) (BadEvent at) _ said e in
    let verdict = chosen (ltb 1 (slice_index head 1)) (BadVerdict at) _ said event.1 in
    let short = chosen (is_too_long (from_be_bytes w32 (drop 2 head))) (TooLong at) (Ok (record { verdict = slice_index head 1 == 1; length = from_be_bytes w32 (drop 2 head) })) said verdict.1 in
    let counts : from_be_bytes w32 (drop 2 head) ≡ said.length = ap (λ (y : Result EntryHead LogError). elim y [ Ok z ↦ z.length | Err d ↦ 0 ]) short.1 in
    subst (λ (n : ℕ). n ≤ 1048576) counts (ltb-false 1048576 _ short.0)

head_read : (r : Rest) (x : EntryHead × Rest) → AreBytes r.bytes → head_at r ≡ Ok x → HasRead r x
unfolding head_at
head_read r x fits e =
    let front = bind_ok (bytes_at 6 (Torn r.place) r) (λ head. head_of r.place head.0 >>= with_head head) x e in
    let said = bind_ok (head_of r.place front.0.0) (with_head front.0) x front.2 in
    let six = took 6 (Torn r.place) r front.0 front.1 in
    let made : EntryHead × Rest = (said.0, front.0.1) in
    let is : made ≡ x = (let same = said.2 in cc) in
    subst (HasRead r) is (record {
      bytes = six.bytes ∙ ap (λ (y : List ℕ). y ++ front.0.1.bytes) (head_spelled r.place front.0.0 said.0 (six.taken fits) six.size said.1);
      short = head_short r.place front.0.0 said.0 said.1;
    })

body_wrong : (lasts : LastUnits) (r : Rest) (h : EntryHead × Rest) (e : LogError) → HasRead r h → body_at lasts r.place h.0.length h.1 ≡ Err e → IsWrongEntry lasts r.place r.bytes e
unfolding body_at
body_wrong lasts r h e head is =
    let n = h.0.length in
    elim (bind_err (bytes_at n (Torn r.place) h.1) (λ spelled. decoded (BadVertex r.place) (vertex_in lasts spelled.0) >>= with_vertex spelled) e is) [
      | inl few ↦ (let short = bytes_short n (Torn r.place) e h.1 few in subst (IsWrongEntry lasts r.place r.bytes) short.0 (refl, inr (n, h.1.bytes, (h.0.verdict, head.bytes), head.short, short.1)))
      | inr text ↦ elim (bind_err (decoded (BadVertex r.place) (vertex_in lasts text.0.0)) (with_vertex text.0) e text.2) [
        | inl bad ↦
            let t = took n (Torn r.place) h.1 text.0 text.1 in
            let c = decoded_err (BadVertex r.place) (vertex_in lasts text.0.0) e bad in
            let size : n ≡ length text.0.0 = sym t.size in
            let bytes : r.bytes ≡ 1 ∷ (if h.0.verdict then 1 else 0) ∷ (u32_bytes (length text.0.0) ++ (text.0.0 ++ text.0.1.bytes)) =
            head.bytes
            ∙ ap (λ (y : List ℕ). 1 ∷ (if h.0.verdict then 1 else 0) ∷ (u32_bytes n ++ y)) t.bytes
            ∙ ap (λ (k : ℕ). 1 ∷ (if h.0.verdict then 1 else 0) ∷ (u32_bytes k ++ (text.0.0 ++ text.0.1.bytes))) size in
            subst (IsWrongEntry lasts r.place r.bytes) c.2 (refl, (text.0.0, text.0.1.bytes, (h.0.verdict, bytes), subst (λ (k : ℕ). k ≤ 1048576) size head.short, c.1))
        | inr made ↦ absurd (let no = made.2 in cc)
      ]
    ]

entry_wrong : (l : Left) (e : LogError) → AreBytes l.rest.bytes → 0 < length l.rest.bytes → entry_at l ≡ Err e → IsWrongEntry l.lasts l.rest.place l.rest.bytes e
unfolding entry_at
entry_wrong l e fits some is =
    elim (bind_err (head_at l.rest) (λ head. body_at l.lasts l.rest.place head.0.length head.1 >>= with_body l.lasts l.rest.place head) e is) [
      | inl first ↦ head_at_wrong l.lasts l.rest e fits some first
      | inr second ↦ elim (bind_err (body_at l.lasts l.rest.place second.0.0.length second.0.1) (with_body l.lasts l.rest.place second.0) e second.2) [
        | inl body ↦ body_wrong l.lasts l.rest second.0 e (head_read l.rest second.0 fits second.1) body
        | inr made ↦ absurd (let no = made.2 in cc)
      ]
    ]

pub next_wrong : (l : Left) (e : LogError) → AreBytes l.rest.bytes → next_at l ≡ Err e → IsWrongEntry l.lasts l.rest.place l.rest.bytes e
next_wrong l e fits is = elim (cases_lt 0 (length l.rest.bytes)) [
  | inl some ↦ elim (bind_err (entry_at l) as_next e (sym (next_at-entry l some) ∙ is)) [
    | inl first ↦ entry_wrong l e fits some first
    | inr made ↦ absurd (let no = made.2 in cc)
  ]
  | inr few ↦
      let none : length l.rest.bytes ≡ 0 = omega arith in
      let no = sym (next_at-end l none) ∙ is in
      absurd cc
]

-- ---- and it is found

event_stops : (place event : ℕ) (head : List ℕ) → slice_index head 0 ≡ event → ¬ (event ≡ 1) → head_of place head ≡ Err (BadEvent place)
unfolding head_of
event_stops place event head first other = rw (first, ne_eqb event 1 other) refl

verdict_stops : (place verdict : ℕ) (head : List ℕ) → slice_index head 0 ≡ 1 → slice_index head 1 ≡ verdict → 1 < verdict → head_of place head ≡ Err (BadVerdict place)
unfolding head_of
verdict_stops place verdict head first second great = rw (first, second, lt-ltb 1 verdict great) refl

length_stops : (place n : ℕ) (verdict : Bool) (head : List ℕ) → slice_index head 0 ≡ 1 → slice_index head 1 ≡ (if verdict then 1 else 0) → from_be_bytes w32 (drop 2 head) ≡ n → 1048576 < n → head_of place head ≡ Err (TooLong place)
unfolding head_of
length_stops place n verdict head first second counts great = rw (first, second, counts, verdict_known verdict, lt-ltb 1048576 n great) refl

abbrev left_at : LastUnits → ℕ → List ℕ → Left
left_at lasts place bytes = record { rest = rest_at place bytes; lasts = lasts }

head_stops : (lasts : LastUnits) (place : ℕ) (bytes : List ℕ) (e : LogError) → 6 ≤ length bytes → head_of place (take 6 bytes) ≡ Err e → entry_at (left_at lasts place bytes) ≡ Err e
unfolding entry_at head_at
head_stops lasts place bytes e long said = rw (bytes_there 6 (Torn place) place bytes long, said) refl

-- there are fewer than six bytes, or fewer than the head says
six_missing : (lasts : LastUnits) (place : ℕ) (bytes : List ℕ) → length bytes < 6 → entry_at (left_at lasts place bytes) ≡ Err (Torn place)
unfolding entry_at head_at
six_missing lasts place bytes few = rw (bytes_missing 6 (Torn place) place bytes few) refl

body_missing : (lasts : LastUnits) (place n : ℕ) (verdict : Bool) (behind : List ℕ) → n ≤ 1048576 → length behind < n → entry_at (left_at lasts place (head_bytes verdict n ++ behind)) ≡ Err (Torn place)
unfolding entry_at head_at body_at
body_missing lasts place n verdict behind short less =
    let back : from_be_bytes w32 (u32_bytes n) ≡ n = from_be_bytes-to_be_bytes_4 n (omega arith) in
    let head = bytes_held 6 (Torn place) place (head_bytes verdict n) behind (omega arith) in
    let said = head_of-is place (head_bytes verdict n) verdict n refl refl back short in
    let body = bytes_missing n (Torn place) (place + 6) behind less in
    rw (head, said, body) refl

vertex_stops : (lasts : LastUnits) (place : ℕ) (verdict : Bool) (text behind : List ℕ) (c : CodecError) → length text ≤ 1048576 → vertex_in lasts text ≡ Err c
    → entry_at (left_at lasts place (head_bytes verdict (length text) ++ (text ++ behind))) ≡ Err (BadVertex place c)
unfolding entry_at head_at body_at
vertex_stops lasts place verdict text behind c short bad =
    let n = length text in
    let back : from_be_bytes w32 (u32_bytes n) ≡ n = from_be_bytes-to_be_bytes_4 n (omega arith) in
    let head = bytes_held 6 (Torn place) place (head_bytes verdict n) (text ++ behind) (omega arith) in
    let said = head_of-is place (head_bytes verdict n) verdict n refl refl back short in
    let body = bytes_front (Torn place) (place + 6) text behind in
    rw (head, said, body, bad) refl

pub entry_stops : (lasts : LastUnits) (place : ℕ) (bytes : List ℕ) (e : LogError) → IsWrongEntry lasts place bytes e → entry_at (left_at lasts place bytes) ≡ Err e
entry_stops lasts place bytes (BadEvent at) (same, (event, behind, is, other, long)) =
    subst (λ (a : ℕ). entry_at (left_at lasts place bytes) ≡ Err (BadEvent a)) (sym same)
    (head_stops lasts place bytes (BadEvent place) long (ap (λ (b : List ℕ). head_of place (take 6 b)) is ∙ event_stops place event (take 6 (event ∷ behind)) refl other))
entry_stops lasts place bytes (BadVerdict at) (same, (verdict, behind, is, great, long)) =
    subst (λ (a : ℕ). entry_at (left_at lasts place bytes) ≡ Err (BadVerdict a)) (sym same)
    (head_stops lasts place bytes (BadVerdict place) long (ap (λ (b : List ℕ). head_of place (take 6 b)) is ∙ verdict_stops place verdict (take 6 (1 ∷ verdict ∷ behind)) refl refl great))
entry_stops lasts place bytes (TooLong at) (same, (n, behind, (verdict, is), great, below)) =
    let long : 6 ≤ length (head_bytes verdict n ++ behind) = omega (arith, length-append (head_bytes verdict n) behind) in
    let back : from_be_bytes w32 (u32_bytes n) ≡ n = from_be_bytes-to_be_bytes_4 n below in
    subst (λ (a : ℕ). entry_at (left_at lasts place bytes) ≡ Err (TooLong a)) (sym same)
    (ap (λ (b : List ℕ). entry_at (left_at lasts place b)) is
    ∙ head_stops lasts place (head_bytes verdict n ++ behind) (TooLong place) long (length_stops place n verdict (take 6 (head_bytes verdict n ++ behind)) refl refl back great))
entry_stops lasts place bytes (Torn at) (same, inl (some, few)) =
    subst (λ (a : ℕ). entry_at (left_at lasts place bytes) ≡ Err (Torn a)) (sym same) (six_missing lasts place bytes few)
entry_stops lasts place bytes (Torn at) (same, inr (n, behind, (verdict, is), short, less)) =
    subst (λ (a : ℕ). entry_at (left_at lasts place bytes) ≡ Err (Torn a)) (sym same)
    (ap (λ (b : List ℕ). entry_at (left_at lasts place b)) is ∙ body_missing lasts place n verdict behind short less)
entry_stops lasts place bytes (BadVertex at c) (same, (text, behind, (verdict, is), short, bad)) =
    subst (λ (a : ℕ). entry_at (left_at lasts place bytes) ≡ Err (BadVertex a c)) (sym same)
    (ap (λ (b : List ℕ). entry_at (left_at lasts place b)) is ∙ vertex_stops lasts place verdict text behind c short bad)
entry_stops lasts place bytes BadMagic wrong = absurd wrong
entry_stops lasts place bytes (Version v) wrong = absurd wrong
entry_stops lasts place bytes (BadConfig c) wrong = absurd wrong
entry_stops lasts place bytes (Refused f) wrong = absurd wrong
entry_stops lasts place bytes ReadFault wrong = absurd wrong
entry_stops lasts place bytes WriteFault wrong = absurd wrong
entry_stops lasts place bytes OutOfMemory wrong = absurd wrong

head_some : (bytes : List ℕ) (n verdict : ℕ) (behind : List ℕ) → bytes ≡ 1 ∷ verdict ∷ behind → 0 < length bytes
head_some bytes n verdict behind is = let long = ap (λ (b : List ℕ). length b) is in omega arith

-- an entry's error is of some bytes
pub wrong_some : (lasts : LastUnits) (place : ℕ) (bytes : List ℕ) (e : LogError) → IsWrongEntry lasts place bytes e → 0 < length bytes
wrong_some lasts place bytes (BadEvent at) (same, (event, behind, is, other, long)) = omega arith
wrong_some lasts place bytes (BadVerdict at) (same, (verdict, behind, is, great, long)) = omega arith
wrong_some lasts place bytes (TooLong at) (same, (n, behind, (verdict, is), great, below)) = head_some bytes n (if verdict then 1 else 0) (u32_bytes n ++ behind) is
wrong_some lasts place bytes (Torn at) (same, inl (some, few)) = some
wrong_some lasts place bytes (Torn at) (same, inr (n, behind, (verdict, is), short, less)) = head_some bytes n (if verdict then 1 else 0) (u32_bytes n ++ behind) is
wrong_some lasts place bytes (BadVertex at c) (same, (text, behind, (verdict, is), short, bad)) = head_some bytes (length text) (if verdict then 1 else 0) (u32_bytes (length text) ++ (text ++ behind)) is
wrong_some lasts place bytes BadMagic wrong = absurd wrong
wrong_some lasts place bytes (Version v) wrong = absurd wrong
wrong_some lasts place bytes (BadConfig c) wrong = absurd wrong
wrong_some lasts place bytes (Refused f) wrong = absurd wrong
wrong_some lasts place bytes ReadFault wrong = absurd wrong
wrong_some lasts place bytes WriteFault wrong = absurd wrong
wrong_some lasts place bytes OutOfMemory wrong = absurd wrong

-- ---- a header's error is the first

magic_there : (behind : List ℕ) → starts_with nat_eq (take 9 (codes "HWLG" ++ behind)) (codes "HWLG") ≡ true
magic_there behind = refl

take_four : (bytes : List ℕ) → take 4 (take 9 bytes) ≡ take 4 bytes
take_four [] = refl
take_four (a ∷ []) = refl
take_four (a ∷ b ∷ []) = refl
take_four (a ∷ b ∷ c ∷ []) = refl
take_four (a ∷ b ∷ c ∷ d ∷ bytes) = refl

begins : (bytes : List ℕ) → starts_with nat_eq (take 9 bytes) (codes "HWLG") ≡ true → bytes ≡ codes "HWLG" ++ drop 4 bytes
begins bytes so =
    let four : codes "HWLG" ≡ take 4 (take 9 bytes) = (bytes_decides (codes "HWLG") (take 4 (take 9 bytes))).0 so in
    sym (take-append-drop 4 bytes) ∙ ap (λ (y : List ℕ). y ++ drop 4 bytes) (sym (four ∙ take_four bytes))

magic_missing : (bytes : List ℕ) → starts_with nat_eq (take 9 bytes) (codes "HWLG") ≡ false → front_of (take 9 bytes) ≡ Err BadMagic
unfolding front_of
magic_missing bytes missing = rw missing refl

no_version : (v : ℕ) → is_version v ≡ false → ¬ IsVersion v
no_version v missing = λ there. absurd (let so = version_there v there in let both = sym missing ∙ so in cc)

abbrev front_err : LogError → Result Front LogError
front_err e = Err e

err_is : (d e : LogError) → front_err d ≡ front_err e → d ≡ e
err_is d e is = cc

short_behind : (v : ℕ) (behind : List ℕ) (e : LogError) → length behind < 4 → cond (not (is_version v)) (front_err (Version v)) (front_err (Torn 5)) ≡ front_err e → IsWrongHeader (codes "HWLG" ++ v ∷ behind) e
short_behind v behind e less is = elim (wrong_or Front (not (is_version v)) (Version v) e (front_err (Torn 5)) is) [
  | inl missing ↦ subst (IsWrongHeader (codes "HWLG" ++ v ∷ behind)) missing.1 (behind, refl, no_version v (not-true (is_version v) missing.0))
  | inr so ↦ subst (IsWrongHeader (codes "HWLG" ++ v ∷ behind)) (err_is (Torn 5) e so.1) (inr (inl (refl, (v, behind, version_is v (not-false (is_version v) so.0), refl, less))))
]

behind_magic : (behind : List ℕ) (e : LogError) → AreBytes behind → front_of (take 9 (codes "HWLG" ++ behind)) ≡ front_err e → IsWrongHeader (codes "HWLG" ++ behind) e
unfolding front_of
behind_magic [] e fits is = subst (IsWrongHeader (codes "HWLG" ++ [])) (err_is (Torn 4) e is) (inl (refl, refl))
behind_magic (v ∷ []) e fits is = short_behind v [] e (omega arith) is
behind_magic (v ∷ a ∷ []) e fits is = short_behind v (a ∷ []) e (omega arith) is
behind_magic (v ∷ a ∷ b ∷ []) e fits is = short_behind v (a ∷ b ∷ []) e (omega arith) is
behind_magic (v ∷ a ∷ b ∷ c ∷ []) e fits is = short_behind v (a ∷ b ∷ c ∷ []) e (omega arith) is
behind_magic (v ∷ a ∷ b ∷ c ∷ d ∷ more) e fits is =
    let four : List ℕ = a ∷ b ∷ c ∷ d ∷ [] in
    let bytes : List ℕ = codes "HWLG" ++ v ∷ a ∷ b ∷ c ∷ d ∷ more in
    let n = from_be_bytes w32 four in
    let counts : AreBytes four = All-take (λ (x : ℕ). x < 2 ^ 8) 4 (a ∷ b ∷ c ∷ d ∷ more) (All-drop (λ (x : ℕ). x < 2 ^ 8) 1 (v ∷ a ∷ b ∷ c ∷ d ∷ more) fits) in
    elim (wrong_or Front (not (is_version v)) (Version v) e _ is) [
      | inl missing ↦ subst (IsWrongHeader bytes) missing.1 (a ∷ b ∷ c ∷ d ∷ more, refl, no_version v (not-true (is_version v) missing.0))
      | inr so ↦ elim (wrong_or Front (is_too_long n) (TooLong 5) e _ so.1) [
        | inl great ↦
            let same : bytes ≡ codes "HWLG" ++ v ∷ (u32_bytes n ++ more) = ap (λ (y : List ℕ). codes "HWLG" ++ v ∷ (y ++ more)) (four_bytes four n counts refl refl) in
            subst (IsWrongHeader bytes) great.1 (refl, (n, more, (v, version_is v (not-false (is_version v) so.0), same), ltb-true 1048576 n great.0, wide32.below four counts))
        | inr made ↦ absurd (let missing = made.1 in cc)
      ]
    ]

front_wrong : (bytes : List ℕ) (e : LogError) → AreBytes bytes → front_of (take 9 bytes) ≡ front_err e → IsWrongHeader bytes e
front_wrong bytes e fits is = go (starts_with nat_eq (take 9 bytes) (codes "HWLG")) refl
  where
    go : (b : Bool) → starts_with nat_eq (take 9 bytes) (codes "HWLG") ≡ b → IsWrongHeader bytes e
    go false missing =
        let none : ¬ ((behind : List ℕ) × (bytes ≡ codes "HWLG" ++ behind)) =
        λ h. absurd (let both = sym missing ∙ ap (λ (b : List ℕ). starts_with nat_eq (take 9 b) (codes "HWLG")) h.1 ∙ magic_there h.0 in cc) in
        subst (IsWrongHeader bytes) (err_is BadMagic e (sym (magic_missing bytes missing) ∙ is)) none
    go true so =
        let same = begins bytes so in
        subst (λ (b : List ℕ). IsWrongHeader b e) (sym same)
        (behind_magic (drop 4 bytes) e (All-drop (λ (x : ℕ). x < 2 ^ 8) 4 bytes fits) (ap (λ (b : List ℕ). front_of (take 9 b)) (sym same) ∙ is))

-- what stands in front of a configuration
record HasBegun (bytes : List ℕ) (front : Front) : Type 0 where
  known : IsVersion front.version
  bytes_are : bytes ≡ codes "HWLG" ++ front.version ∷ (u32_bytes front.length ++ drop 9 bytes)
  short : front.length ≤ 1048576

front_read : (bytes : List ℕ) (front : Front) → AreBytes bytes → front_of (take 9 bytes) ≡ Ok front → HasBegun bytes front
front_read bytes front fits is =
    let nine : length (take 9 bytes) ≡ 9 = (let whole = front_of-whole (take 9 bytes) front is in omega (arith, length-take 9 bytes)) in
    let f = front_spelled (take 9 bytes) front (All-take (λ (b : ℕ). b < 2 ^ 8) 9 bytes fits) nine is in
    record { known = f.version; bytes_are = sym (take-append-drop 9 bytes) ∙ ap (λ (y : List ℕ). y ++ drop 9 bytes) f.bytes; short = f.short }

refused_is : (c : Config) (f : Option ConfigFault) (e : LogError) → refuse c f ≡ Err e → (g : ConfigFault) × (f ≡ Some g) × (Refused g ≡ e)
refused_is c None e is = absurd cc
refused_is c (Some g) e is = (g, refl, cc)

checked_wrong : (bytes : List ℕ) (version : ℕ) (text behind : List ℕ) (e : LogError) → IsVersion version → bytes ≡ codes "HWLG" ++ version ∷ (u32_bytes (length text) ++ (text ++ behind)) → length text ≤ 1048576 → AreBytes text
    → checked_config text ≡ Err e → IsWrongHeader bytes e
unfolding checked_config
checked_wrong bytes version text behind e known same short fits is =
    elim (bind_err (decoded BadConfig (config_of text)) (λ (k : Config). refuse k (config_fault k)) e is) [
      | inl bad ↦ (let c = decoded_err BadConfig (config_of text) e bad in subst (IsWrongHeader bytes) c.2 (text, behind, (version, known, same), short, c.1))
      | inr made ↦
          let f = refused_is made.0 (config_fault made.0) e made.2 in
          let config : config_of text ≡ Ok made.0 = config_decoded (config_of text) made.0 made.1 in
          let spells = config_read_spells text made.0 fits config in
          let whole : bytes ≡ header_bytes version made.0 ++ behind = same ∙ ap (λ (y : List ℕ). codes "HWLG" ++ version ∷ (u32_bytes (length y) ++ (y ++ behind))) spells.is in
          subst (IsWrongHeader bytes) f.2 (version, made.0, behind, known, whole, (config_read_in_range text made.0 fits config, spells.limits), f.1)
    ]

config_wrong : (bytes : List ℕ) (front : Front) (s : List ℕ × Rest) (e : LogError) → AreBytes bytes → HasBegun bytes front → bytes_at front.length (Torn 9) (rest_at 9 (drop 9 bytes)) ≡ Ok s
    → with_spelled front.version s ≡ Err e → IsWrongHeader bytes e
config_wrong bytes front s e fits begun ok is =
    let t = took front.length (Torn 9) (rest_at 9 (drop 9 bytes)) s ok in
    let size : front.length ≡ length s.0 = sym t.size in
    let same : bytes ≡ codes "HWLG" ++ front.version ∷ (u32_bytes (length s.0) ++ (s.0 ++ s.1.bytes)) =
    begun.bytes_are
    ∙ ap (λ (y : List ℕ). codes "HWLG" ++ front.version ∷ (u32_bytes front.length ++ y)) t.bytes
    ∙ ap (λ (k : ℕ). codes "HWLG" ++ front.version ∷ (u32_bytes k ++ (s.0 ++ s.1.bytes))) size in
    elim (bind_err (checked_config s.0) (with_config front.version s) e is) [
      | inl wrong ↦ checked_wrong bytes front.version s.0 s.1.bytes e begun.known same (subst (λ (k : ℕ). k ≤ 1048576) size begun.short) (t.taken (All-drop (λ (b : ℕ). b < 2 ^ 8) 9 bytes fits)) wrong
      | inr made ↦ absurd (let missing = made.2 in cc)
    ]

pub header_wrong : (bytes : List ℕ) (e : LogError) → AreBytes bytes → header_of bytes ≡ Err e → IsWrongHeader bytes e
unfolding header_of
header_wrong bytes e fits is =
    elim (bind_err (front_of (take 9 bytes)) (λ front. bytes_at front.length (Torn 9) (rest_at 9 (drop 9 bytes)) >>= with_spelled front.version) e is) [
      | inl first ↦ front_wrong bytes e fits first
      | inr n ↦
          let begun = front_read bytes n.0 fits n.1 in
          elim (bind_err (bytes_at n.0.length (Torn 9) (rest_at 9 (drop 9 bytes))) (with_spelled n.0.version) e n.2) [
            | inl few ↦
                let short = bytes_short n.0.length (Torn 9) e (rest_at 9 (drop 9 bytes)) few in
                subst (IsWrongHeader bytes) short.0 (inr (inr (refl, (n.0.length, drop 9 bytes, (n.0.version, begun.known, begun.bytes_are), begun.short, short.1))))
            | inr s ↦ config_wrong bytes n.0 s.0 e fits begun s.1 s.2
          ]
    ]

-- ---- and it is found

front_stops : (bytes : List ℕ) (e : LogError) → front_of (take 9 bytes) ≡ Err e → header_of bytes ≡ Err e
unfolding header_of
front_stops bytes e said = rw said refl

version_stops : (front : List ℕ) (v : ℕ) → starts_with nat_eq front (codes "HWLG") ≡ true → 5 ≤ length front → slice_index front 4 ≡ v → is_version v ≡ false → front_of front ≡ Err (Version v)
unfolding front_of
version_stops front v magic long at missing = rw (magic, le-ltb (length front) 5 long, at, missing) refl

length_missing : (front : List ℕ) (v : ℕ) → starts_with nat_eq front (codes "HWLG") ≡ true → 5 ≤ length front → slice_index front 4 ≡ v → is_version v ≡ true → length front < 9 → front_of front ≡ Err (Torn 5)
unfolding front_of
length_missing front v magic long at so few = rw (magic, le-ltb (length front) 5 long, at, so, lt-ltb (length front) 9 few) refl

too_long_stops : (version n : ℕ) → IsVersion version → 1048576 < n → n < 2 ^ 32 → front_of (front_bytes version n) ≡ Err (TooLong 5)
unfolding front_of
too_long_stops version n there great below =
    let back : from_be_bytes w32 (u32_bytes n) ≡ n = from_be_bytes-to_be_bytes_4 n below in
    rw (version_there version there) (ap (λ (m : ℕ). cond (is_too_long m) (Err (TooLong 5)) (Ok (record { version = version; length = m }))) back ∙ rw (lt-ltb 1048576 n great) refl)

magic_alone : header_of (codes "HWLG") ≡ Err (Torn 4)
unfolding header_of front_of
magic_alone = refl

config_missing : (version n : ℕ) (behind : List ℕ) → IsVersion version → n ≤ 1048576 → length behind < n → header_of (codes "HWLG" ++ version ∷ (u32_bytes n ++ behind)) ≡ Err (Torn 9)
unfolding header_of
config_missing version n behind there short less = rw (front_again version n there short, bytes_missing n (Torn 9) 9 behind less) refl

config_stops : (version : ℕ) (text behind : List ℕ) (e : LogError) → IsVersion version → length text ≤ 1048576 → checked_config text ≡ Err e → header_of (codes "HWLG" ++ version ∷ (u32_bytes (length text) ++ (text ++ behind))) ≡ Err e
unfolding header_of
config_stops version text behind e there short wrong = rw (front_again version (length text) there short, bytes_front (Torn 9) 9 text behind, wrong) refl

bad_checked : (text : List ℕ) (c : CodecError) → config_of text ≡ Err c → checked_config text ≡ Err (BadConfig c)
unfolding checked_config
bad_checked text c bad = rw bad refl

broken_checked : (text : List ℕ) (config : Config) (f : ConfigFault) → config_of text ≡ Ok config → config_fault config ≡ Some f → checked_config text ≡ Err (Refused f)
unfolding checked_config
broken_checked text config f is broken = rw (is, broken) refl

pub header_stops : (bytes : List ℕ) (e : LogError) → IsWrongHeader bytes e → header_of bytes ≡ Err e
header_stops bytes BadMagic none = front_stops bytes BadMagic (magic_missing bytes (false_from_ne_true (starts_with nat_eq (take 9 bytes) (codes "HWLG")) (λ so. none (drop 4 bytes, begins bytes so))))
header_stops bytes (Version v) (behind, is, unknown) =
    let front = take 9 (codes "HWLG" ++ v ∷ behind) in
    let missing : is_version v ≡ false = false_from_ne_true (is_version v) (λ so. unknown (version_is v so)) in
    front_stops bytes (Version v) (ap (λ (b : List ℕ). front_of (take 9 b)) is ∙ version_stops front v refl (omega arith) refl missing)
header_stops bytes (Torn at) (inl (same, is)) = subst (λ (a : ℕ). header_of bytes ≡ Err (Torn a)) (sym same) (ap header_of is ∙ magic_alone)
header_stops bytes (Torn at) (inr (inl (same, (v, behind, known, is, less)))) =
    let front = take 9 (codes "HWLG" ++ v ∷ behind) in
    subst (λ (a : ℕ). header_of bytes ≡ Err (Torn a)) (sym same)
    (front_stops bytes (Torn 5) (ap (λ (b : List ℕ). front_of (take 9 b)) is ∙ length_missing front v refl (omega arith) refl (version_there v known) (omega (arith, length-take 4 behind))))
header_stops bytes (Torn at) (inr (inr (same, (n, behind, (v, known, is), short, less)))) =
    subst (λ (a : ℕ). header_of bytes ≡ Err (Torn a)) (sym same) (ap header_of is ∙ config_missing v n behind known short less)
header_stops bytes (TooLong at) (same, (n, behind, (v, known, is), great, below)) =
    subst (λ (a : ℕ). header_of bytes ≡ Err (TooLong a)) (sym same)
    (front_stops bytes (TooLong 5) (ap (λ (b : List ℕ). front_of (take 9 b)) is ∙ too_long_stops v n known great below))
header_stops bytes (BadConfig c) (text, behind, (v, known, is), short, bad) = ap header_of is ∙ config_stops v text behind (BadConfig c) known short (bad_checked text c bad)
header_stops bytes (Refused f) (v, config, behind, known, is, spelled, broken) =
    let text = config_bytes config in
    let read = config_spelled_reads text config spelled.0 (record { limits = spelled.1; is = refl }) in
    ap header_of is ∙ config_stops v text behind (Refused f) known (config_short config spelled.0 spelled.1) (broken_checked text config f read broken)
header_stops bytes (BadEvent at) wrong = absurd wrong
header_stops bytes (BadVerdict at) wrong = absurd wrong
header_stops bytes (BadVertex at c) wrong = absurd wrong
header_stops bytes ReadFault wrong = absurd wrong
header_stops bytes WriteFault wrong = absurd wrong
header_stops bytes OutOfMemory wrong = absurd wrong
