-- What was read of a log is spelled so, and what is spelled so is read.
use Rattle.std.proofs.Common.{◌≡◌, ℕ, zero, suc, ◌+◌, ◌<◌, ◌≤◌, ◌^◌, Bool, true, false, ltb, not, ◌==◌, nat_eq, if◌then◌else◌, List, [], ◌∷◌, ◌++◌, length, take, drop, map, codes, slice_index, Option, Some, None, Result, Ok, Err, ◌⊎◌, inl, inr, refl, sym, ap, subst, ◌∙◌, append_assoc, arith, length-drop}
use Rattle.std.specs.List.{AllByRecursion, starts_with}
use Rattle.std.specs.Int.{w32, from_be_bytes}
use Rattle.std.proofs.lemmas.Bool.{ltb-false, eqb-true, or_cases, not-false}
use Rattle.std.proofs.lemmas.List.{take-append-drop, length-take, get_or-take}
use Rattle.std.proofs.lemmas.List.Elements.{All-take, All-drop}
use Rattle.std.proofs.Math.Seq.{drop-cons}
use lib.Pointwise.{bytes_decides}
use Rattle.hw_types.specs.declared.unit.Vertex.{Vertex}
use Rattle.hw_types.specs.declared.config.Config.{Config}
use Rattle.hw_types.specs.declared.config.ConfigFault.{ConfigFault}
use Rattle.hw_types.specs.declared.answers.CodecError.{CodecError}
use Rattle.hw_types.specs.Limits.{config_fault}
use Rattle.hw_types.specs.Spelling.{u32_bytes, config_bytes, ConfigFits}
use Rattle.hw_types.specs.Reading.{Rest, config_of}
use Rattle.hw_codec.specs.Ranges.{AreBytes, ConfigInRange}
use Rattle.hw_codec.proofs.Fields.{wide32}
use Rattle.hw_codec.proofs.Spelled.{config_read_spells, config_read_in_range}
use Rattle.hw_log.specs.declared.entry.LogEntry.{LogEntry}
use Rattle.hw_log.specs.declared.head.Front.{Front}
use Rattle.hw_log.specs.declared.head.EntryHead.{EntryHead}
use Rattle.hw_log.specs.declared.error.LogError.{LogError}
use Rattle.hw_log.specs.declared.error.LogError.TheVariants.{BadMagic, Version, Torn, TooLong, BadConfig, BadEvent, BadVerdict, BadVertex}
use Rattle.hw_log.specs.Lasts.{LastUnits, IsVersion, no_lasts, lasts_after, vertex_bytes_in, vertex_in}
use Rattle.hw_log.specs.Log.{◌>>=◌, Left, rest_at, bytes_at, decoded, is_too_long, is_version, front_of, refuse, checked_config, header_of, head_of, head_at, body_at, entry_at, next_at, Entries, with_next, entries_of, header_bytes, entry_bytes, entries_bytes, log_bytes}
use Rattle.hw_log.specs.Spelled.{LastsInRange, EntryFits, told_of, SaysSame}
use Rattle.hw_log.proofs.RangeLaws.{vertex_read}
use Rattle.hw_log.proofs.EntryLaws.{bind_ok, chosen, with_head, with_vertex, with_body, as_next, next_at-entry, end_or_entry, entries_next}
use Rattle.hw_log.proofs.MoreLaws.{with_config, with_spelled, next_at-reads, front_of-whole, front_of-version, header_of-reads}
use Rattle.hw_log.proofs.RunLaws.{with_entries}
use Rattle.hw_log.proofs.AppendLaws.{entry_again, none_behind, header_again, log_ok}

-- ---- a step that fails

pub bind_err : {A B : Type 0} (x : Result A LogError) (f : A → Result B LogError) (d : LogError) → (x >>= f) ≡ Err d → (x ≡ Err d) ⊎ ((a : A) × (x ≡ Ok a) × (f a ≡ Err d))
bind_err (Ok a) f d e = inr (a, refl, e)
bind_err (Err c) f d e = inl (cc)

-- ---- bytes

-- what was taken from the front
pub record Took (n : ℕ) (r : Rest) (x : List ℕ × Rest) : Type 0 where
  pub bytes : r.bytes ≡ x.0 ++ x.1.bytes
  pub size : length x.0 ≡ n
  pub taken : AreBytes r.bytes → AreBytes x.0
  pub left : AreBytes r.bytes → AreBytes x.1.bytes

pub took : (n : ℕ) (torn : LogError) (r : Rest) (x : List ℕ × Rest) → bytes_at n torn r ≡ Ok x → Took n r x
took n torn r x e =
    let c = chosen (ltb (length r.bytes) n) torn (Ok (take n r.bytes, rest_at (r.place + n) (drop n r.bytes))) x e in
    let enough : n ≤ length r.bytes = ltb-false _ _ c.0 in
    let is : (take n r.bytes, rest_at (r.place + n) (drop n r.bytes)) ≡ x = (let same = c.1 in cc) in
    subst (Took n r) is (record {
      bytes = sym (take-append-drop n r.bytes);
      size = omega (arith, length-take n r.bytes);
      taken = λ fits. All-take (λ (b : ℕ). b < 2 ^ 8) n r.bytes fits;
      left = λ fits. All-drop (λ (b : ℕ). b < 2 ^ 8) n r.bytes fits;
    })

-- four bytes are those of their number
pub four_bytes : (bytes : List ℕ) (n : ℕ) → AreBytes bytes → length bytes ≡ 4 → from_be_bytes w32 bytes ≡ n → bytes ≡ u32_bytes n
four_bytes bytes n fits size is = sym (wide32.back bytes (record { size = size; each = fits })) ∙ ap u32_bytes is

-- ---- an entry's head

pub verdict_byte : (n : ℕ) → n ≤ 1 → n ≡ (if n == 1 then 1 else 0)
verdict_byte zero small = refl
verdict_byte (suc zero) small = refl
verdict_byte (suc (suc n)) small = absurd (omega arith)

pub head_spelled : (at : ℕ) (head : List ℕ) (said : EntryHead) → AreBytes head → length head ≡ 6 → head_of at head ≡ Ok said → head ≡ 1 ∷ (if said.verdict then 1 else 0) ∷ u32_bytes said.length
unfolding head_of
head_spelled at [] said fits size e = absurd (omega arith)
head_spelled at (a ∷ []) said fits size e = absurd (omega arith)
head_spelled at (a ∷ b ∷ rest) said fits size e =
    let event = chosen (not (a == 1)) (BadEvent at) _ said e in
    let verdict = chosen (ltb 1 b) (BadVerdict at) _ said event.1 in
    let short = chosen (is_too_long (from_be_bytes w32 rest)) (TooLong at) (Ok (record { verdict = b == 1; length = from_be_bytes w32 rest })) said verdict.1 in
    let one : a ≡ 1 = eqb-true a 1 (not-false (a == 1) event.0) in
    let small : b ≤ 1 = ltb-false 1 b verdict.0 in
    let says : (b == 1) ≡ said.verdict = ap (λ (y : Result EntryHead LogError). elim y [ Ok z ↦ z.verdict | Err d ↦ false ]) short.1 in
    let counts : from_be_bytes w32 rest ≡ said.length = ap (λ (y : Result EntryHead LogError). elim y [ Ok z ↦ z.length | Err d ↦ 0 ]) short.1 in
    let number : rest ≡ u32_bytes said.length = four_bytes rest said.length (All-drop (λ (x : ℕ). x < 2 ^ 8) 2 (a ∷ b ∷ rest) fits) (omega arith) counts in
    ap (λ (x : ℕ). x ∷ b ∷ rest) one
    ∙ ap (λ (x : ℕ). 1 ∷ x ∷ rest) (verdict_byte b small)
    ∙ ap (λ (x : Bool). 1 ∷ (if x then 1 else 0) ∷ rest) says
    ∙ ap (λ (x : List ℕ). 1 ∷ (if said.verdict then 1 else 0) ∷ x) number

-- ---- an entry

-- an entry that was read stands there as it is written
pub record Spelled (l : Left) (e : LogEntry) (behind : Left) : Type 0 where
  pub bytes : l.rest.bytes ≡ entry_bytes l.lasts e.verdict e.vertex ++ behind.rest.bytes
  pub fits : EntryFits e
  pub left : AreBytes behind.rest.bytes

entry_spelled : (l : Left) (x : LogEntry × Left) → AreBytes l.rest.bytes → LastsInRange l.lasts.units → entry_at l ≡ Ok x → Spelled l x.0 x.1
unfolding entry_at head_at body_at
entry_spelled l x fits each e =
    let r = l.rest in
    let h = bind_ok (head_at r) (λ head. body_at l.lasts r.place head.0.length head.1 >>= with_body l.lasts r.place head) x e in
    let b = bind_ok (body_at l.lasts r.place h.0.0.length h.0.1) (with_body l.lasts r.place h.0) x h.2 in
    let front = bind_ok (bytes_at 6 (Torn r.place) r) (λ head. head_of r.place head.0 >>= with_head head) h.0 h.1 in
    let said = bind_ok (head_of r.place front.0.0) (with_head front.0) h.0 front.2 in
    let head_is : said.0 ≡ h.0.0 = ap (λ (y : Result (EntryHead × Rest) LogError). elim y [ Ok z ↦ z.0 | Err d ↦ said.0 ]) said.2 in
    let head_left : front.0.1 ≡ h.0.1 = ap (λ (y : Result (EntryHead × Rest) LogError). elim y [ Ok z ↦ z.1 | Err d ↦ front.0.1 ]) said.2 in
    let six = took 6 (Torn r.place) r front.0 front.1 in
    let head : front.0.0 ≡ 1 ∷ (if h.0.0.verdict then 1 else 0) ∷ u32_bytes h.0.0.length =
    head_spelled r.place front.0.0 h.0.0 (six.taken fits) six.size (said.1 ∙ ap (λ (y : EntryHead). Ok y) head_is) in
    let text = bind_ok (bytes_at h.0.0.length (Torn r.place) h.0.1) (λ spelled. decoded (BadVertex r.place) (vertex_in l.lasts spelled.0) >>= with_vertex spelled) b.0 b.1 in
    let vertex = bind_ok (decoded (BadVertex r.place) (vertex_in l.lasts text.0.0)) (with_vertex text.0) b.0 text.2 in
    let vertex_is : vertex.0 ≡ b.0.0 = ap (λ (y : Result (Vertex × Rest) LogError). elim y [ Ok z ↦ z.0 | Err d ↦ vertex.0 ]) vertex.2 in
    let vertex_left : text.0.1 ≡ b.0.1 = ap (λ (y : Result (Vertex × Rest) LogError). elim y [ Ok z ↦ z.1 | Err d ↦ text.0.1 ]) vertex.2 in
    let n = took h.0.0.length (Torn r.place) h.0.1 text.0 text.1 in
    let bytes_behind : AreBytes h.0.1.bytes = subst (λ (y : Rest). AreBytes y.bytes) head_left (six.left fits) in
    let read = vertex_read l.lasts text.0.0 b.0.0 each (n.taken bytes_behind) (is_decoded (BadVertex r.place) (vertex_in l.lasts text.0.0) vertex.0 vertex.1 ∙ ap (λ (y : Vertex). Ok y) vertex_is) in
    let spelled : text.0.0 ≡ vertex_bytes_in l.lasts b.0.0 = read.1.is in
    let length_is : h.0.0.length ≡ length (vertex_bytes_in l.lasts b.0.0) = sym n.size ∙ ap (λ (y : List ℕ). length y) spelled in
    let whole : r.bytes ≡ entry_bytes l.lasts h.0.0.verdict b.0.0 ++ b.0.1.bytes =
    six.bytes
    ∙ ap (λ (y : List ℕ). y ++ front.0.1.bytes) head
    ∙ ap (λ (y : Rest). (1 ∷ (if h.0.0.verdict then 1 else 0) ∷ u32_bytes h.0.0.length) ++ y.bytes) head_left
    ∙ ap (λ (y : List ℕ). (1 ∷ (if h.0.0.verdict then 1 else 0) ∷ u32_bytes h.0.0.length) ++ y) (n.bytes ∙ ap (λ (y : List ℕ). y ++ text.0.1.bytes) spelled)
    ∙ ap (λ (y : ℕ). (1 ∷ (if h.0.0.verdict then 1 else 0) ∷ u32_bytes y) ++ (vertex_bytes_in l.lasts b.0.0 ++ text.0.1.bytes)) length_is
    ∙ ap (λ (y : Rest). (1 ∷ (if h.0.0.verdict then 1 else 0) ∷ u32_bytes (length (vertex_bytes_in l.lasts b.0.0))) ++ (vertex_bytes_in l.lasts b.0.0 ++ y.bytes)) vertex_left
    ∙ sym (append_assoc (1 ∷ (if h.0.0.verdict then 1 else 0) ∷ u32_bytes (length (vertex_bytes_in l.lasts b.0.0))) (vertex_bytes_in l.lasts b.0.0) b.0.1.bytes) in
    let made : LogEntry × Left = (record { at = r.place; verdict = h.0.0.verdict; vertex = b.0.0 }, record { rest = b.0.1; lasts = lasts_after l.lasts b.0.0 }) in
    let is : made ≡ x = (let same = b.2 in cc) in
    subst (λ (y : LogEntry × Left). Spelled l y.0 y.1) is (record {
      bytes = whole;
      fits = (read.0, read.1.limits);
      left = subst (λ (y : Rest). AreBytes y.bytes) vertex_left (n.left bytes_behind);
    })
  where
    is_decoded : (wrap : CodecError → LogError) (y : Result Vertex CodecError) (v : Vertex) → decoded wrap y ≡ Ok v → y ≡ Ok v
    is_decoded wrap (Ok w) v e' = cc
    is_decoded wrap (Err d) v e' = absurd cc

pub next_spelled : (l : Left) (e : LogEntry) (behind : Left) → AreBytes l.rest.bytes → LastsInRange l.lasts.units → next_at l ≡ Ok (Some e, behind) → 0 < length l.rest.bytes → Spelled l e behind
next_spelled l e behind fits each said some =
    let found = bind_ok (entry_at l) as_next (Some e, behind) (sym (next_at-entry l some) ∙ said) in
    let entry : Some found.0.0 ≡ Some e = end_or_entry (Some found.0.0, found.0.1) (Some e, behind) found.2 in
    let same : found.0.0 ≡ e = cc in
    let left : found.0.1 ≡ behind = ap (λ (y : Result (Option LogEntry × Left) LogError). elim y [ Ok z ↦ z.1 | Err d ↦ l ]) found.2 in
    subst (λ (m : Left). Spelled l e m) left (subst (λ (y : LogEntry). Spelled l y found.0.1) same (entry_spelled l found.0 fits each found.1))

-- ---- the header

pub version_is : (v : ℕ) → is_version v ≡ true → IsVersion v
version_is v e = elim (or_cases (v == 1) (v == 2) e) [ inl one ↦ inl (eqb-true v 1 one) | inr two ↦ inr (eqb-true v 2 two) ]

-- the front of a log, as it is written
pub record IsFront (front : List ℕ) (said : Front) : Type 0 where
  pub bytes : front ≡ codes "HWLG" ++ (said.version ∷ u32_bytes said.length)
  pub version : IsVersion said.version
  pub short : said.length ≤ 1048576

pub front_spelled : (front : List ℕ) (said : Front) → AreBytes front → length front ≡ 9 → front_of front ≡ Ok said → IsFront front said
unfolding front_of
front_spelled front said fits size e =
    let magic = chosen (not (starts_with nat_eq front (codes "HWLG"))) BadMagic _ said e in
    let version = chosen (ltb (length front) 5) (Torn 4) _ said magic.1 in
    let one = chosen (not (is_version (slice_index front 4))) (Version (slice_index front 4)) _ said version.1 in
    let whole = chosen (ltb (length front) 9) (Torn 5) _ said one.1 in
    let short = chosen (is_too_long (from_be_bytes w32 (drop 5 front))) (TooLong 5) (Ok (record { version = slice_index front 4; length = from_be_bytes w32 (drop 5 front) })) said whole.1 in
    let says : slice_index front 4 ≡ said.version = ap (λ (y : Result Front LogError). elim y [ Ok z ↦ z.version | Err d ↦ 0 ]) short.1 in
    let counts : from_be_bytes w32 (drop 5 front) ≡ said.length = ap (λ (y : Result Front LogError). elim y [ Ok z ↦ z.length | Err d ↦ 0 ]) short.1 in
    let begins : codes "HWLG" ≡ take 4 front = (bytes_decides (codes "HWLG") (take 4 front)).0 (not-false (starts_with nat_eq front (codes "HWLG")) magic.0) in
    let number : drop 5 front ≡ u32_bytes said.length = four_bytes (drop 5 front) said.length (All-drop (λ (b : ℕ). b < 2 ^ 8) 5 front fits) (omega (arith, length-drop 5 front)) counts in
    let known : IsVersion (slice_index front 4) = version_is (slice_index front 4) (not-false (is_version (slice_index front 4)) one.0) in
    record {
      bytes = sym (take-append-drop 4 front)
          ∙ ap (λ (y : List ℕ). y ++ drop 4 front) (sym begins)
          ∙ ap (λ (y : List ℕ). codes "HWLG" ++ y) (drop-cons front 4 0 (omega arith))
          ∙ ap (λ (y : ℕ). codes "HWLG" ++ (y ∷ drop 5 front)) says
          ∙ ap (λ (y : List ℕ). codes "HWLG" ++ (said.version ∷ y)) number;
      version = subst IsVersion says known;
      short = subst (λ (n : ℕ). n ≤ 1048576) counts (ltb-false 1048576 _ short.0);
    }

-- the configuration keeps all limits
pub refused_not : (c : Config) (f : Option ConfigFault) (d : Config) → refuse c f ≡ Ok d → (f ≡ None) × (c ≡ d)
refused_not c None d e = (refl, cc)
refused_not c (Some f) d e = absurd cc

pub config_decoded : (y : Result Config CodecError) (c : Config) → decoded BadConfig y ≡ Ok c → y ≡ Ok c
config_decoded (Ok d) c e = cc
config_decoded (Err d) c e = absurd cc

-- a header stands there as it is written
pub record IsHeader (bytes : List ℕ) (x : Config × Left) : Type 0 where
  pub bytes_are : bytes ≡ header_bytes (slice_index bytes 4) x.0 ++ x.1.rest.bytes
  pub version : IsVersion (slice_index bytes 4)
  pub range : ConfigInRange x.0
  pub fits : ConfigFits x.0
  pub limits : config_fault x.0 ≡ None
  pub left : AreBytes x.1.rest.bytes
  pub lasts : x.1.lasts ≡ no_lasts (slice_index bytes 4) (length x.0.weights)

pub header_spelled : (bytes : List ℕ) (x : Config × Left) → AreBytes bytes → header_of bytes ≡ Ok x → IsHeader bytes x
unfolding header_of checked_config
header_spelled bytes x fits e =
    let n = bind_ok (front_of (take 9 bytes)) (λ front. bytes_at front.length (Torn 9) (rest_at 9 (drop 9 bytes)) >>= with_spelled front.version) x e in
    let s = bind_ok (bytes_at n.0.length (Torn 9) (rest_at 9 (drop 9 bytes))) (with_spelled n.0.version) x n.2 in
    let c = bind_ok (checked_config s.0.0) (with_config n.0.version s.0) x s.2 in
    let d = bind_ok (decoded BadConfig (config_of s.0.0)) (λ (k : Config). refuse k (config_fault k)) c.0 c.1 in
    let ok = refused_not d.0 (config_fault d.0) c.0 d.2 in
    let nine : length (take 9 bytes) ≡ 9 = (let whole = front_of-whole (take 9 bytes) n.0 n.1 in omega (arith, length-take 9 bytes)) in
    let front = front_spelled (take 9 bytes) n.0 (All-take (λ (b : ℕ). b < 2 ^ 8) 9 bytes fits) nine n.1 in
    let version : n.0.version ≡ slice_index bytes 4 = sym (front_of-version (take 9 bytes) n.0 n.1) ∙ get_or-take 9 bytes 4 0 (omega arith) in
    let t = took n.0.length (Torn 9) (rest_at 9 (drop 9 bytes)) s.0 s.1 in
    let behind : AreBytes (drop 9 bytes) = All-drop (λ (b : ℕ). b < 2 ^ 8) 9 bytes fits in
    let config : config_of s.0.0 ≡ Ok c.0 = config_decoded (config_of s.0.0) d.0 d.1 ∙ ap (λ (k : Config). Ok k) ok.1 in
    let spells = config_read_spells s.0.0 c.0 (t.taken behind) config in
    let range = config_read_in_range s.0.0 c.0 (t.taken behind) config in
    let text = config_bytes c.0 in
    let long : n.0.length ≡ length text = sym t.size ∙ ap (λ (y : List ℕ). length y) spells.is in
    let head : List ℕ = codes "HWLG" ++ (slice_index bytes 4 ∷ u32_bytes (length text)) in
    let head_is : take 9 bytes ≡ head =
    front.bytes ∙ ap (λ (y : ℕ). codes "HWLG" ++ (y ∷ u32_bytes n.0.length)) version ∙ ap (λ (y : ℕ). codes "HWLG" ++ (slice_index bytes 4 ∷ u32_bytes y)) long in
    let all : bytes ≡ header_bytes (slice_index bytes 4) c.0 ++ s.0.1.bytes =
    sym (take-append-drop 9 bytes)
    ∙ ap (λ (y : List ℕ). y ++ drop 9 bytes) head_is
    ∙ ap (λ (y : List ℕ). head ++ y) (t.bytes ∙ ap (λ (y : List ℕ). y ++ s.0.1.bytes) spells.is)
    ∙ sym (append_assoc head text s.0.1.bytes) in
    let made : Config × Left = (c.0, record { rest = s.0.1; lasts = no_lasts n.0.version (length c.0.weights) }) in
    let is : made ≡ x = (let same = c.2 in cc) in
    subst (IsHeader bytes) is (record {
      bytes_are = all;
      version = subst IsVersion version front.version;
      range = range;
      fits = spells.limits;
      limits = subst (λ (k : Config). config_fault k ≡ None) ok.1 ok.0;
      left = t.left behind;
      lasts = ap (λ (v : ℕ). no_lasts v (length c.0.weights)) version;
    })

-- ---- what is spelled is said

-- the entries where they come to stand
placed : ℕ → LastUnits → List LogEntry → List LogEntry
placed place lasts [] = []
placed place lasts (e ∷ entries) = record { at = place; verdict = e.verdict; vertex = e.vertex } ∷ placed (place + 6 + length (vertex_bytes_in lasts e.vertex)) (lasts_after lasts e.vertex) entries

placed_same : (place : ℕ) (lasts : LastUnits) (entries : List LogEntry) → map told_of (placed place lasts entries) ≡ map told_of entries
unfolding placed
placed_same place lasts [] = refl
placed_same place lasts (e ∷ entries) = ap (λ (l : List (Bool × Vertex)). told_of e ∷ l) (placed_same (place + 6 + length (vertex_bytes_in lasts e.vertex)) (lasts_after lasts e.vertex) entries)

entries_again : (place : ℕ) (lasts : LastUnits) (entries : List LogEntry) → AllByRecursion EntryFits entries
    → entries_of (record { rest = rest_at place (entries_bytes lasts entries); lasts = lasts }) ≡ record { given = placed place lasts entries; fault = None }
unfolding placed
entries_again place lasts [] fits = none_behind place lasts
entries_again place lasts (e ∷ entries) fits =
    let text = entry_bytes lasts e.verdict e.vertex in
    let more = entries_bytes (lasts_after lasts e.vertex) entries in
    let end = place + 6 + length (vertex_bytes_in lasts e.vertex) in
    let entry : LogEntry = record { at = place; verdict = e.verdict; vertex = e.vertex } in
    let here = next_at-reads (record { rest = rest_at place text; lasts = lasts }) entry (record { rest = rest_at end []; lasts = lasts_after lasts e.vertex }) (entry_again place lasts e.verdict e.vertex fits.0.0 fits.0.1) in
    entries_next (record { rest = rest_at place (text ++ more); lasts = lasts })
    ∙ ap (λ (y : Result (Option LogEntry × Left) LogError). with_next y entries_of) (here.more more)
    ∙ ap (λ (o : Entries). record { given = entry ∷ o.given; fault = o.fault }) (entries_again end (lasts_after lasts e.vertex) entries fits.1)

pub spelled_said : (version : ℕ) (config : Config) (entries : List LogEntry) → IsVersion version → ConfigInRange config → ConfigFits config → config_fault config ≡ None → AllByRecursion EntryFits entries
    → SaysSame config entries (log_bytes version config entries)
spelled_said version config entries there range fits limits each =
    let lasts = no_lasts version (length config.weights) in
    let text = entries_bytes lasts entries in
    let end = 9 + length (config_bytes config) in
    let header = (header_of-reads (header_bytes version config) (config, record { rest = rest_at end []; lasts = lasts }) (header_again version config there range fits limits)).0 text in
    record {
      given = placed end lasts entries;
      says = ap (λ (y : Result (Config × Left) LogError). y >>= with_entries) header ∙ ap (λ (o : Entries). log_ok (config, o)) (entries_again end lasts entries each);
      same = placed_same end lasts entries;
    }
