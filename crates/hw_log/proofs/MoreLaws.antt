-- More bytes behind what was read change nothing of it.
use Rattle.std.proofs.Common.{◌≡◌, ℕ, ◌+◌, ◌≤◌, not, ltb, List, ◌++◌, length, take, drop, codes, slice_index, nat_eq, Option, Some, None, Result, Ok, Err, sym, ap, inl, inr, ◌∙◌, arith, length-append, length-drop}
use Rattle.std.specs.List.{starts_with}
use Rattle.std.proofs.lemmas.Bool.{ltb-false, cases_lt}
use Rattle.std.proofs.lemmas.List.{take-append-le, drop-append-le, length-take, get_or-take}
use Rattle.std.specs.Int.{w32, from_be_bytes}
use Rattle.hw_types.specs.declared.unit.Vertex.{Vertex}
use Rattle.hw_types.specs.declared.config.Config.{Config}
use Rattle.hw_types.specs.Reading.{Rest}
use Rattle.hw_log.specs.Lasts.{LastUnits, no_lasts, lasts_after, vertex_in}
use Rattle.hw_log.specs.declared.entry.LogEntry.{LogEntry}
use Rattle.hw_log.specs.declared.head.Front.{Front}
use Rattle.hw_log.specs.declared.head.EntryHead.{EntryHead}
use Rattle.hw_log.specs.declared.error.LogError.{LogError}
use Rattle.hw_log.specs.declared.error.LogError.TheVariants.{BadMagic, Version, Torn, TooLong, BadVertex}
use Rattle.hw_log.specs.Log.{◌>>=◌, Left, is_version, is_too_long, rest_at, bytes_at, decoded, front_of, checked_config, header_of, head_of, head_at, body_at, entry_at, next_at}
use Rattle.hw_log.proofs.FieldLaws.{bytes_held}
use Rattle.hw_log.proofs.EntryLaws.{bind_ok, chosen, entry_at-shorter, with_head, with_vertex, with_body, as_next, next_at-end, next_at-entry, end_or_entry}

abbrev pub more_of : Rest → List ℕ → Rest
more_of r more = rest_at r.place (r.bytes ++ more)

-- the place of the end of the bytes
abbrev pub end_at : Rest → ℕ
end_at r = r.place + length r.bytes

abbrev pub with_more : {A : Type 0} → List ℕ → A × Rest → Result (A × Rest) LogError
with_more more x = Ok (x.0, more_of x.1 more)

-- what was read of r is x, whatever more follows, and the end stays where it is
pub record Reads {A : Type 0} (read : Rest → Result (A × Rest) LogError) (r : Rest) (x : A × Rest) : Type 0 where
  pub more : (more : List ℕ) → read (more_of r more) ≡ with_more more x
  pub end : end_at x.1 ≡ end_at r

end_in : {A : Type 0} → Result (A × Rest) LogError → ℕ
end_in (Ok x) = end_at x.1
end_in (Err e) = 0

pub bytes_at-reads : (n : ℕ) (torn : LogError) (r : Rest) (x : List ℕ × Rest) → bytes_at n torn r ≡ Ok x → Reads (bytes_at n torn) r x
unfolding end_in
bytes_at-reads n torn r x e =
    let c = chosen (ltb (length r.bytes) n) torn (Ok (take n r.bytes, rest_at (r.place + n) (drop n r.bytes))) x e in
    let enough : n ≤ length r.bytes = ltb-false _ _ c.0 in
    let place : r.place + n + length (drop n r.bytes) ≡ end_at x.1 = ap end_in c.1 in
    record {
      more = λ more. bytes_held n torn r.place r.bytes more enough ∙ ap (λ (y : Result (List ℕ × Rest) LogError). y >>= with_more more) c.1;
      end = omega (arith, length-drop n r.bytes);
    }

pub head_at-reads : (r : Rest) (x : EntryHead × Rest) → head_at r ≡ Ok x → Reads head_at r x
unfolding head_at end_in
head_at-reads r x e =
    let front = bind_ok (bytes_at 6 (Torn r.place) r) (λ head. head_of r.place head.0 >>= with_head head) x e in
    let said = bind_ok (head_of r.place front.0.0) (with_head front.0) x front.2 in
    let reads = bytes_at-reads 6 (Torn r.place) r front.0 front.1 in
    record {
      more = λ more. rw (reads.more more, said.1) (ap (λ (y : Result (EntryHead × Rest) LogError). y >>= with_more more) said.2);
      end = ap end_in (sym said.2) ∙ reads.end;
    }

pub body_at-reads : (lasts : LastUnits) (at n : ℕ) (r : Rest) (x : Vertex × Rest) → body_at lasts at n r ≡ Ok x → Reads (body_at lasts at n) r x
unfolding body_at end_in
body_at-reads lasts at n r x e =
    let front = bind_ok (bytes_at n (Torn at) r) (λ spelled. decoded (BadVertex at) (vertex_in lasts spelled.0) >>= with_vertex spelled) x e in
    let said = bind_ok (decoded (BadVertex at) (vertex_in lasts front.0.0)) (with_vertex front.0) x front.2 in
    let reads = bytes_at-reads n (Torn at) r front.0 front.1 in
    record {
      more = λ more. rw (reads.more more, said.1) (ap (λ (y : Result (Vertex × Rest) LogError). y >>= with_more more) said.2);
      end = ap end_in (sym said.2) ∙ reads.end;
    }

-- ---- with the last units

abbrev pub more_left : Left → List ℕ → Left
more_left l more = record { rest = more_of l.rest more; lasts = l.lasts }

abbrev pub left_more : {A : Type 0} → List ℕ → A × Left → Result (A × Left) LogError
left_more more x = Ok (x.0, more_left x.1 more)

-- what was read is x, whatever more follows, and the end stays where it is
pub record ReadsLeft {A : Type 0} (read : Left → Result (A × Left) LogError) (l : Left) (x : A × Left) : Type 0 where
  pub more : (more : List ℕ) → read (more_left l more) ≡ left_more more x
  pub end : end_at x.1.rest ≡ end_at l.rest

left_end : {A : Type 0} → Result (A × Left) LogError → ℕ
left_end (Ok x) = end_at x.1.rest
left_end (Err e) = 0

pub entry_at-reads : (l : Left) (x : LogEntry × Left) → entry_at l ≡ Ok x → ReadsLeft entry_at l x
unfolding entry_at left_end
entry_at-reads l x e =
    let r = l.rest in
    let head = bind_ok (head_at r) (λ head. body_at l.lasts r.place head.0.length head.1 >>= with_body l.lasts r.place head) x e in
    let body = bind_ok (body_at l.lasts r.place head.0.0.length head.0.1) (with_body l.lasts r.place head.0) x head.2 in
    let front = head_at-reads r head.0 head.1 in
    let reads = body_at-reads l.lasts r.place head.0.0.length head.0.1 body.0 body.1 in
    record {
      more = λ more. rw (front.more more, reads.more more) (ap (λ (y : Result (LogEntry × Left) LogError). y >>= left_more more) body.2);
      end = ap left_end (sym body.2) ∙ (reads.end ∙ front.end);
    }

-- ---- what comes next

none_is_end : (r rest : Left) → (entry_at r >>= as_next) ≡ Ok (None, rest) → ⊥
none_is_end r rest said =
    let found = bind_ok (entry_at r) as_next (None, rest) said in
    let is : Some found.0.0 ≡ None = end_or_entry (Some found.0.0, found.0.1) (None, rest) found.2 in
    absurd cc

-- none comes only at the end
pub next_at-none : (r rest : Left) → next_at r ≡ Ok (None, rest) → length r.rest.bytes ≡ 0
next_at-none r rest said =
    elim (cases_lt 0 (length r.rest.bytes)) [
      | inl some ↦ absurd (none_is_end r rest (sym (next_at-entry r some) ∙ said))
      | inr few ↦ omega arith
    ]

entry_comes : (r : Left) (e : LogEntry) (rest : Left) → (entry_at r >>= as_next) ≡ Ok (Some e, rest) → ReadsLeft next_at r (Some e, rest)
unfolding left_end
entry_comes r e rest said =
    let found = bind_ok (entry_at r) as_next (Some e, rest) said in
    let reads = entry_at-reads r found.0 found.1 in
    let long : 6 + length found.0.1.rest.bytes ≤ length r.rest.bytes = entry_at-shorter r found.0 found.1 in
    record {
      more = λ more.
          next_at-entry (more_left r more) (omega (arith, length-append r.rest.bytes more))
          ∙ ap (λ (y : Result (LogEntry × Left) LogError). y >>= as_next) (reads.more more)
          ∙ ap (λ (y : Result (Option LogEntry × Left) LogError). y >>= left_more more) found.2;
      end = ap left_end (sym found.2) ∙ reads.end;
    }

pub next_at-reads : (r : Left) (e : LogEntry) (rest : Left) → next_at r ≡ Ok (Some e, rest) → ReadsLeft next_at r (Some e, rest)
next_at-reads r e rest said =
    elim (cases_lt 0 (length r.rest.bytes)) [
      | inl some ↦ entry_comes r e rest (sym (next_at-entry r some) ∙ said)
      | inr few ↦
          let none : length r.rest.bytes ≡ 0 = omega arith in
          let is : None ≡ Some e = end_or_entry (None, r) (Some e, rest) (sym (next_at-end r none) ∙ said) in
          absurd cc
    ]

-- behind an entry its vertex is noted
entry_at-lasts : (l : Left) (x : LogEntry × Left) → entry_at l ≡ Ok x → x.1.lasts ≡ lasts_after l.lasts x.0.vertex
unfolding entry_at
entry_at-lasts l x e =
    let r = l.rest in
    let head = bind_ok (head_at r) (λ head. body_at l.lasts r.place head.0.length head.1 >>= with_body l.lasts r.place head) x e in
    let body = bind_ok (body_at l.lasts r.place head.0.0.length head.0.1) (with_body l.lasts r.place head.0) x head.2 in
    let vertex : body.0.0 ≡ x.0.vertex = ap (λ (y : Result (LogEntry × Left) LogError). elim y [ Ok z ↦ z.0.vertex | Err d ↦ body.0.0 ]) body.2 in
    let lasts : lasts_after l.lasts body.0.0 ≡ x.1.lasts = ap (λ (y : Result (LogEntry × Left) LogError). elim y [ Ok z ↦ z.1.lasts | Err d ↦ l.lasts ]) body.2 in
    sym lasts ∙ ap (lasts_after l.lasts) vertex

came_lasts : (l : Left) (e : LogEntry) (rest : Left) → (entry_at l >>= as_next) ≡ Ok (Some e, rest) → rest.lasts ≡ lasts_after l.lasts e.vertex
came_lasts l e rest said =
    let found = bind_ok (entry_at l) as_next (Some e, rest) said in
    let behind : found.0.1.lasts ≡ rest.lasts = ap (λ (y : Result (Option LogEntry × Left) LogError). elim y [ Ok z ↦ z.1.lasts | Err d ↦ l.lasts ]) found.2 in
    let entry : Some found.0.0 ≡ Some e = end_or_entry (Some found.0.0, found.0.1) (Some e, rest) found.2 in
    let same : found.0.0 ≡ e = cc in
    sym behind ∙ entry_at-lasts l found.0 found.1 ∙ ap (λ (x : LogEntry). lasts_after l.lasts x.vertex) same

pub next_at-lasts : (l : Left) (e : LogEntry) (rest : Left) → next_at l ≡ Ok (Some e, rest) → rest.lasts ≡ lasts_after l.lasts e.vertex
next_at-lasts l e rest said =
    elim (cases_lt 0 (length l.rest.bytes)) [
      | inl some ↦ came_lasts l e rest (sym (next_at-entry l some) ∙ said)
      | inr few ↦
          let none : length l.rest.bytes ≡ 0 = omega arith in
          let is : None ≡ Some e = end_or_entry (None, l) (Some e, rest) (sym (next_at-end l none) ∙ said) in
          absurd cc
    ]

-- ---- the header

-- a front is said only of nine bytes
pub front_of-whole : (front : List ℕ) (said : Front) → front_of front ≡ Ok said → 9 ≤ length front
unfolding front_of
front_of-whole front said e =
    let magic = chosen (not (starts_with nat_eq front (codes "HWLG"))) BadMagic _ said e in
    let version = chosen (ltb (length front) 5) (Torn 4) _ said magic.1 in
    let one = chosen (not (is_version (slice_index front 4))) (Version (slice_index front 4)) _ said version.1 in
    let whole = chosen (ltb (length front) 9) (Torn 5) _ said one.1 in
    ltb-false _ _ whole.0

-- its version is the byte in place 4
pub front_of-version : (front : List ℕ) (said : Front) → front_of front ≡ Ok said → slice_index front 4 ≡ said.version
unfolding front_of
front_of-version front said e =
    let magic = chosen (not (starts_with nat_eq front (codes "HWLG"))) BadMagic _ said e in
    let version = chosen (ltb (length front) 5) (Torn 4) _ said magic.1 in
    let one = chosen (not (is_version (slice_index front 4))) (Version (slice_index front 4)) _ said version.1 in
    let whole = chosen (ltb (length front) 9) (Torn 5) _ said one.1 in
    let short = chosen (is_too_long (from_be_bytes w32 (drop 5 front))) (TooLong 5) _ said whole.1 in
    ap (λ (y : Result Front LogError). elim y [ Ok z ↦ z.version | Err d ↦ 0 ]) short.1

abbrev pub with_config : ℕ → List ℕ × Rest → Config → Result (Config × Left) LogError
with_config version spelled config = Ok (config, record { rest = spelled.1; lasts = no_lasts version (length config.weights) })

abbrev pub with_spelled : ℕ → List ℕ × Rest → Result (Config × Left) LogError
with_spelled version spelled = checked_config spelled.0 >>= with_config version spelled

-- what follows a header changes nothing of it
pub header_of-reads : (bytes : List ℕ) (x : Config × Left) → header_of bytes ≡ Ok x → ((more : List ℕ) → header_of (bytes ++ more) ≡ left_more more x) × (end_at x.1.rest ≡ length bytes)
unfolding header_of left_end
header_of-reads bytes x e =
    let n = bind_ok (front_of (take 9 bytes)) (λ front. bytes_at front.length (Torn 9) (rest_at 9 (drop 9 bytes)) >>= with_spelled front.version) x e in
    let s = bind_ok (bytes_at n.0.length (Torn 9) (rest_at 9 (drop 9 bytes))) (with_spelled n.0.version) x n.2 in
    let c = bind_ok (checked_config s.0.0) (with_config n.0.version s.0) x s.2 in
    let front : 9 ≤ length (take 9 bytes) = front_of-whole (take 9 bytes) n.0 n.1 in
    let whole : 9 ≤ length bytes = omega (arith, length-take 9 bytes) in
    let reads = bytes_at-reads n.0.length (Torn 9) (rest_at 9 (drop 9 bytes)) s.0 s.1 in
    let place : end_at x.1.rest ≡ end_at s.0.1 = ap left_end (sym c.2) in (
      λ more. rw (take-append-le 9 bytes more whole, drop-append-le 9 bytes more whole, n.1, reads.more more, c.1) (ap (λ (y : Result (Config × Left) LogError). y >>= left_more more) c.2),
      omega (arith, length-drop 9 bytes, reads.end),
    )

-- behind the header no validator has a last unit
pub header_of-lasts : (bytes : List ℕ) (x : Config × Left) → header_of bytes ≡ Ok x → x.1.lasts ≡ no_lasts (slice_index bytes 4) (length x.0.weights)
unfolding header_of
header_of-lasts bytes x e =
    let n = bind_ok (front_of (take 9 bytes)) (λ front. bytes_at front.length (Torn 9) (rest_at 9 (drop 9 bytes)) >>= with_spelled front.version) x e in
    let s = bind_ok (bytes_at n.0.length (Torn 9) (rest_at 9 (drop 9 bytes))) (with_spelled n.0.version) x n.2 in
    let c = bind_ok (checked_config s.0.0) (with_config n.0.version s.0) x s.2 in
    let config : c.0 ≡ x.0 = ap (λ (y : Result (Config × Left) LogError). elim y [ Ok z ↦ z.0 | Err d ↦ c.0 ]) c.2 in
    let lasts : no_lasts n.0.version (length c.0.weights) ≡ x.1.lasts = ap (λ (y : Result (Config × Left) LogError). elim y [ Ok z ↦ z.1.lasts | Err d ↦ no_lasts 0 0 ]) c.2 in
    let version : slice_index bytes 4 ≡ n.0.version = sym (get_or-take 9 bytes 4 0 (omega arith)) ∙ front_of-version (take 9 bytes) n.0 n.1 in
    sym lasts ∙ ap (λ (m : ℕ). no_lasts m (length c.0.weights)) (sym version) ∙ ap (λ (k : Config). no_lasts (slice_index bytes 4) (length k.weights)) config
