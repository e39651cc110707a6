-- Each unit that an entry of a log brings has a signature of 32 bytes.
use Rattle.std.proofs.Common.{◌≡◌, cond, Bool, true, false, ℕ, zero, suc, List, length, Option, Some, None, Result, Ok, Err, refl, sym, ap, subst, inl, inr, ◌∙◌, arith}
use Rattle.hw_types.specs.declared.answers.CodecError.{CodecError}
use Rattle.hw_types.specs.declared.unit.Vertex.{Vertex}
use Rattle.hw_types.specs.declared.config.Config.{Config}
use Rattle.hw_types.specs.Below.{Among}
use Rattle.hw_types.specs.Reading.{Rest, vertex_of}
use Rattle.hw_log.specs.declared.entry.LogEntry.{LogEntry}
use Rattle.hw_log.specs.declared.error.LogError.{LogError}
use Rattle.hw_log.specs.declared.error.LogError.TheVariants.{Torn, BadVertex}
use Rattle.hw_log.specs.Log.{◌>>=◌, Left, bytes_at, decoded, head_at, body_at, entry_at, next_at, Entries, with_next, entries_in, entries_of, header_of, log_of}
use Rattle.hw_log.proofs.EntryLaws.{bind_ok, with_vertex, with_body, next_at-end, next_at-entry, as_next, end_or_entry}
use Rattle.std.proofs.lemmas.Bool.{cases_lt}
use Rattle.hw_replay.specs.Laws.{IsSigned}
use Rattle.hw_log.specs.Lasts.{LastUnits, lasts_after, vertex_in}
use Rattle.hw_codec.specs.Compact.{vertex_after}
use Rattle.std.specs.Prelude.{◌==◌}
use Rattle.hw_replay.proofs.SignedLaws.{whole_signed, after_signed}

abbrev was_read : {A : Type 0} → A × Rest → Result (A × Rest) LogError
was_read x = Ok x

read_is : {A : Type 0} (x y : A × Rest) → was_read x ≡ was_read y → x.0 ≡ y.0
read_is x y e = cc

-- what a codec gave
decoded_is : {A : Type 0} (wrap : CodecError → LogError) (r : Result A CodecError) (x : A) → decoded wrap r ≡ Ok x → r ≡ Ok x
decoded_is wrap (Ok y) x e = let is : y ≡ x = cc in ap Ok is
decoded_is wrap (Err d) x e = absurd cc

in_signed : (lasts : LastUnits) (bytes : List ℕ) (v : Vertex) → vertex_in lasts bytes ≡ Ok v → IsSigned v
in_signed lasts bytes v e = go (lasts.version == 1) e
  where
    go : (b : Bool) → cond b (vertex_of bytes) (vertex_after lasts.units bytes) ≡ Ok v → IsSigned v
    go true f = whole_signed bytes v f
    go false f = after_signed lasts.units bytes v f

body_signed : (lasts : LastUnits) (at n : ℕ) (r : Rest) (v : Vertex × Rest) → body_at lasts at n r ≡ Ok v → IsSigned v.0
unfolding body_at
body_signed lasts at n r v e =
    let front = bind_ok (bytes_at n (Torn at) r) (λ spelled. decoded (BadVertex at) (vertex_in lasts spelled.0) >>= with_vertex spelled) v e in
    let said = bind_ok (decoded (BadVertex at) (vertex_in lasts front.0.0)) (with_vertex front.0) v front.2 in
    subst IsSigned (read_is (said.0, front.0.1) v said.2) (in_signed lasts front.0.0 said.0 (decoded_is (BadVertex at) (vertex_in lasts front.0.0) said.0 said.1))

-- an entry
abbrev BringsSigned : LogEntry → Type 0
BringsSigned e = IsSigned e.vertex

was_left : LogEntry × Left → Result (LogEntry × Left) LogError
was_left x = Ok x

left_is : (x y : LogEntry × Left) → was_left x ≡ was_left y → x.0 ≡ y.0
unfolding was_left
left_is x y e = cc

entry_signed : (l : Left) (x : LogEntry × Left) → entry_at l ≡ Ok x → BringsSigned x.0
unfolding entry_at was_left
entry_signed l x e =
    let r = l.rest in
    let head = bind_ok (head_at r) (λ head. body_at l.lasts r.place head.0.length head.1 >>= with_body l.lasts r.place head) x e in
    let body = bind_ok (body_at l.lasts r.place head.0.0.length head.0.1) (with_body l.lasts r.place head.0) x head.2 in
    subst BringsSigned (left_is (record { at = r.place; verdict = head.0.0.verdict; vertex = body.0.0 }, record { rest = body.0.1; lasts = lasts_after l.lasts body.0.0 }) x body.2) (body_signed l.lasts r.place head.0.0.length head.0.1 body.0 body.1)

next_signed : (r : Left) (e : LogEntry) (rest : Left) → next_at r ≡ Ok (Some e, rest) → BringsSigned e
next_signed r e rest said =
    elim (cases_lt 0 (length r.rest.bytes)) [
      | inl some ↦
          let found = bind_ok (entry_at r) as_next (Some e, rest) (sym (next_at-entry r some) ∙ said) in
          let both : Some found.0.0 ≡ Some e = end_or_entry (Some found.0.0, found.0.1) (Some e, rest) found.2 in
          let is : found.0.0 ≡ e = cc in
          subst BringsSigned is (entry_signed r found.0 found.1)
      | inr few ↦
          let none : length r.rest.bytes ≡ 0 = omega arith in
          let is : None ≡ Some e = end_or_entry (None, r) (Some e, rest) (sym (next_at-end r none) ∙ said) in
          absurd cc
    ]

-- all entries
entries_signed : (steps : ℕ) (r : Left) (e : LogEntry) → Among e (entries_in steps r).given → BringsSigned e
unfolding entries_in
entries_signed zero r e m = absurd m
entries_signed (suc steps) r e m = go (next_at r) refl m (λ rest k. entries_signed steps rest e k)
  where
    go : (x : Result (Option LogEntry × Left) LogError) → next_at r ≡ x → Among e (with_next x (entries_in steps)).given → ((rest : Left) → Among e (entries_in steps rest).given → BringsSigned e) → BringsSigned e
    go (Ok (Some d, rest)) is (inl same) later = subst BringsSigned same (next_signed r d rest is)
    go (Ok (Some d, rest)) is (inr k) later = later rest k
    go (Ok (None, rest)) is k later = absurd k
    go (Err d) is k later = absurd k

abbrev with_entries : Config × Left → Result (Config × Entries) LogError
with_entries header = Ok (header.0, entries_of header.1)

said_is : (x y : Config × Entries) → (let ok : Config × Entries → Result (Config × Entries) LogError = λ z. Ok z in ok x ≡ ok y) → x.1 ≡ y.1
said_is x y e = cc

pub log_signed : (bytes : List ℕ) (said : Config × Entries) → log_of bytes ≡ Ok said → (e : LogEntry) → Among e said.1.given → IsSigned e.vertex
log_signed bytes said is e m =
    let header = bind_ok (header_of bytes) with_entries said is in
    let same : entries_of header.0.1 ≡ said.1 = said_is (header.0.0, entries_of header.0.1) said header.2 in
    entries_signed (length header.0.1.rest.bytes) header.0.1 e (subst (λ (o : Entries). Among e o.given) (sym same) m)
