-- The entries of what is left, one after the other.
use Rattle.std.proofs.Common.{◌≡◌, ℕ, zero, suc, ◌+◌, ◌<◌, ◌≤◌, Bool, true, false, cond, ltb, List, [], ◌∷◌, length, take, drop, Option, Some, None, Result, Ok, Err, refl, sym, ap, inl, inr, ◌∙◌, arith, length-drop}
use Rattle.std.proofs.lemmas.Bool.{ltb-false, eq-eqb, ne_eqb, cases_lt}
use Rattle.hw_types.specs.declared.unit.Vertex.{Vertex}
use Rattle.hw_types.specs.Reading.{Rest}
use Rattle.hw_log.specs.Lasts.{LastUnits, lasts_after, vertex_in}
use Rattle.hw_log.specs.declared.entry.LogEntry.{LogEntry}
use Rattle.hw_log.specs.declared.head.EntryHead.{EntryHead}
use Rattle.hw_log.specs.declared.error.LogError.{LogError}
use Rattle.hw_log.specs.declared.error.LogError.TheVariants.{Torn, BadVertex}
use Rattle.hw_log.specs.Log.{◌>>=◌, Left, rest_at, bytes_at, decoded, head_of, head_at, body_at, entry_at, next_at, Entries, with_next, entries_in, entries_of}

-- ---- steps that succeed

pub bind_ok : {A B : Type 0} (x : Result A LogError) (f : A → Result B LogError) (y : B) → (x >>= f) ≡ Ok y → (a : A) × (x ≡ Ok a) × (f a ≡ Ok y)
bind_ok (Ok a) f y e = (a, refl, e)
bind_ok (Err d) f y e = absurd cc

-- a choice that isn't the error
pub chosen : {A : Type 0} (b : Bool) (d : LogError) (x : Result A LogError) (y : A) → cond b (Err d) x ≡ Ok y → (b ≡ false) × (x ≡ Ok y)
chosen true d x y e = absurd cc
chosen false d x y e = (refl, e)

-- what was read is gone from the rest
pub bytes_at-shorter : (n : ℕ) (torn : LogError) (r : Rest) (x : List ℕ × Rest) → bytes_at n torn r ≡ Ok x → n + length x.1.bytes ≡ length r.bytes
bytes_at-shorter n torn r x e =
    let c = chosen (ltb (length r.bytes) n) torn (Ok (take n r.bytes, rest_at (r.place + n) (drop n r.bytes))) x e in
    let enough : n ≤ length r.bytes = ltb-false _ _ c.0 in
    let gone : length x.1.bytes ≡ length (drop n r.bytes) = ap (λ (y : Result (List ℕ × Rest) LogError). elim y [ Ok z ↦ length z.1.bytes | Err d ↦ 0 ]) (sym c.1) in
    omega (arith, length-drop n r.bytes)

abbrev pub with_head : List ℕ × Rest → EntryHead → Result (EntryHead × Rest) LogError
with_head head said = Ok (said, head.1)

pub head_at-shorter : (r : Rest) (x : EntryHead × Rest) → head_at r ≡ Ok x → 6 + length x.1.bytes ≡ length r.bytes
unfolding head_at
head_at-shorter r x e =
    let front = bind_ok (bytes_at 6 (Torn r.place) r) (λ head. head_of r.place head.0 >>= with_head head) x e in
    let said = bind_ok (head_of r.place front.0.0) (with_head front.0) x front.2 in
    let rest : length front.0.1.bytes ≡ length x.1.bytes = ap (λ (y : Result (EntryHead × Rest) LogError). elim y [ Ok z ↦ length z.1.bytes | Err d ↦ 0 ]) said.2 in
    omega (arith, bytes_at-shorter 6 (Torn r.place) r front.0 front.1)

abbrev pub with_vertex : List ℕ × Rest → Vertex → Result (Vertex × Rest) LogError
with_vertex spelled vertex = Ok (vertex, spelled.1)

pub body_at-shorter : (lasts : LastUnits) (at n : ℕ) (r : Rest) (x : Vertex × Rest) → body_at lasts at n r ≡ Ok x → n + length x.1.bytes ≡ length r.bytes
unfolding body_at
body_at-shorter lasts at n r x e =
    let front = bind_ok (bytes_at n (Torn at) r) (λ spelled. decoded (BadVertex at) (vertex_in lasts spelled.0) >>= with_vertex spelled) x e in
    let said = bind_ok (decoded (BadVertex at) (vertex_in lasts front.0.0)) (with_vertex front.0) x front.2 in
    let rest : length front.0.1.bytes ≡ length x.1.bytes = ap (λ (y : Result (Vertex × Rest) LogError). elim y [ Ok z ↦ length z.1.bytes | Err d ↦ 0 ]) said.2 in
    omega (arith, bytes_at-shorter n (Torn at) r front.0 front.1)

-- the entry, and what is left behind it
abbrev pub with_body : LastUnits → ℕ → EntryHead × Rest → Vertex × Rest → Result (LogEntry × Left) LogError
with_body lasts at head body = Ok (record { at = at; verdict = head.0.verdict; vertex = body.0 }, record { rest = body.1; lasts = lasts_after lasts body.0 })

-- an entry takes six bytes and more
pub entry_at-shorter : (l : Left) (x : LogEntry × Left) → entry_at l ≡ Ok x → 6 + length x.1.rest.bytes ≤ length l.rest.bytes
unfolding entry_at
entry_at-shorter l x e =
    let r = l.rest in
    let head = bind_ok (head_at r) (λ head. body_at l.lasts r.place head.0.length head.1 >>= with_body l.lasts r.place head) x e in
    let body = bind_ok (body_at l.lasts r.place head.0.0.length head.0.1) (with_body l.lasts r.place head.0) x head.2 in
    let rest : length body.0.1.bytes ≡ length x.1.rest.bytes = ap (λ (y : Result (LogEntry × Left) LogError). elim y [ Ok z ↦ length z.1.rest.bytes | Err d ↦ 0 ]) body.2 in
    omega (arith, head_at-shorter r head.0 head.1, body_at-shorter l.lasts r.place head.0.0.length head.0.1 body.0 body.1)

-- ---- what comes next

abbrev pub as_next : LogEntry × Left → Result (Option LogEntry × Left) LogError
as_next e = Ok (Some e.0, e.1)

abbrev pub next_is : Option LogEntry × Left → Result (Option LogEntry × Left) LogError
next_is x = Ok x

-- at the end nothing comes
pub next_at-end : (r : Left) → length r.rest.bytes ≡ 0 → next_at r ≡ Ok (None, r)
unfolding next_at
next_at-end r none = rw (eq-eqb (length r.rest.bytes) 0 none) refl

-- before the end an entry comes
pub next_at-entry : (r : Left) → 0 < length r.rest.bytes → next_at r ≡ (entry_at r >>= as_next)
unfolding next_at
next_at-entry r some = rw (ne_eqb (length r.rest.bytes) 0 (λ (none : length r.rest.bytes ≡ 0). omega arith)) refl

-- the end is no entry
pub end_or_entry : (x y : Option LogEntry × Left) → next_is x ≡ next_is y → x.0 ≡ y.0
end_or_entry x y e = cc

entry_is_shorter : (r : Left) (e : LogEntry) (rest : Left) → (entry_at r >>= as_next) ≡ Ok (Some e, rest) → length rest.rest.bytes < length r.rest.bytes
entry_is_shorter r e rest said =
    let found = bind_ok (entry_at r) as_next (Some e, rest) said in
    let same : length found.0.1.rest.bytes ≡ length rest.rest.bytes = ap (λ (y : Result (Option LogEntry × Left) LogError). elim y [ Ok z ↦ length z.1.rest.bytes | Err d ↦ 0 ]) found.2 in
    omega (arith, entry_at-shorter r found.0 found.1)

-- behind an entry fewer bytes are left
pub next_at-shorter : (r : Left) (e : LogEntry) (rest : Left) → next_at r ≡ Ok (Some e, rest) → length rest.rest.bytes < length r.rest.bytes
next_at-shorter r e rest said =
    elim (cases_lt 0 (length r.rest.bytes)) [
      | inl some ↦ entry_is_shorter r e rest (sym (next_at-entry r some) ∙ said)
      | inr few ↦
          let none : length r.rest.bytes ≡ 0 = omega arith in
          let is : None ≡ Some e = end_or_entry (None, r) (Some e, rest) (sym (next_at-end r none) ∙ said) in
          absurd cc
    ]

-- ---- the entries

-- what comes next and then what f says is what comes next and then what g says, where they say the same of shorter rests
same_next : (r : Left) (f g : Left → Entries) → ((rest : Left) → length rest.rest.bytes < length r.rest.bytes → f rest ≡ g rest) → with_next (next_at r) f ≡ with_next (next_at r) g
same_next r f g same = go (next_at r) refl
  where
    go : (x : Result (Option LogEntry × Left) LogError) → next_at r ≡ x → with_next x f ≡ with_next x g
    go (Ok (Some e, rest)) is = ap (λ (o : Entries). record { given = e ∷ o.given; fault = o.fault }) (same rest (next_at-shorter r e rest is))
    go (Ok (None, rest)) is = refl
    go (Err d) is = refl

none_left : (steps : ℕ) (r : Left) → length r.rest.bytes ≡ 0 → entries_in steps r ≡ record { given = []; fault = None }
unfolding entries_in
none_left zero r none = refl
none_left (suc steps) r none = ap (λ (x : Result (Option LogEntry × Left) LogError). with_next x (entries_in steps)) (next_at-end r none)

-- steps beyond the number of bytes change nothing
entries_enough : (m n : ℕ) (r : Left) → length r.rest.bytes ≤ m → length r.rest.bytes ≤ n → entries_in m r ≡ entries_in n r
unfolding entries_in
entries_enough zero n r most_m most_n = none_left zero r (omega arith) ∙ sym (none_left n r (omega arith))
entries_enough (suc m) zero r most_m most_n = none_left (suc m) r (omega arith) ∙ sym (none_left zero r (omega arith))
entries_enough (suc m) (suc n) r most_m most_n = same_next r (entries_in m) (entries_in n) (λ rest shorter. entries_enough m n rest (omega arith) (omega arith))

-- what is left says what comes next, and then what is left behind that
pub entries_next : (r : Left) → entries_of r ≡ with_next (next_at r) entries_of
unfolding entries_in
entries_next r =
    entries_enough (length r.rest.bytes) (suc (length r.rest.bytes)) r (omega arith) (omega arith)
    ∙ same_next r (entries_in (length r.rest.bytes)) entries_of (λ rest shorter. entries_enough (length r.rest.bytes) (length rest.rest.bytes) rest (omega arith) (omega arith))
