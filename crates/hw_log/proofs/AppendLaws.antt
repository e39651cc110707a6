-- What is written is read, and what is appended comes last.
use Rattle.std.proofs.Common.{◌≡◌, ℕ, zero, suc, ◌+◌, ◌<◌, ◌≤◌, Bool, true, false, cond, ltb, List, [], ◌∷◌, ◌++◌, length, drop, codes, slice_index, ◌==◌, if◌then◌else◌, Option, Some, None, Result, Ok, Err, inl, inr, refl, sym, ap, ◌∙◌, arith, length-append}
use Rattle.std.specs.Int.{w32, from_be_bytes}
use Rattle.std.proofs.lemmas.Bool.{le-ltb}
use Rattle.std.proofs.lemmas.List.{take_all, drop_all}
use Rattle.std.proofs.lemmas.Nat.{from_be_bytes-to_be_bytes_4}
use Rattle.hw_types.specs.declared.unit.Vertex.{Vertex}
use Rattle.hw_types.specs.declared.config.Config.{Config}
use Rattle.hw_types.specs.Limits.{config_fault}
use Rattle.hw_types.specs.Spelling.{u32_bytes, vertex_bytes, config_bytes, VertexFits, ConfigFits}
use Rattle.hw_types.specs.Reading.{vertex_of, config_of}
use Rattle.hw_codec.specs.Ranges.{VertexInRange, ConfigInRange}
use Rattle.hw_codec.specs.Compact.{bytes_after, vertex_after}
use Rattle.hw_codec.proofs.Spelled.{vertex_spelled_reads, config_spelled_reads}
use Rattle.hw_codec.proofs.CompactLaws.{after_reads}
use Rattle.hw_log.specs.Lasts.{LastUnits, IsVersion, no_lasts, lasts_after, vertex_bytes_in, vertex_in}
use Rattle.hw_log.specs.declared.entry.LogEntry.{LogEntry}
use Rattle.hw_log.specs.declared.error.LogError.{LogError}
use Rattle.hw_log.specs.declared.error.LogError.TheVariants.{Torn, TooLong}
use Rattle.hw_log.specs.Log.{◌>>=◌, Left, rest_at, bytes_at, is_too_long, is_version, front_of, checked_config, header_of, head_of, head_at, body_at, entry_at, next_at, Entries, with_next, entries_in, entries_of, log_of, header_bytes, entry_with, entry_bytes, lasts_behind}
use Rattle.hw_log.proofs.FieldLaws.{bytes_held}
use Rattle.hw_log.proofs.LengthLaws.{vertex_short, config_short}
use Rattle.hw_log.proofs.EntryLaws.{bind_ok, as_next, next_at-entry, next_at-shorter, entries_next}
use Rattle.hw_log.proofs.MoreLaws.{more_left, end_at, next_at-none, next_at-reads, next_at-lasts, header_of-reads, header_of-lasts}
use Rattle.hw_log.proofs.RunLaws.{with_entries}

-- all of the bytes are taken
bytes_at-whole : (n : ℕ) (torn : LogError) (place : ℕ) (bytes : List ℕ) → length bytes ≡ n → bytes_at n torn (rest_at place bytes) ≡ Ok (bytes, rest_at (place + n) [])
bytes_at-whole n torn place bytes is =
    rw (le-ltb (length bytes) n (omega arith), take_all n bytes (omega arith), drop_all n bytes (omega arith)) refl

-- ---- an entry

verdict_is : (verdict : Bool) → ((if verdict then 1 else 0) == 1) ≡ verdict
verdict_is true = refl
verdict_is false = refl

pub verdict_known : (verdict : Bool) → ltb 1 (if verdict then 1 else 0) ≡ false
verdict_known true = refl
verdict_known false = refl

-- the head of an entry with this verdict and length
pub head_of-is : (at : ℕ) (head : List ℕ) (verdict : Bool) (n : ℕ) → slice_index head 0 ≡ 1 → slice_index head 1 ≡ (if verdict then 1 else 0) → from_be_bytes w32 (drop 2 head) ≡ n → n ≤ 1048576
    → head_of at head ≡ Ok (record { verdict = verdict; length = n })
unfolding head_of
head_of-is at head verdict n event said length_is short =
    rw (event, said, length_is, verdict_known verdict, le-ltb 1048576 n short, verdict_is verdict) refl

abbrev pub head_bytes : Bool → ℕ → List ℕ
head_bytes verdict n = 1 ∷ (if verdict then 1 else 0) ∷ u32_bytes n

-- a vertex that is written is read
vertex_by : (full : Bool) (lasts : LastUnits) (v : Vertex) → VertexInRange v → VertexFits v
    → (if full then vertex_of (if full then vertex_bytes v else bytes_after lasts.units v) else vertex_after lasts.units (if full then vertex_bytes v else bytes_after lasts.units v)) ≡ Ok v
vertex_by true lasts v range fits = vertex_spelled_reads (vertex_bytes v) v range (record { limits = fits; is = refl })
vertex_by false lasts v range fits = after_reads lasts.units (bytes_after lasts.units v) v range (record { limits = fits; is = refl })

pub vertex_again : (lasts : LastUnits) (v : Vertex) → VertexInRange v → VertexFits v → vertex_in lasts (vertex_bytes_in lasts v) ≡ Ok v
vertex_again lasts v range fits = vertex_by (lasts.version == 1) lasts v range fits

-- an entry that is written is read, up to its end
pub entry_again : (place : ℕ) (lasts : LastUnits) (verdict : Bool) (v : Vertex) → VertexInRange v → VertexFits v
    → next_at (record { rest = rest_at place (entry_bytes lasts verdict v); lasts = lasts })
    ≡ Ok (Some (record { at = place; verdict = verdict; vertex = v }), record { rest = rest_at (place + 6 + length (vertex_bytes_in lasts v)) []; lasts = lasts_after lasts v })
unfolding entry_at head_at body_at
entry_again place lasts verdict v range fits =
    let text = vertex_bytes_in lasts v in
    let n = length text in
    let short : n ≤ 1048576 = vertex_short lasts v range fits in
    let back : from_be_bytes w32 (u32_bytes n) ≡ n = from_be_bytes-to_be_bytes_4 n (omega arith) in
    let head = bytes_held 6 (Torn place) place (head_bytes verdict n) text (omega arith) in
    let said = head_of-is place (head_bytes verdict n) verdict n refl refl back short in
    let body = bytes_at-whole n (Torn place) (place + 6) text refl in
    let is : vertex_in lasts text ≡ Ok v = vertex_again lasts v range fits in
    let l : Left = record { rest = rest_at place (entry_with verdict text); lasts = lasts } in
    let entry : entry_at l ≡ Ok (record { at = place; verdict = verdict; vertex = v }, record { rest = rest_at (place + 6 + n) []; lasts = lasts_after lasts v }) =
    rw (head, said, body, is) refl in
    next_at-entry l (omega (arith, length-append (head_bytes verdict n) text))
    ∙ ap (λ (y : Result (LogEntry × Left) LogError). y >>= as_next) entry

-- ---- entries, and then one more

-- where no byte is left there is no entry
pub none_behind : (place : ℕ) (lasts : LastUnits) → entries_of (record { rest = rest_at place []; lasts = lasts }) ≡ record { given = []; fault = None }
unfolding entries_in
none_behind place lasts = refl

pub no_bytes : (bytes : List ℕ) → length bytes ≡ 0 → bytes ≡ []
no_bytes [] none = refl
no_bytes (b ∷ bytes) none = absurd (omega arith)

-- the text is an entry at each place behind these last units, with this entry, up to its end
record IsEntry (lasts : LastUnits) (text : List ℕ) (entry : ℕ → LogEntry) : Type 0 where
  comes : (place : ℕ) → (end : ℕ) × (behind : LastUnits) × (next_at (record { rest = rest_at place text; lasts = lasts }) ≡ Ok (Some (entry place), record { rest = rest_at end []; lasts = behind }))

abbrev one_more : List LogEntry → LogEntry → Entries
one_more given e = record { given = given ++ e ∷ []; fault = None }

alone : (lasts : LastUnits) (text : List ℕ) (entry : ℕ → LogEntry) → IsEntry lasts text entry → (place : ℕ) → entries_of (record { rest = rest_at place text; lasts = lasts }) ≡ one_more [] (entry place)
alone lasts text entry is place =
    let next = is.comes place in
    entries_next (record { rest = rest_at place text; lasts = lasts })
    ∙ ap (λ (y : Result (Option LogEntry × Left) LogError). with_next y entries_of) next.2
    ∙ ap (λ (o : Entries). record { given = entry place ∷ o.given; fault = o.fault }) (none_behind next.0 next.1)

-- one step of the law below, which holds of all shorter rests
more_step : (lasts : LastUnits) (text : List ℕ) (entry : ℕ → LogEntry) → IsEntry lasts text entry → (l : Left) (given : List LogEntry)
    → ((rest : Left) (others : List LogEntry) → length rest.rest.bytes < length l.rest.bytes → lasts_behind rest.lasts others ≡ lasts → entries_of rest ≡ record { given = others; fault = None }
    → entries_of (more_left rest text) ≡ one_more others (entry (end_at rest.rest)))
    → lasts_behind l.lasts given ≡ lasts → entries_of l ≡ record { given = given; fault = None } → entries_of (more_left l text) ≡ one_more given (entry (end_at l.rest))
more_step lasts text entry is l given shorter behind said = go (next_at l) refl (sym (entries_next l) ∙ said)
  where
    go : (x : Result (Option LogEntry × Left) LogError) → next_at l ≡ x → with_next x entries_of ≡ record { given = given; fault = None } → entries_of (more_left l text) ≡ one_more given (entry (end_at l.rest))
    go (Err d) next others = absurd (let fault : Some d ≡ None = ap (λ (o : Entries). o.fault) others in cc)
    go (Ok (None, rest)) next others =
        let none = next_at-none l rest next in
        let no_entry : [] ≡ given = ap (λ (o : Entries). o.given) others in
        let at : l.lasts ≡ lasts = ap (λ (es : List LogEntry). lasts_behind l.lasts es) no_entry ∙ behind in
        ap (λ (b : List ℕ). entries_of (record { rest = rest_at l.rest.place (b ++ text); lasts = l.lasts })) (no_bytes l.rest.bytes none)
        ∙ ap (λ (m : LastUnits). entries_of (record { rest = rest_at l.rest.place text; lasts = m })) at
        ∙ alone lasts text entry is l.rest.place
        ∙ ap (λ (es : List LogEntry). one_more es (entry l.rest.place)) no_entry
        ∙ ap (λ (place : ℕ). one_more given (entry place)) (let place : l.rest.place ≡ end_at l.rest = omega arith in place)
    go (Ok (Some e, rest)) next others =
        let reads = next_at-reads l e rest next in
        let list : e ∷ (entries_of rest).given ≡ given = ap (λ (o : Entries). o.given) others in
        let shape : entries_of rest ≡ record { given = (entries_of rest).given; fault = None } =
        ap (λ (f : Option LogError). record { given = (entries_of rest).given; fault = f }) (ap (λ (o : Entries). o.fault) others) in
        let on : lasts_behind rest.lasts (entries_of rest).given ≡ lasts =
        ap (λ (m : LastUnits). lasts_behind m (entries_of rest).given) (next_at-lasts l e rest next) ∙ ap (λ (es : List LogEntry). lasts_behind l.lasts es) list ∙ behind in
        entries_next (more_left l text)
        ∙ ap (λ (y : Result (Option LogEntry × Left) LogError). with_next y entries_of) (reads.more text)
        ∙ ap (λ (o : Entries). record { given = e ∷ o.given; fault = o.fault }) (shorter rest (entries_of rest).given (next_at-shorter l e rest next) on shape)
        ∙ ap (λ (es : List LogEntry). one_more es (entry (end_at rest.rest))) list
        ∙ ap (λ (place : ℕ). one_more given (entry place)) reads.end

-- Entries without an error, and then the text of an entry, are these entries and that one, which stands at their end.
entries_more : (steps : ℕ) (lasts : LastUnits) (text : List ℕ) (entry : ℕ → LogEntry) → IsEntry lasts text entry → (l : Left) (given : List LogEntry) → length l.rest.bytes ≤ steps
    → lasts_behind l.lasts given ≡ lasts → entries_of l ≡ record { given = given; fault = None } → entries_of (more_left l text) ≡ one_more given (entry (end_at l.rest))
entries_more zero lasts text entry is l given most behind said = more_step lasts text entry is l given (λ rest others shorter on said_of_rest. absurd (omega arith)) behind said
entries_more (suc steps) lasts text entry is l given most behind said = more_step lasts text entry is l given (λ rest others shorter on said_of_rest. entries_more steps lasts text entry is rest others (omega arith) on said_of_rest) behind said

-- ---- the laws

abbrev pub log_ok : Config × Entries → Result (Config × Entries) LogError
log_ok x = Ok x

pub log_is : (x y : Config × Entries) → log_ok x ≡ log_ok y → x ≡ y
log_is x y e = cc

abbrev entry_of : Bool → Vertex → ℕ → LogEntry
entry_of verdict v place = record { at = place; verdict = verdict; vertex = v }

-- an entry that is appended to a log without an error is its last one
pub append_adds : (bytes : List ℕ) (config : Config) (given : List LogEntry) (verdict : Bool) (v : Vertex)
    → log_of bytes ≡ Ok (config, record { given = given; fault = None }) → VertexInRange v → VertexFits v
    → log_of (bytes ++ entry_bytes (lasts_behind (no_lasts (slice_index bytes 4) (length config.weights)) given) verdict v)
    ≡ Ok (config, record { given = given ++ record { at = length bytes; verdict = verdict; vertex = v } ∷ []; fault = None })
append_adds bytes config given verdict v said range fits =
    let lasts = lasts_behind (no_lasts (slice_index bytes 4) (length config.weights)) given in
    let text = entry_bytes lasts verdict v in
    let entry = entry_of verdict v in
    let is : IsEntry lasts text entry = record { comes = λ place. (place + 6 + length (vertex_bytes_in lasts v), lasts_after lasts v, entry_again place lasts verdict v range fits) } in
    let header = bind_ok (header_of bytes) with_entries (config, record { given = given; fault = None }) said in
    let pair = log_is (header.0.0, entries_of header.0.1) (config, record { given = given; fault = None }) header.2 in
    let same_config : header.0.0 ≡ config = ap (λ (y : Config × Entries). y.0) pair in
    let reads = header_of-reads bytes header.0 header.1 in
    let begun = header_of-lasts bytes header.0 header.1 ∙ ap (λ (c : Config). no_lasts (slice_index bytes 4) (length c.weights)) same_config in
    let behind : lasts_behind header.0.1.lasts given ≡ lasts = ap (λ (m : LastUnits). lasts_behind m given) begun in
    let others = entries_more (length header.0.1.rest.bytes) lasts text entry is header.0.1 given (omega arith) behind (ap (λ (y : Config × Entries). y.1) pair) in
    ap (λ (y : Result (Config × Left) LogError). y >>= with_entries) (reads.0 text)
    ∙ ap (λ (o : Entries). log_ok (header.0.0, o)) others
    ∙ ap (λ (place : ℕ). log_ok (header.0.0, one_more given (entry place))) reads.1
    ∙ ap (λ (c : Config). log_ok (c, one_more given (entry (length bytes)))) same_config

abbrev pub front_bytes : ℕ → ℕ → List ℕ
front_bytes version n = codes "HWLG" ++ (version ∷ u32_bytes n)

pub version_there : (version : ℕ) → IsVersion version → is_version version ≡ true
version_there version (inl one) = rw one refl
version_there version (inr two) = rw two refl

pub front_again : (version n : ℕ) → IsVersion version → n ≤ 1048576 → front_of (front_bytes version n) ≡ Ok (record { version = version; length = n })
unfolding front_of
front_again version n there short =
    let back : from_be_bytes w32 (u32_bytes n) ≡ n = from_be_bytes-to_be_bytes_4 n (omega arith) in
    rw (version_there version there) (ap (λ (m : ℕ). cond (is_too_long m) (Err (TooLong 5)) (Ok (record { version = version; length = m }))) back ∙ rw (le-ltb 1048576 n short) refl)

pub header_again : (version : ℕ) (c : Config) → IsVersion version → ConfigInRange c → ConfigFits c → config_fault c ≡ None
    → header_of (header_bytes version c) ≡ Ok (c, record { rest = rest_at (9 + length (config_bytes c)) []; lasts = no_lasts version (length c.weights) })
unfolding header_of checked_config
header_again version c there range fits fault =
    let n = length (config_bytes c) in
    let front = front_again version n there (config_short c range fits) in
    let spelled = bytes_at-whole n (Torn 9) 9 (config_bytes c) refl in
    let is : config_of (config_bytes c) ≡ Ok c = config_spelled_reads (config_bytes c) c range (record { limits = fits; is = refl }) in
    rw (front, spelled, is, fault) refl

-- a header that is written is a log without entries
pub header_is_empty : (version : ℕ) (c : Config) → IsVersion version → ConfigInRange c → ConfigFits c → config_fault c ≡ None → log_of (header_bytes version c) ≡ Ok (c, record { given = []; fault = None })
header_is_empty version c there range fits fault =
    ap (λ (y : Result (Config × Left) LogError). y >>= with_entries) (header_again version c there range fits fault)
    ∙ ap (λ (o : Entries). log_ok (c, o)) (none_behind (9 + length (config_bytes c)) (no_lasts version (length c.weights)))
