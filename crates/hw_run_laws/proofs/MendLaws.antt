-- A log that was cut in an entry, mended.
use Rattle.std.specs.Prelude.{take, ◌-◌, if◌then◌else◌}
use Rattle.std.specs.Int.{w32, from_be_bytes}
use Rattle.std.proofs.Common.{◌≡◌, ◌⊎◌, ℕ, ◌+◌, ◌<◌, ◌≤◌, true, List, [], ◌∷◌, ◌++◌, length, Option, Some, None, Result, Ok, Err, inl, inr, refl, sym, ap, subst, ◌∙◌, arith, length-append, append-nil}
use Rattle.std.proofs.lemmas.Bool.{le-ltb, lt-ltb, cases_lt}
use Rattle.std.proofs.lemmas.List.{append_assoc, take_all, take-append-le, length-take-le}
use Rattle.std.proofs.lemmas.List.Elements.{recursion_from_All}
use Rattle.std.proofs.lemmas.Nat.{from_be_bytes-to_be_bytes_4}
use Rattle.std.specs.List.{All, AllByRecursion}
use Rattle.hw_types.specs.declared.config.Config.{Config}
use Rattle.hw_types.specs.declared.unit.Vertex.{Vertex}
use Rattle.hw_types.specs.Limits.{config_fault}
use Rattle.hw_types.specs.Below.{Among}
use Rattle.hw_types.specs.Spelling.{u32_bytes, config_bytes, VertexFits}
use Rattle.hw_codec.specs.Ranges.{VertexInRange, ConfigInRange}
use Rattle.hw_log.specs.declared.entry.LogEntry.{LogEntry}
use Rattle.hw_log.specs.declared.error.LogError.{LogError}
use Rattle.hw_log.specs.declared.error.LogError.TheVariants.{Torn}
use Rattle.hw_log.specs.Lasts.{LastUnits, IsVersion, no_lasts, lasts_after, vertex_bytes_in}
use Rattle.hw_log.specs.Log.{◌>>=◌, Left, rest_at, bytes_at, head_of, head_at, body_at, entry_at, next_at, Entries, with_next, entries_of, log_of, header_bytes, entry_bytes, entries_bytes, lasts_behind}
use Rattle.hw_types.proofs.EntryLaws.{append_cases}
use Rattle.hw_core.proofs.EndLaws.{all_at}
use Rattle.hw_log.specs.Spelled.{EntryFits}
use Rattle.hw_log.proofs.FieldLaws.{bytes_held}
use Rattle.hw_log.proofs.LengthLaws.{vertex_short}
use Rattle.hw_log.proofs.EntryLaws.{as_next, next_at-entry, entries_next}
use Rattle.hw_log.proofs.MoreLaws.{next_at-reads, header_of-reads}
use Rattle.hw_log.proofs.RunLaws.{with_entries}
use Rattle.hw_log.proofs.AppendLaws.{entry_again, header_again, log_ok}
use Rattle.hw_log.proofs.SpelledLaws.{spelled_said}
use Rattle.hw_log.specs.Rewritten.{whole_entries, with_bytes, mended_of}
use Rattle.hw_io.specs.Files.{bytes_of}
use Rattle.hw_session.specs.Node.{NodeState, IsSound}
use Rattle.hw_session.specs.Make.{entry_for, with_entry}
use Rattle.hw_session.specs.Restart.{true_entries, journal_log, journal_lasts, HasLog}
use Rattle.hw_session.proofs.StartLaws.{config_fits}
use Rattle.hw_session.proofs.RestartLaws.{entry_keeps}
use Rattle.std.proofs.Math.Seq.{take-append-add}
use Rattle.hw_run_laws.specs.Restart.{HasCutLog}
use Rattle.hw_run_laws.specs.Calls.{MendsTo, CutLogIsMended}
use Rattle.hw_run_laws.proofs.StartLaws.{entries_fit, fits}

-- ---- a torn entry

few : (n : ℕ) (torn : LogError) (place : ℕ) (bytes : List ℕ) → length bytes < n → bytes_at n torn (rest_at place bytes) ≡ Err torn
few n torn place bytes less = rw (lt-ltb (length bytes) n less) refl

-- the head of an entry with a true verdict
head_is : (at n : ℕ) → n ≤ 1048576 → head_of at (1 ∷ 1 ∷ u32_bytes n) ≡ Ok (record { verdict = true; length = n })
unfolding head_of
head_is at n short =
    let back : from_be_bytes w32 (u32_bytes n) ≡ n = from_be_bytes-to_be_bytes_4 n (omega arith) in
    rw (back, le-ltb 1048576 n short) refl

module _ (place : ℕ) (lasts : LastUnits) (v : Vertex) (range : VertexInRange v) (fit : VertexFits v) where
  abbrev text : List ℕ
  text = vertex_bytes_in lasts v

  abbrev left_at : List ℕ → Left
  left_at bytes = record { rest = rest_at place bytes; lasts = lasts }

  -- in its head
  torn_head : (bytes : List ℕ) → length bytes < 6 → entry_at (left_at bytes) ≡ Err (Torn place)
  unfolding entry_at head_at
  torn_head bytes less = rw (few 6 (Torn place) place bytes less) refl

  -- in its vertex
  torn_body : (bytes : List ℕ) → length bytes < length text → entry_at (left_at ((1 ∷ 1 ∷ u32_bytes (length text)) ++ bytes)) ≡ Err (Torn place)
  unfolding entry_at head_at body_at
  torn_body bytes less =
      let head = bytes_held 6 (Torn place) place (1 ∷ 1 ∷ u32_bytes (length text)) bytes (omega arith) in
      let said = head_is place (length text) (vertex_short lasts v range fit) in
      let body = few (length text) (Torn place) (place + 6) bytes less in
      rw (head, said, body) refl

  torn_entry : (k : ℕ) → k < length (entry_bytes lasts true v) → entry_at (left_at (take k (entry_bytes lasts true v))) ≡ Err (Torn place)
  torn_entry k less = elim (cases_lt k 6) [
    | inl in_head ↦ torn_head (take k (entry_bytes lasts true v)) (omega (arith, in_head, length-take-le k (entry_bytes lasts true v) (omega (arith, less))))
    | inr in_body ↦
        let head : List ℕ = 1 ∷ 1 ∷ u32_bytes (length text) in
        let long : length (entry_bytes lasts true v) ≡ 6 + length text = length-append head text in
        let j : ℕ = k - 6 in
        let k_is : k ≡ 6 + j = omega (arith, in_body) in
        let cut : take k (entry_bytes lasts true v) ≡ head ++ take j text = ap (λ (n : ℕ). take n (entry_bytes lasts true v)) k_is ∙ take-append-add head text j in
        let short : length (take j text) < length text = omega (arith, less, long, k_is, length-take-le j text (omega (arith, less, long, k_is))) in
        ap (λ (bytes : List ℕ). entry_at (left_at bytes)) cut ∙ torn_body (take j text) short
  ]

  torn_next : (k : ℕ) → 0 < k → k < length (entry_bytes lasts true v) → next_at (left_at (take k (entry_bytes lasts true v))) ≡ Err (Torn place)
  torn_next k some less =
      next_at-entry (left_at (take k (entry_bytes lasts true v))) (omega (arith, some, length-take-le k (entry_bytes lasts true v) (omega (arith, less))))
      ∙ ap (λ (y : Result (LogEntry × Left) LogError). y >>= as_next) (torn_entry k less)

-- ---- whole entries before it

-- what the entries say behind which this one is torn
pub record IsTorn (place : ℕ) (lasts : LastUnits) (entries : List LogEntry) (part : List ℕ) : Type 0 where
  pub given : List LogEntry
  pub says : entries_of (record { rest = rest_at place (entries_bytes lasts entries ++ part); lasts = lasts }) ≡ record { given = given; fault = Some (Torn (place + length (entries_bytes lasts entries))) }

pub torn_behind : (place : ℕ) (lasts : LastUnits) (entries : List LogEntry) (v : Vertex) (k : ℕ) → VertexInRange v → VertexFits v → AllByRecursion EntryFits entries → 0 < k → k < length (entry_bytes (lasts_behind lasts entries) true v)
    → IsTorn place lasts entries (take k (entry_bytes (lasts_behind lasts entries) true v))
torn_behind place lasts [] v k range fit each some less = record {
  given = [];
  says =
      entries_next (record { rest = rest_at place (take k (entry_bytes lasts true v)); lasts = lasts })
      ∙ ap (λ (y : Result (Option LogEntry × Left) LogError). with_next y entries_of) (torn_next place lasts v range fit k some less)
      ∙ ap (λ (at : ℕ). record { given = []; fault = Some (Torn at) }) (omega arith);
}
torn_behind place lasts (e ∷ entries) v k range fit each some less =
    let text = entry_bytes lasts e.verdict e.vertex in
    let more = entries_bytes (lasts_after lasts e.vertex) entries in
    let part : List ℕ = take k (entry_bytes (lasts_behind (lasts_after lasts e.vertex) entries) true v) in
    let end = place + 6 + length (vertex_bytes_in lasts e.vertex) in
    let entry : LogEntry = record { at = place; verdict = e.verdict; vertex = e.vertex } in
    let here = next_at-reads (record { rest = rest_at place text; lasts = lasts }) entry (record { rest = rest_at end []; lasts = lasts_after lasts e.vertex }) (entry_again place lasts e.verdict e.vertex each.0.0 each.0.1) in
    let rest = torn_behind end (lasts_after lasts e.vertex) entries v k range fit each.1 some less in
    let one : length text ≡ 6 + length (vertex_bytes_in lasts e.vertex) = length-append (1 ∷ (if e.verdict then 1 else 0) ∷ u32_bytes (length (vertex_bytes_in lasts e.vertex))) (vertex_bytes_in lasts e.vertex) in
    let both : length (text ++ more) ≡ length text + length more = length-append text more in
    let at_is : end + length more ≡ place + length (text ++ more) = omega (arith, one, both) in
    record {
      given = entry ∷ rest.given;
      says =
          ap (λ (bytes : List ℕ). entries_of (record { rest = rest_at place bytes; lasts = lasts })) (append_assoc text more part)
          ∙ entries_next (record { rest = rest_at place (text ++ (more ++ part)); lasts = lasts })
          ∙ ap (λ (y : Result (Option LogEntry × Left) LogError). with_next y entries_of) (here.more (more ++ part))
          ∙ ap (λ (o : Entries). record { given = entry ∷ o.given; fault = o.fault }) rest.says
          ∙ ap (λ (at : ℕ). record { given = entry ∷ rest.given; fault = Some (Torn at) }) at_is;
    }

-- ---- the log

module _ (version : ℕ) (n : NodeState) (sound : IsSound n) (known : IsVersion version) where
  abbrev config : Config
  config = n.core.config

  abbrev whole : List ℕ
  whole = journal_log version n.core.config n.core.journal

  -- one that is torn is mended to the whole entries
  torn_mended : (v : Vertex) (k : ℕ) → VertexInRange v → VertexFits v → 0 < k → k < length (entry_bytes (journal_lasts version n.core.config n.core.journal) true v)
      → (count : ℕ) × (mended_of (whole ++ take k (entry_bytes (journal_lasts version n.core.config n.core.journal) true v)) ≡ Ok (record { count = count; bytes = whole }))
  unfolding mended_of
  torn_mended v k range fit some less =
      let none = no_lasts version (length config.weights) in
      let head = header_bytes version config in
      let entries = entries_bytes none (true_entries n.core.journal) in
      let part : List ℕ = take k (entry_bytes (journal_lasts version config n.core.journal) true v) in
      let end = 9 + length (config_bytes config) in
      let torn = torn_behind end none (true_entries n.core.journal) v k range fit (recursion_from_All EntryFits (true_entries n.core.journal) (fits n sound)) some less in
      let header = (header_of-reads head (config, record { rest = rest_at end []; lasts = none }) (header_again version config known sound.config (config_fits config sound.kept.lawful) sound.kept.lawful)).0 (entries ++ part) in
      let at : ℕ = end + length entries in
      let size : length (head ++ entries) ≡ length head + length entries = length-append head entries in
      let place : at ≡ length whole = omega (arith, size) in
      let says : log_of (whole ++ part) ≡ Ok (config, record { given = torn.given; fault = Some (Torn at) }) =
      ap log_of (append_assoc head entries part)
      ∙ ap (λ (y : Result (Config × Left) LogError). y >>= with_entries) header
      ∙ ap (λ (o : Entries). log_ok (config, o)) torn.says in
      let first : take at (whole ++ part) ≡ whole = ap (λ (j : ℕ). take j (whole ++ part)) place ∙ take-append-le (length whole) whole part (omega arith) ∙ take_all (length whole) whole (omega arith) in (
        length torn.given,
        ap (λ (y : Result (Config × Entries) LogError). with_bytes (whole ++ part) (whole_entries y)) says ∙ ap (λ (b : List ℕ). Ok (record { count = length torn.given; bytes = b })) first,
      )

-- one that is whole stays as it is
pub whole_mended : (version : ℕ) (c : Config) (vs : List Vertex) → IsVersion version → config_fault c ≡ None → ConfigInRange c → All EntryFits (true_entries vs)
    → (count : ℕ) × (mended_of (journal_log version c vs) ≡ Ok (record { count = count; bytes = journal_log version c vs }))
unfolding mended_of
whole_mended version c vs known lawful range each =
    let said = spelled_said version c (true_entries vs) known range (config_fits c lawful) lawful (recursion_from_All EntryFits (true_entries vs) each) in
    (length said.given, ap (λ (y : Result (Config × Entries) LogError). with_bytes (journal_log version c vs) (whole_entries y)) said.says)

-- a log that is whole is mended to itself
log_mends : (m : NodeState) (file : Option (List ℕ)) → config_fault m.core.config ≡ None → ConfigInRange m.core.config → All EntryFits (true_entries m.core.journal) → HasLog m file → MendsTo m file
log_mends m file lawful range each has =
    let mended = whole_mended has.version m.core.config m.core.journal has.known lawful range each in
    let text = journal_log has.version m.core.config m.core.journal in
    record {
      mended = record { count = mended.0; bytes = text };
      is = ap (λ (f : Option (List ℕ)). mended_of (bytes_of f)) has.holds ∙ mended.1;
      log = subst (λ (f : Option (List ℕ)). HasLog m f) has.holds has;
    }

pub sound_mends : (n : NodeState) (file : Option (List ℕ)) → IsSound n → HasLog n file → MendsTo n file
sound_mends n file sound has = log_mends n file sound.kept.lawful sound.config (fits n sound) has

module _ (n : NodeState) (v : Vertex) (file : Option (List ℕ)) (sound : IsSound n) (cut : HasCutLog n v file) (range : VertexInRange v) (fit : VertexFits v) where
  abbrev entry : List ℕ
  entry = entry_for n v

  abbrev last_bytes : List ℕ
  last_bytes = entry_bytes (journal_lasts cut.has.version n.core.config n.core.journal) true v

  behind : entry_for n v ≡ last_bytes
  behind = ap (λ (l : LastUnits). entry_bytes l true v) cut.has.lasts

  whole_is : cut.whole ≡ journal_log cut.has.version n.core.config n.core.journal
  whole_is = let both : Some cut.whole ≡ Some (journal_log cut.has.version n.core.config n.core.journal) = cut.has.holds in cc

  by_part : 0 < cut.count → cut.count < length (entry_for n v) → MendsTo n file
  by_part some less =
      let torn = torn_mended cut.has.version n sound cut.has.known v cut.count range fit some (omega (arith, less, ap length behind)) in
      record {
        mended = record { count = torn.0; bytes = journal_log cut.has.version n.core.config n.core.journal };
        is =
            ap (λ (f : Option (List ℕ)). mended_of (bytes_of f)) cut.holds
            ∙ ap (λ (bytes : List ℕ). mended_of (bytes ++ take cut.count (entry_for n v))) whole_is
            ∙ ap (λ (bytes : List ℕ). mended_of (journal_log cut.has.version n.core.config n.core.journal ++ take cut.count bytes)) behind
            ∙ torn.1;
        log = subst (λ (f : Option (List ℕ)). HasLog n f) cut.has.holds cut.has;
      }

  by_none : cut.count ≡ 0 → MendsTo n file
  by_none none =
      let bare : file ≡ Some cut.whole = cut.holds ∙ ap (λ (k : ℕ). Some (cut.whole ++ take k (entry_for n v))) none ∙ ap Some (append-nil cut.whole) in
      sound_mends n file sound (subst (λ (f : Option (List ℕ)). HasLog n f) (sym bare) cut.has)

  each_more : (w : Vertex) → Among w (n.core.journal ++ v ∷ []) → VertexInRange w × VertexFits w
  each_more w m = elim (append_cases w n.core.journal (v ∷ []) m) [
    | inl old ↦ (all_at VertexInRange n.core.journal sound.vertices w old, sound.kept.reached.fit w old)
    | inr (inl is) ↦ subst (λ (x : Vertex). VertexInRange x × VertexFits x) is (range, fit)
    | inr (inr never) ↦ absurd never
  ]

  by_all : length (entry_for n v) ≤ cut.count → MendsTo (with_entry n v) file
  by_all all =
      let full : file ≡ Some (cut.whole ++ entry_for n v) = cut.holds ∙ ap (λ (bytes : List ℕ). Some (cut.whole ++ bytes)) (take_all cut.count (entry_for n v) all) in
      log_mends (with_entry n v) file sound.kept.lawful sound.config (entries_fit (n.core.journal ++ v ∷ []) each_more) (entry_keeps n v (Some cut.whole) file full cut.has)

  pub mends : MendsTo n file ⊎ MendsTo (with_entry n v) file
  mends = elim (cases_lt cut.count (length (entry_for n v))) [
    | inl torn ↦ elim (cases_lt 0 cut.count) [ inl some ↦ inl (by_part some torn) | inr none ↦ inl (by_none (omega (arith, none))) ]
    | inr all ↦ inr (by_all all)
  ]

pub cut_mended : CutLogIsMended
cut_mended = mends
