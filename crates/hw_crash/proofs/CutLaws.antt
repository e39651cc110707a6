-- A log of which a first part is left, mended.
use Rattle.std.specs.Prelude.{take}
use Rattle.std.proofs.Common.{◌≡◌, ◌⊎◌, ℕ, zero, suc, ◌+◌, ◌-◌, ◌<◌, ◌≤◌, true, List, [], ◌∷◌, ◌++◌, length, Some, None, Result, Ok, inl, inr, refl, sym, ap, subst, ◌∙◌, arith, length-append}
use Rattle.std.specs.List.{AllByRecursion}
use Rattle.std.proofs.lemmas.Bool.{cases_lt}
use Rattle.std.proofs.lemmas.List.{append_assoc, take_all, take-append-le}
use Rattle.std.proofs.lemmas.List.Elements.{recursion_from_All, All-from_recursion}
use Rattle.std.proofs.Math.Seq.{take-append-add}
use Rattle.hw_types.specs.declared.config.Config.{Config}
use Rattle.hw_types.specs.declared.unit.Vertex.{Vertex}
use Rattle.hw_types.specs.Limits.{config_fault}
use Rattle.hw_types.specs.Spelling.{config_bytes, VertexFits}
use Rattle.hw_codec.specs.Ranges.{ConfigInRange, VertexInRange}
use Rattle.hw_log.specs.declared.error.LogError.{LogError}
use Rattle.hw_log.specs.declared.error.LogError.TheVariants.{Torn}
use Rattle.hw_log.specs.Lasts.{LastUnits, IsVersion, no_lasts, lasts_after}
use Rattle.hw_log.specs.Log.{◌>>=◌, Left, rest_at, Entries, log_of, header_bytes, entry_bytes, entries_bytes, lasts_behind}
use Rattle.hw_log.specs.Spelled.{EntryFits}
use Rattle.hw_log.specs.declared.rewritten.Rewritten.{Rewritten}
use Rattle.hw_log.specs.Rewritten.{whole_entries, with_bytes, mended_of}
use Rattle.hw_log.proofs.MoreLaws.{header_of-reads}
use Rattle.hw_log.proofs.RunLaws.{with_entries}
use Rattle.hw_log.proofs.AppendLaws.{header_again, log_ok}
use Rattle.hw_session.specs.Restart.{true_entries, journal_log}
use Rattle.hw_session.proofs.StartLaws.{config_fits}
use Rattle.hw_run_laws.proofs.MendLaws.{torn_behind, whole_mended}
use Rattle.hw_crash.specs.Cuts.{CutLogsAreMended}

-- ---- the entries of which a first part is left

-- The first so many bytes of these entries are the first of the entries, and then maybe a part of the next one.
record IsCut (lasts : LastUnits) (vs : List Vertex) (bytes : ℕ) : Type 0 where
  left : ℕ
  -- no fewer than those that are whole in it
  most : (sure : ℕ) → sure ≤ length vs → length (entries_bytes lasts (true_entries (take sure vs))) ≤ bytes → sure ≤ left
  is : (take bytes (entries_bytes lasts (true_entries vs)) ≡ entries_bytes lasts (true_entries (take left vs)))
      ⊎ ((v : Vertex) × (part : ℕ) × VertexInRange v × VertexFits v × (0 < part) × (part < length (entry_bytes (lasts_behind lasts (true_entries (take left vs))) true v))
      × (take bytes (entries_bytes lasts (true_entries vs)) ≡ entries_bytes lasts (true_entries (take left vs)) ++ take part (entry_bytes (lasts_behind lasts (true_entries (take left vs))) true v)))

-- none is whole
none_whole : (lasts : LastUnits) (v : Vertex) (vs : List Vertex) (bytes : ℕ) → bytes < length (entry_bytes lasts true v) → (sure : ℕ) → length (entries_bytes lasts (true_entries (take sure (v ∷ vs)))) ≤ bytes → sure ≤ 0
none_whole lasts v vs bytes less zero h = omega arith
none_whole lasts v vs bytes less (suc sure) h = absurd (
    let both = length-append (entry_bytes lasts true v) (entries_bytes (lasts_after lasts v) (true_entries (take sure vs))) in
    let le : length (entry_bytes lasts true v ++ entries_bytes (lasts_after lasts v) (true_entries (take sure vs))) ≤ bytes = h in
    omega (arith, both, le, less))

-- an entry that is whole before them
one_more : (lasts : LastUnits) (v : Vertex) (vs : List Vertex) (n : ℕ) → IsCut (lasts_after lasts v) vs n → IsCut lasts (v ∷ vs) (length (entry_bytes lasts true v) + n)
one_more lasts v vs n cut = record {
  left = suc cut.left;
  most = most;
  is = elim cut.is [
    | inl e ↦ inl (split ∙ ap (λ (b : List ℕ). first ++ b) e)
    | inr c ↦ inr (c.0, c.1, c.2, c.3, c.4, c.5, split ∙ ap (λ (b : List ℕ). first ++ b) c.6 ∙ sym (append_assoc first _ _))
  ];
}
  where
    first : List ℕ
    first = entry_bytes lasts true v

    split : take (length first + n) (first ++ entries_bytes (lasts_after lasts v) (true_entries vs)) ≡ first ++ take n (entries_bytes (lasts_after lasts v) (true_entries vs))
    split = take-append-add first (entries_bytes (lasts_after lasts v) (true_entries vs)) n

    most : (sure : ℕ) → sure ≤ suc (length vs) → length (entries_bytes lasts (true_entries (take sure (v ∷ vs)))) ≤ length first + n → sure ≤ suc cut.left
    most zero few h = omega arith
    most (suc sure) few h =
        let both = length-append first (entries_bytes (lasts_after lasts v) (true_entries (take sure vs))) in
        let le : length (first ++ entries_bytes (lasts_after lasts v) (true_entries (take sure vs))) ≤ length first + n = h in
        let fewer : suc sure ≤ suc (length vs) = few in
        let it = cut.most sure (omega (arith, fewer)) (omega (arith, both, le)) in
        omega (arith, it)

cut_entries : (lasts : LastUnits) (vs : List Vertex) (bytes : ℕ) → AllByRecursion EntryFits (true_entries vs) → IsCut lasts vs bytes
cut_entries lasts [] bytes each = record { left = 0; most = λ sure few h. few; is = inl (take_all bytes [] (omega arith)) }
cut_entries lasts (v ∷ vs) bytes each = elim (cases_lt bytes (length first)) [
  | inl less ↦ elim (cases_lt 0 bytes) [
    | inl some ↦ record { left = 0; most = λ sure few h. none_whole lasts v vs bytes less sure h; is = inr (v, bytes, each.0.0, each.0.1, some, less, take-append-le bytes first rest (omega (arith, less))) }
    | inr none ↦ record { left = 0; most = λ sure few h. none_whole lasts v vs bytes less sure h; is = inl (ap (λ (n : ℕ). take n (first ++ rest)) (none_is none)) }
  ]
  | inr whole ↦ subst (IsCut lasts (v ∷ vs)) (sum whole) (one_more lasts v vs (bytes - length first) (cut_entries (lasts_after lasts v) vs (bytes - length first) each.1))
]
  where
    first : List ℕ
    first = entry_bytes lasts true v

    rest : List ℕ
    rest = entries_bytes (lasts_after lasts v) (true_entries vs)

    none_is : bytes ≤ 0 → bytes ≡ 0
    none_is h = omega (arith, h)

    sum : length first ≤ bytes → length first + (bytes - length first) ≡ bytes
    sum h = omega (arith, h)

-- ---- the log

-- the first of them keep the limits too
first_fit : (vs : List Vertex) (n : ℕ) → AllByRecursion EntryFits (true_entries vs) → AllByRecursion EntryFits (true_entries (take n vs))
first_fit vs zero each = tt
first_fit [] (suc n) each = tt
first_fit (v ∷ vs) (suc n) each = (each.0, first_fit vs n each.1)

module _ (version : ℕ) (config : Config) (known : IsVersion version) (lawful : config_fault config ≡ None) (range : ConfigInRange config) where
  -- whole entries behind which one is torn are mended to these
  torn_mended : (vs : List Vertex) (v : Vertex) (part : ℕ) → AllByRecursion EntryFits (true_entries vs) → VertexInRange v → VertexFits v → 0 < part
      → part < length (entry_bytes (lasts_behind (no_lasts version (length config.weights)) (true_entries vs)) true v)
      → (mended : Rewritten) × (mended_of (journal_log version config vs ++ take part (entry_bytes (lasts_behind (no_lasts version (length config.weights)) (true_entries vs)) true v)) ≡ Ok mended) × (mended.bytes ≡ journal_log version config vs)
  unfolding mended_of
  torn_mended vs v part each v_range v_fits some less =
      let none = no_lasts version (length config.weights) in
      let head = header_bytes version config in
      let entries = entries_bytes none (true_entries vs) in
      let torn_part : List ℕ = take part (entry_bytes (lasts_behind none (true_entries vs)) true v) in
      let end = 9 + length (config_bytes config) in
      let torn = torn_behind end none (true_entries vs) v part v_range v_fits each some less in
      let header = (header_of-reads head (config, record { rest = rest_at end []; lasts = none }) (header_again version config known range (config_fits config lawful) lawful)).0 (entries ++ torn_part) in
      let at : ℕ = end + length entries in
      let whole : List ℕ = journal_log version config vs in
      let size : length (head ++ entries) ≡ length head + length entries = length-append head entries in
      let place : at ≡ length whole = omega (arith, size) in
      let says : log_of (whole ++ torn_part) ≡ Ok (config, record { given = torn.given; fault = Some (Torn at) }) =
      ap log_of (append_assoc head entries torn_part)
      ∙ ap (λ (y : Result (Config × Left) LogError). y >>= with_entries) header
      ∙ ap (λ (o : Entries). log_ok (config, o)) torn.says in
      let first : take at (whole ++ torn_part) ≡ whole = ap (λ (j : ℕ). take j (whole ++ torn_part)) place ∙ take-append-le (length whole) whole torn_part (omega arith) ∙ take_all (length whole) whole (omega arith) in (
        record { count = length torn.given; bytes = whole },
        ap (λ (y : Result (Config × Entries) LogError). with_bytes (whole ++ torn_part) (whole_entries y)) says ∙ ap (λ (b : List ℕ). Ok (record { count = length torn.given; bytes = b })) first,
        refl,
      )

  -- so is what is left of a log
  left_mended : (vs : List Vertex) (sure bytes : ℕ) → AllByRecursion EntryFits (true_entries vs) → sure ≤ length vs → length (journal_log version config (take sure vs)) ≤ bytes
      → (left : ℕ) × (sure ≤ left) × ((mended : Rewritten) × (mended_of (take bytes (journal_log version config vs)) ≡ Ok mended) × (mended.bytes ≡ journal_log version config (take left vs)))
  left_mended vs sure bytes each few long = (
    cut.left,
    cut.most sure few (omega (arith, sizes, long)),
    elim cut.is [
      | inl e ↦ (let whole = whole_mended version config (take cut.left vs) known lawful range (All-from_recursion EntryFits (true_entries (take cut.left vs)) (first_fit vs cut.left each)) in
          (record { count = whole.0; bytes = journal_log version config (take cut.left vs) }, ap mended_of (split ∙ ap (λ (b : List ℕ). head ++ b) e) ∙ whole.1, refl))
      | inr c ↦ (let torn = torn_mended (take cut.left vs) c.0 c.1 (first_fit vs cut.left each) c.2 c.3 c.4 c.5 in
          (torn.0, ap mended_of (split ∙ ap (λ (b : List ℕ). head ++ b) c.6 ∙ sym (append_assoc head _ _)) ∙ torn.1, torn.2))
    ],
  )
    where
      none : LastUnits
      none = no_lasts version (length config.weights)

      head : List ℕ
      head = header_bytes version config

      sizes : length (journal_log version config (take sure vs)) ≡ length head + length (entries_bytes none (true_entries (take sure vs)))
      sizes = length-append head (entries_bytes none (true_entries (take sure vs)))

      cut : IsCut none vs (bytes - length head)
      cut = cut_entries none vs (bytes - length head) each

      split : take bytes (journal_log version config vs) ≡ head ++ take (bytes - length head) (entries_bytes none (true_entries vs))
      split = ap (λ (k : ℕ). take k (head ++ entries_bytes none (true_entries vs))) (let is : bytes ≡ length head + (bytes - length head) = omega (arith, sizes, long) in is) ∙ take-append-add head (entries_bytes none (true_entries vs)) (bytes - length head)

pub cut_mended : CutLogsAreMended
cut_mended version config vs sure bytes known lawful range each few long = left_mended version config known lawful range vs sure bytes (recursion_from_All EntryFits (true_entries vs) each) few long
