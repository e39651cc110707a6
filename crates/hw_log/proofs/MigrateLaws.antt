-- Entries, spelled anew one after the other.
use Rattle.std.proofs.Common.{◌≡◌, ℕ, ◌+◌, List, [], ◌∷◌, ◌++◌, length, Option, Some, None, Result, Ok, Err, refl, sym, ap, subst, ◌∙◌, inl, inr, arith, append_assoc}
use Rattle.std.specs.Prelude.{IfOk}
use Rattle.hw_types.specs.Limits.{config_fault}
use Rattle.hw_types.specs.Spelling.{ConfigFits}
use Rattle.hw_codec.specs.Ranges.{ConfigInRange}
use Rattle.std.proofs.lemmas.Grind.{common_steps}
use Rattle.std.proofs.lemmas.List.{append-nil}
use Rattle.std.proofs.lemmas.List.Elements.{All-append, All-cons, All-nil, recursion_from_All}
use Rattle.hw_types.specs.declared.config.Config.{Config}
use Rattle.hw_log.specs.declared.entry.LogEntry.{LogEntry}
use Rattle.hw_log.specs.declared.error.LogError.{LogError}
use Rattle.hw_log.specs.Lasts.{LastUnits, no_lasts, lasts_after}
use Rattle.hw_log.specs.Log.{Left, next_at, ◌>>=◌, header_bytes, log_bytes, entry_bytes, entries_bytes, lasts_behind}
use Rattle.hw_log.specs.Causes.{Fails, Gives}
use Rattle.hw_log.specs.Reader.{Reading, left_of, Opens, StandsBehind}
use Rattle.hw_log.specs.Spelled.{EntryFits, SaysSame}
use Rattle.hw_log.proofs.RunLaws.{with_entries, stands_first, stands_next, stands_last, stands_at_fault}
use Rattle.hw_log.proofs.SpelledLaws.{spelled_said}
use Rattle.hw_log.specs.declared.rewritten.Rewritten.{Rewritten}
use Rattle.hw_log.specs.Rewritten.{migrated_from, migrated_of, Says}
use Rattle.hw_log.specs.Migrated.{AreSpelled, StandsBehindSpelled, HasSpelled, SaysAnew, HoldsAnew}

-- ---- one entry more

behind_more : (lasts : LastUnits) (given : List LogEntry) (e : LogEntry) → lasts_behind lasts (given ++ e ∷ []) ≡ lasts_after (lasts_behind lasts given) e.vertex
behind_more lasts [] e = refl
behind_more lasts (x ∷ given) e = behind_more (lasts_after lasts x.vertex) given e

bytes_more : (lasts : LastUnits) (given : List LogEntry) (e : LogEntry) → entries_bytes lasts (given ++ e ∷ []) ≡ entries_bytes lasts given ++ entry_bytes (lasts_behind lasts given) e.verdict e.vertex
bytes_more lasts [] e = append-nil _
bytes_more lasts (x ∷ given) e =
    ap (λ l. entry_bytes lasts x.verdict x.vertex ++ l) (bytes_more (lasts_after lasts x.vertex) given e)
    ∙ sym (append_assoc (entry_bytes lasts x.verdict x.vertex) (entries_bytes (lasts_after lasts x.vertex) given) _)

spelled_more : (given : List LogEntry) (first lasts : LastUnits) (front text later : List ℕ) (count : ℕ) (e : LogEntry) → AreSpelled given first front text count → lasts ≡ lasts_behind first given → later ≡ text ++ entry_bytes lasts e.verdict e.vertex → EntryFits e → AreSpelled (given ++ e ∷ []) first front later (count + 1)
spelled_more given first lasts front text later count e s behind more fits = record {
  count_is = grind (arith, common_steps, s.count_is);
  text_is = more ∙ ap (λ l. text ++ entry_bytes l e.verdict e.vertex) behind ∙ ap (λ l. l ++ entry_bytes (lasts_behind first given) e.verdict e.vertex) s.text_is
      ∙ append_assoc front (entries_bytes first given) _ ∙ ap (λ l. front ++ l) (sym (bytes_more first given e));
  fit = All-append EntryFits given (e ∷ []) s.fit (All-cons EntryFits e [] fits (All-nil EntryFits));
}

pub stands_more : (bytes : List ℕ) (old new : Reading) (unread still : List ℕ) (first lasts after : LastUnits) (front text later : List ℕ) (count : ℕ) (e : LogEntry)
    → StandsBehindSpelled bytes old unread first lasts front text count → next_at (left_of old unread) ≡ Ok (Some e, left_of new still) → new.config ≡ old.config
    → later ≡ text ++ entry_bytes lasts e.verdict e.vertex → after ≡ lasts_after lasts e.vertex → EntryFits e
    → StandsBehindSpelled bytes new still first after front later (count + 1)
stands_more bytes old new unread still first lasts after front text later count e s said config more behind fits = record {
  given = s.given ++ e ∷ [];
  stands = stands_next bytes s.given old new unread still e s.stands said config;
  spelled = spelled_more s.given first lasts front text later count e s.spelled s.lasts_are more fits;
  lasts_are = behind ∙ ap (λ l. lasts_after l e.vertex) s.lasts_are ∙ sym (behind_more first s.given e);
}

-- ---- the end

pub all_spelled : (bytes : List ℕ) (reader : Reading) (unread : List ℕ) (first lasts : LastUnits) (front text : List ℕ) (count : ℕ) (rest : Left)
    → StandsBehindSpelled bytes reader unread first lasts front text count → next_at (left_of reader unread) ≡ Ok (None, rest) → HasSpelled bytes reader.config first front text count
all_spelled bytes reader unread first lasts front text count rest s said = record {
  given = s.given;
  says = stands_last bytes s.given reader unread rest s.stands said;
  spelled = s.spelled;
}

pub error_spelled : (bytes : List ℕ) (reader : Reading) (unread : List ℕ) (first lasts : LastUnits) (front text : List ℕ) (count : ℕ) (e : LogError)
    → StandsBehindSpelled bytes reader unread first lasts front text count → Fails e (next_at (left_of reader unread)) → Fails e (migrated_of bytes)
unfolding migrated_of
error_spelled bytes reader unread first lasts front text count e s (inl outside) = inl outside
error_spelled bytes reader unread first lasts front text count e s (inr said) = inr (ap migrated_from (stands_at_fault bytes s.given reader unread e s.stands said))

-- ---- the whole log

-- behind the header no entry is spelled
pub first_spelled : (bytes : List ℕ) (reader : Reading) (unread : List ℕ) (first : LastUnits) (front : List ℕ) → StandsBehind bytes [] reader unread → StandsBehindSpelled bytes reader unread first first front front 0
first_spelled bytes reader unread first front s = record {
  given = [];
  stands = s;
  spelled = record { count_is = refl; text_is = sym (append-nil front); fit = All-nil EntryFits };
  lasts_are = refl;
}

-- what is spelled behind the header is the log in version 2
pub spelled_says : (bytes : List ℕ) (config : Config) (first : LastUnits) (front text : List ℕ) (count : ℕ) → HasSpelled bytes config first front text count → first ≡ no_lasts 2 (length config.weights) → front ≡ header_bytes 2 config
    → migrated_of bytes ≡ Ok (record { count = count; bytes = text })
unfolding migrated_of
spelled_says bytes config first front text count h lasts header =
    let text_is : text ≡ log_bytes 2 config h.given = h.spelled.text_is ∙ ap (λ l. front ++ entries_bytes l h.given) lasts ∙ ap (λ f. f ++ entries_bytes (no_lasts 2 (length config.weights)) h.given) header in
    ap migrated_from h.says ∙ ap (λ n. Ok (record { count = n; bytes = log_bytes 2 config h.given })) (sym h.spelled.count_is) ∙ ap (λ t. Ok (record { count = count; bytes = t })) (sym text_is)

-- and says the same
pub spelled_same : (bytes : List ℕ) (config : Config) (first : LastUnits) (front text : List ℕ) (count : ℕ) → HasSpelled bytes config first front text count → first ≡ no_lasts 2 (length config.weights) → front ≡ header_bytes 2 config
    → ConfigInRange config → ConfigFits config → config_fault config ≡ None → SaysAnew bytes text
spelled_same bytes config first front text count h lasts header range fits limits =
    let text_is : text ≡ log_bytes 2 config h.given = h.spelled.text_is ∙ ap (λ l. front ++ entries_bytes l h.given) lasts ∙ ap (λ f. f ++ entries_bytes (no_lasts 2 (length config.weights)) h.given) header in
    record {
      config = config;
      given = h.given;
      says = h.says;
      same = subst (SaysSame config h.given) (sym text_is) (spelled_said 2 config h.given (inr refl) range fits limits (recursion_from_All EntryFits h.given h.spelled.fit));
    }

-- ---- the file

pub opened : (file : Option (List ℕ)) (reader : Reading) (unread : List ℕ) (result : Result Rewritten LogError) → Opens file unread (Ok reader) → ((bytes : List ℕ) → StandsBehind bytes [] reader unread → Gives (λ (r : Rewritten). r) result (migrated_of bytes)) → Says migrated_of file result
opened None reader unread result o f = absurd o
opened (Some bytes) reader unread result o f = f bytes (stands_first bytes reader unread o)

pub unopened : (file : Option (List ℕ)) (unread : List ℕ) (e : LogError) → Opens file unread (Err e) → Says migrated_of file (Err e)
unfolding migrated_of
unopened None unread e o = o
unopened (Some bytes) unread e (inl outside) = inl outside
unopened (Some bytes) unread e (inr said) = inr (ap (λ (x : Result (Config × Left) LogError). migrated_from (x >>= with_entries)) said)

pub opened_same : (file : Option (List ℕ)) (reader : Reading) (unread : List ℕ) (result : Result Rewritten LogError) → Opens file unread (Ok reader) → ((bytes : List ℕ) → StandsBehind bytes [] reader unread → IfOk result (λ r. SaysAnew bytes r.bytes)) → IfOk result (λ r. HoldsAnew file (Some r.bytes))
opened_same None reader unread result o f = absurd o
opened_same (Some bytes) reader unread result o f = f bytes (stands_first bytes reader unread o)
