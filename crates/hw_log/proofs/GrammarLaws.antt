-- What the bytes of a log say is what the reader's steps give.
use Rattle.std.proofs.Common.{◌≡◌, ℕ, zero, suc, ◌+◌, ◌<◌, ◌≤◌, List, [], ◌∷◌, ◌++◌, length, take, codes, slice_index, Option, Some, None, Result, Ok, Err, refl, sym, ap, subst, ◌∙◌, append_assoc, arith, length-append}
use Rattle.std.specs.List.{AllByRecursion}
use Rattle.std.proofs.lemmas.List.{append-nil}
use Rattle.std.proofs.lemmas.List.Elements.{All-from_recursion, recursion_from_All}
use Rattle.std.proofs.Math.Seq.{take-append_seam}
use Rattle.hw_types.specs.declared.config.Config.{Config}
use Rattle.hw_types.specs.Limits.{config_fault}
use Rattle.hw_types.specs.Spelling.{u32_bytes, config_bytes}
use Rattle.hw_codec.specs.Ranges.{AreBytes}
use Rattle.hw_log.specs.declared.entry.LogEntry.{LogEntry}
use Rattle.hw_log.specs.declared.error.LogError.{LogError}
use Rattle.hw_log.specs.declared.error.LogError.TheVariants.{Torn}
use Rattle.hw_log.specs.Lasts.{LastUnits, IsVersion, no_lasts, lasts_after, vertex_bytes_in}
use Rattle.hw_log.specs.Log.{◌>>=◌, Left, rest_at, header_of, body_at, head_at, entry_at, next_at, Entries, with_next, entries_of, log_of, header_bytes, entry_bytes, entries_bytes, log_bytes, lasts_behind}
use Rattle.hw_log.specs.Spelled.{LastsInRange, EntryFits, SaysSame}
use Rattle.hw_log.specs.Grammar.{IsSpelled, ArePlaced, Writes, IsWrongEntry, SaysTo, Says}
use Rattle.hw_log.proofs.RangeLaws.{none_in_range, after_in_range}
use Rattle.hw_log.proofs.EntryLaws.{bind_ok, with_body, as_next, next_at-entry, next_at-shorter, end_or_entry, entries_next}
use Rattle.hw_log.proofs.MoreLaws.{end_at, next_at-none, next_at-reads, next_at-lasts, header_of-reads}
use Rattle.hw_log.proofs.RunLaws.{with_entries}
use Rattle.hw_log.proofs.AppendLaws.{entry_again, none_behind, no_bytes, header_again, log_ok}
use Rattle.hw_log.proofs.SpelledLaws.{Spelled, next_spelled, header_spelled, spelled_said}
use Rattle.hw_log.proofs.WrongLaws.{next_wrong, entry_stops, wrong_some, header_wrong, header_stops}

-- ---- entries that are read are written

-- nothing is left, or an error
abbrev EndsSo : LastUnits → ℕ → List ℕ → Option LogError → Type 0
EndsSo lasts place rest None = rest ≡ []
EndsSo lasts place rest (Some e) = IsWrongEntry lasts place rest e

-- what is left are these entries, and then its end
record AreWritten (l : Left) (said : Entries) : Type 0 where
  rest : List ℕ
  bytes : l.rest.bytes ≡ entries_bytes l.lasts said.given ++ rest
  fit : AllByRecursion EntryFits said.given
  places : ArePlaced l.lasts l.rest.place said.given
  end : ℕ
  end_is : end ≡ l.rest.place + length (entries_bytes l.lasts said.given)
  ends : EndsSo (lasts_behind l.lasts said.given) end rest said.fault

none_written : (l : Left) (fault : Option LogError) → EndsSo l.lasts l.rest.place l.rest.bytes fault → AreWritten l (record { given = []; fault = fault })
none_written l fault ends = record { rest = l.rest.bytes; bytes = refl; fit = tt; places = tt; end = l.rest.place; end_is = omega arith; ends = ends }

more_written : (l : Left) (e : LogEntry) (behind : Left) (others : Entries) → Spelled l e behind → behind.lasts ≡ lasts_after l.lasts e.vertex → end_at behind.rest ≡ end_at l.rest → e.at ≡ l.rest.place
    → AreWritten behind others → AreWritten l (record { given = e ∷ others.given; fault = others.fault })
more_written l e behind others spelled lasts end at are =
    let text = entry_bytes l.lasts e.verdict e.vertex in
    let more = entries_bytes behind.lasts others.given in
    let same : more ≡ entries_bytes (lasts_after l.lasts e.vertex) others.given = ap (λ (m : LastUnits). entries_bytes m others.given) lasts in
    let bytes : l.rest.bytes ≡ (text ++ more) ++ are.rest = spelled.bytes ∙ ap (λ (y : List ℕ). text ++ y) are.bytes ∙ sym (append_assoc text more are.rest) in
    let long : length l.rest.bytes ≡ length text + length behind.rest.bytes = ap (λ (y : List ℕ). length y) spelled.bytes ∙ length-append text behind.rest.bytes in
    let place : behind.rest.place ≡ l.rest.place + length text = omega arith in
    let size : length (text ++ more) ≡ length text + length more = length-append text more in
    let same_size : length (text ++ more) ≡ length (text ++ entries_bytes (lasts_after l.lasts e.vertex) others.given) = ap (λ (y : List ℕ). length (text ++ y)) same in
    let end_is = are.end_is in
    record {
      rest = are.rest;
      bytes = bytes ∙ ap (λ (y : List ℕ). (text ++ y) ++ are.rest) same;
      fit = (spelled.fits, are.fit);
      places = (at, subst (λ (m : LastUnits). ArePlaced m (l.rest.place + length text) others.given) lasts (subst (λ (p : ℕ). ArePlaced behind.lasts p others.given) place are.places));
      end = are.end;
      end_is = omega arith;
      ends = subst (λ (m : LastUnits). EndsSo (lasts_behind m others.given) are.end are.rest others.fault) lasts are.ends;
    }

entry_place : (l : Left) (x : LogEntry × Left) → entry_at l ≡ Ok x → x.0.at ≡ l.rest.place
unfolding entry_at
entry_place l x e =
    let head = bind_ok (head_at l.rest) (λ head. body_at l.lasts l.rest.place head.0.length head.1 >>= with_body l.lasts l.rest.place head) x e in
    let body = bind_ok (body_at l.lasts l.rest.place head.0.0.length head.0.1) (with_body l.lasts l.rest.place head.0) x head.2 in
    let place : l.rest.place ≡ x.0.at = ap (λ (y : Result (LogEntry × Left) LogError). elim y [ Ok z ↦ z.0.at | Err d ↦ l.rest.place ]) body.2 in
    sym place

next_place : (l : Left) (e : LogEntry) (behind : Left) → 0 < length l.rest.bytes → next_at l ≡ Ok (Some e, behind) → e.at ≡ l.rest.place
next_place l e behind some said =
    let found = bind_ok (entry_at l) as_next (Some e, behind) (sym (next_at-entry l some) ∙ said) in
    let entry : Some found.0.0 ≡ Some e = end_or_entry (Some found.0.0, found.0.1) (Some e, behind) found.2 in
    let same : found.0.0 ≡ e = cc in
    ap (λ (y : LogEntry). y.at) (sym same) ∙ entry_place l found.0 found.1

-- one step, which holds of all shorter rests
written_step : (l : Left) → AreBytes l.rest.bytes → LastsInRange l.lasts.units
    → ((behind : Left) → length behind.rest.bytes < length l.rest.bytes → AreBytes behind.rest.bytes → LastsInRange behind.lasts.units → AreWritten behind (entries_of behind))
    → (x : Result (Option LogEntry × Left) LogError) → next_at l ≡ x → AreWritten l (with_next x entries_of)
written_step l fits each shorter (Err d) is = none_written l (Some d) (next_wrong l d fits is)
written_step l fits each shorter (Ok (None, behind)) is = none_written l None (no_bytes l.rest.bytes (next_at-none l behind is))
written_step l fits each shorter (Ok (Some e, behind)) is =
    let less : length behind.rest.bytes < length l.rest.bytes = next_at-shorter l e behind is in
    let some : 0 < length l.rest.bytes = omega arith in
    let spelled = next_spelled l e behind fits each is some in
    let lasts = next_at-lasts l e behind is in
    let each' : LastsInRange behind.lasts.units = subst (λ (m : LastUnits). LastsInRange m.units) (sym lasts) (after_in_range l.lasts e.vertex each spelled.fits.0 spelled.fits.1) in
    more_written l e behind (entries_of behind) spelled lasts (next_at-reads l e behind is).end (next_place l e behind some is) (shorter behind less spelled.left each')

entries_written : (steps : ℕ) (l : Left) → length l.rest.bytes ≤ steps → AreBytes l.rest.bytes → LastsInRange l.lasts.units → AreWritten l (entries_of l)
entries_written zero l most fits each = subst (AreWritten l) (sym (entries_next l)) (written_step l fits each (λ behind less fits' each'. absurd (omega arith)) (next_at l) refl)
entries_written (suc steps) l most fits each =
    subst (AreWritten l) (sym (entries_next l)) (written_step l fits each (λ behind (less : length behind.rest.bytes < length l.rest.bytes) fits' each'. entries_written steps behind (omega arith) fits' each') (next_at l) refl)

-- ---- what is read is said

-- a log's bytes in front, and how what is left behind it ends
by_end : (bytes : List ℕ) (version : ℕ) (config : Config) (given : List LogEntry) (rest : List ℕ) (fault : Option LogError) → bytes ≡ log_bytes version config given ++ rest
    → Writes (log_bytes version config given) version config given → EndsSo (lasts_behind (no_lasts version (length config.weights)) given) (length (log_bytes version config given)) rest fault
    → SaysTo bytes version config given fault
by_end bytes version config given rest None is writes none =
    let front = log_bytes version config given in
    subst (λ (b : List ℕ). Writes b version config given) (sym (is ∙ ap (λ (y : List ℕ). front ++ y) none ∙ append-nil front)) writes
by_end bytes version config given rest (Some e) is writes wrong = (log_bytes version config given, rest, is, writes, wrong)

together : (bytes : List ℕ) (version : ℕ) (config : Config) (l : Left) (said : Entries) → IsVersion version → IsSpelled config → config_fault config ≡ None
    → bytes ≡ header_bytes version config ++ l.rest.bytes → l.lasts ≡ no_lasts version (length config.weights) → l.rest.place ≡ length (header_bytes version config) → AreWritten l said
    → SaysTo bytes version config said.given said.fault
together bytes version config l said known spelled limits is lasts place are =
    let head = header_bytes version config in
    let front = log_bytes version config said.given in
    let text = entries_bytes l.lasts said.given in
    let bytes_are : bytes ≡ front ++ are.rest =
    is ∙ ap (λ (y : List ℕ). head ++ y) are.bytes ∙ sym (append_assoc head text are.rest) ∙ ap (λ (m : LastUnits). (head ++ entries_bytes m said.given) ++ are.rest) lasts in
    let end_is = are.end_is in
    let size : length (head ++ text) ≡ length head + length text = length-append head text in
    let same : length (head ++ text) ≡ length front = ap (λ (m : LastUnits). length (head ++ entries_bytes m said.given)) lasts in
    let here : are.end ≡ length front = omega arith in
    by_end bytes version config said.given are.rest said.fault bytes_are
    (record {
      known = known;
      spelled = spelled;
      limits = limits;
      fit = All-from_recursion EntryFits said.given are.fit;
      places = subst (λ (m : LastUnits). ArePlaced m (length head) said.given) lasts (subst (λ (p : ℕ). ArePlaced l.lasts p said.given) place are.places);
      bytes_are = refl;
    })
    (subst (λ (m : LastUnits). EndsSo (lasts_behind m said.given) (length front) are.rest said.fault) lasts
    (subst (λ (p : ℕ). EndsSo (lasts_behind l.lasts said.given) p are.rest said.fault) here are.ends))

explained : (bytes : List ℕ) (h : Config × Left) → AreBytes bytes → header_of bytes ≡ Ok h → SaysTo bytes (slice_index bytes 4) h.0 (entries_of h.1).given (entries_of h.1).fault
explained bytes h fits is =
    let version = slice_index bytes 4 in
    let header = header_spelled bytes h fits is in
    let end = (header_of-reads bytes h is).1 in
    let each : LastsInRange h.1.lasts.units = subst (λ (m : LastUnits). LastsInRange m.units) (sym header.lasts) (none_in_range version (length h.0.weights)) in
    let head = header_bytes version h.0 in
    let place : h.1.rest.place ≡ length head = (let long = ap (λ (y : List ℕ). length y) header.bytes_are ∙ length-append head h.1.rest.bytes in omega arith) in
    together bytes version h.0 h.1 (entries_of h.1) header.version (header.range, header.fits) header.limits header.bytes_are header.lasts place
    (entries_written (length h.1.rest.bytes) h.1 (omega arith) header.left each)

pub explain : (bytes : List ℕ) → AreBytes bytes → Says bytes (log_of bytes)
explain bytes fits = go (header_of bytes) refl
  where
    go : (x : Result (Config × Left) LogError) → header_of bytes ≡ x → Says bytes (x >>= with_entries)
    go (Ok h) is = (slice_index bytes 4, explained bytes h fits is)
    go (Err e) is = header_wrong bytes e fits is

-- ---- what is said is read

abbrev ended : List LogEntry → Option LogError → Entries
ended given fault = record { given = given; fault = fault }

abbrev left_at : LastUnits → ℕ → List ℕ → Left
left_at lasts place bytes = record { rest = rest_at place bytes; lasts = lasts }

entries_there : (place : ℕ) (lasts : LastUnits) (entries : List LogEntry) (behind : List ℕ) (fault : Option LogError) → AllByRecursion EntryFits entries → ArePlaced lasts place entries
    → ((end : ℕ) → end ≡ place + length (entries_bytes lasts entries) → entries_of (left_at (lasts_behind lasts entries) end behind) ≡ ended [] fault)
    → entries_of (left_at lasts place (entries_bytes lasts entries ++ behind)) ≡ ended entries fault
entries_there place lasts [] behind fault fit places ends = ends place (omega arith)
entries_there place lasts (e ∷ entries) behind fault fit places ends =
    let text = entry_bytes lasts e.verdict e.vertex in
    let next = lasts_after lasts e.vertex in
    let more = entries_bytes next entries in
    let end = place + 6 + length (vertex_bytes_in lasts e.vertex) in
    let entry : LogEntry = record { at = place; verdict = e.verdict; vertex = e.vertex } in
    let here = next_at-reads (left_at lasts place text) entry (left_at next end []) (entry_again place lasts e.verdict e.vertex fit.0.0 fit.0.1) in
    let size : length text ≡ 6 + length (vertex_bytes_in lasts e.vertex) = (let long = here.end in omega arith) in
    let behind_it : place + length text ≡ end = omega arith in
    let long : length (text ++ more) ≡ length text + length more = length-append text more in
    ap (λ (y : List ℕ). entries_of (left_at lasts place y)) (append_assoc text more behind)
    ∙ entries_next (left_at lasts place (text ++ (more ++ behind)))
    ∙ ap (λ (y : Result (Option LogEntry × Left) LogError). with_next y entries_of) (here.more (more ++ behind))
    ∙ ap (λ (o : Entries). ended (entry ∷ o.given) o.fault)
    (entries_there end next entries behind fault fit.1 (subst (λ (p : ℕ). ArePlaced next p entries) behind_it places.1) (λ last (is : last ≡ end + length more). ends last (omega arith)))
    ∙ ap (λ (p : ℕ). ended (record { at = p; verdict = e.verdict; vertex = e.vertex } ∷ entries) fault) (sym places.0)

log_there : (front : List ℕ) (version : ℕ) (config : Config) (given : List LogEntry) (behind : List ℕ) (fault : Option LogError) → Writes front version config given
    → ((end : ℕ) → end ≡ length front → entries_of (left_at (lasts_behind (no_lasts version (length config.weights)) given) end behind) ≡ ended [] fault)
    → log_of (front ++ behind) ≡ Ok (config, ended given fault)
log_there front version config given behind fault w ends =
    let lasts = no_lasts version (length config.weights) in
    let head = header_bytes version config in
    let text = entries_bytes lasts given in
    let place = 9 + length (config_bytes config) in
    let begins : length head ≡ place = omega (arith, length-append (codes "HWLG" ++ (version ∷ u32_bytes (length (config_bytes config)))) (config_bytes config)) in
    let long : length (head ++ text) ≡ length head + length text = length-append head text in
    let whole : length front ≡ length (head ++ text) = ap (λ (y : List ℕ). length y) w.bytes_are in
    let header = (header_of-reads head (config, left_at lasts place []) (header_again version config w.known w.spelled.0 w.spelled.1 w.limits)).0 (text ++ behind) in
    ap (λ (y : List ℕ). log_of (y ++ behind)) w.bytes_are
    ∙ ap log_of (append_assoc head text behind)
    ∙ ap (λ (y : Result (Config × Left) LogError). y >>= with_entries) header
    ∙ ap (λ (o : Entries). log_ok (config, o))
    (entries_there place lasts given behind fault (recursion_from_All EntryFits given w.fit) (subst (λ (p : ℕ). ArePlaced lasts p given) begins w.places) (λ end (is : end ≡ place + length text). ends end (omega arith)))

stops_at : (lasts : LastUnits) (place : ℕ) (behind : List ℕ) (e : LogError) → IsWrongEntry lasts place behind e → entries_of (left_at lasts place behind) ≡ ended [] (Some e)
stops_at lasts place behind e wrong =
    let l : Left = left_at lasts place behind in
    let next : next_at l ≡ Err e = next_at-entry l (wrong_some lasts place behind e wrong) ∙ ap (λ (y : Result (LogEntry × Left) LogError). y >>= as_next) (entry_stops lasts place behind e wrong) in
    entries_next l ∙ ap (λ (y : Result (Option LogEntry × Left) LogError). with_next y entries_of) next

said_there : (bytes : List ℕ) (version : ℕ) (config : Config) (given : List LogEntry) (fault : Option LogError) → SaysTo bytes version config given fault → log_of bytes ≡ Ok (config, ended given fault)
said_there bytes version config given None w =
    ap log_of (sym (append-nil bytes)) ∙ log_there bytes version config given [] None w (λ end is. none_behind end (lasts_behind (no_lasts version (length config.weights)) given))
said_there bytes version config given (Some e) (front, behind, is, w, wrong) =
    let lasts = lasts_behind (no_lasts version (length config.weights)) given in
    ap log_of is ∙ log_there front version config given behind (Some e) w (λ end here. stops_at lasts end behind e (subst (λ (p : ℕ). IsWrongEntry lasts p behind e) (sym here) wrong))

pub there : (bytes : List ℕ) (said : Result (Config × Entries) LogError) → Says bytes said → log_of bytes ≡ said
there bytes (Ok (config, said)) (version, says) = said_there bytes version config said.given said.fault says
there bytes (Err e) wrong = ap (λ (y : Result (Config × Left) LogError). y >>= with_entries) (header_stops bytes e wrong)

-- ---- what follows of a log that was read

-- the bytes in front that are written, up to the end or the first error
written_of : (bytes : List ℕ) (version : ℕ) (config : Config) (given : List LogEntry) (fault : Option LogError) → SaysTo bytes version config given fault → (front : List ℕ) × Writes front version config given
written_of bytes version config given None w = (bytes, w)
written_of bytes version config given (Some e) (front, behind, is, w, wrong) = (front, w)

pub respelled : (bytes : List ℕ) (config : Config) (said : Entries) (version : ℕ) → AreBytes bytes → log_of bytes ≡ Ok (config, said) → IsVersion version → SaysSame config said.given (log_bytes version config said.given)
respelled bytes config said version fits e there =
    let says : Says bytes (Ok (config, said)) = subst (Says bytes) e (explain bytes fits) in
    let w = (written_of bytes says.0 config said.given said.fault says.1).1 in
    spelled_said version config said.given there w.spelled.0 w.spelled.1 w.limits (recursion_from_All EntryFits said.given w.fit)

pub whole_spelled : (bytes : List ℕ) (config : Config) (given : List LogEntry) → AreBytes bytes → log_of bytes ≡ Ok (config, record { given = given; fault = None }) → bytes ≡ log_bytes (slice_index bytes 4) config given
whole_spelled bytes config given fits e =
    let says : (version : ℕ) × Writes bytes version config given = subst (Says bytes) e (explain bytes fits) in
    let version : slice_index bytes 4 ≡ says.0 = ap (λ (b : List ℕ). slice_index b 4) says.1.bytes_are in
    says.1.bytes_are ∙ ap (λ (v : ℕ). log_bytes v config given) (sym version)

pub cut_spelled : (bytes : List ℕ) (config : Config) (given : List LogEntry) (at : ℕ) → AreBytes bytes → log_of bytes ≡ Ok (config, record { given = given; fault = Some (Torn at) }) → take at bytes ≡ log_bytes (slice_index bytes 4) config given
cut_spelled bytes config given at fits e =
    let says : (version : ℕ) × SaysTo bytes version config given (Some (Torn at)) = subst (Says bytes) e (explain bytes fits) in
    let s = says.1 in
    let version : slice_index bytes 4 ≡ says.0 = ap (λ (b : List ℕ). slice_index b 4) (s.2 ∙ ap (λ (y : List ℕ). y ++ s.1) s.3.bytes_are) in
    ap (λ (n : ℕ). take n bytes) s.4.0
    ∙ ap (λ (y : List ℕ). take (length s.0) y) s.2
    ∙ take-append_seam s.0 s.1
    ∙ s.3.bytes_are
    ∙ ap (λ (v : ℕ). log_bytes v config given) (sym version)
