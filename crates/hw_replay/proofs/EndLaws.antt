-- The last units behind a log's entries, and nodes that deliveries reach.
use Rattle.std.proofs.Common.{◌≡◌, ◌⊎◌, ℕ, Bool, true, false, cond, List, [], ◌∷◌, ◌++◌, Option, Some, None, Result, Ok, Err, inl, inr, refl, sym, ap, subst, ◌∙◌}
use Rattle.std.specs.Prelude.{fold, IfOk, if◌then◌else◌}
use Rattle.std.proofs.lemmas.List.Sums.{fold_push}
use Rattle.hw_types.specs.declared.unit.Vertex.{Vertex}
use Rattle.hw_types.specs.declared.config.Config.{Config}
use Rattle.hw_types.specs.declared.answers.Cause.{Cause}
use Rattle.hw_types.specs.Below.{Among}
use Rattle.hw_types.specs.Journal.{is_accepted}
use Rattle.hw_types.specs.Real.{CoreState, answer_in, after_in}
use Rattle.hw_types.specs.Spelling.{VertexFits}
use Rattle.hw_types.proofs.EntryLaws.{append_cases}
use Rattle.hw_core.specs.Promises.{begun, delivered}
use Rattle.hw_log.specs.Lasts.{lasts_after}
use Rattle.hw_log.specs.declared.entry.LogEntry.{LogEntry}
use Rattle.hw_log.specs.declared.error.LogError.{LogError}
use Rattle.hw_log.specs.Log.{◌>>=◌, Left, header_of, next_at, with_next, entries_of, log_of, lasts_behind}
use Rattle.hw_log.specs.Reader.{Reading, left_of, Opens}
use Rattle.hw_log.proofs.EntryLaws.{entries_next}
use Rattle.hw_log.proofs.MoreLaws.{next_at-lasts, header_of-lasts}
use Rattle.hw_replay.specs.declared.fault.StartFault.{StartFault}
use Rattle.hw_replay.specs.declared.fault.StartFault.TheVariants as fault
use Rattle.hw_replay.specs.declared.replay.Replay.{Replay}
use Rattle.hw_replay.specs.Faults.{fault_of}
use Rattle.hw_replay.specs.Taken.{Taken, nothing_taken}
use Rattle.hw_replay.specs.Replay.{is_wanted, taken_in, IsOutside, GrowsByOne}
use Rattle.hw_replay.specs.Midway.{midway, midway_in, said_begun, file_begun}
use Rattle.hw_replay.specs.Ends.{lasts_said, lasts_of_file, lasts_ahead, IsReached}
use Rattle.hw_replay.specs.Steps.{IsBegun}
use Rattle.hw_replay.proofs.CauseLaws.{is_outside}

-- ---- last units

-- what is left of a log, by what comes next
entries_at : (r : Left) (n : Result (Option LogEntry × Left) LogError) → next_at r ≡ n → entries_of r ≡ with_next n entries_of
entries_at r n is = entries_next r ∙ ap (λ m. with_next m entries_of) is

-- the last units are the same before an entry and behind it
pub lasts_lead : (l rest : Left) (e : LogEntry) → next_at l ≡ Ok (Some e, rest) → lasts_behind l.lasts (entries_of l).given ≡ lasts_behind rest.lasts (entries_of rest).given
lasts_lead l rest e is =
    ap (λ entries. lasts_behind l.lasts entries.given) (entries_at l (Ok (Some e, rest)) is)
    ∙ ap (λ lasts. lasts_behind lasts (entries_of rest).given) (sym (next_at-lasts l e rest is))

-- at the end they are those so far
pub lasts_end : (l rest : Left) → next_at l ≡ Ok (None, rest) → lasts_behind l.lasts (entries_of l).given ≡ l.lasts
lasts_end l rest is = ap (λ entries. lasts_behind l.lasts entries.given) (entries_at l (Ok (None, rest)) is)

behind_header : (bytes : List ℕ) (config : Config) (rest : Left) → header_of bytes ≡ Ok (config, rest) → log_of bytes ≡ Ok (config, entries_of rest)
behind_header bytes config rest is = ap (λ h. h >>= λ header. Ok (header.0, entries_of header.1)) is

-- behind the header they are those of the whole log
pub lasts_begun : (wanted : Option Config) (file : Option (List ℕ)) (unread : List ℕ) (reader : Reading) (r : Replay) → Opens file unread (Ok reader) → IsBegun r reader wanted → lasts_of_file file ≡ Some (lasts_ahead r unread)
lasts_begun wanted None unread reader r opens begun = absurd opens
lasts_begun wanted (Some bytes) unread reader r opens begun =
    ap (lasts_said bytes) (behind_header bytes reader.config (left_of reader unread) opens)
    ∙ ap (λ lasts. Some (lasts_behind lasts (entries_of (left_of reader unread)).given)) (sym (header_of-lasts bytes (reader.config, left_of reader unread) opens))
    ∙ ap (λ (q : Reading). Some (lasts_behind q.lasts (entries_of (left_of q unread)).given)) (sym begun.reader_is)

-- ---- a replay behind the header

-- nothing is taken, and all entries are to come
pub midway_begun : (wanted : Option Config) (file : Option (List ℕ)) (unread : List ℕ) (reader : Reading) (r : Replay) → Opens file unread (Ok reader) → IsBegun r reader wanted → file_begun wanted file ≡ Some (midway_in r unread)
midway_begun wanted None unread reader r opens begun = absurd opens
midway_begun wanted (Some bytes) unread reader r opens begun =
    ap (said_begun wanted) (behind_header bytes reader.config (left_of reader unread) opens)
    ∙ ap (λ b. if b then Some (midway (nothing_taken reader.config) (entries_of (left_of reader unread))) else None) begun.is_wanted
    ∙ ap (λ (t : Taken). Some (midway t (entries_of (left_of reader unread)))) (sym begun.empty)
    ∙ ap (λ (q : Reading). Some (midway (taken_in r) (entries_of (left_of q unread)))) (sym begun.reader_is)

-- and where none begins
pub unbegun_other : (wanted : Option Config) (file : Option (List ℕ)) (unread : List ℕ) (reader : Reading) (e : StartFault) → Opens file unread (Ok reader)
    → (e ≡ fault.OutOfMemory) ⊎ ((e ≡ fault.OtherConfig) × (is_wanted wanted reader.config ≡ false)) → IsOutside e ⊎ (file_begun wanted file ≡ None)
unbegun_other wanted file unread reader e opens (inl want) = inl (subst IsOutside (sym want) tt)
unbegun_other wanted None unread reader e opens (inr other) = inr refl
unbegun_other wanted (Some bytes) unread reader e opens (inr other) =
    inr (ap (said_begun wanted) (behind_header bytes reader.config (left_of reader unread) opens)
    ∙ ap (λ b. if b then Some (midway (nothing_taken reader.config) (entries_of (left_of reader unread))) else None) other.1)

pub unbegun : (wanted : Option Config) (file : Option (List ℕ)) (unread : List ℕ) (e : LogError) → Opens file unread (Err e) → IsOutside (fault_of e) ⊎ (file_begun wanted file ≡ None)
unbegun wanted None unread e out = inr refl
unbegun wanted (Some bytes) unread e (inl out) = inl (is_outside e out)
unbegun wanted (Some bytes) unread e (inr is) = inr (ap (said_begun wanted) (ap (λ h. h >>= λ header. Ok (header.0, entries_of header.1)) is))

-- ---- nodes that are reached

-- one that has received nothing
pub reached_begun : (config : Config) → IsReached (begun config)
reached_begun config = record { deliveries = []; made = refl; fit = λ v m. absurd m }

push_fit : (vs : List Vertex) (v : Vertex) → ((w : Vertex) → Among w vs → VertexFits w) → VertexFits v → (w : Vertex) → Among w (vs ++ v ∷ []) → VertexFits w
push_fit vs v fit fits w m = elim (append_cases w vs (v ∷ []) m) [
  | inl old ↦ fit w old
  | inr new ↦ (elim new [ inl e ↦ subst VertexFits e fits | inr never ↦ absurd never ])
]

-- a delivery reaches one more
pub reached_after : (c : CoreState) (v : Vertex) (verdict : Bool) → VertexFits v → IsReached c → IsReached (after_in c v verdict)
reached_after c v verdict fits reached = record {
  deliveries = reached.deliveries ++ (v, verdict) ∷ [];
  made =
      ap (λ (k : CoreState). after_in k v verdict) reached.made
      ∙ sym (fold_push (λ (k : CoreState) (d : Vertex × Bool). after_in k d.0 d.1) (begun c.config) reached.deliveries (v, verdict));
  fit = longer (is_accepted (answer_in c v verdict));
}
  where
    longer : (b : Bool) (w : Vertex) → Among w (cond b (c.journal ++ v ∷ []) c.journal) → VertexFits w
    longer true = push_fit c.journal v reached.fit fits
    longer false = reached.fit

-- a step leaves the configuration
pub grown_config : (old new : CoreState) → GrowsByOne old new → new.config ≡ old.config
grown_config old new (inl same) = ap (λ (c : CoreState). c.config) same
grown_config old new (inr longer) = ap (λ (c : CoreState). c.config) longer.1

-- a replay behind the header has such a one
pub reached_behind : (wanted : Option Config) (reader : Reading) (r : Replay) → IsBegun r reader wanted → IsReached r.core
reached_behind wanted reader r start = subst IsReached (sym (ap (λ (t : Taken). t.core) start.empty)) (reached_begun reader.config)

-- an error owes nothing of an answer without one
pub no_ok : {A E : Type 0} (r : Result A E) (e : E) (P : A → Type 0) → r ≡ Err e → IfOk r P
no_ok {A} {E} r e P is = subst (λ (x : Result A E). IfOk x P) (sym is) tt
