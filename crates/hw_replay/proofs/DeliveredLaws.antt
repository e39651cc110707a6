-- A replay leaves the node to which the entries of its log were delivered.
use Rattle.std.proofs.Common.{◌≡◌, ℕ, ◌+◌, Bool, true, false, cond, List, [], ◌∷◌, Option, Some, None, Result, Ok, Err, refl, sym, ap, subst, inl, inr, ◌∙◌}
use Rattle.std.specs.Prelude.{fold}
use Rattle.hw_types.specs.declared.unit.Vertex.{Vertex}
use Rattle.hw_types.specs.declared.config.Config.{Config}
use Rattle.hw_types.specs.declared.answers.Receipt.{Receipt}
use Rattle.hw_types.specs.declared.answers.Receipt.TheVariants as receipt
use Rattle.hw_types.specs.declared.answers.Cause.{Cause}
use Rattle.hw_types.specs.Below.{Among}
use Rattle.hw_types.specs.Journal.{journal_of}
use Rattle.hw_types.specs.Real.{CoreState, setting_of, answer_in, after_in}
use Rattle.hw_safety.proofs.PairLaws.{delivered_signed}
use Rattle.hw_core.specs.Promises.{delivered}
use Rattle.hw_core.proofs.PromiseLaws.{deliveries_are}
use Rattle.hw_log.specs.declared.entry.LogEntry.{LogEntry}
use Rattle.hw_log.specs.declared.error.LogError.{LogError}
use Rattle.hw_log.specs.Log.{Entries, log_of}
use Rattle.hw_replay.specs.declared.fault.StartFault.{StartFault}
use Rattle.hw_replay.specs.declared.fault.StartFault.TheVariants as fault
use Rattle.hw_replay.specs.Taken.{◌>>=◌, Taken, nothing_taken, stop_of, counted_or_stopped, taken_or_stopped, entry_taken, entries_taken, or_fault, rest_taken}
use Rattle.hw_replay.specs.Replay.{is_wanted, said_replayed, replay_of}
use Rattle.hw_replay.specs.Laws.{deliveries_of, IsSigned, IsReplayed, ReplayDelivers}
use Rattle.hw_replay.proofs.TakeLaws.{core_by}
use Rattle.hw_replay.proofs.EntryLaws.{log_signed}

-- ---- one entry

took : Taken → Result Taken StartFault
took t = Ok t

taken_is : (t u : Taken) → took t ≡ took u → t ≡ u
unfolding took
taken_is t u e = cc

counted : (t u : Taken) (o : Option StartFault) → counted_or_stopped t o ≡ took u → u.core ≡ t.core
unfolding took
counted t u (Some f) e = absurd cc
counted t u None e = ap (λ (w : Taken). w.core) (sym (taken_is (record t { refused = t.refused + 1 }) u e))

core_after : (t u : Taken) (e : LogEntry) (given : Result Receipt Cause) → taken_or_stopped t e given ≡ took u → u.core ≡ core_by t.core e.vertex given
unfolding took
core_after t u e (Err c) k = counted t u (stop_of t.core e.at e.vertex c) k
core_after t u e (Ok receipt.Repeat) k = ap (λ (w : Taken). w.core) (sym (taken_is (record t { repeats = t.repeats + 1 }) u k))
core_after t u e (Ok (receipt.Admitted n)) k = ap (λ (w : Taken). w.core) (sym (taken_is (record t { core = core_by t.core e.vertex (Ok (receipt.Admitted n)) }) u k))
core_after t u e (Ok (receipt.Parked n)) k = ap (λ (w : Taken). w.core) (sym (taken_is (record t { core = core_by t.core e.vertex (Ok (receipt.Parked n)) }) u k))
core_after t u e (Ok (receipt.Dropped r)) k = ap (λ (w : Taken). w.core) (sym (taken_is (record t { core = core_by t.core e.vertex (Ok (receipt.Dropped r)) }) u k))

entry_after : (t u : Taken) (e : LogEntry) → entry_taken t e ≡ took u → u.core ≡ after_in t.core e.vertex e.verdict
unfolding entry_taken
entry_after t u e k = core_after t u e (answer_in t.core e.vertex e.verdict) k

-- ---- all entries

abbrev delivered_to : CoreState → List LogEntry → CoreState
delivered_to c es = fold (λ (k : CoreState) (d : Vertex × Bool). after_in k d.0 d.1) c (deliveries_of es)

entries_after : (t u : Taken) (es : List LogEntry) → entries_taken t es ≡ took u → u.core ≡ delivered_to t.core es
unfolding entries_taken took
entries_after t u [] k = ap (λ (w : Taken). w.core) (sym (taken_is t u k))
entries_after t u (e ∷ es) k = go (entry_taken t e) refl k (λ w f. entries_after w u es f)
  where
    go : (r : Result Taken StartFault) → entry_taken t e ≡ r → (r >>= λ w. entries_taken w es) ≡ took u → ((w : Taken) → entries_taken w es ≡ took u → u.core ≡ delivered_to w.core es) → u.core ≡ delivered_to t.core (e ∷ es)
    go (Ok w) is f later = later w f ∙ ap (λ (c : CoreState). delivered_to c es) (entry_after t w e is)
    go (Err d) is f later = absurd cc

-- no error stands behind the entries
record Took (t u : Taken) (entries : Entries) : Type 0 where
  core_is : u.core ≡ delivered_to t.core entries.given
  whole : entries.fault ≡ None

rest_after : (t u : Taken) (entries : Entries) → rest_taken t entries ≡ took u → Took t u entries
unfolding took
rest_after t u entries k = go (entries_taken t entries.given) refl entries.fault refl k
  where
    go : (r : Result Taken StartFault) → entries_taken t entries.given ≡ r → (o : Option LogError) → entries.fault ≡ o → (r >>= λ w. or_fault w o) ≡ took u → Took t u entries
    go (Ok w) is None none f = record { core_is = entries_after t u entries.given (is ∙ f); whole = none }
    go (Ok w) is (Some d) some f = absurd cc
    go (Err d) is o some f = absurd cc

-- ---- the whole log

mapped : (es : List LogEntry) (d : Vertex × Bool) → Among d (deliveries_of es) → (e : LogEntry) × Among e es × ((e.vertex, e.verdict) ≡ d)
mapped [] d m = absurd m
mapped (e ∷ es) d (inl is) = (e, inl refl, is)
mapped (e ∷ es) d (inr m) = let rest = mapped es d m in (rest.0, inr rest.1, rest.2)

module _ (wanted : Option Config) (bytes : List ℕ) (t : Taken) where
  signed : (said : Config × Entries) → log_of bytes ≡ Ok said → t.core ≡ delivered said.0 (deliveries_of said.1.given) → (v : Vertex) → Among v t.core.journal → IsSigned v
  signed said is core v m =
      let journal : t.core.journal ≡ journal_of (setting_of said.0) (deliveries_of said.1.given) = ap (λ (c : CoreState). c.journal) (core ∙ (deliveries_are said.0 (deliveries_of said.1.given)).0) in
      let came = delivered_signed (setting_of said.0) (deliveries_of said.1.given) v (subst (λ (j : List Vertex). Among v j) journal m) in
      let e = mapped said.1.given (v, true) came in
      subst IsSigned (ap (λ (d : Vertex × Bool). d.0) e.2) (log_signed bytes said is e.0 e.1)

  by_log : (r : Result (Config × Entries) LogError) → log_of bytes ≡ r → said_replayed wanted r ≡ took t → IsReplayed wanted bytes t
  unfolding took
  by_log (Err d) is f = absurd cc
  by_log (Ok said) is f = go (is_wanted wanted said.0) refl f
    where
      go : (b : Bool) → is_wanted wanted said.0 ≡ b → cond b (rest_taken (nothing_taken said.0) said.1) (Err fault.OtherConfig) ≡ took t → IsReplayed wanted bytes t
      go false other g = absurd cc
      go true wanted_is g =
          let rest = rest_after (nothing_taken said.0) t said.1 g in
          record {
            config = said.0;
            entries = said.1.given;
            log = is ∙ ap (λ (o : Option LogError). Ok (said.0, record { given = said.1.given; fault = o })) rest.whole;
            is_wanted = wanted_is;
            core_is = rest.core_is;
            signed = signed said is rest.core_is;
          }

pub replay_delivers : ReplayDelivers
unfolding replay_of took
replay_delivers wanted bytes t is = by_log wanted bytes t (log_of bytes) refl is
