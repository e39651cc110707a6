-- Where a replay came to, one entry after the other.
use Rattle.std.proofs.Common.{◌≡◌, ℕ, Bool, true, false, cond, List, [], ◌∷◌, ◌++◌, Option, Some, None, Result, Ok, Err, refl, sym, ap, ◌∙◌, inl, inr, append_assoc}
use Rattle.hw_types.specs.declared.config.Config.{Config}
use Rattle.hw_log.specs.declared.entry.LogEntry.{LogEntry}
use Rattle.hw_log.specs.declared.error.LogError.{LogError}
use Rattle.hw_log.specs.Log.{Left, next_at, with_next, Entries, entries_of, log_of}
use Rattle.hw_log.specs.Reader.{behind_given}
use Rattle.hw_log.proofs.EntryLaws.{entries_next}
use Rattle.hw_replay.specs.declared.fault.StartFault.{StartFault}
use Rattle.hw_replay.specs.declared.fault.StartFault.TheVariants as fault
use Rattle.hw_replay.specs.Taken.{◌>>=◌, Taken, nothing_taken, entry_taken, entries_taken, or_fault, rest_taken}
use Rattle.hw_replay.specs.Replay.{is_wanted, said_replayed, replay_of}
use Rattle.hw_log.specs.Causes as of_log
use Rattle.hw_replay.specs.Faults.{fault_of}
use Rattle.hw_replay.specs.Replay.{Stops}
use Rattle.hw_replay.specs.Steps.{IsStop}
use Rattle.hw_replay.proofs.CauseLaws.{is_outside}
use Rattle.hw_replay.proofs.AheadLaws.{wants, stops_by}
use Rattle.hw_replay.specs.Midway.{Midway, midway, said_begun, file_begun, HasRead, ComesTo, TakesNext, LeadsNext, next_taken}
use Rattle.hw_replay.specs.Laws.{MidwayLeads}

-- ---- entry by entry

not_true : false ≡ true → ⊥
not_true e = cc

-- an entry that is taken is the next one
pub takes_next : (t u : Taken) (r rest : Left) (e : LogEntry) → next_at r ≡ Ok (Some e, rest) → entry_taken t e ≡ Ok u → TakesNext (midway t (entries_of r)) (midway u (entries_of rest))
takes_next t u r rest e is took = record {
  entry = e;
  next = entries_next r ∙ ap (λ n. with_next n entries_of) is;
  took = took;
}

-- what comes next leaves this
next_at_is : (t : Taken) (r : Left) (n : Result (Option LogEntry × Left) LogError) → next_at r ≡ n → next_taken (midway t (entries_of r)) ≡ next_taken (midway t (with_next n entries_of))
next_at_is t r n is = ap (λ (entries : Entries). next_taken (midway t entries)) (entries_next r ∙ ap (λ m. with_next m entries_of) is)

-- an entry that isn't taken is the one that stops it
pub stops_next : (t : Taken) (r rest : Left) (e : LogEntry) (f : StartFault) → next_at r ≡ Ok (Some e, rest) → IsStop f (entry_taken t e) → Stops f (next_taken (midway t (entries_of r)))
stops_next t r rest e f is (inl want) = wants f (next_taken (midway t (entries_of r))) want
stops_next t r rest e f is (inr stop) = inr (next_at_is t r (Ok (Some e, rest)) is ∙ stop)

-- and so is the log's error
pub errs_next : (t : Taken) (r : Left) (e : LogError) → of_log.Fails e (next_at r) → Stops (fault_of e) (next_taken (midway t (entries_of r)))
errs_next t r e (inl out) = inl (is_outside e out)
errs_next t r e (inr is) = stops_by e (next_taken (midway t (entries_of r))) (next_at_is t r (Err e) is)

pub next_on : (old new : Midway) (more : Bool) → more ≡ true → LeadsNext old new (Ok more) → TakesNext old new
next_on old new true e h = h
next_on old new false e h = absurd (not_true e)

-- what some entries and then others leave
taken_append : (t : Taken) (xs ys : List LogEntry) → entries_taken t (xs ++ ys) ≡ (entries_taken t xs >>= λ u. entries_taken u ys)
unfolding entries_taken
taken_append t [] ys = refl
taken_append t (x ∷ xs) ys = go (entry_taken t x) (λ u. taken_append u xs ys)
  where
    go : (r : Result Taken StartFault) → ((u : Taken) → entries_taken u (xs ++ ys) ≡ (entries_taken u xs >>= λ w. entries_taken w ys)) → (r >>= λ u. entries_taken u (xs ++ ys)) ≡ ((r >>= λ u. entries_taken u xs) >>= λ u. entries_taken u ys)
    go (Ok u) more = more u
    go (Err e) more = refl

-- what one entry leaves
taken_one : (t : Taken) (e : LogEntry) → entries_taken t (e ∷ []) ≡ entry_taken t e
unfolding entries_taken
taken_one t e = go (entry_taken t e)
  where
    go : (r : Result Taken StartFault) → (r >>= λ u. Ok u) ≡ r
    go (Ok u) = refl
    go (Err f) = refl

-- nothing was read
pub read_none : (first : Midway) → HasRead first first
unfolding entries_taken
read_none first = record { read = []; split = refl; left = refl }

-- one more was read
pub read_more : (first old new : Midway) → HasRead first old → TakesNext old new → HasRead first new
read_more first old new h next = record {
  read = h.read ++ next.entry ∷ [];
  split =
      h.split ∙ ap (behind_given h.read) next.next
      ∙ ap (λ (given : List LogEntry). let e : Entries = record { given = given; fault = new.entries.fault } in e) (sym (append_assoc h.read (next.entry ∷ []) new.entries.given));
  left =
      taken_append first.taken h.read (next.entry ∷ [])
      ∙ ap (λ (r : Result Taken StartFault). r >>= λ u. entries_taken u (next.entry ∷ [])) h.left
      ∙ taken_one old.taken next.entry ∙ next.took;
}

-- ---- the whole

-- what is still to come leaves what all entries leave
read_leads : (first now : Midway) → HasRead first now → rest_taken first.taken first.entries ≡ rest_taken now.taken now.entries
read_leads first now h =
    ap (rest_taken first.taken) h.split
    ∙ ap (λ (r : Result Taken StartFault). r >>= λ u. or_fault u now.entries.fault) (taken_append first.taken h.read now.entries.given ∙ ap (λ (r : Result Taken StartFault). r >>= λ u. entries_taken u now.entries.given) h.left)

said_leads : (wanted : Option Config) (said : Result (Config × Entries) LogError) (now : Midway) → ComesTo (said_begun wanted said) now → said_replayed wanted said ≡ rest_taken now.taken now.entries
said_leads wanted (Err e) now came = absurd came
said_leads wanted (Ok said) now came = go (is_wanted wanted said.0) came
  where
    go : (b : Bool) → ComesTo (cond b (Some (midway (nothing_taken said.0) said.1)) None) now → cond b (rest_taken (nothing_taken said.0) said.1) (Err fault.OtherConfig) ≡ rest_taken now.taken now.entries
    go true read = read_leads (midway (nothing_taken said.0) said.1) now read
    go false never = absurd never

pub midway_leads : MidwayLeads
unfolding replay_of
midway_leads wanted (Some bytes) now came = said_leads wanted (log_of bytes) now came
midway_leads wanted None now came = absurd came
