-- What a replay will have taken, one entry after the other.
use Rattle.std.proofs.Common.{◌≡◌, ◌⊎◌, Option, Some, None, Result, Ok, Err, inl, inr, refl, sym, ap, subst, ◌∙◌}
use Rattle.hw_log.specs.declared.entry.LogEntry.{LogEntry}
use Rattle.hw_log.specs.declared.error.LogError.{LogError}
use Rattle.hw_log.specs.declared.error.LogError.TheVariants as log
use Rattle.hw_log.specs.Causes as of_log
use Rattle.hw_log.specs.Log.{Left, next_at, with_next, entries_of}
use Rattle.hw_log.proofs.EntryLaws.{entries_next}
use Rattle.hw_replay.specs.declared.fault.StartFault.{StartFault}
use Rattle.hw_replay.specs.declared.fault.StartFault.TheVariants as fault
use Rattle.hw_replay.specs.Faults.{fault_of}
use Rattle.hw_replay.specs.Replay.{IsOutside, Stops}
use Rattle.hw_replay.specs.Steps.{IsStop}
use Rattle.hw_replay.proofs.CauseLaws.{is_outside}
use Rattle.hw_replay.specs.Taken.{Taken, ◌>>=◌, entry_taken, entries_taken, or_fault, rest_taken}

-- what is left of a log, by what comes next
entries_at : (r : Left) (n : Result (Option LogEntry × Left) LogError) → next_at r ≡ n → entries_of r ≡ with_next n entries_of
entries_at r n is = entries_next r ∙ ap (λ m. with_next m entries_of) is

module _ (t : Taken) (r rest : Left) where
  -- an entry that is taken
  pub ahead_entry : (e : LogEntry) (u : Taken) → next_at r ≡ Ok (Some e, rest) → entry_taken t e ≡ Ok u → rest_taken t (entries_of r) ≡ rest_taken u (entries_of rest)
  unfolding entries_taken
  ahead_entry e u is took =
      ap (rest_taken t) (entries_at r (Ok (Some e, rest)) is)
      ∙ ap (λ o. (o >>= λ w. entries_taken w (entries_of rest).given) >>= λ w. or_fault w (entries_of rest).fault) took

  -- an entry that stops it
  pub ahead_stop : (e : LogEntry) (f : StartFault) → next_at r ≡ Ok (Some e, rest) → entry_taken t e ≡ Err f → rest_taken t (entries_of r) ≡ Err f
  unfolding entries_taken
  ahead_stop e f is stops =
      ap (rest_taken t) (entries_at r (Ok (Some e, rest)) is)
      ∙ ap (λ o. (o >>= λ w. entries_taken w (entries_of rest).given) >>= λ w. or_fault w (entries_of rest).fault) stops

  -- the end of the log
  pub ahead_end : next_at r ≡ Ok (None, rest) → rest_taken t (entries_of r) ≡ Ok t
  unfolding entries_taken
  ahead_end is = ap (rest_taken t) (entries_at r (Ok (None, rest)) is)

-- an error of the log
pub ahead_error : (t : Taken) (r : Left) (e : LogError) → next_at r ≡ Err e → rest_taken t (entries_of r) ≡ Err (fault.Log e)
unfolding entries_taken
ahead_error t r e is = ap (rest_taken t) (entries_at r (Err e) is)

-- ---- stops

-- want of memory is of the outside
pub wants : (e : StartFault) (said : Result Taken StartFault) → e ≡ fault.OutOfMemory → Stops e said
wants e said is = inl (subst IsOutside (sym is) tt)

-- an entry at which it stops
pub stops_at_entry : (t : Taken) (r rest : Left) (e : LogEntry) (f : StartFault) → next_at r ≡ Ok (Some e, rest) → IsStop f (entry_taken t e) → Stops f (rest_taken t (entries_of r))
stops_at_entry t r rest e f is (inl want) = wants f (rest_taken t (entries_of r)) want
stops_at_entry t r rest e f is (inr stop) = inr (ahead_stop t r rest e f is stop)

-- an error of the log is one of the outside, or itself
fault_is : (e : LogError) → IsOutside (fault_of e) ⊎ (fault_of e ≡ fault.Log e)
fault_is log.ReadFault = inr refl
fault_is log.WriteFault = inr refl
fault_is log.OutOfMemory = inl tt
fault_is log.BadMagic = inr refl
fault_is (log.Version v) = inr refl
fault_is (log.Torn at) = inr refl
fault_is (log.TooLong at) = inr refl
fault_is (log.BadConfig f) = inr refl
fault_is (log.ConfigFault f) = inr refl
fault_is (log.BadEvent at) = inr refl
fault_is (log.BadVerdict at) = inr refl
fault_is (log.BadVertex at f) = inr refl

-- where the log's error ends what is said
pub stops_by : (e : LogError) (said : Result Taken StartFault) → said ≡ Err (fault.Log e) → Stops (fault_of e) said
stops_by e said is = go (fault_is e)
  where
    go : (IsOutside (fault_of e) ⊎ (fault_of e ≡ fault.Log e)) → Stops (fault_of e) said
    go (inl out) = inl out
    go (inr same) = inr (is ∙ ap Err (sym same))

-- an error of the log at which it stops
pub stops_at_error : (t : Taken) (r : Left) (e : LogError) → of_log.Fails e (next_at r) → Stops (fault_of e) (rest_taken t (entries_of r))
stops_at_error t r e (inl out) = inl (is_outside e out)
stops_at_error t r e (inr is) = stops_by e (rest_taken t (entries_of r)) (ahead_error t r e is)
