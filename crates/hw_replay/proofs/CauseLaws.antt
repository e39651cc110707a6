-- Faults of a replay have their cause.
use Rattle.std.proofs.Common.{◌≡◌, ℕ, ◌≤◌, List, Option, Result, Err, sym, subst}
use Rattle.hw_types.specs.declared.answers.CodecError.{CodecError}
use Rattle.hw_types.specs.declared.answers.CodecError.TheVariants as codec
use Rattle.hw_log.specs.declared.error.LogError.{LogError}
use Rattle.hw_log.specs.declared.error.LogError.TheVariants as log
use Rattle.hw_log.specs.Causes as of_log
use Rattle.hw_replay.specs.declared.fault.StartFault.{StartFault}
use Rattle.hw_replay.specs.declared.fault.StartFault.TheVariants as fault
use Rattle.hw_replay.specs.Faults.{fault_of}
use Rattle.hw_replay.specs.Replay.{IsOutside}
use Rattle.hw_replay.specs.Causes.{IsReadCounted, IsReplayAbout, IsOfReplay, HasReplayCause}
use Rattle.hw_replay.specs.Steps.{IsOfEntry}

-- an error of the log is counted as the log's is
counted : (T S : Type 0) (before now : ℕ) (e : LogError) → of_log.IsReadCounted {T = T} before now (Err e) → IsReadCounted {T = S} before now (Err (fault_of e))
counted T S before now log.ReadFault h = h
counted T S before now log.WriteFault h = h
counted T S before now log.OutOfMemory h = h
counted T S before now log.BadMagic h = h
counted T S before now (log.Version v) h = h
counted T S before now (log.Torn at) h = h
counted T S before now (log.TooLong at) h = h
counted T S before now (log.BadConfig f) h = h
counted T S before now (log.ConfigFault f) h = h
counted T S before now (log.BadEvent at) h = h
counted T S before now (log.BadVerdict at) h = h
counted T S before now (log.BadVertex at f) h = h

of_config : (f : CodecError) → of_log.IsOfReading (log.BadConfig f) → IsOfReplay (fault.Log (log.BadConfig f))
of_config codec.OutOfMemory h = h
of_config (codec.Truncated at) h = tt
of_config (codec.Trailing at) h = tt
of_config (codec.BadTag at) h = tt
of_config (codec.TooLong at) h = tt
of_config (codec.OutOfRange at) h = tt

of_vertex : (at : ℕ) (f : CodecError) → of_log.IsOfReading (log.BadVertex at f) → IsOfReplay (fault.Log (log.BadVertex at f))
of_vertex at codec.OutOfMemory h = h
of_vertex at (codec.Truncated n) h = tt
of_vertex at (codec.Trailing n) h = tt
of_vertex at (codec.BadTag n) h = tt
of_vertex at (codec.TooLong n) h = tt
of_vertex at (codec.OutOfRange n) h = tt

of_replay : (e : LogError) → of_log.IsOfReading e → IsOfReplay (fault_of e)
of_replay log.ReadFault h = tt
of_replay log.WriteFault h = h
of_replay log.OutOfMemory h = tt
of_replay log.BadMagic h = tt
of_replay (log.Version v) h = tt
of_replay (log.Torn at) h = tt
of_replay (log.TooLong at) h = tt
of_replay (log.BadConfig f) h = of_config f h
of_replay (log.ConfigFault f) h = tt
of_replay (log.BadEvent at) h = tt
of_replay (log.BadVerdict at) h = tt
of_replay (log.BadVertex at f) h = of_vertex at f h

pub cause_of_log : {T : Type 0} (S : Type 0) (before now : ℕ) (r : Result T LogError) (e : LogError) → r ≡ Err e → of_log.HasReadCause before now r → HasReplayCause {T = S} before now (Err (fault_of e))
cause_of_log {T} S before now r e is cause =
    let c : of_log.HasReadCause {T = T} before now (Err e) = rw (sym is) cause in
    record { later = c.later; counted = counted T S before now e c.failed; error = of_replay e c.error }

-- what stops at an entry leaves the count
left_by_entry : (S : Type 0) (before now : ℕ) (f : StartFault) → now ≡ before → IsOfEntry f → IsReadCounted {T = S} before now (Err f)
left_by_entry S before now (fault.Log e) same h = absurd h
left_by_entry S before now fault.OtherConfig same h = absurd h
left_by_entry S before now (fault.Clash known other) same h = same
left_by_entry S before now (fault.RecordsFull at) same h = same
left_by_entry S before now (fault.ParkFull at) same h = same
left_by_entry S before now fault.OutOfMemory same h = same

of_entry : (f : StartFault) → IsOfEntry f → IsOfReplay f
of_entry (fault.Log e) h = absurd h
of_entry fault.OtherConfig h = absurd h
of_entry (fault.Clash known other) h = tt
of_entry (fault.RecordsFull at) h = tt
of_entry (fault.ParkFull at) h = tt
of_entry fault.OutOfMemory h = tt

pub cause_of_entry : (S : Type 0) (before now : ℕ) (f : StartFault) → before ≤ now → now ≡ before → IsOfEntry f → HasReplayCause {T = S} before now (Err f)
cause_of_entry S before now f later same h = record { later = later; counted = left_by_entry S before now f same h; error = of_entry f h }

-- an error of the outside is one of the replay
pub is_outside : (e : LogError) → of_log.IsOutside e → IsOutside (fault_of e)
is_outside log.ReadFault h = tt
is_outside log.OutOfMemory h = tt
is_outside log.WriteFault h = absurd h
is_outside log.BadMagic h = absurd h
is_outside (log.Version v) h = absurd h
is_outside (log.Torn at) h = absurd h
is_outside (log.TooLong at) h = absurd h
is_outside (log.BadConfig f) h = absurd h
is_outside (log.ConfigFault f) h = absurd h
is_outside (log.BadEvent at) h = absurd h
is_outside (log.BadVerdict at) h = absurd h
is_outside (log.BadVertex at f) h = absurd h

-- a fault after calls that left the count
pub cause_carries : {A : Type 0} (S : Type 0) (before mid now : ℕ) (r : Result A StartFault) (f : StartFault) → mid ≡ before → r ≡ Err f → HasReplayCause mid now r → HasReplayCause {T = S} before now (Err f)
cause_carries {A} S before mid now r f same is cause =
    let c : HasReplayCause {T = A} before now (Err f) = rw (sym is, sym same) cause in
    record { later = c.later; counted = c.counted; error = c.error }

-- ---- counts for a file

-- a fault after calls that left the counts and the file that is begun
pub about_carries : {A : Type 0} (S : Type 0) (name begun : Option (List ℕ)) (before mid now : List ℕ → ℕ) (r : Result A StartFault) (f : StartFault) → begun ≡ name → mid ≡ before → r ≡ Err f → IsReplayAbout begun mid now r → IsReplayAbout {T = S} name before now (Err f)
about_carries {A} S name begun before mid now r f named same is about =
    let fault : IsReplayAbout {T = A} begun mid now (Err f) = subst (λ (x : Result A StartFault). IsReplayAbout begun mid now x) is about in
    let left : IsReplayAbout {T = A} begun before now (Err f) = subst (λ (b : List ℕ → ℕ). IsReplayAbout {T = A} begun b now (Err f)) same fault in
    subst (λ (n : Option (List ℕ)). IsReplayAbout {T = S} n before now (Err f)) named left
