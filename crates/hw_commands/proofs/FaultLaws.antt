-- The line of what is wrong with the bytes of a log.
use Rattle.std.proofs.Common.{◌≡◌, ℕ, List, ◌++◌, codes, inl, inr, Result, Ok, Err, refl, sym, ap, subst, ◌∙◌}
use Rattle.std.specs.Prelude.{IfOk, IfErr}
use Rattle.hw_log.specs.declared.error.LogError.{LogError}
use Rattle.hw_log.specs.declared.error.LogError.TheVariants as log
use Rattle.hw_text.specs.Text.{number_text}
use Rattle.hw_text.specs.Lines.{line_of, line_feed}
use Rattle.hw_replay.specs.declared.fault.StartFault.{StartFault}
use Rattle.hw_replay.specs.declared.fault.StartFault.TheVariants as start
use Rattle.hw_replay.specs.Replay.{IsOutside}
use Rattle.hw_replay.specs.Causes.{IsFaultCounted}
use Rattle.hw_commands.specs.declared.ended.Ended.{Ended}
use Rattle.hw_commands.specs.declared.ended.RunFault.{RunFault}
use Rattle.hw_commands.specs.declared.ended.RunFault.TheVariants.{Read, Append, OutOfMemory}
use Rattle.hw_commands.specs.Faults.{IsReadEnd, IsReadCounted}
use Rattle.hw_commands.specs.Texts.{log_text, input_ended, limit_ended, clash_ended, stopped_ended}

-- it has status 2
pub input_status : (name text : List ℕ) → (input_ended name text).status ≡ 2
unfolding input_ended
input_status name text = refl

-- an error that isn't one of the outside ends with the line of its text
pub of_bytes : (name : List ℕ) (e : LogError) → (e ≡ log.ReadFault → ⊥) → (e ≡ log.OutOfMemory → ⊥) → input_ended name (log_text e) ≡ stopped_ended name (start.Log e)
of_bytes name log.ReadFault read memory = absurd (read refl)
of_bytes name log.OutOfMemory read memory = absurd (memory refl)
of_bytes name log.WriteFault read memory = refl
of_bytes name log.BadMagic read memory = refl
of_bytes name (log.Version v) read memory = refl
of_bytes name (log.Torn at) read memory = refl
of_bytes name (log.TooLong at) read memory = refl
of_bytes name (log.BadConfig f) read memory = refl
of_bytes name (log.ConfigFault f) read memory = refl
of_bytes name (log.BadEvent at) read memory = refl
of_bytes name (log.BadVerdict at) read memory = refl
of_bytes name (log.BadVertex at f) read memory = refl

pub not_outside : (e : LogError) → (e ≡ log.ReadFault → ⊥) → (e ≡ log.OutOfMemory → ⊥) → IsOutside (start.Log e) → ⊥
not_outside log.ReadFault read memory = absurd (read refl)
not_outside log.OutOfMemory read memory = absurd (memory refl)
not_outside log.WriteFault read memory = λ h. h
not_outside log.BadMagic read memory = λ h. h
not_outside (log.Version v) read memory = λ h. h
not_outside (log.Torn at) read memory = λ h. h
not_outside (log.TooLong at) read memory = λ h. h
not_outside (log.BadConfig f) read memory = λ h. h
not_outside (log.ConfigFault f) read memory = λ h. h
not_outside (log.BadEvent at) read memory = λ h. h
not_outside (log.BadVerdict at) read memory = λ h. h
not_outside (log.BadVertex at f) read memory = λ h. h

-- it leaves the count
pub leaves_count : (before now : ℕ) (e : LogError) → (e ≡ log.ReadFault → ⊥) → IsFaultCounted before now (start.Log e) → now ≡ before
leaves_count before now log.ReadFault read = absurd (read refl)
leaves_count before now log.OutOfMemory read = λ h. h
leaves_count before now log.WriteFault read = λ h. h
leaves_count before now log.BadMagic read = λ h. h
leaves_count before now (log.Version v) read = λ h. h
leaves_count before now (log.Torn at) read = λ h. h
leaves_count before now (log.TooLong at) read = λ h. h
leaves_count before now (log.BadConfig f) read = λ h. h
leaves_count before now (log.ConfigFault f) read = λ h. h
leaves_count before now (log.BadEvent at) read = λ h. h
leaves_count before now (log.BadVerdict at) read = λ h. h
leaves_count before now (log.BadVertex at f) read = λ h. h

-- ---- the other faults, each with its line

-- what is said of a fault
abbrev pub IsSaidOf : List ℕ → StartFault → Ended → Type 0
IsSaidOf name fault x = (x ≡ stopped_ended name fault) × IsReadEnd x.status × (IsOutside fault → ⊥)

pub said_other : (name : List ℕ) (fault : StartFault) (x : Ended) → fault ≡ start.OtherConfig → x ≡ input_ended name (codes "other config") → IsSaidOf name fault x
said_other name fault x is wrote =
    subst (λ f. IsSaidOf name f x) (sym is) (wrote, inr (inl (ap (λ (e : Ended). e.status) wrote ∙ input_status name (codes "other config"))), λ h. h)

clash_status : (known other : List ℕ) → (clash_ended known other).status ≡ 9
unfolding clash_ended
clash_status known other = refl

pub said_clash : (name : List ℕ) (fault : StartFault) (known other : List ℕ) (x : Ended) → fault ≡ start.Clash known other → x ≡ clash_ended known other → IsSaidOf name fault x
said_clash name fault known other x is wrote =
    subst (λ f. IsSaidOf name f x) (sym is) (wrote, inr (inr (inr (ap (λ (e : Ended). e.status) wrote ∙ clash_status known other))), λ h. h)

-- the line of a limit
records_line : (at : ℕ) → record { status = 8; text = codes "limit records at " ++ number_text at ++ line_feed } ≡ limit_ended (codes "records") at
unfolding limit_ended line_of
records_line at = refl

parked_line : (at : ℕ) → record { status = 8; text = codes "limit parked at " ++ number_text at ++ line_feed } ≡ limit_ended (codes "parked") at
unfolding limit_ended line_of
parked_line at = refl

pub said_records : (name : List ℕ) (fault : StartFault) (at : ℕ) (x : Ended) → fault ≡ start.RecordsFull at → x ≡ record { status = 8; text = codes "limit records at " ++ number_text at ++ line_feed } → IsSaidOf name fault x
said_records name fault at x is wrote =
    subst (λ f. IsSaidOf name f x) (sym is) (wrote ∙ records_line at, inr (inr (inl (ap (λ (e : Ended). e.status) wrote))), λ h. h)

pub said_parked : (name : List ℕ) (fault : StartFault) (at : ℕ) (x : Ended) → fault ≡ start.ParkFull at → x ≡ record { status = 8; text = codes "limit parked at " ++ number_text at ++ line_feed } → IsSaidOf name fault x
said_parked name fault at x is wrote =
    subst (λ f. IsSaidOf name f x) (sym is) (wrote ∙ parked_line at, inr (inr (inl (ap (λ (e : Ended). e.status) wrote))), λ h. h)

-- where no read failed, want of memory is the only fault
pub counted_same : {T : Type 0} (before now : ℕ) (r : Result T RunFault) → now ≡ before → IfErr r (λ f. f ≡ OutOfMemory) → IsReadCounted before now r
counted_same before now (Ok x) same none = same
counted_same before now (Err OutOfMemory) same none = same
counted_same before now (Err Read) same none = absurd (let e = none in cc)
counted_same before now (Err Append) same none = absurd (let e = none in cc)

-- what follows of each text that is given
pub if_ok : {A E : Type 0} (P Q : A → Type 0) (r : Result A E) → IfOk r P → ((x : A) → P x → Q x) → IfOk r Q
if_ok P Q (Ok x) p f = f x p
if_ok P Q (Err e) p f = tt

-- only a failed read of the log is told as one
pub read_of_log : (fault : StartFault) (e : LogError) (r : Result Ended RunFault) → fault ≡ start.Log e → IfErr r (λ f. f ≡ Read → e ≡ log.ReadFault)
    → IfErr r (λ f. f ≡ Read → fault ≡ start.Log log.ReadFault)
read_of_log fault e (Ok x) is read = tt
read_of_log fault e (Err f) is read = λ failed. is ∙ ap (λ (x : LogError). start.Log x) (read failed)
