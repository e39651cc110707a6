-- About which file a fault is.
use Rattle.std.proofs.Common.{◌≡◌, ℕ, List, Option, None, Err, ap, subst, inl}
use Rattle.hw_log.specs.declared.error.LogError.{LogError}
use Rattle.hw_log.specs.declared.error.LogError.TheVariants.{BadMagic, Version, Torn, TooLong, BadConfig, ConfigFault, BadEvent, BadVerdict, BadVertex, ReadFault, WriteFault, OutOfMemory}
use Rattle.hw_io.specs.Faults.{subject_of}
use Rattle.hw_io.proofs.About.{fails-or-lacks}
use Rattle.hw_log.specs.Causes.{IsReadAbout}
use Rattle.hw_log.specs.declared.fault.RewriteFault.{RewriteFault}
use Rattle.hw_log.specs.declared.fault.RewriteFault.TheVariants.{Exists, Log}
use Rattle.hw_log.specs.RewriteCauses.{IsFaultAbout, IsPutFault}

-- an error of the log, which is read where the new file isn't there
log_about : (T : Type 0) (file target : Option (List ℕ)) (old new : List ℕ) (before now : List ℕ → ℕ) (e : LogError) → target ≡ None → IsReadAbout {T = T} (subject_of file old) before now (Err e) → IsFaultAbout file target old new before now (Log e)
log_about T file target old new before now ReadFault absent h = inl (absent, fails-or-lacks file old before now h)
log_about T file target old new before now BadMagic absent h = h
log_about T file target old new before now (Version v) absent h = h
log_about T file target old new before now (Torn at) absent h = h
log_about T file target old new before now (TooLong at) absent h = h
log_about T file target old new before now (BadConfig c) absent h = h
log_about T file target old new before now (ConfigFault c) absent h = h
log_about T file target old new before now (BadEvent at) absent h = h
log_about T file target old new before now (BadVerdict at) absent h = h
log_about T file target old new before now (BadVertex at c) absent h = h
log_about T file target old new before now WriteFault absent h = h
log_about T file target old new before now OutOfMemory absent h = h

-- an error behind calls that left the counts, and the subject
pub error_behind : (T S : Type 0) (subject other : Option (List ℕ)) (before then now : List ℕ → ℕ) (e : LogError) → other ≡ subject → then ≡ before → IsReadAbout {T = T} other then now (Err e) → IsReadAbout {T = S} subject before now (Err e)
error_behind T S subject other before then now e same left h =
    subst (λ (n : Option (List ℕ)). IsReadAbout {T = T} n before now (Err e)) same (subst (λ (b : List ℕ → ℕ). IsReadAbout {T = T} other b now (Err e)) left h)

-- behind a call that changed no count and no file
pub log_about_behind : (T : Type 0) (file there target : Option (List ℕ)) (old new : List ℕ) (before then now : List ℕ → ℕ) (e : LogError) → target ≡ None → there ≡ file → then ≡ before → IsReadAbout {T = T} (subject_of there old) then now (Err e)
    → IsFaultAbout file target old new before now (Log e)
log_about_behind T file there target old new before then now e absent same left h =
    log_about T file target old new before now e absent (error_behind T T (subject_of file old) (subject_of there old) before then now e (ap (λ (f : Option (List ℕ)). subject_of f old) same) left h)

-- a failed append changes none
pub put_about : (file target : Option (List ℕ)) (old new : List ℕ) (before now : List ℕ → ℕ) (e : RewriteFault) → IsPutFault e → now ≡ before → IsFaultAbout file target old new before now e
put_about file target old new before now (Log WriteFault) p h = h
put_about file target old new before now (Log OutOfMemory) p h = h
put_about file target old new before now Exists p h = h
put_about file target old new before now (Log ReadFault) p h = absurd p
put_about file target old new before now (Log BadMagic) p h = h
put_about file target old new before now (Log (Version v)) p h = h
put_about file target old new before now (Log (Torn at)) p h = h
put_about file target old new before now (Log (TooLong at)) p h = h
put_about file target old new before now (Log (BadConfig c)) p h = h
put_about file target old new before now (Log (ConfigFault c)) p h = h
put_about file target old new before now (Log (BadEvent at)) p h = h
put_about file target old new before now (Log (BadVerdict at)) p h = h
put_about file target old new before now (Log (BadVertex at c)) p h = h
