-- A certificate that is asked of a log and written into a new file.
use Rattle.std.proofs.Common.{◌≡◌, ◌≢◌, ℕ, List, ◌++◌, length, take, codes, Option, Some, None, Result, Ok, Err, IfOk, IfErr, IsSome, refl, sym, ap, subst, ◌∙◌, inl, inr, arith}
use Rattle.std.proofs.Math.Seq.{take-length}
use Rattle.hw_types.specs.declared.unit.Digest.{Digest}
use Rattle.hw_io.specs.Files.{SameFiles, Appended, bytes_of}
use Rattle.hw_log.specs.declared.error.LogError.TheVariants as log
use Rattle.hw_replay.specs.declared.fault.StartFault.{StartFault}
use Rattle.hw_replay.specs.declared.fault.StartFault.TheVariants as start
use Rattle.hw_replay.specs.declared.replay.Replay.{Replay}
use Rattle.hw_replay.specs.Taken.{Taken}
use Rattle.hw_replay.specs.Replay.{IsOutside, Replays, taken_in}
use Rattle.hw_light.specs.declared.certificate.Certificate.{Certificate}
use Rattle.hw_light.specs.declared.answers.Certified.TheVariants.{Made, NotNow, TooLong}
use Rattle.hw_types.specs.Real.{CoreState}
use Rattle.hw_light.specs.Spelling.{CertificateFits, SpellsCertificate, certificate_bytes}
use Rattle.hw_light.specs.declared.asked.Asked.{Asked}
use Rattle.hw_light.specs.declared.asked.Asked.TheVariants as asked
use Rattle.hw_light.specs.Asked.{IsAskedOf, IfAnswered, Outcome, NoDecision, NoStanding, NoLength, HasCertificate, told_in, told_of}
use Rattle.hw_commands.specs.declared.ended.Ended.{Ended}
use Rattle.hw_commands.specs.declared.ended.RunFault.{RunFault}
use Rattle.hw_commands.specs.declared.ended.RunFault.TheVariants.{Read, Append, OutOfMemory}
use Rattle.hw_commands.specs.Commands.{Word}
use Rattle.hw_commands.specs.Texts.{input_ended, limit_ended, clash_ended, stopped_ended}
use Rattle.hw_commands.specs.CertificateEnds.{certify_ended}
use Rattle.hw_commands.specs.Program.{◌>>=◌, Held, Part, ended, log_replayed, certify_said}
use Rattle.hw_commands.specs.Faults.{HasReadFault, HasRunFault, IsReadEnd, IsCertifyEnd}
use Rattle.hw_commands.specs.Files.{status_of}
use Rattle.hw_commands.specs.Certified.{IsCertificateOf, IsCertificateBy, IsCertified, IsAnswered, IsWritten, IsAppended, IsPut}
use Rattle.hw_commands.proofs.FaultLaws.{input_status}
use Rattle.hw_commands.proofs.FileLaws.{took_file, replayed, not_replayed}

-- ---- what the definition says

module _ (held : Held) (old : Word) (block : Digest) (new : Word) where
  abbrev of_replayed : Part Taken → Part Ended
  of_replayed p = p >>= λ t. Ok (certify_ended (told_of t.core block))

  abbrev of_target : Option (List ℕ) → Part Ended
  of_target o = elim o as (λ z. Part Ended) [ None ↦ of_replayed (log_replayed held None old) | Some there ↦ Err (input_ended new (codes "exists")) ]

  pub said_there : IsSome (held new) → ended (certify_said held old block new) ≡ input_ended new (codes "exists")
  said_there there = go (held new) refl there
    where
      go : (o : Option (List ℕ)) → held new ≡ o → IsSome o → ended (certify_said held old block new) ≡ input_ended new (codes "exists")
      go (Some bytes) is h = ap (λ (o : Option (List ℕ)). ended (of_target o)) is
      go None is h = absurd cc

  said_as : held new ≡ None → (p : Part Taken) → log_replayed held None old ≡ p → ended (certify_said held old block new) ≡ ended (of_replayed p)
  said_as absent p is = ap (λ (o : Option (List ℕ)). ended (of_target o)) absent ∙ ap (λ (q : Part Taken). ended (of_replayed q)) is

  -- the log was replayed
  pub said_told : held new ≡ None → (replay : Replay) → Replays None (held old) (Ok replay) → ended (certify_said held old block new) ≡ certify_ended (told_of replay.core block)
  said_told absent replay took = said_as absent (Ok (taken_in replay)) (replayed held None old (taken_in replay) (took_file None (held old) replay took))

  -- or it was stopped
  pub said_stopped : held new ≡ None → (fault : StartFault) → Replays None (held old) (Err fault) → (IsOutside fault → ⊥) → ended (certify_said held old block new) ≡ stopped_ended old fault
  said_stopped absent fault stops inside = said_as absent (Err (stopped_ended old fault)) (not_replayed held None old fault stops inside)

  -- ---- the files

  -- none changed
  pub same_files : (status : ℕ) (now : Held) → status ≢ 0 → SameFiles held now → IsCertified old block new status held now
  same_files status now other same = record {
    done = λ zero. absurd (other zero);
    unwritten = λ a b c. same;
    cut = inl (same new);
    others = λ name differs. same name;
  }

  -- what was written of the node that the log left
  pub written_files : (mid now : Held) (status : ℕ) (replay : Replay) → SameFiles held mid → held new ≡ None → Replays None (held old) (Ok replay)
      → IsWritten (IsCertificateOf replay.core block) new status mid now → IsCertified old block new status held now
  written_files mid now status replay same absent took wrote =
      let one : mid ≡ held = λ i name. same name i in
      let w = subst (λ (h : Held). IsWritten (IsCertificateOf replay.core block) new status h now) one wrote in
      let by : (made : Certificate) → IsCertificateOf replay.core block made → IsCertificateBy held old block new made = λ made is. record {
        taken = taken_in replay;
        replayed = replayed held None old (taken_in replay) (took_file None (held old) replay took);
        is = is;
        absent = absent;
      } in
      record {
        done = λ zero. let d = w.done zero in record { made = d.0; is = by d.0 d.1; holds = subst (λ (o : Option (List ℕ)). now new ≡ Some (bytes_of o ++ certificate_bytes d.0)) absent d.2 };
        unwritten = w.unwritten;
        cut = elim w.cut [
          | inl kept ↦ inl kept
          | inr p ↦ inr (record { made = p.0; is = by p.0 p.1; some = p.2.0; holds = subst (λ (o : Option (List ℕ)). bytes_of (now new) ≡ bytes_of o ++ take p.2.0 (certificate_bytes p.0)) absent p.2.1 })
        ];
        others = w.others;
      }

-- ---- the status

-- a log that was stopped isn't done
stopped_status : (name : Word) (fault : StartFault) → (IsOutside fault → ⊥) → (stopped_ended name fault).status ≢ 0
unfolding input_ended limit_ended clash_ended
stopped_status name (start.Log log.ReadFault) inside is = inside tt
stopped_status name (start.Log log.OutOfMemory) inside is = omega (arith, is)
stopped_status name (start.Log e) inside is = omega (arith, is)
stopped_status name start.OtherConfig inside is = omega (arith, is)
stopped_status name (start.Clash known other) inside is = omega (arith, is)
stopped_status name (start.RecordsFull place) inside is = omega (arith, is)
stopped_status name (start.ParkFull place) inside is = omega (arith, is)
stopped_status name start.OutOfMemory inside is = inside tt

pub stopped_not_done : (name : Word) (fault : StartFault) (r : Result Ended RunFault) → IfOk r (λ e. (e ≡ stopped_ended name fault) × IsReadEnd e.status × (IsOutside fault → ⊥)) → status_of r ≢ 0
stopped_not_done name fault (Ok e) said zero = stopped_status name fault said.2 (sym (ap (λ (x : Ended). x.status) said.0) ∙ zero)
stopped_not_done name fault (Err Read) said zero = omega (arith, zero)
stopped_not_done name fault (Err Append) said zero = omega (arith, zero)
stopped_not_done name fault (Err OutOfMemory) said zero = omega (arith, zero)

pub there_not_done : (name : Word) (r : Result Ended RunFault) → IfOk r (λ e. e ≡ input_ended name (codes "exists")) → status_of r ≢ 0
there_not_done name (Ok e) said zero = let two = sym (ap (λ (x : Ended). x.status) said ∙ input_status name (codes "exists")) in let is : e.status ≡ 0 = zero in omega arith
there_not_done name (Err Read) said zero = omega (arith, zero)
there_not_done name (Err Append) said zero = omega (arith, zero)
there_not_done name (Err OutOfMemory) said zero = omega (arith, zero)

pub told_end : (told : Outcome) (e : Ended) → e ≡ certify_ended told → IsCertifyEnd e.status
told_end (HasCertificate count) e is = inr (inl (ap (λ (x : Ended). x.status) is))
told_end NoDecision e is = inl (ap (λ (x : Ended). x.status) is)
told_end NoStanding e is = inl (ap (λ (x : Ended). x.status) is)
told_end (NoLength count) e is = inl (ap (λ (x : Ended). x.status) is)

-- ---- the certificate in the file

module _ (new : Word) (before now : Held) where
  kept_so : (IsSo : Certificate → Type 0) (status : ℕ) → status ≢ 0 → SameFiles before now → IsWritten IsSo new status before now
  kept_so IsSo status other same = record { done = λ zero. absurd (other zero); unwritten = λ a b c. same; cut = inl (same new); others = λ name differs. same name }

  not_done : (r : Result Ended RunFault) (told : Outcome) → IfOk r (λ e. e ≡ certify_ended told) → IfErr r (λ f. f ≡ OutOfMemory) → (certify_ended told).status ≡ 10 → status_of r ≢ 0
  not_done (Ok e) told said want ten zero = let is : e.status ≡ 10 = ap (λ (x : Ended). x.status) said ∙ ten in let also : e.status ≡ 0 = zero in omega arith
  not_done (Err f) told said want ten zero = let is : status_of (Err f) ≡ 7 = ap (λ (x : RunFault). status_of (Err x)) want in omega (arith, is, zero)

  fault_not_done : (f : RunFault) → status_of (Err f) ≢ 0
  fault_not_done Read zero = omega (arith, zero)
  fault_not_done Append zero = omega (arith, zero)
  fault_not_done OutOfMemory zero = omega (arith, zero)

  fault_writes : (f : RunFault) → f ≢ Read → status_of (Err f) ≢ 5 → status_of (Err f) ≢ 7 → ⊥
  fault_writes Read other five seven = other refl
  fault_writes Append other five seven = five refl
  fault_writes OutOfMemory other five seven = seven refl

  pub written : {T : Type 0} (x : T) (answer : Asked) (r : Result Ended RunFault) → IsPut {T = T} answer new (Ok x) before now → IfOk r (λ e. e ≡ certify_ended (told_in answer)) → IfErr r (λ f. f ≡ OutOfMemory)
      → IsWritten (IsAnswered answer) new (status_of r) before now
  written x (asked.Answered (Made made)) r put told want = record {
    done = λ zero. (made, refl, put.whole);
    unwritten = λ zero five seven. absurd (go r told want zero seven);
    cut = inr (made, refl, (length (certificate_bytes made), ap bytes_of put.whole ∙ ap (λ (t : List ℕ). bytes_of (before new) ++ t) (sym (take-length (certificate_bytes made)))));
    others = put.others;
  }
    where
      go : (r : Result Ended RunFault) → IfOk r (λ e. e ≡ certify_ended (HasCertificate (length made.vertices))) → IfErr r (λ f. f ≡ OutOfMemory) → status_of r ≢ 0 → status_of r ≢ 7 → ⊥
      go (Ok e) told want zero seven = zero (ap (λ (x : Ended). x.status) told)
      go (Err f) told want zero seven = seven (ap (λ (x : RunFault). status_of (Err x)) want)
  written x (asked.Answered NotNow) r put told want = kept_so (IsAnswered (asked.Answered NotNow)) (status_of r) (not_done r NoStanding told want refl) put
  written x (asked.Answered (TooLong count)) r put told want = kept_so (IsAnswered (asked.Answered (TooLong count))) (status_of r) (not_done r (NoLength count) told want refl) put
  written x asked.NoDecision r put told want = kept_so (IsAnswered asked.NoDecision) (status_of r) (not_done r NoDecision told want refl) put

  -- it couldn't be put there
  pub unput : (answer : Asked) (f : RunFault) → f ≢ Read → IsPut {T = Unit {0}} answer new (Err f) before now → IsWritten (IsAnswered answer) new (status_of (Err f)) before now
  unput (asked.Answered (Made made)) f other put = record {
    done = λ zero. absurd (fault_not_done f zero);
    unwritten = λ zero five seven. absurd (fault_writes f other five seven);
    cut = elim put [ inl same ↦ inl (same new) | inr some ↦ inr (made, refl, some.cut) ];
    others = elim put [ inl same ↦ λ name differs. same name | inr some ↦ some.others ];
  }
  unput (asked.Answered NotNow) f other put = kept_so (IsAnswered (asked.Answered NotNow)) (status_of (Err f)) (fault_not_done f) put
  unput (asked.Answered (TooLong count)) f other put = kept_so (IsAnswered (asked.Answered (TooLong count))) (status_of (Err f)) (fault_not_done f) put
  unput asked.NoDecision f other put = kept_so (IsAnswered asked.NoDecision) (status_of (Err f)) (fault_not_done f) put

-- the certificate that was answered is one of the node
pub written_of : (P Q : Certificate → Type 0) → ((made : Certificate) → P made → Q made) → (new : Word) (status : ℕ) (before now : Held) → IsWritten P new status before now → IsWritten Q new status before now
written_of P Q f new status before now w = record {
  done = λ zero. let d = w.done zero in (d.0, f d.0 d.1, d.2);
  unwritten = w.unwritten;
  cut = elim w.cut [ inl kept ↦ inl kept | inr p ↦ inr (p.0, f p.0 p.1, p.2) ];
  others = w.others;
}

-- ---- counts

-- a part that only reads
pub reads_run : {T : Type 0} (r0 r1 a0 a1 : ℕ) (r : Result T RunFault) → a1 ≡ a0 → HasReadFault r0 r1 r → HasRunFault r0 r1 a0 a1 r
reads_run r0 r1 a0 a1 (Ok x) same fault = record { later = fault.later; counted = fault.counted; later_appends = omega (arith, same); appends_counted = same }
reads_run r0 r1 a0 a1 (Err Read) same fault = record { later = fault.later; counted = fault.counted; later_appends = omega (arith, same); appends_counted = same }
reads_run r0 r1 a0 a1 (Err Append) same fault = absurd fault.counted
reads_run r0 r1 a0 a1 (Err OutOfMemory) same fault = record { later = fault.later; counted = fault.counted; later_appends = omega (arith, same); appends_counted = same }

-- the certificate that was answered is made of the node
pub answered_of : (core : CoreState) (block : Digest) (answer : Asked) → IsAskedOf core block answer → IfAnswered CertificateFits answer → (made : Certificate) → IsAnswered answer made → IsCertificateOf core block made
answered_of core block answer is fits made same =
    let a = subst (IsAskedOf core block) same is in
    record { index = a.0; decision = a.1; is = a.2; fits = subst (IfAnswered CertificateFits) same fits }

-- a part of its spelling was appended
pub not_appended : {E : Type 0} (made : Certificate) (bytes slice : List ℕ) (new : Word) (e : E) (f : RunFault) (before now : Held) → SpellsCertificate bytes made → slice ≡ bytes
    → Appended {T = Unit {0}} {E = E} before now new slice (Err e) → IsAppended {T = Unit {0}} made new (Err f) before now
not_appended made bytes slice new e f before now spells same a =
    let is : slice ≡ certificate_bytes made = same ∙ spells.is in
    inr (record { whole = tt; cut = subst (λ (t : List ℕ). (n : ℕ) × (bytes_of (now new) ≡ bytes_of (before new) ++ take n t)) is a.cut; stays = a.stays; others = a.others })
