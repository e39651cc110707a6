-- A log written anew, as a run tells it.
use Rattle.std.proofs.Common.{◌≡◌, ◌≢◌, ℕ, List, ◌++◌, length, codes, Option, Some, None, Result, Ok, Err, IfOk, IfErr, IsSome, refl, sym, ap, subst, ◌∙◌, inl, inr, arith}
use Rattle.std.specs.Prelude.{◌∷◌, [], ◌⊎◌}
use Rattle.std.proofs.Math.Seq.{take-length}
use Rattle.hw_io.specs.Faults.{Rose}
use Rattle.hw_io.specs.Files.{SameFiles, bytes_of}
use Rattle.hw_log.specs.declared.error.LogError.{LogError}
use Rattle.hw_log.specs.declared.error.LogError.TheVariants as log
use Rattle.hw_text.specs.Text.{number_text}
use Rattle.hw_text.specs.Lines.{line_of, line_feed}
use Rattle.hw_log.specs.declared.fault.RewriteFault.{RewriteFault}
use Rattle.hw_log.specs.declared.fault.RewriteFault.TheVariants as rewrite
use Rattle.hw_log.specs.declared.rewritten.Rewritten.{Rewritten}
use Rattle.hw_log.specs.RewriteCauses.{IsOutside, IsUnread, IsAbsentFault, IsPutFault, IsWhy, IsReadCounted, IsAppendCounted, HasRewriteCause, IsFaultAbout}
use Rattle.hw_log.specs.Rewritten.{HasRewritten, IsCutShort}
use Rattle.hw_commands.specs.declared.ended.Ended.{Ended}
use Rattle.hw_commands.specs.declared.ended.RunFault.{RunFault}
use Rattle.hw_commands.specs.declared.ended.RunFault.TheVariants.{Read, Append, OutOfMemory}
use Rattle.hw_commands.specs.Commands.{Word}
use Rattle.hw_commands.specs.Texts.{log_text, input_ended, read_fault_ended}
use Rattle.hw_commands.specs.Program.{◌>>=◌, Held, Part, ended, done, or_unwritten, rewrite_said}
use Rattle.hw_commands.specs.Faults.{IsReadEnd, IsRunReadCounted, IsAppendCounted as IsRunAppendCounted, HasRunFault}
use Rattle.hw_commands.specs.Files.{status_of, IsRewrite}
use Rattle.hw_commands.specs.Rewritten.{rewrite_fault_of, unwritten_ended, IsUnwritten, IsFaultOf}
use Rattle.hw_commands.specs.Due.{FailsDue}
use Rattle.hw_commands.proofs.FaultLaws.{input_status}
use Rattle.hw_commands.proofs.DueLaws.{rewritten_due}

-- ---- what is no fault of the outside

not_unread : (e : LogError) → rewrite_fault_of (rewrite.Log e) ≡ None → IsUnread (rewrite.Log e) → ⊥
not_unread log.ReadFault none h = absurd cc
not_unread log.OutOfMemory none h = absurd cc
not_unread e none h = h

not_outside : (f : RewriteFault) → rewrite_fault_of f ≡ None → IsOutside f → ⊥
not_outside rewrite.Exists none h = h
not_outside (rewrite.Log log.WriteFault) none h = absurd cc
not_outside (rewrite.Log log.ReadFault) none h = absurd cc
not_outside (rewrite.Log log.OutOfMemory) none h = absurd cc
not_outside (rewrite.Log e) none h = h

not_put : (f : RewriteFault) → rewrite_fault_of f ≡ None → IsPutFault f → ⊥
not_put rewrite.Exists none h = h
not_put (rewrite.Log log.WriteFault) none h = absurd cc
not_put (rewrite.Log log.OutOfMemory) none h = absurd cc
not_put (rewrite.Log e) none h = h

-- nor is a failed read one of an append
read_is_no_put : (f : RewriteFault) → rewrite_fault_of f ≡ Some Read → IsPutFault f → ⊥
read_is_no_put rewrite.Exists is h = h
read_is_no_put (rewrite.Log log.WriteFault) is h = absurd cc
read_is_no_put (rewrite.Log log.OutOfMemory) is h = absurd cc
read_is_no_put (rewrite.Log e) is h = h

-- its line has status 2
unwritten_status : (old new : Word) (f : RewriteFault) → (unwritten_ended old new f).status ≡ 2
unwritten_status old new rewrite.Exists = input_status new (codes "exists")
unwritten_status old new (rewrite.Log e) = input_status old (log_text e)

-- so has the run
pub ended_two : (old new : Word) (f : RewriteFault) (e : Ended) → e ≡ unwritten_ended old new f → IsReadEnd e.status
ended_two old new f e is = inr (inl (ap (λ (x : Ended). x.status) is ∙ unwritten_status old new f))

-- ---- what the definition says

-- the lines of what was done
pub mended_line : (n : ℕ) → codes "mended " ++ number_text n ++ line_feed ≡ line_of (codes "mended" ∷ number_text n ∷ [])
unfolding line_of
mended_line n = refl

pub migrated_line : (n : ℕ) → codes "migrated " ++ number_text n ++ line_feed ≡ line_of (codes "migrated" ∷ number_text n ∷ [])
unfolding line_of
migrated_line n = refl

module _ (rewritten_of : List ℕ → Result Rewritten LogError) (word : List ℕ) (held : Held) (old new : Word) where
  -- of the bytes of the log
  abbrev of_rewritten : Result Rewritten LogError → Part Ended
  of_rewritten r = or_unwritten old r >>= λ x. done (line_of (word ∷ number_text x.count ∷ []))

  -- of the two files
  abbrev of_files : Option (List ℕ) → Option (List ℕ) → Ended
  of_files target file = ended (elim target as (λ z. Part Ended) [
    | None ↦ elim file as (λ z. Part (List ℕ)) [ None ↦ Err read_fault_ended | Some bytes ↦ Ok bytes ] >>= λ bytes. of_rewritten (rewritten_of bytes)
    | Some there ↦ Err (input_ended new (codes "exists"))
  ])

  of_bytes : (bytes : List ℕ) → held new ≡ None → held old ≡ Some bytes → ended (rewrite_said rewritten_of word held old new) ≡ ended (of_rewritten (rewritten_of bytes))
  of_bytes bytes absent there = ap (λ t. of_files t (held old)) absent ∙ ap (of_files None) there

  pub said_done : (count : ℕ) (now : Option (List ℕ)) → HasRewritten rewritten_of (held old) (held new) now count
      → ended (rewrite_said rewritten_of word held old new) ≡ record { status = 0; text = line_of (word ∷ number_text count ∷ []) }
  said_done count now has =
      of_bytes has.bytes has.new has.there ∙ ap (λ r. ended (of_rewritten r)) has.says ∙ ap (λ n. record { status = 0; text = line_of (word ∷ number_text n ∷ []) }) (sym has.count_is)

  said_exists : IsSome (held new) → ended (rewrite_said rewritten_of word held old new) ≡ input_ended new (codes "exists")
  said_exists there = go (held new) refl there
    where
      go : (target : Option (List ℕ)) → held new ≡ target → IsSome target → ended (rewrite_said rewritten_of word held old new) ≡ input_ended new (codes "exists")
      go (Some bytes) is h = ap (λ t. of_files t (held old)) is
      go None is h = absurd cc

  said_error : (bytes : List ℕ) (e : LogError) → held new ≡ None → held old ≡ Some bytes → rewritten_of bytes ≡ Err e → ended (rewrite_said rewritten_of word held old new) ≡ input_ended old (log_text e)
  said_error bytes e absent there says = of_bytes bytes absent there ∙ ap (λ r. ended (of_rewritten r)) says

  -- the line of a fault that isn't one of the outside
  pub said_unwritten : (f : RewriteFault) → rewrite_fault_of f ≡ None → IsOutside f ⊎ IsWhy rewritten_of (held old) (held new) f → (IsSome (held new) → IsAbsentFault f)
      → ended (rewrite_said rewritten_of word held old new) ≡ unwritten_ended old new f
  said_unwritten f none (inl outside) first = absurd (not_outside f none outside)
  said_unwritten rewrite.Exists none (inr why) first = said_exists why
  said_unwritten (rewrite.Log e) none (inr why) first = go (held new) refl
    where
      go : (target : Option (List ℕ)) → held new ≡ target → ended (rewrite_said rewritten_of word held old new) ≡ input_ended old (log_text e)
      go None is = said_error why.0 e is why.1 why.2
      go (Some bytes) is = absurd (not_unread e none (first (subst IsSome (sym is) refl)))

-- ---- counts

-- what is said of the counts of reads and appends
abbrev ReadsBy : Option RunFault → ℕ → ℕ → Type 0
ReadsBy None before now = now ≡ before
ReadsBy (Some f) before now = IsRunReadCounted {T = Ended} before now (Err f)

abbrev AppendsBy : Option RunFault → ℕ → ℕ → Type 0
AppendsBy None before now = now ≡ before
AppendsBy (Some f) before now = IsRunAppendCounted {T = Ended} before now (Err f)

reads_by : (f : RewriteFault) (before now : ℕ) → IsReadCounted {T = ℕ} before now (Err f) → ReadsBy (rewrite_fault_of f) before now
reads_by rewrite.Exists before now h = h
reads_by (rewrite.Log log.ReadFault) before now h = h
reads_by (rewrite.Log log.WriteFault) before now h = h
reads_by (rewrite.Log log.OutOfMemory) before now h = h
reads_by (rewrite.Log e) before now h = h

appends_by : (f : RewriteFault) (before now : ℕ) → IsAppendCounted {T = ℕ} before now (Err f) → AppendsBy (rewrite_fault_of f) before now
appends_by rewrite.Exists before now h = h
appends_by (rewrite.Log log.ReadFault) before now h = h
appends_by (rewrite.Log log.WriteFault) before now h = h
appends_by (rewrite.Log log.OutOfMemory) before now h = h
appends_by (rewrite.Log e) before now h = h

-- what the run answers is counted as it says
module _ (P : Option RunFault → Type 0) (f : RewriteFault) (h : P (rewrite_fault_of f)) where
  by_line : rewrite_fault_of f ≡ None → P None
  by_line none = subst P none h

  by_fault : (x : RunFault) → IsFaultOf f x → (P None → P (Some OutOfMemory)) → P (Some x)
  by_fault x (inl is) memory = subst P is h
  by_fault x (inr (is, none)) memory = let Q : RunFault → Type 0 = λ y. P (Some y) in subst Q (sym is) (memory (by_line none))

pub failed_run : (old new : Word) (f : RewriteFault) (r0 r a0 a : ℕ) (result : Result Ended RunFault) → HasRewriteCause {T = ℕ} r0 r a0 a (Err f)
    → IfOk result (λ e. IsUnwritten old new f e) → IfErr result (IsFaultOf f) → HasRunFault r0 r a0 a result
failed_run old new f r0 r a0 a (Ok e) cause ok err = record {
  later = cause.later_reads;
  counted = by_line (λ o. ReadsBy o r0 r) f (reads_by f r0 r cause.reads_counted) ok.1;
  later_appends = cause.later_appends;
  appends_counted = by_line (λ o. AppendsBy o a0 a) f (appends_by f a0 a cause.appends_counted) ok.1;
}
failed_run old new f r0 r a0 a (Err x) cause ok err = record {
  later = cause.later_reads;
  counted = by_fault (λ o. ReadsBy o r0 r) f (reads_by f r0 r cause.reads_counted) x err (λ h. h);
  later_appends = cause.later_appends;
  appends_counted = by_fault (λ o. AppendsBy o a0 a) f (appends_by f a0 a cause.appends_counted) x err (λ h. h);
}

pub done_run : (count r0 r a0 a : ℕ) (result : Result Ended RunFault) → HasRewriteCause {T = ℕ} r0 r a0 a (Ok count) → IfErr result (λ f. f ≡ OutOfMemory) → HasRunFault r0 r a0 a result
done_run count r0 r a0 a (Ok e) cause none = record { later = cause.later_reads; counted = cause.reads_counted; later_appends = cause.later_appends; appends_counted = cause.appends_counted }
done_run count r0 r a0 a (Err OutOfMemory) cause none = record { later = cause.later_reads; counted = cause.reads_counted; later_appends = cause.later_appends; appends_counted = cause.appends_counted }
done_run count r0 r a0 a (Err Read) cause none = absurd (let e = none in cc)
done_run count r0 r a0 a (Err Append) cause none = absurd (let e = none in cc)

-- ---- the file of a failed read

module _ (rewritten_of : List ℕ → Result Rewritten LogError) (word : List ℕ) (error : LogError) (empty : rewritten_of [] ≡ Err error) (held : Held) (old new : Word) (before now : List ℕ → ℕ) where
  -- it is the new file, which was tested, or the log, which is due
  abbrev AboutBy : Option RunFault → Type 0
  AboutBy (Some Read) = Rose (before new) (now new) ⊎ FailsDue (λ h. rewrite_said rewritten_of word h old new) held before now
  AboutBy o = Unit {0}

  about_by : (f : RewriteFault) → IsFaultAbout (held old) (held new) old new before now f → AboutBy (rewrite_fault_of f)
  about_by rewrite.Exists h = tt
  about_by (rewrite.Log log.ReadFault) (inl h) = inr (old, rewritten_due rewritten_of word error empty held old new h.0, h.1)
  about_by (rewrite.Log log.ReadFault) (inr h) = inl h
  about_by (rewrite.Log e) h = tt

  pub failed_about : (f : RewriteFault) (result : Result Ended RunFault) → IsFaultAbout (held old) (held new) old new before now f → IfErr result (IsFaultOf f) → IfErr result (λ x. x ≡ Read → AboutBy (Some Read))
  failed_about f (Ok e) about err = tt
  failed_about f (Err x) about err = λ is. let P : RunFault → Type 0 = λ y. AboutBy (Some y) in subst P is (by_fault AboutBy f (about_by f about) x err (λ h. tt))

-- ---- the files

-- nothing was done where nothing was written
pub not_done : (old new : Word) (f : RewriteFault) (result : Result Ended RunFault) → IfOk result (IsUnwritten old new f) → status_of result ≡ 0 → ⊥
not_done old new f (Ok e) ok zero = let two : e.status ≡ 2 = ap (λ (x : Ended). x.status) ok.0 ∙ unwritten_status old new f in omega (arith, zero, two)
not_done old new f (Err Read) ok zero = omega (arith, zero)
not_done old new f (Err Append) ok zero = omega (arith, zero)
not_done old new f (Err OutOfMemory) ok zero = omega (arith, zero)

-- another status than 2 and 4
neither : {P : Type 0} (status n : ℕ) → status ≡ n → (n ≡ 2 → ⊥) → (n ≡ 4 → ⊥) → (status ≡ 2) ⊎ (status ≡ 4) → P
neither status n is two four (inl h) = absurd (two (sym is ∙ h))
neither status n is two four (inr h) = absurd (four (sym is ∙ h))

module _ (rewritten_of : List ℕ → Result Rewritten LogError) (old new : Word) (before now : Held) (others : (name : List ℕ) → name ≢ new → now name ≡ before name) where
  -- all of it is a part
  whole_part : (count : ℕ) → HasRewritten rewritten_of (before old) (before new) (now new) count → IsCutShort rewritten_of (before old) (before new) (now new)
  whole_part count has = inr (record {
    bytes = has.bytes;
    there = has.there;
    new = has.new;
    rewritten = has.rewritten;
    says = has.says;
    some = length has.rewritten.bytes;
    holds = ap bytes_of has.holds ∙ sym (take-length has.rewritten.bytes);
  })

  pub done_files : (count : ℕ) (result : Result Ended RunFault) → HasRewritten rewritten_of (before old) (before new) (now new) count
      → IfOk result (λ e. e.status ≡ 0) → IfErr result (λ f. f ≡ OutOfMemory) → IsRewrite rewritten_of old new (status_of result) before now
  done_files count (Ok e) has is none = record {
    done = λ zero. (count, has);
    unwritten = neither e.status 0 is (λ h. omega (arith, h)) (λ h. omega (arith, h));
    cut = whole_part count has;
    others = others;
  }
  done_files count (Err OutOfMemory) has is none = record {
    done = λ zero. (count, has);
    unwritten = neither 7 7 refl (λ h. omega (arith, h)) (λ h. omega (arith, h));
    cut = whole_part count has;
    others = others;
  }
  done_files count (Err Read) has is none = absurd (let e = none in cc)
  done_files count (Err Append) has is none = absurd (let e = none in cc)

  pub failed_files : (f : RewriteFault) (result : Result Ended RunFault) → IsCutShort rewritten_of (before old) (before new) (now new) → IsPutFault f ⊎ SameFiles before now
      → IfOk result (IsUnwritten old new f) → IfErr result (IsFaultOf f) → IsRewrite rewritten_of old new (status_of result) before now
  failed_files f (Ok e) cut kept ok err = record {
    done = λ zero. absurd (not_done old new f (Ok e) ok zero);
    unwritten = λ h. elim kept [ inl put ↦ absurd (not_put f ok.1 put) | inr same ↦ same ];
    cut = cut;
    others = others;
  }
  failed_files f (Err Read) cut kept ok err = record {
    done = λ zero. absurd (not_done old new f (Err Read) ok zero);
    unwritten = λ h. elim kept [ inl put ↦ absurd (elim err [ inl is ↦ read_is_no_put f is put | inr memory ↦ absurd (let e = memory.0 in cc) ]) | inr same ↦ same ];
    cut = cut;
    others = others;
  }
  failed_files f (Err Append) cut kept ok err = record { done = λ zero. absurd (not_done old new f (Err Append) ok zero); unwritten = neither 5 5 refl (λ h. omega (arith, h)) (λ h. omega (arith, h)); cut = cut; others = others }
  failed_files f (Err OutOfMemory) cut kept ok err = record { done = λ zero. absurd (not_done old new f (Err OutOfMemory) ok zero); unwritten = neither 7 7 refl (λ h. omega (arith, h)) (λ h. omega (arith, h)); cut = cut; others = others }
