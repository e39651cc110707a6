-- The file of a failed read is one that the request names, and so is one that is due and isn't there.
use Rattle.std.proofs.Common.{◌≡◌, ℕ, Bool, true, false, List, [], ◌∷◌, ◌++◌, codes, bytes_eq, Option, Some, None, Result, Ok, Err, refl, sym, ap, subst, ◌∙◌, inl, inr}
use Rattle.std.specs.Prelude.{◌⊎◌, length}
use Rattle.std.proofs.lemmas.Slice.Eq.{bytes_eq-Decides}
use Rattle.hw_types.specs.declared.config.ConfigFault.{ConfigFault}
use Rattle.hw_types.specs.declared.unit.Digest.{Digest}
use Rattle.hw_types.specs.Below.{Among}
use Rattle.hw_io.specs.Faults.{FailsOrLacks}
use Rattle.hw_types.specs.Limits.{config_fault}
use Rattle.hw_types.specs.Real.{CoreState, setting_of}
use Rattle.hw_log.specs.declared.error.LogError.{LogError}
use Rattle.hw_replay.specs.Taken.{Taken}
use Rattle.hw_replay.specs.Replay.{replay_of}
use Rattle.hw_log.specs.declared.rewritten.Rewritten.{Rewritten}
use Rattle.hw_log.specs.Rewritten.{mended_of, migrated_of}
use Rattle.hw_explain.specs.Explain.{explained_in}
use Rattle.hw_script.specs.Output.{output_of}
use Rattle.hw_light.specs.declared.certificate.Certificate.{Certificate}
use Rattle.hw_light.specs.declared.answers.Checked.{Checked}
use Rattle.hw_light.specs.declared.answers.Checked.TheVariants.{Yes, No}
use Rattle.hw_light.specs.Asked.{told_of}
use Rattle.hw_light.specs.CheckedTexts.{verdicts_by, checked_of}
use Rattle.hw_text.specs.Text.{number_text}
use Rattle.hw_text.specs.Lines.{line_of}
use Rattle.hw_commands.specs.declared.ended.Ended.{Ended}
use Rattle.hw_commands.specs.Commands.{Word, Request, Replay, Explain, Audit, Script, Mend, Migrate, Certify, Check, Gen, Sim, Eras, EraAudit}
use Rattle.hw_commands.specs.Texts.{input_ended, read_fault_ended}
use Rattle.hw_commands.specs.Scripted.{script_ended}
use Rattle.hw_commands.specs.CertificateEnds.{certify_ended}
use Rattle.hw_commands.specs.Audited.{audit_ended}
use Rattle.hw_commands.specs.Program.{◌>>=◌, Held, Part, done, report_of, or_unwritten, or_parted, log_replayed, audited_against, audit_said, script_said, rewrite_said, certify_said, yes_said, answer_said, checked_said, check_said, eras_said, era_audit_said, request_said}
use Rattle.hw_commands.specs.Due.{with_file, FailsDue, FailsOf}
use Rattle.hw_commands.proofs.FileLaws.{file_replayed}
use Rattle.hw_commands.proofs.DueLaws.{status, file_elsewhere, certificate_in, keys_in_text}
use Rattle.hw_commands.proofs.EraDueLaws.{reported_alike, audited_alike}

-- a call about one of the files failed, or one of them isn't there
abbrev pub FailsAmong : List Word → Held → (Word → ℕ) → (Word → ℕ) → Type 0
FailsAmong names held before now = (name : Word) × (Among name names × FailsOrLacks (held name) name before now)

-- ---- a file that isn't named isn't due

-- the files under these names are the same
abbrev AreSame : Held → Held → List Word → Type 0
AreSame h k [] = Unit {0}
AreSame h k (name ∷ names) = (h name ≡ k name) × AreSame h k names

-- what is said hangs on no other files
abbrev HangsOn : List Word → (Held → Part Ended) → Type 0
HangsOn names said = (h k : Held) → AreSame h k names → said h ≡ said k

named_or_same : (held : Held) (name : Word) (f g : Option (List ℕ)) (names : List Word) → Among name names ⊎ AreSame (with_file held name f) (with_file held name g) names
named_or_same held name f g [] = inr tt
named_or_same held name f g (other ∷ names) = go (bytes_eq other name) refl (named_or_same held name f g names)
  where
    go : (b : Bool) → bytes_eq other name ≡ b → Among name names ⊎ AreSame (with_file held name f) (with_file held name g) names → Among name (other ∷ names) ⊎ AreSame (with_file held name f) (with_file held name g) (other ∷ names)
    go true is rest = inl (inl ((bytes_eq-Decides other name).0 is))
    go false is (inl among) = inl (inr among)
    go false is (inr same) = inr (file_elsewhere held name other f is ∙ sym (file_elsewhere held name other g is), same)

due_named : (names : List Word) (said : Held → Part Ended) → HangsOn names said → (held : Held) (before now : Word → ℕ) → FailsDue said held before now → FailsAmong names held before now
due_named names said hangs held before now (name, due, rose) = (name, (go (named_or_same held name None (Some []) names), rose))
  where
    go : Among name names ⊎ AreSame (with_file held name None) (with_file held name (Some [])) names → Among name names
    go (inl among) = among
    go (inr same) = absurd (due.empty (sym (ap (λ (p : Part Ended). status p) (hangs (with_file held name None) (with_file held name (Some [])) same)) ∙ due.missing))

-- ---- what each request hangs on

of_log : (log : Word) (next : Taken → Part Ended) → HangsOn (log ∷ []) (λ h. log_replayed h None log >>= next)
of_log log next h k same = ap (λ (o : Option (List ℕ)). file_replayed None log o >>= next) same.0

of_logs : (left right : Word) → HangsOn (left ∷ right ∷ []) (λ h. audit_said h left right)
of_logs left right h k same =
    ap (λ (o : Option (List ℕ)). file_replayed None left o >>= λ l. audited_against h l.core right) same.0
    ∙ ap (λ (f : Taken → Part Ended). file_replayed None left (k left) >>= f) (λ i l. against l i)
  where
    against : (l : Taken) → audited_against h l.core right ≡ audited_against k l.core right
    against l = ap (λ (o : Option (List ℕ)). file_replayed (Some l.core.config) right o >>= λ r. Ok (audit_ended (setting_of l.core.config) l.core.journal r.core.journal)) same.1.0

-- a file's bytes, or a read that failed
abbrev given : Option (List ℕ) → Part (List ℕ)
given o = elim o as (λ z. Part (List ℕ)) [ None ↦ Err read_fault_ended | Some bytes ↦ Ok bytes ]

of_script : (file : Word) → HangsOn (file ∷ []) (λ h. script_said h file)
of_script file h k same = ap (λ (o : Option (List ℕ)). given o >>= λ bytes. Ok (script_ended file (output_of bytes))) same.0

-- behind the test of a file that is to be new
of_tested : (reads : Option (List ℕ) → Part Ended) (old new : Word) → HangsOn (old ∷ new ∷ []) (λ h. elim (h new) as (λ z. Part Ended) [ None ↦ reads (h old) | Some there ↦ Err (input_ended new (codes "exists")) ])
of_tested reads old new h k same = ap (λ (o : Option (List ℕ)). tested o (h old)) same.1.0 ∙ ap (λ (o : Option (List ℕ)). tested (k new) o) same.0
  where
    tested : Option (List ℕ) → Option (List ℕ) → Part Ended
    tested target o = elim target as (λ z. Part Ended) [ None ↦ reads o | Some there ↦ Err (input_ended new (codes "exists")) ]

of_rewritten : (rewritten_of : List ℕ → Result Rewritten LogError) (word : List ℕ) (old new : Word) → HangsOn (old ∷ new ∷ []) (λ h. rewrite_said rewritten_of word h old new)
of_rewritten rewritten_of word old new = of_tested (λ o. given o >>= λ bytes. or_unwritten old (rewritten_of bytes) >>= λ r. done (line_of (word ∷ number_text r.count ∷ []))) old new

of_certified : (old : Word) (block : Digest) (new : Word) → HangsOn (old ∷ new ∷ []) (λ h. certify_said h old block new)
of_certified old block new = of_tested (λ o. file_replayed None old o >>= λ t. Ok (certify_ended (told_of t.core block))) old new

-- the log beside a certificate, if one is named
abbrev named : Option Word → List Word
named None = []
named (Some log) = log ∷ []

of_checked : (file keys : Word) (log : Option Word) → HangsOn (file ∷ keys ∷ named log) (λ h. check_said h file keys log)
of_checked file keys log h k same =
    ap (λ (o : Option (List ℕ)). certificate_in file o >>= λ c. checked_said h file keys log c (config_fault c.config)) same.0
    ∙ ap (λ (f : Certificate → Part Ended). certificate_in file (k file) >>= f) (λ i c. checked c (config_fault c.config) i)
  where
    yes_so : (c : Certificate) (core : CoreState) (log : Option Word) → AreSame h k (named log) → yes_said h file c core log ≡ yes_said k file c core log
    yes_so c core None same = refl
    yes_so c core (Some log) same = ap (λ (o : Option (List ℕ)). given o >>= λ bytes. or_parted file log (replay_of (Some c.config) bytes) >>= λ t. Ok (audit_ended (setting_of c.config) t.core.journal core.journal)) same.0

    answered : (c : Certificate) (answer : Checked) → answer_said h file c log answer ≡ answer_said k file c log answer
    answered c (No fault) = refl
    answered c (Yes core) = yes_so c core log same.1.1

    checked : (c : Certificate) (fault : Option ConfigFault) → checked_said h file keys log c fault ≡ checked_said k file keys log c fault
    checked c (Some fault) = refl
    checked c None =
        ap (λ (o : Option (List ℕ)). keys_in_text keys (length c.config.weights) o >>= λ given. answer_said h file c log (checked_of c (verdicts_by given c.vertices))) same.1.0
        ∙ ap (λ (f : List (List ℕ) → Part Ended). keys_in_text keys (length c.config.weights) (k keys) >>= f) (λ i given. answered c (checked_of c (verdicts_by given c.vertices)) i)

-- each of the files under these names
same_at : (h k : Held) (names : List Word) → AreSame h k names → (name : Word) → Among name names → h name ≡ k name
same_at h k [] same name m = absurd m
same_at h k (other ∷ names) same name (inl is) = subst (λ (w : Word). h w ≡ k w) is same.0
same_at h k (other ∷ names) same name (inr m) = same_at h k names same.1 name m

of_eras : (logs : List Word) → HangsOn logs (λ h. eras_said h logs)
of_eras logs h k same = reported_alike h k logs (same_at h k logs same)

of_era_audit : (left right : List Word) → HangsOn (left ++ right) (λ h. era_audit_said h left right)
of_era_audit left right h k same = (let both = parts left same in audited_alike h k left right (same_at h k left both.0) (same_at h k right both.1))
  where
    parts : (names : List Word) → AreSame h k (names ++ right) → AreSame h k names × AreSame h k right
    parts [] all = (tt, all)
    parts (name ∷ names) all = (let rest = parts names all.1 in ((all.0, rest.0), rest.1))

-- ---- the files that a request names

abbrev pub files_of : Option Request → List Word
files_of (Some (Replay log)) = log ∷ []
files_of (Some (Explain log)) = log ∷ []
files_of (Some (Audit left right)) = left ∷ right ∷ []
files_of (Some (Script file)) = file ∷ []
files_of (Some (Mend log new)) = log ∷ new ∷ []
files_of (Some (Migrate log new)) = log ∷ new ∷ []
files_of (Some (Certify log block new)) = log ∷ new ∷ []
files_of (Some (Check file keys log)) = file ∷ keys ∷ named log
files_of (Some (Eras logs)) = logs
files_of (Some (EraAudit left right)) = left ++ right
files_of request = []

pub fails_named : (held : Held) (request : Option Request) (before now : Word → ℕ) → FailsOf held request before now → FailsAmong (files_of request) held before now
fails_named held None before now fails = due_named [] (λ h. request_said h None) (λ h k same. refl) held before now fails
fails_named held (Some (Replay log)) before now fails = due_named (log ∷ []) (λ h. request_said h (Some (Replay log))) (of_log log (λ t. done (report_of t))) held before now fails
fails_named held (Some (Explain log)) before now fails = due_named (log ∷ []) (λ h. request_said h (Some (Explain log))) (of_log log (λ t. done (explained_in t.core))) held before now fails
fails_named held (Some (Audit left right)) before now fails = due_named (left ∷ right ∷ []) (λ h. audit_said h left right) (of_logs left right) held before now fails
fails_named held (Some (Script file)) before now fails = due_named (file ∷ []) (λ h. script_said h file) (of_script file) held before now fails
fails_named held (Some (Mend log new)) before now (inl rose) = (new, (inr (inl refl), inl rose))
fails_named held (Some (Mend log new)) before now (inr fails) = due_named (log ∷ new ∷ []) (λ h. request_said h (Some (Mend log new))) (of_rewritten mended_of (codes "mended") log new) held before now fails
fails_named held (Some (Migrate log new)) before now (inl rose) = (new, (inr (inl refl), inl rose))
fails_named held (Some (Migrate log new)) before now (inr fails) = due_named (log ∷ new ∷ []) (λ h. request_said h (Some (Migrate log new))) (of_rewritten migrated_of (codes "migrated") log new) held before now fails
fails_named held (Some (Certify log block new)) before now (inl rose) = (new, (inr (inl refl), inl rose))
fails_named held (Some (Certify log block new)) before now (inr fails) = due_named (log ∷ new ∷ []) (λ h. certify_said h log block new) (of_certified log block new) held before now fails
fails_named held (Some (Check file keys log)) before now fails = due_named (file ∷ keys ∷ named log) (λ h. check_said h file keys log) (of_checked file keys log) held before now fails
fails_named held (Some (Gen number rounds)) before now fails = due_named [] (λ h. request_said h (Some (Gen number rounds))) (λ h k same. refl) held before now fails
fails_named held (Some (Sim number nodes steps)) before now fails = due_named [] (λ h. request_said h (Some (Sim number nodes steps))) (λ h k same. refl) held before now fails
fails_named held (Some (Eras logs)) before now fails = due_named logs (λ h. eras_said h logs) (of_eras logs) held before now fails
fails_named held (Some (EraAudit left right)) before now fails = due_named (left ++ right) (λ h. era_audit_said h left right) (of_era_audit left right) held before now fails
