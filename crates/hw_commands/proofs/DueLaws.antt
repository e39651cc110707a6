-- When a file is due: a command reads it, and what it read before let it go on.
use Rattle.std.proofs.Common.{◌≡◌, ◌≢◌, ℕ, ◌≤◌, Bool, true, false, List, [], codes, bytes_eq, Option, Some, None, Result, Ok, Err, IfErr, refl, sym, ap, subst, ◌∙◌, arith}
use Rattle.std.specs.Prelude.{◌*◌, ◌++◌, ◌∷◌, length, nat_lt, if◌then◌else◌}
use Rattle.std.specs.Option.{option_or}
use Rattle.std.proofs.lemmas.Bool.{ltb-false}
use Rattle.std.proofs.lemmas.Slice.Eq.{bytes_eq-Decides}
use Rattle.hw_io.specs.Faults.{FailsOrLacks}
use Rattle.hw_io.specs.Files.{SameFiles}
use Rattle.hw_types.specs.declared.config.Config.{Config}
use Rattle.hw_types.specs.declared.config.ConfigFault.{ConfigFault}
use Rattle.hw_types.specs.declared.unit.Digest.{Digest}
use Rattle.hw_types.specs.Limits.{config_fault}
use Rattle.hw_types.specs.Real.{CoreState, setting_of}
use Rattle.hw_types.proofs.LimitLaws.{within_limits}
use Rattle.hw_log.specs.declared.error.LogError.{LogError}
use Rattle.hw_log.specs.declared.error.LogError.TheVariants as log
use Rattle.hw_log.specs.Log.{front_of, header_of}
use Rattle.hw_replay.specs.declared.fault.StartFault.{StartFault}
use Rattle.hw_replay.specs.declared.fault.StartFault.TheVariants as start
use Rattle.hw_replay.specs.Taken.{Taken}
use Rattle.hw_replay.specs.Replay.{replay_of}
use Rattle.hw_log.specs.declared.rewritten.Rewritten.{Rewritten}
use Rattle.hw_log.specs.Rewritten.{mended_of, migrated_of}
use Rattle.hw_script.specs.Output.{output_of}
use Rattle.hw_light.specs.declared.certificate.Certificate.{Certificate}
use Rattle.hw_light.specs.declared.answers.Checked.{Checked}
use Rattle.hw_light.specs.declared.answers.Checked.TheVariants.{Yes}
use Rattle.hw_light.specs.declared.error.CertError.TheVariants.{BadMagic}
use Rattle.hw_light.specs.Reading.{certificate_of}
use Rattle.hw_light.specs.Texts.{error_text}
use Rattle.hw_light.specs.CheckedTexts.{verdicts_by, checked_of}
use Rattle.hw_light.specs.Keys.{keys_of, keys_in, short_end}
use Rattle.hw_light.specs.Asked.{told_of}
use Rattle.hw_text.specs.Text.{number_text}
use Rattle.hw_text.specs.Lines.{line_of}
use Rattle.hw_commands.specs.declared.ended.Ended.{Ended}
use Rattle.hw_commands.specs.declared.ended.RunFault.{RunFault}
use Rattle.hw_commands.specs.declared.ended.RunFault.TheVariants.{Read, Append, OutOfMemory}
use Rattle.hw_commands.specs.Commands.{Word, Request}
use Rattle.hw_commands.specs.Texts.{log_text, input_ended, read_fault_ended}
use Rattle.hw_commands.specs.Scripted.{script_ended}
use Rattle.hw_commands.specs.CertificateEnds.{certify_ended}
use Rattle.hw_commands.specs.Audited.{audit_ended}
use Rattle.hw_commands.specs.Program.{◌>>=◌, Held, Part, ended, done, or_stopped, log_replayed, or_misread, or_no_keys, or_unwritten, or_parted, certificate_said, keys_said, answer_said, checked_said, check_said, audited_against, audit_said, audited_with, script_said, rewrite_said, certify_said}
use Rattle.hw_commands.specs.Faults.{IsReadOf}
use Rattle.hw_commands.specs.Due.{with_file, IsDue, FailsDue, FailsOf}
use Rattle.hw_commands.proofs.FaultLaws.{input_status}
use Rattle.hw_commands.proofs.FileLaws.{file_replayed}

-- ---- files

pub file_there : (held : Held) (name : Word) (file : Option (List ℕ)) → with_file held name file name ≡ file
file_there held name file = ap (λ (b : Bool). if b then file else held name) ((bytes_eq-Decides name name).1 refl)

pub file_elsewhere : (held : Held) (name other : Word) (file : Option (List ℕ)) → bytes_eq other name ≡ false → with_file held name file other ≡ held other
file_elsewhere held name other file differs = ap (λ (b : Bool). if b then file else held other) differs

-- the status of a part
abbrev pub status : Part Ended → ℕ
status part = (ended part).status

-- what is said of a file's bytes has another status
abbrev pub GoesOn : (Option (List ℕ) → Part Ended) → Type 0
GoesOn reads = (status (reads None) ≡ 4) × (status (reads (Some [])) ≢ 4)

-- a line of a file's fault is no failed read
pub not_input : (name text : List ℕ) → (input_ended name text).status ≢ 4
not_input name text four = let two : ◌≡◌ {A = ℕ} 2 4 = sym (input_status name text) ∙ four in omega (arith, two)

-- ---- what is due

-- a file that is read first
pub due_first : (reads : Held → Option (List ℕ) → Part Ended) (file : Word) (held : Held) → ((h : Held) → GoesOn (reads h)) → IsDue (λ h. reads h (h file)) held file
due_first reads file held goes = record {
  missing = ap (λ (o : Option (List ℕ)). status (reads (with_file held file None) o)) (file_there held file None) ∙ (goes (with_file held file None)).0;
  empty = λ four. (goes (with_file held file (Some []))).1 (sym (ap (λ (o : Option (List ℕ)). status (reads (with_file held file (Some [])) o)) (file_there held file (Some []))) ∙ four);
}

-- a file that is due behind another one, which gave this
pub due_then : {A : Type 0} (first : Option (List ℕ) → Part A) (file : Word) (next : A → Held → Part Ended) (held : Held) (x : A) (name : Word) → first (held file) ≡ Ok x
    → IsDue (λ h. first (h file) >>= λ y. next y h) held file → IsDue (next x) held name → IsDue (λ h. first (h file) >>= λ y. next y h) held name
due_then {A = A} first file next held x name given at due = go (bytes_eq file name) refl
  where
    same : (f : Option (List ℕ)) → bytes_eq file name ≡ false → status (first (with_file held name f file) >>= λ y. next y (with_file held name f)) ≡ status (next x (with_file held name f))
    same f is =
        ap (λ (o : Option (List ℕ)). status (first o >>= λ y. next y (with_file held name f))) (file_elsewhere held name file f is)
        ∙ ap (λ (p : Part A). status (p >>= λ y. next y (with_file held name f))) given

    go : (b : Bool) → bytes_eq file name ≡ b → IsDue (λ h. first (h file) >>= λ y. next y h) held name
    go true is = subst (λ (w : Word). IsDue (λ h. first (h file) >>= λ y. next y h) held w) ((bytes_eq-Decides file name).0 is) at
    go false is = record { missing = same None is ∙ due.missing; empty = λ four. due.empty (sym (same (Some []) is) ∙ four) }

-- a file that is read where another one, which is tested first, isn't there
pub due_behind_test : (reads : Option (List ℕ) → Part Ended) (file new : Word) (held : Held) → GoesOn reads → held new ≡ None
    → IsDue (λ h. elim (h new) as (λ z. Part Ended) [ None ↦ reads (h file) | Some there ↦ Err (input_ended new (codes "exists")) ]) held file
due_behind_test reads file new held goes absent = record {
  missing = ap (λ (o : Option (List ℕ)). tested o (with_file held file None file)) (none_there (bytes_eq new file) refl) ∙ ap (λ (o : Option (List ℕ)). status (reads o)) (file_there held file None) ∙ goes.0;
  empty = some_there (bytes_eq new file) refl;
}
  where
    tested : Option (List ℕ) → Option (List ℕ) → ℕ
    tested target o = status (elim target as (λ z. Part Ended) [ None ↦ reads o | Some there ↦ Err (input_ended new (codes "exists")) ])

    none_there : (b : Bool) → bytes_eq new file ≡ b → with_file held file None new ≡ None
    none_there true is = ap (λ (b : Bool). if b then None else held new) is
    none_there false is = file_elsewhere held file new None is ∙ absent

    some_there : (b : Bool) → bytes_eq new file ≡ b → tested (with_file held file (Some []) new) (with_file held file (Some []) file) ≢ 4
    some_there true is four =
        not_input new (codes "exists") (sym (ap (λ (o : Option (List ℕ)). tested o (with_file held file (Some []) file)) (ap (λ (b : Bool). if b then Some [] else held new) is)) ∙ four)
    some_there false is four =
        goes.1 (sym (ap (λ (o : Option (List ℕ)). tested o (with_file held file (Some []) file)) (file_elsewhere held file new (Some []) is ∙ absent)
        ∙ ap (λ (o : Option (List ℕ)). status (reads o)) (file_there held file (Some []))) ∙ four)

-- ---- empty files

pub no_log : (wanted : Option Config) → replay_of wanted [] ≡ Err (start.Log log.BadMagic)
unfolding replay_of header_of front_of
no_log wanted = refl

no_certificate : certificate_of [] ≡ Err BadMagic
unfolding certificate_of
no_certificate = refl

no_keys : (validators : ℕ) → 1 ≤ validators → keys_of validators [] ≡ Err 0
unfolding keys_of
no_keys validators some = ap (λ (o : Option ℕ). elim (option_or None o) as (λ z. Result (List (List ℕ)) ℕ) [ Some place ↦ Err place | None ↦ Ok (keys_in validators []) ]) (short (nat_lt 0 (65 * validators)) refl)
  where
    short : (b : Bool) → nat_lt 0 (65 * validators) ≡ b → short_end validators [] ≡ Some 0
    short true is = ap (λ (c : Bool). if c then Some 0 else None) is
    short false is = absurd (let none = ltb-false 0 (65 * validators) is in omega (arith, some, none))

pub nothing_mended : mended_of [] ≡ Err log.BadMagic
unfolding mended_of header_of front_of
nothing_mended = refl

pub nothing_migrated : migrated_of [] ≡ Err log.BadMagic
unfolding migrated_of header_of front_of
nothing_migrated = refl

-- a log
goes_on_log : (wanted : Option Config) (name : Word) (next : Taken → Part Ended) → GoesOn (λ o. file_replayed wanted name o >>= next)
goes_on_log wanted name next =
    (refl, λ four. not_input name (log_text log.BadMagic) (sym (ap (λ r. status (or_stopped name r >>= next)) (no_log wanted)) ∙ four))

-- ---- logs, and the audit of two

pub log_due : (wanted : Option Config) (name : Word) (next : Held → Taken → Part Ended) (held : Held) → IsDue (λ h. log_replayed h wanted name >>= next h) held name
log_due wanted name next held = due_first (λ h o. file_replayed wanted name o >>= next h) name held (λ h. goes_on_log wanted name (next h))

pub left_due : (held : Held) (left right : Word) → IsDue (λ h. audit_said h left right) held left
left_due held left right = log_due None left (λ h t. audited_against h t.core right) held

-- the right log, where the left one was replayed
pub right_due : (held : Held) (left right : Word) (l : Taken) → log_replayed held None left ≡ Ok l → IsDue (λ h. audit_said h left right) held right
right_due held left right l given =
    due_then (file_replayed None left) left (λ (t : Taken) (h : Held). audited_against h t.core right) held l right given
    (left_due held left right)
    (log_due (Some l.core.config) right (λ h r. Ok (audit_ended (setting_of l.core.config) l.core.journal r.core.journal)) held)

-- ---- a script

pub script_due : (held : Held) (file : Word) → IsDue (λ h. script_said h file) held file
script_due held file = due_first (λ h o. elim o as (λ z. Part (List ℕ)) [ None ↦ Err read_fault_ended | Some bytes ↦ Ok bytes ] >>= λ bytes. Ok (script_ended file (output_of bytes))) file held (λ h. (refl, go (output_of [])))
  where
    go : (output : Result (List ℕ) ℕ) → (script_ended file output).status ≢ 4
    go (Ok text) four = omega (arith, four)
    go (Err number) four = not_input file (codes "line " ++ number_text number) four

-- ---- a log behind the test of the file that is to be new

pub rewritten_due : (rewritten_of : List ℕ → Result Rewritten LogError) (word : List ℕ) (e : LogError) → rewritten_of [] ≡ Err e → (held : Held) (old new : Word) → held new ≡ None
    → IsDue (λ h. rewrite_said rewritten_of word h old new) held old
rewritten_due rewritten_of word e empty held old new absent = due_behind_test reads old new held (refl, λ four. not_input old (log_text e) (sym (ap (λ r. status (so r)) empty) ∙ four)) absent
  where
    so : Result Rewritten LogError → Part Ended
    so r = or_unwritten old r >>= λ x. done (line_of (word ∷ number_text x.count ∷ []))

    reads : Option (List ℕ) → Part Ended
    reads o = elim o as (λ z. Part (List ℕ)) [ None ↦ Err read_fault_ended | Some bytes ↦ Ok bytes ] >>= λ bytes. so (rewritten_of bytes)

pub certify_due : (held : Held) (old : Word) (block : Digest) (new : Word) → held new ≡ None → IsDue (λ h. certify_said h old block new) held old
certify_due held old block new absent =
    due_behind_test (λ o. file_replayed None old o >>= λ t. Ok (certify_ended (told_of t.core block))) old new held (goes_on_log None old (λ t. Ok (certify_ended (told_of t.core block)))) absent

-- ---- the files of a check

abbrev pub certificate_in : Word → Option (List ℕ) → Part Certificate
certificate_in file o = elim o as (λ z. Part (List ℕ)) [ None ↦ Err read_fault_ended | Some bytes ↦ Ok bytes ] >>= λ bytes. or_misread file (certificate_of bytes)

abbrev pub keys_in_text : Word → ℕ → Option (List ℕ) → Part (List (List ℕ))
keys_in_text name validators o = elim o as (λ z. Part (List ℕ)) [ None ↦ Err read_fault_ended | Some bytes ↦ Ok bytes ] >>= λ bytes. or_no_keys name (keys_of validators bytes)

pub file_due : (held : Held) (file keys : Word) (log : Option Word) → IsDue (λ h. check_said h file keys log) held file
file_due held file keys log = due_first (λ h o. certificate_in file o >>= next h) file held (λ h. (refl, λ four. not_input file (error_text BadMagic) (sym (ap (λ r. status (or_misread file r >>= next h)) no_certificate) ∙ four)))
  where
    next : Held → Certificate → Part Ended
    next h c = checked_said h file keys log c (config_fault c.config)

-- behind a certificate
pub behind_certificate : (held : Held) (file keys : Word) (log : Option Word) (c : Certificate) (name : Word) → certificate_said held file ≡ Ok c
    → IsDue (λ h. checked_said h file keys log c (config_fault c.config)) held name → IsDue (λ h. check_said h file keys log) held name
behind_certificate held file keys log c name given due =
    due_then (certificate_in file) file (λ (x : Certificate) (h : Held). checked_said h file keys log x (config_fault x.config)) held c name given (file_due held file keys log) due

pub keys_due : (held : Held) (file keys : Word) (log : Option Word) (c : Certificate) → config_fault c.config ≡ None → IsDue (λ h. checked_said h file keys log c None) held keys
keys_due held file keys log c lawful = due_first (λ h o. keys_in_text keys (length c.config.weights) o >>= next h) keys held
    (λ h. (refl, λ four. not_input keys (codes "keys at " ++ number_text 0) (sym (ap (λ r. status (or_no_keys keys r >>= next h)) (no_keys (length c.config.weights) (within_limits c.config lawful).some)) ∙ four)))
  where
    next : Held → List (List ℕ) → Part Ended
    next h given = answer_said h file c log (checked_of c (verdicts_by given c.vertices))

-- behind keys
pub behind_keys : (held : Held) (file keys : Word) (log : Option Word) (c : Certificate) (given : List (List ℕ)) (name : Word) → config_fault c.config ≡ None → keys_said held keys (length c.config.weights) ≡ Ok given
    → IsDue (λ h. answer_said h file c log (checked_of c (verdicts_by given c.vertices))) held name → IsDue (λ h. checked_said h file keys log c None) held name
behind_keys held file keys log c given name lawful told due =
    due_then (keys_in_text keys (length c.config.weights)) keys (λ (x : List (List ℕ)) (h : Held). answer_said h file c log (checked_of c (verdicts_by x c.vertices))) held given name told (keys_due held file keys log c lawful) due

-- the log behind a yes
pub beside_due : (held : Held) (file : Word) (c : Certificate) (core : CoreState) (name : Word) → IsDue (λ h. audited_with h file c core name) held name
beside_due held file c core name = due_first (λ h o. elim o as (λ z. Part (List ℕ)) [ None ↦ Err read_fault_ended | Some bytes ↦ Ok bytes ] >>= λ bytes. so (replay_of (Some c.config) bytes)) name held
    (λ h. (refl, λ four. not_input name (log_text log.BadMagic) (sym (ap (λ r. status (so r)) (no_log (Some c.config))) ∙ four)))
  where
    so : Result Taken StartFault → Part Ended
    so r = or_parted file name r >>= λ t. Ok (audit_ended (setting_of c.config) t.core.journal core.journal)

-- ---- a failed read, by what a call answered

-- of a file that is due
pub due_fails : (said : Held → Part Ended) (held : Held) (name : Word) (file : Option (List ℕ)) (before mid now : Word → ℕ) (r : Result Ended RunFault) → IsDue said held name → file ≡ held name → mid ≡ before
    → IfErr r (λ f. f ≡ Read → FailsOrLacks file name mid now) → IfErr r (λ f. f ≡ Read → FailsDue said held before now)
due_fails said held name file before mid now (Ok e) due here same read = tt
due_fails said held name file before mid now (Err f) due here same read = λ is.
    (name, due, subst (λ (o : Option (List ℕ)). FailsOrLacks o name before now) here (subst (λ (b : Word → ℕ). FailsOrLacks file name b now) same (read is)))

-- of a file that is due behind a part that left files and counts
pub then_fails : (P Q : Held → Part Ended) (held mid : Held) (before between now : Word → ℕ) (r : Result Ended RunFault) → SameFiles held mid → between ≡ before → ((name : Word) → IsDue P held name → IsDue Q held name)
    → IfErr r (λ f. f ≡ Read → FailsDue P mid between now) → IfErr r (λ f. f ≡ Read → FailsDue Q held before now)
then_fails P Q held mid before between now (Ok e) same counts lift read = tt
then_fails P Q held mid before between now (Err f) same counts lift read = λ is.
    let one : mid ≡ held = λ i name. same name i in
    let fails = subst (λ (b : Word → ℕ). FailsDue P held b now) counts (subst (λ (h : Held). FailsDue P h between now) one (read is)) in
    (fails.0, lift fails.0 fails.1, fails.2)

-- of a file that is due, where no part was read before
pub first_fails : (said : Held → Part Ended) (held : Held) (name : Word) (before now : Word → ℕ) (fault : RunFault) → IsDue said held name → IsReadOf {T = Unit {0}} (held name) name before now (Err fault) → fault ≡ Read → FailsDue said held before now
first_fails said held name before now Read due read is = (name, due, read)
first_fails said held name before now Append due read is = absurd cc
first_fails said held name before now OutOfMemory due read is = absurd cc

-- a read of the log failed that is named beside a certificate, behind a yes
pub beside_fails : (held : Held) (file : Word) (c : Certificate) (core : CoreState) (name : Word) (log : Option Word) (checked : Checked) (before now : Word → ℕ) (r : Result Ended RunFault) → checked ≡ Yes core → log ≡ Some name
    → IfErr r (λ f. f ≡ Read → FailsDue (λ h. audited_with h file c core name) held before now) → IfErr r (λ f. f ≡ Read → FailsDue (λ h. answer_said h file c log checked) held before now)
beside_fails held file c core name log checked before now r is named read =
    subst (λ (x : Checked). IfErr r (λ f. f ≡ Read → FailsDue (λ h. answer_said h file c log x) held before now)) (sym is)
    (subst (λ (o : Option Word). IfErr r (λ f. f ≡ Read → FailsDue (λ h. answer_said h file c o (Yes core)) held before now)) (sym named) read)

-- a read failed of a certificate whose configuration keeps its limits
pub lawful_fails : (held : Held) (file keys : Word) (log : Option Word) (c : Certificate) (broken : Option ConfigFault) (before now : Word → ℕ) (r : Result Ended RunFault) → broken ≡ None
    → IfErr r (λ f. f ≡ Read → FailsDue (λ h. checked_said h file keys log c None) held before now) → IfErr r (λ f. f ≡ Read → FailsDue (λ h. checked_said h file keys log c broken) held before now)
lawful_fails held file keys log c broken before now r lawful read =
    subst (λ (o : Option ConfigFault). IfErr r (λ f. f ≡ Read → FailsDue (λ h. checked_said h file keys log c o) held before now)) (sym lawful) read

-- a read failed of the request that the words ask for
pub asked_fails : (held : Held) (asked request : Option Request) (before now : Word → ℕ) (r : Result Ended RunFault) → asked ≡ request → IfErr r (λ f. f ≡ Read → FailsOf held request before now) → IfErr r (λ f. f ≡ Read → FailsOf held asked before now)
asked_fails held asked request before now r is read = subst (λ (o : Option Request). IfErr r (λ f. f ≡ Read → FailsOf held o before now)) (sym is) read
