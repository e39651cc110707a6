-- What a check shows, by how its run ends.
use Rattle.std.proofs.Common.{◌≡◌, ℕ, inl, inr, List, ◌++◌, length, codes, Option, Some, None, Result, Ok, Err, IfOk, refl, sym, ap, subst, ◌∙◌, arith}
use Rattle.std.specs.Prelude.{◌⊎◌}
use Rattle.hw_types.specs.declared.unit.Vertex.{Vertex}
use Rattle.hw_types.specs.declared.config.Config.{Config}
use Rattle.hw_types.specs.declared.config.ConfigFault.{ConfigFault}
use Rattle.hw_types.specs.Limits.{config_fault}
use Rattle.hw_types.specs.Journal.{journal_of}
use Rattle.hw_types.specs.Real.{CoreState, setting_of}
use Rattle.hw_text.specs.Text.{number_text}
use Rattle.hw_agree.specs.Certificates.{delivered as delivered_true}
use Rattle.hw_core.proofs.PromiseLaws.{deliveries_are}
use Rattle.hw_replay.specs.declared.fault.StartFault.{StartFault}
use Rattle.hw_replay.specs.declared.fault.StartFault.TheVariants as start
use Rattle.hw_log.specs.declared.error.LogError.TheVariants as log
use Rattle.hw_replay.specs.Taken.{Taken}
use Rattle.hw_replay.specs.Replay.{replay_of}
use Rattle.hw_replay.specs.Laws.{deliveries_of, IsReplayed}
use Rattle.hw_replay.proofs.DeliveredLaws.{replay_delivers}
use Rattle.hw_light.specs.declared.certificate.Certificate.{Certificate}
use Rattle.hw_light.specs.declared.error.CertError.{CertError}
use Rattle.hw_light.specs.declared.answers.Checked.{Checked}
use Rattle.hw_light.specs.declared.answers.Checked.TheVariants.{Yes, No}
use Rattle.hw_light.specs.Reading.{certificate_of}
use Rattle.hw_light.specs.Texts.{error_text}
use Rattle.hw_light.specs.CheckedTexts.{verdicts_by, checked_of}
use Rattle.hw_light.specs.Keys.{keys_of}
use Rattle.hw_light.proofs.CheckedLaws.{yes_shows}
use Rattle.hw_commands.specs.declared.ended.Ended.{Ended}
use Rattle.hw_commands.specs.declared.ended.RunFault.{RunFault}
use Rattle.hw_commands.specs.Conflict.{ReportsConflict, ReportsEraConflict}
use Rattle.hw_commands.specs.Commands.{Word, Request, Replay, Explain, Audit, Script, Mend, Migrate, Certify, Check, Gen, Sim, Eras, EraAudit, request_of}
use Rattle.hw_commands.specs.Texts.{input_ended, limit_ended, clash_ended, read_fault_ended}
use Rattle.hw_commands.specs.Audited.{chains_ended, clash_or, audit_ended}
use Rattle.hw_commands.specs.CertificateEnds.{certify_ended}
use Rattle.hw_commands.specs.Laws.{LogIsAnswered, CheckIsAnswered}
use Rattle.hw_light.specs.Asked.{Outcome, NoDecision, NoStanding, NoLength, HasCertificate, told_of}
use Rattle.hw_audit.specs.declared.chains.Parting.{Parting}
use Rattle.hw_audit.specs.Clashes.{UnitPair}
use Rattle.hw_audit.specs.First.{first_of}
use Rattle.hw_audit.specs.Chains.{parting_of}
use Rattle.hw_safety.specs.Verdicts.{chain_of}
use Rattle.hw_types.specs.Journal.{Setting}
use Rattle.hw_types.specs.Spelling.{unit_bytes}
use Rattle.hw_commands.specs.Program.{◌>>=◌, Held, Part, ended, log_replayed, or_misread, or_no_keys, or_parted, yes_said, answer_said, checked_said, check_said, request_said, run_of}
use Rattle.hw_safety.specs.Decided.{decisions_of}
use Rattle.hw_safety.specs.Verdicts.{AreInConflict}
use Rattle.hw_audit.proofs.ToldLaws.{AreSigned}
use Rattle.hw_commands.specs.Shown.{IsShown, IsShownBy, ShowsCertificate, IfChecks, IsAlikeIn, CanBeChecked, CanBeReplayed, ContradictsCertificate}
use Rattle.hw_commands.proofs.FaultLaws.{input_status}
use Rattle.hw_commands.proofs.AgainstLaws.{IsConflict, read_signed, both_signed, conflict_shown}

-- ---- a status that shows nothing

not_shown : {P : Type 0} (status n : ℕ) → status ≡ n → (n ≡ 0 → ⊥) → (n ≡ 3 → ⊥) → (n ≡ 9 → ⊥) → IsShown status → P
not_shown status n is zero three nine (inl h) = absurd (zero (sym is ∙ h))
not_shown status n is zero three nine (inr (inl h)) = absurd (three (sym is ∙ h))
not_shown status n is zero three nine (inr (inr h)) = absurd (nine (sym is ∙ h))

two : {P : Type 0} (status : ℕ) → status ≡ 2 → IsShown status → P
two status is = not_shown status 2 is (λ h. omega (arith, h)) (λ h. omega (arith, h)) (λ h. omega (arith, h))

four : {P : Type 0} (status : ℕ) → status ≡ 4 → IsShown status → P
four status is = not_shown status 4 is (λ h. omega (arith, h)) (λ h. omega (arith, h)) (λ h. omega (arith, h))

ten : {P : Type 0} (status : ℕ) → status ≡ 10 → IsShown status → P
ten status is = not_shown status 10 is (λ h. omega (arith, h)) (λ h. omega (arith, h)) (λ h. omega (arith, h))

-- ---- a check that had a yes

module _ (held : Held) (file keys : Word) (against : Option Word) where
  pub record HadYes : Type 0 where
    pub certificate : Certificate
    pub core : CoreState
    pub shown : IsShownBy held file keys certificate core
    pub said : ended (check_said held file keys against) ≡ ended (yes_said held file certificate core against)

  abbrev of_config : Certificate → Option ConfigFault → Ended
  of_config c o = ended (checked_said held file keys against c o)

  abbrev of_read : Result Certificate CertError → Ended
  of_read r = ended (or_misread file r >>= λ c. checked_said held file keys against c (config_fault c.config))

  abbrev of_file : Option (List ℕ) → Ended
  of_file o =
      ended ((elim o as (λ z. Part (List ℕ)) [ None ↦ Err read_fault_ended | Some bytes ↦ Ok bytes ] >>= λ bytes. or_misread file (certificate_of bytes)) >>= λ c. checked_said held file keys against c (config_fault c.config))

  abbrev of_answer : Certificate → Checked → Ended
  of_answer c a = ended (answer_said held file c against a)

  abbrev of_given : Certificate → Result (List (List ℕ)) ℕ → Ended
  of_given c r = ended (or_no_keys keys r >>= λ given. answer_said held file c against (checked_of c (verdicts_by given c.vertices)))

  abbrev of_keys : Certificate → Option (List ℕ) → Ended
  of_keys c o =
      ended ((elim o as (λ z. Part (List ℕ)) [ None ↦ Err read_fault_ended | Some text ↦ Ok text ] >>= λ text. or_no_keys keys (keys_of (length c.config.weights) text)) >>= λ given. answer_said held file c against (checked_of c (verdicts_by given c.vertices)))

  -- what is known of the two files
  record Given (c : Certificate) : Type 0 where
    bytes : List ℕ
    there : held file ≡ Some bytes
    reads : certificate_of bytes ≡ Ok c

  by_answer : (c : Certificate) → Given c → config_fault c.config ≡ None → (text : List ℕ) → held keys ≡ Some text → (given : List (List ℕ)) → keys_of (length c.config.weights) text ≡ Ok given
      → (a : Checked) → checked_of c (verdicts_by given c.vertices) ≡ a → IsShown (of_answer c a).status → HadYes
  by_answer c g lawful text keys_there given keys_are (No fault) e s = ten _ refl s
  by_answer c g lawful text keys_there given keys_are (Yes core) e s =
      let shows_it = yes_shows c given core e in
      record {
        certificate = c;
        core = core;
        shown = record { bytes = g.bytes; there = g.there; reads = g.reads; text = text; keys_there = keys_there; given = given; keys_are = keys_are; certified = shows_it.0; signed = shows_it.1 };
        said = ap of_file g.there ∙ ap of_read g.reads ∙ ap (of_config c) lawful ∙ ap (of_keys c) keys_there ∙ ap (of_given c) keys_are ∙ ap (of_answer c) e;
      }

  by_given : (c : Certificate) → Given c → config_fault c.config ≡ None → (text : List ℕ) → held keys ≡ Some text → (r : Result (List (List ℕ)) ℕ) → keys_of (length c.config.weights) text ≡ r → IsShown (of_given c r).status → HadYes
  by_given c g lawful text k (Err place) e s = two _ (input_status keys (codes "keys at " ++ number_text place)) s
  by_given c g lawful text k (Ok given) e s = by_answer c g lawful text k given e (checked_of c (verdicts_by given c.vertices)) refl s

  by_keys : (c : Certificate) → Given c → config_fault c.config ≡ None → (o : Option (List ℕ)) → held keys ≡ o → IsShown (of_keys c o).status → HadYes
  by_keys c g lawful None e s = four _ refl s
  by_keys c g lawful (Some text) e s = by_given c g lawful text e (keys_of (length c.config.weights) text) refl s

  by_config : (c : Certificate) → Given c → (o : Option ConfigFault) → config_fault c.config ≡ o → IsShown (of_config c o).status → HadYes
  by_config c g (Some fault) e s = ten _ refl s
  by_config c g None e s = by_keys c g e (held keys) refl s

  by_read : (bytes : List ℕ) → held file ≡ Some bytes → (r : Result Certificate CertError) → certificate_of bytes ≡ r → IsShown (of_read r).status → HadYes
  by_read bytes there (Err error) e s = two _ (input_status file (error_text error)) s
  by_read bytes there (Ok c) e s = by_config c (record { bytes = bytes; there = there; reads = e }) (config_fault c.config) refl s

  by_file : (o : Option (List ℕ)) → held file ≡ o → IsShown (of_file o).status → HadYes
  by_file None e s = four _ refl s
  by_file (Some bytes) e s = by_read bytes e (certificate_of bytes) refl s

  had_yes : IsShown (ended (check_said held file keys against)).status → HadYes
  had_yes shown = by_file (held file) refl shown

-- so the certificate is shown
pub shows : (words : List Word) (held : Held) → IsShown (run_of words held).status → IfChecks (ShowsCertificate held) (request_of words)
unfolding run_of
shows words held shown = go (request_of words) shown
  where
    go : (o : Option Request) → IsShown (ended (request_said held o)).status → IfChecks (ShowsCertificate held) o
    go (Some (Check file keys against)) s = let y = had_yes held file keys against s in record { certificate = y.certificate; core = y.core; shown = y.shown }
    go None s = tt
    go (Some (Replay name)) s = tt
    go (Some (Explain name)) s = tt
    go (Some (Audit left right)) s = tt
    go (Some (Script file)) s = tt
    go (Some (Mend old new)) s = tt
    go (Some (Migrate old new)) s = tt
    go (Some (Certify old block new)) s = tt
    go (Some (Gen number rounds)) s = tt
    go (Some (Sim number nodes steps)) s = tt
    go (Some (Eras logs)) s = tt
    go (Some (EraAudit left right)) s = tt

-- ---- a log against it

-- a log that was stopped is no conflict
stopped_no_conflict : (file name : Word) (fault : StartFault) (other : Taken → Part Ended) → (ended (or_parted file name (Err fault) >>= other)).status ≡ 3 → ⊥
unfolding input_ended limit_ended clash_ended
stopped_no_conflict file name (start.Log log.ReadFault) other is = omega (arith, is)
stopped_no_conflict file name (start.Log log.OutOfMemory) other is = omega (arith, is)
stopped_no_conflict file name (start.Log e) other is = omega (arith, is)
stopped_no_conflict file name start.OtherConfig other is = omega (arith, is)
stopped_no_conflict file name (start.Clash known new) other is = omega (arith, is)
stopped_no_conflict file name (start.RecordsFull place) other is = omega (arith, is)
stopped_no_conflict file name (start.ParkFull place) other is = omega (arith, is)
stopped_no_conflict file name start.OutOfMemory other is = omega (arith, is)

module _ (words : List Word) (held : Held) (file keys name : Word) (asked : request_of words ≡ Some (Check file keys (Some name))) (y : HadYes held file keys (Some name)) (alike : IsAlikeIn held file (Some name)) where
  abbrev c : Certificate
  c = y.certificate

  abbrev k : CoreState
  k = y.core

  abbrev of_taken : Result Taken StartFault → Ended
  of_taken r = ended (or_parted file name r >>= λ t. Ok (audit_ended (setting_of c.config) t.core.journal k.journal))

  abbrev of_log : Option (List ℕ) → Ended
  of_log o = ended (elim o as (λ z. Part (List ℕ)) [ None ↦ Err read_fault_ended | Some bytes ↦ Ok bytes ] >>= λ bytes. or_parted file name (replay_of (Some c.config) bytes) >>= λ t. Ok (audit_ended (setting_of c.config) t.core.journal k.journal))

  -- the log's node, the certificate's, and what their audit says
  module _ (bytes : List ℕ) (there : held name ≡ Some bytes) (t : Taken) (given : replay_of (Some c.config) bytes ≡ Ok t) where
    abbrev r : IsReplayed (Some c.config) bytes t
    r = replay_delivers (Some c.config) bytes t given

    config_is : t.core.config ≡ k.config
    config_is = alike y.shown.bytes c y.shown.there y.shown.reads bytes t there given ∙ sym y.shown.certified.config

    -- the journals are those of deliveries
    left_is : t.core.journal ≡ journal_of (setting_of k.config) (deliveries_of r.entries)
    left_is =
        let by = r.core_is ∙ (deliveries_are r.config (deliveries_of r.entries)).0 in
        let config : r.config ≡ k.config = sym (ap (λ (n : CoreState). n.config) by) ∙ config_is in
        ap (λ (n : CoreState). n.journal) by ∙ ap (λ (g : Config). journal_of (setting_of g) (deliveries_of r.entries)) config

    right_is : k.journal ≡ journal_of (setting_of k.config) (delivered_true c.vertices)
    right_is = y.shown.certified.journal ∙ ap (λ (g : Config). journal_of (setting_of g) (delivered_true c.vertices)) (sym y.shown.certified.config)

    said : (audit_ended (setting_of c.config) t.core.journal k.journal) ≡ audit_ended (setting_of k.config) t.core.journal k.journal
    said = ap (λ (g : Config). audit_ended (setting_of g) t.core.journal k.journal) (sym y.shown.certified.config)

    shown_conflict : (audit_ended (setting_of c.config) t.core.journal k.journal).status ≡ 3 → IsConflict k.config t.core.journal k.journal (audit_ended (setting_of c.config) t.core.journal k.journal).text
    shown_conflict three =
        let signed = both_signed (Some c.config) bytes t c k r y.shown.certified (read_signed y.shown.bytes c y.shown.reads) in
        let over : (audit_ended (setting_of k.config) t.core.journal k.journal).status ≡ 3 = sym (ap (λ (e : Ended). e.status) said) ∙ three in
        let law = subst (λ (j : List Vertex). AreSigned (j ++ k.journal) → (audit_ended (setting_of k.config) j k.journal).status ≡ 3 → IsConflict k.config j k.journal (audit_ended (setting_of k.config) j k.journal).text) (sym left_is)
        (subst (λ (j : List Vertex). AreSigned (journal_of (setting_of k.config) (deliveries_of r.entries) ++ j) → (audit_ended (setting_of k.config) (journal_of (setting_of k.config) (deliveries_of r.entries)) j).status ≡ 3 → IsConflict k.config (journal_of (setting_of k.config) (deliveries_of r.entries)) j (audit_ended (setting_of k.config) (journal_of (setting_of k.config) (deliveries_of r.entries)) j).text) (sym right_is)
        (conflict_shown k.config (deliveries_of r.entries) (delivered_true c.vertices))) in
        subst (λ (e : Ended). IsConflict k.config t.core.journal k.journal e.text) (sym said) (law signed over)

  contradicts : (of_log (held name)).status ≡ 3 → ContradictsCertificate words held (of_log (held name)).text
  contradicts three = by_log (held name) refl three
    where
      by_taken : (bytes : List ℕ) (there : held name ≡ Some bytes) (r : Result Taken StartFault) → replay_of (Some c.config) bytes ≡ r → (of_taken r).status ≡ 3 → ContradictsCertificate words held (of_log (held name)).text
      by_taken bytes there (Err fault) e s = absurd (stopped_no_conflict file name fault (λ t. Ok (audit_ended (setting_of c.config) t.core.journal k.journal)) s)
      by_taken bytes there (Ok t) e s =
          let x = shown_conflict bytes there t e s in
          let text : (of_log (held name)).text ≡ (audit_ended (setting_of c.config) t.core.journal k.journal).text = ap (λ (o : Option (List ℕ)). (of_log o).text) there ∙ ap (λ (r : Result Taken StartFault). (of_taken r).text) e in
          let one = config_is bytes there t e in
          record {
            file = file;
            keys = keys;
            log = name;
            asked = asked;
            certificate = c;
            core = k;
            shown = y.shown;
            bytes = bytes;
            there = there;
            first = t;
            first_is = e;
            one_config = one;
            no_clash = x.no_clash;
            height = x.height;
            left_block = x.left_block;
            right_block = x.right_block;
            culprits = x.culprits;
            weight = x.weight;
            conflict = subst (λ (g : Config). AreInConflict (setting_of k.config) t.core.journal k.journal (decisions_of (setting_of g) t.core.journal) (decisions_of (setting_of k.config) k.journal) (record { height = x.height; left_block = x.left_block; right_block = x.right_block; culprits = x.culprits; weight = x.weight })) (sym one) x.conflict;
            exceeds = x.exceeds;
            told = text ∙ x.told;
          }

      by_log : (o : Option (List ℕ)) → held name ≡ o → (of_log o).status ≡ 3 → ContradictsCertificate words held (of_log (held name)).text
      by_log None e s = absurd (omega (arith, s))
      by_log (Some bytes) e s = by_taken bytes e (replay_of (Some c.config) bytes) refl s

-- a check that ends as a conflict shows one
pub check_contradicts : (words : List Word) (held : Held) (file keys : Word) (against : Option Word) → request_of words ≡ Some (Check file keys against) → IsAlikeIn held file against
    → (ended (check_said held file keys against)).status ≡ 3 → ContradictsCertificate words held (ended (check_said held file keys against)).text
check_contradicts words held file keys None asked alike three =
    let y = had_yes held file keys None (inr (inl three)) in
    let bad : ◌≡◌ {A = ℕ} 0 3 = sym (ap (λ (e : Ended). e.status) y.said) ∙ three in absurd (omega (arith, bad))
check_contradicts words held file keys (Some name) asked alike three =
    let y = had_yes held file keys (Some name) (inr (inl three)) in
    subst (λ (e : Ended). ContradictsCertificate words held e.text) (sym y.said) (contradicts words held file keys name asked y alike (sym (ap (λ (e : Ended). e.status) y.said) ∙ three))

-- so does the run
pub checked_conflict : (words : List Word) (held : Held) (file keys : Word) (against : Option Word) (r : Result Ended RunFault) → request_of words ≡ Some (Check file keys against)
    → IfOk r (λ e. e ≡ ended (check_said held file keys against)) → IfOk r (λ e. e.status ≡ 3 → IsAlikeIn held file against)
    → IfOk r (λ e. e.status ≡ 3 → ReportsConflict words held (run_of words held).text ⊎ ContradictsCertificate words held (run_of words held).text ⊎ ReportsEraConflict words held (run_of words held).text)
unfolding run_of
checked_conflict words held file keys against (Ok e) asked told alike = λ three.
    let is = ap (λ (o : Option Request). ended (request_said held o)) asked in
    inr (inl (subst (λ (x : Ended). ContradictsCertificate words held x.text) (sym is) (check_contradicts words held file keys against asked (alike three) (sym (ap (λ (x : Ended). x.status) told) ∙ three))))
checked_conflict words held file keys against (Err f) asked told alike = tt

-- ---- what is answered

told_status : (told : Outcome) → ((certify_ended told).status ≡ 0) ⊎ ((certify_ended told).status ≡ 10)
told_status (HasCertificate count) = inl refl
told_status NoDecision = inr refl
told_status NoStanding = inr refl
told_status (NoLength count) = inr refl

pub log_is_answered : LogIsAnswered
unfolding run_of
log_is_answered words held name block new t asked absent replayed =
    let said = ap (λ (o : Option Request). ended (request_said held o)) asked
    ∙ ap (λ (o : Option (List ℕ)). ended (elim o as (λ z. Part Ended) [ None ↦ log_replayed held None name >>= λ t. Ok (certify_ended (told_of t.core block)) | Some there ↦ Err (input_ended new (codes "exists")) ])) absent
    ∙ ap (λ (p : Part Taken). ended (p >>= λ t. Ok (certify_ended (told_of t.core block)))) replayed in
    subst (λ (e : Ended). (e.status ≡ 0) ⊎ (e.status ≡ 10)) (sym said) (told_status (told_of t.core block))

chains_status : (s : Setting) (left right : List Vertex) (o : Option Parting) → IsShown (chains_ended s left right o).status
chains_status s left right None = inl refl
chains_status s left right (Some p) = inr (inl refl)

clash_status : (a b : List ℕ) → (clash_ended a b).status ≡ 9
unfolding clash_ended
clash_status a b = refl

audit_status : (s : Setting) (left right : List Vertex) → IsShown (audit_ended s left right).status
unfolding audit_ended
audit_status s left right = go (first_of s left right)
  where
    chains : Ended
    chains = chains_ended s left right (parting_of (chain_of (decisions_of s left)) (chain_of (decisions_of s right)))

    go : (o : Option UnitPair) → IsShown (clash_or o (chains_ended s left right (parting_of (chain_of (decisions_of s left)) (chain_of (decisions_of s right))))).status
    go None = chains_status s left right (parting_of (chain_of (decisions_of s left)) (chain_of (decisions_of s right)))
    go (Some p) = inr (inr (clash_status (unit_bytes p.left) (unit_bytes p.right)))

module _ (held : Held) (file keys : Word) (against : Option Word) (c : Certificate) (can : CanBeChecked held file keys c) (replays : CanBeReplayed held c against) where
  abbrev Answered : Ended → Type 0
  Answered e = IsShown e.status ⊎ (e.status ≡ 10)

  by_against : (core : CoreState) (o : Option Word) → CanBeReplayed held c o → Answered (ended (yes_said held file c core o))
  by_against core None r = inl (inl refl)
  by_against core (Some name) (bytes, t, there, given) =
      let said = ap (λ (o : Option (List ℕ)). ended (elim o as (λ z. Part (List ℕ)) [ None ↦ Err read_fault_ended | Some bytes ↦ Ok bytes ] >>= λ bytes. or_parted file name (replay_of (Some c.config) bytes) >>= λ t. Ok (audit_ended (setting_of c.config) t.core.journal core.journal))) there
      ∙ ap (λ (r : Result Taken StartFault). ended (or_parted file name r >>= λ t. Ok (audit_ended (setting_of c.config) t.core.journal core.journal))) given in
      subst Answered (sym said) (inl (audit_status (setting_of c.config) t.core.journal core.journal))

  by_checked : (a : Checked) → Answered (ended (answer_said held file c against a))
  by_checked (No fault) = inr refl
  by_checked (Yes core) = by_against core against replays

  by_limits : (o : Option ConfigFault) → Answered (ended (checked_said held file keys against c o))
  by_limits (Some fault) = inr refl
  by_limits None = subst Answered (sym (ap (of_keys held file keys against c) can.keys_there ∙ ap (of_given held file keys against c) can.keys_are)) (by_checked (checked_of c (verdicts_by can.given c.vertices)))

  check_answered : Answered (ended (check_said held file keys against))
  check_answered = subst Answered (sym (ap (of_file held file keys against) can.there ∙ ap (of_read held file keys against) can.reads)) (by_limits (config_fault c.config))

pub check_is_answered : CheckIsAnswered
unfolding run_of
check_is_answered words held file keys against c asked can replays =
    subst (λ (e : Ended). IsShown e.status ⊎ (e.status ≡ 10)) (sym (ap (λ (o : Option Request). ended (request_said held o)) asked)) (check_answered held file keys against c can replays)
