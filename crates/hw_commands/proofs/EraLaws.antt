-- How a run over the logs of eras ends, by what the run over them answers.
use Rattle.std.proofs.Common.{◌≡◌, ℕ, ◌++◌, inl, inr, List, Option, Some, Result, Ok, Err, IfOk, sym, ap, subst, ◌∙◌, arith}
use Rattle.std.specs.Prelude.{◌⊎◌, slice_get}
use Rattle.std.specs.Option.{option_map}
use Rattle.hw_types.specs.Real.{CoreState}
use Rattle.hw_safety.specs.declared.verdict.Verdict.TheVariants as verdict
use Rattle.hw_audit.specs.Text.{audit_text}
use Rattle.hw_eras.specs.declared.verdict.EraVerdict.{EraVerdict}
use Rattle.hw_eras.specs.declared.verdict.EraVerdict.TheVariants as eras
use Rattle.hw_eras.specs.EraAudit.{IsVerdictByEras, IsAccounted}
use Rattle.hw_eras.specs.declared.audits.EraAudit.{EraAudit}
use Rattle.hw_eras.specs.declared.stop.EraFault.{EraFault}
use Rattle.hw_eras.specs.declared.stop.EraFault.TheVariants as stop
use Rattle.hw_eras.specs.Stops.{StopsSo}
use Rattle.hw_eras.specs.Logs.{Held, LogStop, NoEra, Stopped, nodes_of}
use Rattle.hw_eras.specs.Reports.{era_line}
use Rattle.hw_eras.specs.Audits.{threshold_in, TellsVerdict, IsAuditOfLogs}
use Rattle.hw_commands.specs.declared.ended.Ended.{Ended}
use Rattle.hw_commands.specs.declared.ended.RunFault.{RunFault}
use Rattle.hw_commands.specs.Commands.{Word, Request, EraAudit as AskEraAudit, request_of}
use Rattle.hw_commands.specs.Faults.{IsReadEnd}
use Rattle.hw_commands.specs.Eras.{logs_stopped, EndsBy, IsEraConflictOf}
use Rattle.hw_commands.specs.Program.{ended, era_audit_said, request_said, run_of}
use Rattle.hw_commands.specs.Conflict.{ReportsConflict, ReportsEraConflict}
use Rattle.hw_commands.specs.Shown.{ContradictsCertificate}
use Rattle.hw_commands.proofs.AuditLaws.{no_conflict}

-- ---- logs that stop

-- what the definitions say ends in the same way
pub ends_so : {T : Type 0} (f : Result T LogStop → Ended) → ((s : LogStop) → f (Err s) ≡ logs_stopped s) → (said : Result T LogStop) (by : EraFault) (r : Result Ended RunFault)
    → StopsSo by said → IfOk r (EndsBy by) → IfOk r (λ e. e ≡ f said)
ends_so f errs said by (Err x) so ends = tt
ends_so f errs said (stop.NoEra name) (Ok e) so ends = ends ∙ sym (ap f so ∙ errs (NoEra name.now))
ends_so f errs said (stop.Stopped name fault) (Ok e) (inl out) ends = absurd (ends.1 out)
ends_so f errs said (stop.Stopped name fault) (Ok e) (inr so) ends = ends.0 ∙ sym (ap f so ∙ errs (Stopped name.now fault))
ends_so f errs said stop.OutOfMemory (Ok e) so ends = absurd ends

-- no conflict is told
pub stopped_untold : (P : Ended → Type 0) (r : Result Ended RunFault) → IfOk r (λ e. IsReadEnd e.status) → IfOk r (λ e. e.status ≡ 3 → P e)
stopped_untold P (Ok e) end = λ three. absurd (no_conflict e.status three end)
stopped_untold P (Err f) end = tt

-- ---- a conflict

threshold_is : (cores : List CoreState) (era : ℕ) (core : CoreState) (ftt : ℕ) → slice_get cores era ≡ Some core → threshold_in cores era ≡ Some ftt → ftt ≡ core.config.ftt
threshold_is cores era core ftt is said =
    let both : ◌≡◌ {A = Option ℕ} (Some ftt) (Some core.config.ftt) = sym said ∙ ap (λ (o : Option CoreState). option_map (λ (c : CoreState). c.config.ftt) o) is in
    cc

-- the eras of which the audit tells a conflict are in conflict
pub era_conflict : (held : Held) (left right : List Word) (e : EraAudit) → IsAuditOfLogs held left right e → e.status ≡ 3 → IsEraConflictOf held left right e.text
era_conflict held left right e a three = go a.audit.said a.audit.by_eras a.audit.accounted a.audit.told
  where
    go : (v : EraVerdict) → IsVerdictByEras (nodes_of a.lefts) (nodes_of a.rights) v → IsAccounted (nodes_of a.lefts) (nodes_of a.rights) v → TellsVerdict (nodes_of a.lefts) v e
        → IsEraConflictOf held left right e.text
    go (eras.Agree common) by accounted told = let no : ◌≡◌ {A = ℕ} 0 3 = sym (ap (λ (x : EraAudit). x.status) told) ∙ three in absurd (omega (arith, no))
    go (eras.At era (verdict.Agree common)) by accounted told = let no : ◌≡◌ {A = ℕ} 0 3 = sym (ap (λ (x : EraAudit). x.status) told.2) ∙ three in absurd (omega (arith, no))
    go (eras.At era (verdict.Clash first second)) by accounted told = let no : ◌≡◌ {A = ℕ} 9 3 = sym (ap (λ (x : EraAudit). x.status) told.2) ∙ three in absurd (omega (arith, no))
    go (eras.At era (verdict.Conflict height l r culprits weight)) by accounted told =
        record {
          lefts = a.lefts;
          lefts_are = a.left_is;
          rights = a.rights;
          rights_are = a.right_is;
          era = era;
          common = by.before;
          agreed = by.agreed;
          first = by.first;
          first_is = by.first_is;
          second = by.second;
          second_is = by.second_is;
          one_config = by.one_config;
          no_clash = by.is_verdict.0;
          height = height;
          left_block = l;
          right_block = r;
          culprits = culprits;
          weight = weight;
          conflict = by.is_verdict.1;
          exceeds = accounted by.first by.first_is;
          told = ap (λ (x : EraAudit). x.text) told.2
              ∙ ap (λ (ftt : ℕ). era_line era ++ audit_text ftt (verdict.Conflict height l r culprits weight)) (threshold_is (nodes_of a.lefts) era by.first told.0 by.first_is told.1);
        }

-- the words ask for the audit, and the run tells it
pub era_conflict_told : (words : List Word) (held : Held) (left right : List Word) (r : Result Ended RunFault) → request_of words ≡ Some (AskEraAudit left right)
    → IfOk r (λ e. e ≡ ended (era_audit_said held left right)) → IfOk r (λ e. e.status ≡ 3 → IsEraConflictOf held left right e.text)
    → IfOk r (λ e. e.status ≡ 3 → ReportsConflict words held (run_of words held).text ⊎ ContradictsCertificate words held (run_of words held).text ⊎ ReportsEraConflict words held (run_of words held).text)
unfolding run_of
era_conflict_told words held left right (Ok e) asked said conflict = λ three.
    let text : e.text ≡ (run_of words held).text = ap (λ (x : Ended). x.text) said ∙ sym (ap (λ (o : Option Request). (ended (request_said held o)).text) asked) in
    inr (inr (record { left = left; right = right; asked = asked; conflict = subst (λ (t : List ℕ). IsEraConflictOf held left right t) text (conflict three) }))
era_conflict_told words held left right (Err f) asked said conflict = tt
