-- What an audit tells is what the definitions give of the two logs.
use Rattle.std.proofs.Common.{◌≡◌, ℕ, ◌<◌, inl, inr, true, List, Some, None, Ok, Err, refl, sym, ap, subst, ◌∙◌, arith, Result, IfOk}
use Rattle.hw_types.specs.declared.unit.Digest.{Digest}
use Rattle.hw_types.specs.declared.config.Config.{Config}
use Rattle.hw_types.specs.declared.answers.Culprit.{Culprit}
use Rattle.hw_types.specs.Real.{CoreState, setting_of}
use Rattle.hw_safety.specs.Decided.{decisions_of}
use Rattle.hw_safety.specs.declared.verdict.Verdict.{Verdict}
use Rattle.hw_safety.specs.declared.verdict.Verdict.TheVariants as verdict
use Rattle.hw_safety.specs.Verdicts.{IsVerdict}
use Rattle.hw_audit.specs.Audit.{IsVerdictOn, IsWeighty}
use Rattle.hw_replay.specs.declared.fault.StartFault.{StartFault}
use Rattle.hw_replay.specs.declared.replay.Replay.{Replay}
use Rattle.hw_replay.specs.Taken.{Taken}
use Rattle.hw_replay.specs.Replay.{same_config, replay_of, taken_in, IsOutside, Replays}
use Rattle.hw_replay.specs.Laws.{IsReplayed}
use Rattle.hw_replay.proofs.DeliveredLaws.{replay_delivers}
use Rattle.hw_io.specs.Files.{SameFiles}
use Rattle.hw_commands.specs.declared.ended.RunFault.{RunFault}
use Rattle.hw_commands.specs.declared.ended.Ended.{Ended}
use Rattle.hw_commands.specs.Commands.{Word, Audit, request_of}
use Rattle.hw_commands.specs.Texts.{stopped_ended}
use Rattle.hw_commands.specs.Faults.{IsReadEnd, IsCertifyEnd}
use Rattle.hw_commands.specs.Audited.{audit_ended, status_of, verdict_ended, TellsVerdict}
use Rattle.hw_commands.specs.Program.{◌>>=◌, Held, Part, ended, log_replayed, audited_against, audit_said}
use Rattle.hw_commands.specs.Conflict.{IsConflictWith, IsConflictOf, ReportsConflict, IsAudited}
use Rattle.hw_commands.proofs.VerdictLaws.{verdict_told}
use Rattle.hw_commands.proofs.MadeLaws.{wanted_is, both_signed}
use Rattle.hw_commands.proofs.FileLaws.{took_file, replayed, not_replayed}

-- ---- the audit of a log against a node

-- a command that reads logs ends by no conflict
pub no_conflict : (n : ℕ) → n ≡ 3 → IsReadEnd n → ⊥
no_conflict n is (inl e) = let no : ◌≡◌ {A = ℕ} 3 0 = sym is ∙ e in absurd (omega (arith, no))
no_conflict n is (inr (inl e)) = let no : ◌≡◌ {A = ℕ} 3 2 = sym is ∙ e in absurd (omega (arith, no))
no_conflict n is (inr (inr (inl e))) = let no : ◌≡◌ {A = ℕ} 3 8 = sym is ∙ e in absurd (omega (arith, no))
no_conflict n is (inr (inr (inr e))) = let no : ◌≡◌ {A = ℕ} 3 9 = sym is ∙ e in absurd (omega (arith, no))

module _ (left second : Taken) (before after : List ℕ) (r : IsReplayed None before left) (q : IsReplayed (Some left.core.config) after second) (e : Ended) (tells : TellsVerdict left.core second.core e) where
  abbrev c : Config
  c = left.core.config

  -- the verdict over one configuration
  verdict_is : IsVerdict (setting_of c) left.core.journal second.core.journal (decisions_of (setting_of c) left.core.journal) (decisions_of (setting_of c) second.core.journal) tells.told
  verdict_is =
      subst (λ (g : Config). IsVerdict (setting_of c) left.core.journal second.core.journal (decisions_of (setting_of c) left.core.journal) (decisions_of (setting_of g) second.core.journal) tells.told) (sym tells.one_config) tells.is_verdict

  said_so : e ≡ audit_ended (setting_of c) left.core.journal second.core.journal
  said_so = tells.ended ∙ verdict_told c left.core.journal second.core.journal (both_signed None (Some c) before after left second r q) tells.told verdict_is tells.shows_first

  over : (height : ℕ) (a b : Digest) (culprits : List Culprit) (weight : ℕ) → tells.told ≡ verdict.Conflict height a b culprits weight → c.ftt < weight
  over height a b culprits weight is = subst (IsWeighty c.ftt) is tells.weighty

  in_conflict : (held : Held) (right : Word) → log_replayed held (Some c) right ≡ Ok second → e.status ≡ 3 → IsConflictWith held left.core right e.text
  in_conflict held right log status_is = go tells.told refl
    where
      status : (v : Verdict) → tells.told ≡ v → status_of v ≡ 3
      status v is = ap status_of (sym is) ∙ sym (ap (λ (x : Ended). x.status) tells.ended) ∙ status_is

      go : (v : Verdict) → tells.told ≡ v → IsConflictWith held left.core right e.text
      go (verdict.Agree common) is = let no : ◌≡◌ {A = ℕ} 0 3 = status (verdict.Agree common) is in absurd (omega (arith, no))
      go (verdict.Clash a b) is = let no : ◌≡◌ {A = ℕ} 9 3 = status (verdict.Clash a b) is in absurd (omega (arith, no))
      go (verdict.Conflict height a b culprits weight) is =
          let both = subst (λ (v : Verdict). IsVerdictOn left.core second.core v) is tells.is_verdict in
          record {
            second = second;
            second_is = log;
            one_config = tells.one_config;
            no_clash = both.0;
            height = height;
            left_block = a;
            right_block = b;
            culprits = culprits;
            weight = weight;
            conflict = both.1;
            exceeds = over height a b culprits weight is;
            told = ap (λ (x : Ended). x.text) tells.ended ∙ ap (λ (v : Verdict). (verdict_ended c.ftt v).text) is;
          }

module _ (held : Held) (left : Taken) (right : Word) (before : List ℕ) (first : replay_of None before ≡ Ok left) where
  -- the log of the other word was replayed
  pub audited_ok : (second : Replay) (e : Ended) → Replays (Some left.core.config) (held right) (Ok second) → (same_config left.core.config second.core.config ≡ true → TellsVerdict left.core second.core e) → IsAudited held left.core right e
  audited_ok second e took tells =
      let file = took_file (Some left.core.config) (held right) second took in
      let r = replay_delivers None before left first in
      let q = replay_delivers (Some left.core.config) file.bytes (taken_in second) file.took in
      let told = tells (wanted_is left.core.config file.bytes (taken_in second) q) in
      let log = replayed held (Some left.core.config) right (taken_in second) file in
      record {
        said = said_so left (taken_in second) before file.bytes r q e told
            ∙ sym (ap (λ (p : Part Taken). ended (p >>= λ t. Ok (audit_ended (setting_of left.core.config) left.core.journal t.core.journal))) log);
        conflict = in_conflict left (taken_in second) before file.bytes r q e told held right log;
      }

  -- or it was stopped
  pub audited_not : (fault : StartFault) (e : Ended) → Replays (Some left.core.config) (held right) (Err fault) → (e ≡ stopped_ended right fault) × IsReadEnd e.status × (IsOutside fault → ⊥) → IsAudited held left.core right e
  audited_not fault e stops is =
      record {
        said = is.0 ∙ sym (ap (λ (p : Part Taken). ended (p >>= λ t. Ok (audit_ended (setting_of left.core.config) left.core.journal t.core.journal))) (not_replayed held (Some left.core.config) right fault stops is.2));
        conflict = λ conflicts. absurd (no_conflict e.status conflicts is.1);
      }

-- ---- the audit of two logs

abbrev after_left : Held → Word → Part Taken → Ended
after_left held right p = ended (p >>= λ l. audited_against held l.core right)

-- what two logs say, where the left one was replayed
pub logs_audited : (held : Held) (left right : Word) (first : Replay) (e : Ended) → Replays None (held left) (Ok first)
    → ((bytes : List ℕ) (t : Taken) → replay_of None bytes ≡ Ok t → t.core ≡ first.core → IsAudited held first.core right e)
    → (e ≡ ended (audit_said held left right)) × (e.status ≡ 3 → IsConflictOf held left right e.text)
logs_audited held left right first e took audited =
    let file = took_file None (held left) first took in
    let is = audited file.bytes (taken_in first) file.took refl in
    let log = replayed held None left (taken_in first) file in
    (is.said ∙ sym (ap (after_left held right) log), λ status. record { first = taken_in first; first_is = log; conflict = is.conflict status })

-- or the left one was stopped
pub logs_not_audited : (held : Held) (left right : Word) (fault : StartFault) (e : Ended) → Replays None (held left) (Err fault) → (e ≡ stopped_ended left fault) × IsReadEnd e.status × (IsOutside fault → ⊥)
    → (e ≡ ended (audit_said held left right)) × (e.status ≡ 3 → IsConflictOf held left right e.text)
logs_not_audited held left right fault e stops is =
    (is.0 ∙ sym (ap (after_left held right) (not_replayed held None left fault stops is.2)), λ conflicts. absurd (no_conflict e.status conflicts is.1))

-- the words ask for the audit
pub reports : (words : List Word) (held : Held) (left right text : Word) → request_of words ≡ Some (Audit left right) → IsConflictOf held left right text → ReportsConflict words held text
reports words held left right text asked conflict = record { left = left; right = right; asked = asked; conflict = conflict }

-- nor does a command that asks a log for a certificate
pub no_conflict_asked : (n : ℕ) → n ≡ 3 → IsCertifyEnd n → ⊥
no_conflict_asked n is (inl e) = let no : ◌≡◌ {A = ℕ} 3 10 = sym is ∙ e in absurd (omega (arith, no))
no_conflict_asked n is (inr e) = no_conflict n is e

-- ---- the same, by what calls answered

-- what a part answered, handed on
pub handed_on : {E F : Type 0} (P : Ended → Type 0) (r : Result Ended E) (q : Result Ended F) → IfOk r P → IfOk q (λ e. r ≡ Ok e) → IfOk q P
handed_on {E = E} P r (Ok e) holds is = subst (λ (x : Result Ended E). IfOk x P) is holds
handed_on P r (Err f) holds is = tt

module _ (held : Held) (left : CoreState) (right : Word) (bytes : List ℕ) (taken : Taken) (first : replay_of None bytes ≡ Ok taken) (core : taken.core ≡ left) where
  pub audit_ok : (second : Replay) (r : Result Ended RunFault) → Replays (Some left.config) (held right) (Ok second)
      → IfOk r (λ e. same_config left.config second.core.config ≡ true → TellsVerdict left second.core e) → IfOk r (λ e. IsAudited held left right e)
  audit_ok second (Ok e) took tells =
      subst (λ (k : CoreState). IsAudited held k right e) core (audited_ok held taken right bytes first second e
      (subst (λ (k : CoreState). Replays (Some k.config) (held right) (Ok second)) (sym core) took)
      (subst (λ (k : CoreState). same_config k.config second.core.config ≡ true → TellsVerdict k second.core e) (sym core) tells))
  audit_ok second (Err f) took tells = tt

  pub audit_not : (fault : StartFault) (r : Result Ended RunFault) → Replays (Some left.config) (held right) (Err fault)
      → IfOk r (λ e. (e ≡ stopped_ended right fault) × IsReadEnd e.status × (IsOutside fault → ⊥)) → IfOk r (λ e. IsAudited held left right e)
  audit_not fault (Ok e) stops said =
      subst (λ (k : CoreState). IsAudited held k right e) core (audited_not held taken right bytes first fault e
      (subst (λ (k : CoreState). Replays (Some k.config) (held right) (Err fault)) (sym core) stops) said)
  audit_not fault (Err f) stops said = tt

-- two logs, once more
abbrev pub IsLogsEnd : Held → Word → Word → Ended → Type 0
IsLogsEnd held left right e = (e ≡ ended (audit_said held left right)) × (e.status ≡ 3 → IsConflictOf held left right e.text)

pub logs_ok : (held mid : Held) (left right : Word) (first : Replay) (r : Result Ended RunFault) → SameFiles held mid → Replays None (held left) (Ok first)
    → ((bytes : List ℕ) (t : Taken) → replay_of None bytes ≡ Ok t → t.core ≡ first.core → IfOk r (λ e. IsAudited mid first.core right e)) → IfOk r (λ e. IsLogsEnd held left right e)
logs_ok held mid left right first (Ok e) same took audited =
    let one : mid ≡ held = λ i name. same name i in
    logs_audited held left right first e took (λ bytes t is core. subst (λ (h : Held). IsAudited h first.core right e) one (audited bytes t is core))
logs_ok held mid left right first (Err f) same took audited = tt

pub logs_not : (held : Held) (left right : Word) (fault : StartFault) (r : Result Ended RunFault) → Replays None (held left) (Err fault)
    → IfOk r (λ e. (e ≡ stopped_ended left fault) × IsReadEnd e.status × (IsOutside fault → ⊥)) → IfOk r (λ e. IsLogsEnd held left right e)
logs_not held left right fault (Ok e) stops said = logs_not_audited held left right fault e stops said
logs_not held left right fault (Err f) stops said = tt
