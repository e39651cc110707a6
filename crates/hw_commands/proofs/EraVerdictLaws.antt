-- An audit of eras tells the verdict on the nodes that its logs leave.
use Rattle.std.proofs.Common.{◌≡◌, ℕ, zero, suc, ◌+◌, List, [], ◌∷◌, length, min, Option, Some, None, Result, Ok, refl, sym, ap, subst, ◌∙◌, arith}
use Rattle.std.specs.Prelude.{slice_get}
use Rattle.std.specs.Option.{option_map}
use Rattle.hw_types.specs.declared.config.Config.{Config}
use Rattle.hw_types.specs.Real.{CoreState, setting_of}
use Rattle.hw_core.specs.Decided.{decided_in}
use Rattle.hw_safety.specs.declared.verdict.Verdict.{Verdict}
use Rattle.hw_safety.specs.declared.verdict.Verdict.TheVariants as verdict
use Rattle.hw_audit.specs.Audit.{IsVerdictOn}
use Rattle.hw_audit.specs.First.{ShowsFirstClash}
use Rattle.hw_audit.specs.Text.{audit_text}
use Rattle.hw_eras.specs.declared.verdict.EraVerdict.{EraVerdict}
use Rattle.hw_eras.specs.declared.verdict.EraVerdict.TheVariants as eras
use Rattle.hw_eras.specs.declared.audits.EraAudit.{EraAudit}
use Rattle.hw_eras.specs.Eras.{IsNoAgreement}
use Rattle.hw_eras.specs.Nodes.{AreErasFrom, next_of, first_config}
use Rattle.hw_eras.specs.Logs.{LogStop}
use Rattle.hw_eras.specs.EraAudit.{AreAgreed, DifferIn, IsVerdictByEras}
use Rattle.hw_eras.specs.Audits.{agreed, in_era, status_of, TellsVerdict}
use Rattle.hw_eras.proofs.AuditLaws.{next_same}
use Rattle.hw_eras.proofs.AgainstLaws.{said_by_eras}
use Rattle.hw_commands.specs.Eras.{era_audit_ended}
use Rattle.hw_commands.specs.Laws.{EraAuditIsTheVerdict, EraVerdictIsThere}
use Rattle.hw_commands.proofs.AuditedLaws.{verdict_is_there}

pub era_audit_is_the_verdict : EraAuditIsTheVerdict
era_audit_is_the_verdict held left right ls rs v told left_is right_is is tells =
    ap (λ (r : Result EraAudit LogStop). Ok (era_audit_ended r)) (said_by_eras held left right ls rs v told left_is right_is is tells)

-- ---- there is a verdict

abbrev Found : List CoreState → List CoreState → Type 0
Found ls rs = (v : EraVerdict) × IsVerdictByEras ls rs v

-- the first era of both, and those behind it
module _ (l r : CoreState) (ls rs : List CoreState) (same : l.config ≡ r.config) where
  -- it differs
  at_once : (v : Verdict) → IsVerdictOn l r v → ShowsFirstClash (setting_of l.config) l.journal r.journal v → IsNoAgreement v → Found (l ∷ ls) (r ∷ rs)
  at_once v is first other = (
    eras.At 0 v,
    record {
      before = 0;
      agreed = refl;
      first = l;
      first_is = refl;
      second = r;
      second_is = refl;
      one_config = same;
      is_verdict = is;
      shows_first = first;
      other = other;
    },
  )

  -- it agrees
  one_more : (here : ℕ) → IsVerdictOn l r (verdict.Agree here) → (w : EraVerdict) → IsVerdictByEras ls rs w → Found (l ∷ ls) (r ∷ rs)
  one_more here is (eras.Agree later) by =
      let count : suc (min (length ls) (length rs)) ≡ min (length (l ∷ ls)) (length (r ∷ rs)) = omega arith in
      (eras.Agree (here + later), subst (λ (n : ℕ). AreAgreed (l ∷ ls) (r ∷ rs) n (here + later)) count (here, later, same, is, by, refl))
  one_more here is (eras.At era v) by = (
    eras.At (suc era) v,
    record {
      before = here + by.before;
      agreed = (here, by.before, same, is, by.agreed, refl);
      first = by.first;
      first_is = by.first_is;
      second = by.second;
      second_is = by.second_is;
      one_config = by.one_config;
      is_verdict = by.is_verdict;
      shows_first = by.shows_first;
      other = by.other;
    },
  )

  with_first : (v : Verdict) → IsVerdictOn l r v → ShowsFirstClash (setting_of l.config) l.journal r.journal v → ((here : ℕ) → IsVerdictOn l r (verdict.Agree here) → Found ls rs) → Found (l ∷ ls) (r ∷ rs)
  with_first (verdict.Agree here) is first behind = (let rest = behind here is in one_more here is rest.0 rest.1)
  with_first (verdict.Conflict height a b culprits weight) is first behind = at_once (verdict.Conflict height a b culprits weight) is first tt
  with_first (verdict.Clash a b) is first behind = at_once (verdict.Clash a b) is first tt

found_from : (p q : Option Config) (ls rs : List CoreState) → AreErasFrom p ls → AreErasFrom q rs → ((a b : Config) → p ≡ Some a → q ≡ Some b → a ≡ b) → Found ls rs
found_from p q [] rs left right one = (let none : 0 ≡ min 0 (length rs) = omega arith in (eras.Agree 0, subst (λ (n : ℕ). AreAgreed [] rs n 0) none refl))
found_from p q (l ∷ ls) [] left right one = (let none : 0 ≡ min (length (l ∷ ls)) 0 = omega arith in (eras.Agree 0, subst (λ (n : ℕ). AreAgreed (l ∷ ls) [] n 0) none refl))
found_from p q (l ∷ ls) (r ∷ rs) left right one =
    let same = one l.config r.config left.0 right.0 in
    let here = verdict_is_there (setting_of l.config) l.journal r.journal (decided_in l) (decided_in r) in
    with_first l r ls rs same here.0 here.1 here.2 (λ common is. found_from (next_of l) (next_of r) ls rs left.2 right.2 (next_same l r same left.1 right.1 common is))

-- it can be told
telling : (ls rs : List CoreState) (v : EraVerdict) → IsVerdictByEras ls rs v → (told : EraAudit) × TellsVerdict ls v told
telling ls rs (eras.Agree common) by = (agreed common, refl)
telling ls rs (eras.At era v) by = (
  in_era era (record { status = status_of v; text = audit_text by.first.config.ftt v }),
  (by.first.config.ftt, ap (option_map (λ (c : CoreState). c.config.ftt)) by.first_is, refl),
)

pub era_verdict_is_there : EraVerdictIsThere
era_verdict_is_there left right left_are right_are same =
    let one : (a b : Config) → first_config left ≡ Some a → first_config right ≡ Some b → a ≡ b = λ a b p q. (let is : Some a ≡ Some b = sym p ∙ same ∙ q in cc) in
    let found = found_from (first_config left) (first_config right) left right left_are.eras right_are.eras one in
    let told = telling left right found.0 found.1 in
    (found.0, told.0, found.1, told.1)
