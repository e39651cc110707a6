-- What an audit of eras tells is what the definitions give of the nodes.
use Rattle.std.proofs.Common.{◌≡◌, ℕ, zero, suc, ◌+◌, false, List, [], ◌∷◌, ◌++◌, length, min, Option, Some, None, Result, Ok, Err, IfOk, refl, sym, ap, subst, ◌∙◌, arith}
use Rattle.std.specs.Prelude.{slice_get}
use Rattle.std.specs.Option.{option_map}
use Rattle.hw_types.specs.declared.unit.Vertex.{Vertex}
use Rattle.hw_types.specs.declared.config.Config.{Config}
use Rattle.hw_types.specs.declared.answers.Decision.{Decision}
use Rattle.hw_types.specs.Spelling.{unit_bytes}
use Rattle.hw_types.specs.Journal.{Setting}
use Rattle.hw_types.specs.Real.{CoreState, setting_of}
use Rattle.hw_safety.specs.Decided.{decisions_of}
use Rattle.hw_safety.specs.declared.verdict.Verdict.{Verdict}
use Rattle.hw_safety.specs.declared.verdict.Verdict.TheVariants as verdict
use Rattle.hw_safety.specs.Verdicts.{journals_clash, chain_of, IsVerdict}
use Rattle.hw_audit.specs.declared.chains.Parting.{Parting}
use Rattle.hw_audit.specs.Audit.{IsVerdictOn}
use Rattle.hw_audit.specs.Clashes.{UnitPair}
use Rattle.hw_audit.specs.First.{ShowsFirstClash}
use Rattle.hw_audit.specs.Chains.{parting_of}
use Rattle.hw_audit.specs.Text.{clash_lines, audit_text}
use Rattle.hw_audit.proofs.ToldLaws.{AreSigned, conflict_told, agree_part, conflict_part, none_first}
use Rattle.hw_eras.specs.declared.verdict.EraVerdict.{EraVerdict}
use Rattle.hw_eras.specs.declared.verdict.EraVerdict.TheVariants as eras
use Rattle.hw_eras.specs.Eras.{IsNoAgreement}
use Rattle.hw_eras.specs.Nodes.{AreNodeEras}
use Rattle.hw_eras.specs.EraAudit.{IsVerdictOnEras, AreAgreed, IsVerdictByEras, IsAccounted}
use Rattle.hw_eras.specs.declared.audits.EraAudit.{EraAudit}
use Rattle.hw_eras.specs.Audits.{agreed, chains_said, clash_or, era_said, in_era, told_or, eras_audited, status_of, TellsVerdict, IsAudit}
use Rattle.hw_eras.proofs.LogLaws.{IsSignedNode, AreSignedNodes, both_signed}

-- ---- one era

module _ (config : Config) (left right : List Vertex) where
  abbrev s : Setting
  s = setting_of config

  abbrev dl : List Decision
  dl = decisions_of s left

  abbrev dr : List Decision
  dr = decisions_of s right

  -- without a clash the chains decide
  by_parting : journals_clash s left right ≡ false → (p : Option Parting) → parting_of (chain_of dl) (chain_of dr) ≡ p → era_said s left right ≡ chains_said s left right p
  unfolding era_said
  by_parting none p is =
      ap (λ (o : Option UnitPair). clash_or o (chains_said s left right (parting_of (chain_of dl) (chain_of dr)))) (none_first s left right none) ∙ ap (chains_said s left right) is

  pub agrees : (here : ℕ) → IsVerdict s left right dl dr (verdict.Agree here) → era_said s left right ≡ Ok here
  agrees here is = by_parting is.0 None (agree_part dl dr here is.1) ∙ ap (λ (n : ℕ). Ok n) (sym is.1.shorter)

  pub differs : AreSigned (left ++ right) → (v : Verdict) → IsVerdict s left right dl dr v → ShowsFirstClash s left right v → IsNoAgreement v
      → era_said s left right ≡ Err (record { status = status_of v; text = audit_text config.ftt v })
  unfolding era_said
  differs signed (verdict.Agree common) is first other = absurd other
  differs signed (verdict.Conflict height a b culprits weight) is first other =
      by_parting is.0 (Some (record { height = height; left = a; right = b })) (conflict_part s left right dl dr height a b culprits weight is.0 is.1)
      ∙ ap (λ (text : List ℕ). Err (record { status = 3; text = text })) (sym (conflict_told config left right signed dl dr height a b culprits weight is.1))
  differs signed (verdict.Clash a b) is first other =
      ap (λ (o : Option UnitPair). clash_or o (chains_said s left right (parting_of (chain_of dl) (chain_of dr)))) first.pair_is
      ∙ ap (λ (x : List ℕ). Err (record { status = 9; text = clash_lines x (unit_bytes first.pair.right) })) (sym first.first_bytes)
      ∙ ap (λ (y : List ℕ). Err (record { status = 9; text = clash_lines a y })) (sym first.second_bytes)

-- of two nodes of one configuration
module _ (c d : CoreState) (one : c.config ≡ d.config) where
  over_one : (v : Verdict) → IsVerdictOn c d v → IsVerdict (setting_of c.config) c.journal d.journal (decisions_of (setting_of c.config) c.journal) (decisions_of (setting_of c.config) d.journal) v
  over_one v is =
      subst (λ (k : Config). IsVerdict (setting_of c.config) c.journal d.journal (decisions_of (setting_of c.config) c.journal) (decisions_of (setting_of k) d.journal) v) (sym one) is

  node_agrees : (here : ℕ) → IsVerdictOn c d (verdict.Agree here) → era_said (setting_of c.config) c.journal d.journal ≡ Ok here
  node_agrees here is = agrees c.config c.journal d.journal here (over_one (verdict.Agree here) is)

-- ---- era by era

agreed_all : (n : ℕ) (ls rs : List CoreState) (era before common : ℕ) → AreAgreed ls rs n common → n ≡ min (length ls) (length rs) → eras_audited era before ls rs ≡ agreed (before + common)
unfolding eras_audited
agreed_all n [] rs era before common are end = ap agreed (let none = nothing n common are in omega arith)
  where
    nothing : (k m : ℕ) → AreAgreed [] rs k m → m ≡ 0
    nothing zero m is = is
    nothing (suc k) m is = absurd is
agreed_all n (l ∷ ls) [] era before common are end = ap agreed (let none = nothing n common are in omega arith)
  where
    nothing : (k m : ℕ) → AreAgreed (l ∷ ls) [] k m → m ≡ 0
    nothing zero m is = is
    nothing (suc k) m is = absurd is
agreed_all zero (l ∷ ls) (r ∷ rs) era before common are end = absurd (omega arith)
agreed_all (suc n) (l ∷ ls) (r ∷ rs) era before common are end =
    let sum : before + are.0 + are.1 ≡ before + common = (let total = are.5 in omega arith) in
    ap (λ (said : Result ℕ EraAudit). told_or era said (λ here. eras_audited (era + 1) (before + here) ls rs)) (node_agrees l r are.2 are.0 are.3)
    ∙ agreed_all n ls rs (era + 1) (before + are.0) are.1 are.4 (omega arith) ∙ ap agreed sum

differ_at : (n : ℕ) (ls rs : List CoreState) (era before common : ℕ) → AreAgreed ls rs n common
    → (c d : CoreState) → slice_get ls n ≡ Some c → slice_get rs n ≡ Some d → (told : EraAudit) → era_said (setting_of c.config) c.journal d.journal ≡ Err told
    → eras_audited era before ls rs ≡ in_era (era + n) told
unfolding eras_audited
differ_at n [] rs era before common are c d i j told said = absurd cc
differ_at n (l ∷ ls) [] era before common are c d i j told said = absurd cc
differ_at zero (l ∷ ls) (r ∷ rs) era before common are c d i j told said =
    let p : l ≡ c = cc in
    let q : r ≡ d = cc in
    let at : era ≡ era + 0 = omega arith in
    ap (λ (x : Result ℕ EraAudit). told_or era x (λ here. eras_audited (era + 1) (before + here) ls rs))
    (ap (λ (k : CoreState). era_said (setting_of k.config) k.journal r.journal) p ∙ ap (λ (k : CoreState). era_said (setting_of c.config) c.journal k.journal) q ∙ said)
    ∙ ap (λ (m : ℕ). in_era m told) at
differ_at (suc n) (l ∷ ls) (r ∷ rs) era before common are c d i j told said =
    let at : era + 1 + n ≡ era + suc n = omega arith in
    ap (λ (x : Result ℕ EraAudit). told_or era x (λ here. eras_audited (era + 1) (before + here) ls rs)) (node_agrees l r are.2 are.0 are.3)
    ∙ differ_at n ls rs (era + 1) (before + are.0) are.1 are.4 c d i j told said ∙ ap (λ (m : ℕ). in_era m told) at

-- each of these nodes
pub signed_at : (cs : List CoreState) (n : ℕ) (c : CoreState) → AreSignedNodes cs → slice_get cs n ≡ Some c → IsSignedNode c
signed_at [] n c are e = absurd cc
signed_at (k ∷ ks) zero c are e = (let same : k ≡ c = cc in subst IsSignedNode same are.0)
signed_at (k ∷ ks) (suc n) c are e = signed_at ks n c are.1 e

-- what tells the verdict by eras is what the definitions give
pub told_by_eras : (ls rs : List CoreState) (v : EraVerdict) (e : EraAudit) → AreSignedNodes ls → AreSignedNodes rs → IsVerdictByEras ls rs v → TellsVerdict ls v e → e ≡ eras_audited 0 0 ls rs
told_by_eras ls rs (eras.Agree common) e left right is told =
    let sum : 0 + common ≡ common = omega arith in
    told ∙ sym (agreed_all (min (length ls) (length rs)) ls rs 0 0 common is refl ∙ ap agreed sum)
told_by_eras ls rs (eras.At era v) e left right is told =
    let c = is.first in
    let d = is.second in
    let at : 0 + era ≡ era = omega arith in
    let signed = both_signed c d (signed_at ls era c left is.first_is) (signed_at rs era d right is.second_is) in
    let said = differs c.config c.journal d.journal signed v (over_one c d is.one_config v is.is_verdict) is.shows_first is.other in
    let ftt : told.0 ≡ c.config.ftt = (let one : Some told.0 ≡ Some c.config.ftt = sym told.1 ∙ ap (option_map (λ (k : CoreState). k.config.ftt)) is.first_is in cc) in
    told.2 ∙ ap (λ (n : ℕ). in_era era (record { status = status_of v; text = audit_text n v })) ftt
    ∙ sym (differ_at era ls rs 0 0 is.before is.agreed c d is.first_is is.second_is (record { status = status_of v; text = audit_text c.config.ftt v }) said ∙ ap (λ (m : ℕ). in_era m (record { status = status_of v; text = audit_text c.config.ftt v })) at)

-- what was told is the audit
pub audit_tells : {E : Type 0} (left right : List CoreState) (r : Result EraAudit E) (v w : EraVerdict) → v ≡ w → AreNodeEras left → AreNodeEras right → IsVerdictOnEras left right v → IsVerdictByEras left right v → IsAccounted left right v
    → IfOk r (TellsVerdict left w) → IfOk r (IsAudit left right)
audit_tells left right (Err f) v w same left_are right_are is by accounted told = tt
audit_tells left right (Ok e) v w same left_are right_are is by accounted told = record {
  left_eras = left_are;
  right_eras = right_are;
  said = v;
  is_verdict = is;
  by_eras = by;
  accounted = accounted;
  told = subst (λ (x : EraVerdict). TellsVerdict left x e) (sym same) told;
}
