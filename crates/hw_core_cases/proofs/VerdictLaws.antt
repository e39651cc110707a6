-- What a verdict on a unit alone says.
use Rattle.std.proofs.Common.{◌≡◌, sym, subst, refl, Option, Some, None, Result, IfOk}
use Rattle.hw_types.specs.declared.unit.Digest.{Digest}
use Rattle.hw_types.specs.declared.unit.WireUnit.{WireUnit}
use Rattle.hw_types.specs.declared.config.Config.{Config}
use Rattle.hw_types.specs.declared.answers.Rule.{Rule}
use Rattle.hw_types.specs.Rules.{local_rule}
use Rattle.hw_rules.specs.Judged.{KeepsLocalRules}
use Rattle.hw_rules.specs.Verdict.{verdict_of}

-- a unit whose verdict is Ok breaks no rule of the unit alone
pub local_kept : (config : Config) (instance : Digest) (u : WireUnit) (verdict : Result (Unit {0}) Rule) → verdict ≡ verdict_of (local_rule config instance u) → IfOk verdict (λ _. KeepsLocalRules config u)
local_kept config instance u verdict is = go (local_rule config instance u) refl is
  where
    go : (o : Option Rule) → local_rule config instance u ≡ o → verdict ≡ verdict_of o → IfOk verdict (λ _. KeepsLocalRules config u)
    go None e h = subst (λ (r : Result (Unit {0}) Rule). IfOk r (λ _. KeepsLocalRules config u)) (sym h) (instance, e)
    go (Some rule) e h = subst (λ (r : Result (Unit {0}) Rule). IfOk r (λ _. KeepsLocalRules config u)) (sym h) tt
