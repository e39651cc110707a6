use Rattle.std.proofs.Common.{◌≡◌, None, Some, subst₂}
use Rattle.hw_types.specs.declared.config.Config.{Config}
use Rattle.hw_types.specs.declared.unit.Digest.{Digest}
use Rattle.hw_types.specs.Rules.{local_rule}
use Rattle.hw_core.proofs.UnitLaws.{verdict_broken, verdict_kept, broken_local}
use Rattle.hw_core.proofs.units.test_local.Goals as goal

pub returns-in-Ok-clause-local : goal.returns-in-Ok-clause-local
returns-in-Ok-clause-local c =
    subst₂ (λ (config : Config) (d : Digest). local_rule config d c.args.unit.now.unit ≡ None) c.config.ensures.config c.requires
    (verdict_kept (local_rule c.config.result.now c.args.instance.now c.args.unit.now.unit) _ c.in-Ok.ensures)

pub returns-in-Err-clause-refused : goal.returns-in-Err-clause-refused
returns-in-Err-clause-refused c journal =
    broken_local c.args.state.now.config journal c.args.unit.now c.in-Err.rule (subst₂ (λ (config : Config) (d : Digest). local_rule config d c.args.unit.now.unit ≡ Some c.in-Err.rule) c.config.ensures.config c.requires
    (verdict_broken (local_rule c.config.result.now c.args.instance.now c.args.unit.now.unit) c.in-Err.rule c.in-Err.ensures))
