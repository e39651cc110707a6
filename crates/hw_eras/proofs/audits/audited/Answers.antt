use Rattle.hw_eras.specs.declared.verdict.EraVerdict.TheVariants as eras
use Rattle.hw_eras.proofs.TellLaws.{audit_tells}
use Rattle.hw_eras.proofs.audits.audited.Goals as goal

pub returns-in-Ok-Agree-clause-audit : goal.returns-in-Ok-Agree-clause-audit
returns-in-Ok-Agree-clause-audit c =
    audit_tells c.args.left.now c.args.right.now c.agreed.result c.in-Ok-Agree.field-0 (eras.Agree c.in-Ok-Agree.common) c.in-Ok-Agree.field-0-is c.count-left.ensures.eras c.count-right.ensures.eras
    c.in-Ok-Agree.ensures.verdict c.in-Ok-Agree.ensures.by_eras c.in-Ok-Agree.ensures.accounted c.agreed.ensures

pub returns-in-Ok-At-clause-audit : goal.returns-in-Ok-At-clause-audit
returns-in-Ok-At-clause-audit c =
    audit_tells c.args.left.now c.args.right.now c.differing.result c.in-Ok-At.field-0 (eras.At c.in-Ok-At.era c.in-Ok-At.verdict) c.in-Ok-At.field-0-is c.count-left.ensures.eras c.count-right.ensures.eras
    c.in-Ok-At.ensures.verdict c.in-Ok-At.ensures.by_eras c.in-Ok-At.ensures.accounted c.differing.ensures
