use Rattle.std.proofs.Common.{ap}
use Rattle.std.specs.Option.{option_copied}
use Rattle.hw_commands.proofs.DueLaws.{beside_fails}
use Rattle.hw_commands.proofs.check.answer.Goals as goal

pub returns-in-Yes-Some-clause-about : goal.returns-in-Yes-Some-clause-about
returns-in-Yes-Some-clause-about g c = λ tells.
    beside_fails _ c.args.file.now c.args.certificate.now c.in-Yes-Some.core c.in-Yes-Some.log.now (option_copied c.args.log) c.args.checked.now _ _ c.audit_certified.result
    c.in-Yes-Some.is-0 (ap (λ o. option_copied o) c.in-Yes-Some.is-1) (c.audit_certified.ensures.about tells)
