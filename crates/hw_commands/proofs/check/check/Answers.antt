use Rattle.std.specs.Option.{option_copied}
use Rattle.hw_types.specs.Limits.{config_fault}
use Rattle.hw_commands.proofs.DueLaws.{lawful_fails}
use Rattle.hw_commands.proofs.check.check.Goals as goal

pub returns-in-Ok-clause-about : goal.returns-in-Ok-clause-about
returns-in-Ok-clause-about g c = λ tells.
    let certificate = c.args.certificate.now in
    lawful_fails _ c.args.file.now c.args.keys.now (option_copied c.args.log) certificate (config_fault certificate.config) _ _ c.check_lawful.result c.in-Ok.ensures (c.check_lawful.ensures.about tells)
