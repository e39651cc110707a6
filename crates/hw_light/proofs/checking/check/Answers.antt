use Rattle.hw_light.proofs.CheckLaws.{yes_certifies, yes_signed}
use Rattle.hw_light.proofs.checking.check.Goals as goal

pub returns-in-None-clause-yes : goal.returns-in-None-clause-yes
returns-in-None-clause-yes c = yes_certifies c.args.certificate.now c.args.verdicts.now c.check_with.result c.requires.verdicts c.check_with.ensures

pub returns-in-None-clause-signed : goal.returns-in-None-clause-signed
returns-in-None-clause-signed c = yes_signed c.args.certificate.now c.args.verdicts.now c.check_with.result c.requires.verdicts c.check_with.ensures
