use Rattle.hw_commands.proofs.EraVerdictLaws.{era_audit_is_the_verdict, era_verdict_is_there}
use Rattle.hw_commands.proofs.laws.an_era_audit_tells_the_verdict.Goals as goal

pub returns-clause-tells : goal.returns-clause-tells
returns-clause-tells c = era_audit_is_the_verdict

pub returns-clause-there : goal.returns-clause-there
returns-clause-there c = era_verdict_is_there
