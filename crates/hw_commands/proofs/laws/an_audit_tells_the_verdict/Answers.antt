use Rattle.hw_commands.proofs.AuditedLaws.{audit_is_the_verdict, verdict_is_there}
use Rattle.hw_commands.proofs.laws.an_audit_tells_the_verdict.Goals as goal

pub returns-clause-tells : goal.returns-clause-tells
returns-clause-tells c = audit_is_the_verdict

pub returns-clause-there : goal.returns-clause-there
returns-clause-there c = verdict_is_there
