use Rattle.hw_theorem.proofs.ReportLaws.{audit_said_so}
use Rattle.hw_theorem.proofs.an_audit_says.Goals as goal

pub returns : goal.returns
returns c = audit_said_so
