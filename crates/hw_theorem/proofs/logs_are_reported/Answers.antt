use Rattle.hw_theorem.proofs.ReportLaws.{logs_reported}
use Rattle.hw_theorem.proofs.logs_are_reported.Goals as goal

pub returns : goal.returns
returns c = logs_reported
