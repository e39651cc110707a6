use Rattle.hw_explain.proofs.AllowedLaws.{report_is_of_decisions}
use Rattle.hw_explain.proofs.laws.report_is_of_decisions.Goals as goal

pub returns : goal.returns
returns c = report_is_of_decisions
