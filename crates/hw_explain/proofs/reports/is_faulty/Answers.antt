use Rattle.std.proofs.Common.{◌∙◌}
use Rattle.hw_explain.proofs.ReportLaws.{faulty_is}
use Rattle.hw_explain.proofs.reports.is_faulty.Goals as goal

pub returns : goal.returns
returns c = c.is_faulty.ensures ∙ faulty_is c.args.core.now c.state.result.now c.args.validator c.state.ensures.settled c.state.ensures.evidence
