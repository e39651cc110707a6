use Rattle.hw_theorem.proofs.ReportLaws.{replay_said_so, explain_said_so}
use Rattle.hw_theorem.proofs.a_report_says.Goals as goal

pub returns-clause-replay : goal.returns-clause-replay
returns-clause-replay c = replay_said_so

pub returns-clause-explain : goal.returns-clause-explain
returns-clause-explain c = explain_said_so
