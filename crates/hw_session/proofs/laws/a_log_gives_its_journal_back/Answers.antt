use Rattle.hw_session.proofs.RestartLaws.{log_gives_back}
use Rattle.hw_session.proofs.laws.a_log_gives_its_journal_back.Goals as goal

pub returns : goal.returns
returns c = log_gives_back
