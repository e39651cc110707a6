use Rattle.hw_log.proofs.GrammarMembers.{logs_there, one_keeps_limits, errors_there, entry_errors_there}
use Rattle.hw_log.proofs.laws.logs_and_errors_are_there.Goals as goal

pub returns : goal.returns
returns c = record { logs = logs_there; lone = one_keeps_limits; errors = errors_there; entries = entry_errors_there }
