use Rattle.hw_commands.proofs.ShownLaws.{log_is_answered, check_is_answered}
use Rattle.hw_commands.proofs.laws.certificates_are_answered.Goals as goal

pub returns-clause-asked : goal.returns-clause-asked
returns-clause-asked c = log_is_answered

pub returns-clause-checked : goal.returns-clause-checked
returns-clause-checked c = check_is_answered
