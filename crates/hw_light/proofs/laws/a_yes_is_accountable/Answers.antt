use Rattle.hw_light.proofs.YesLaws.{decided, accountable}
use Rattle.hw_light.proofs.laws.a_yes_is_accountable.Goals as goal

pub returns-clause-decided : goal.returns-clause-decided
returns-clause-decided c = decided

pub returns-clause-accountable : goal.returns-clause-accountable
returns-clause-accountable c = accountable
