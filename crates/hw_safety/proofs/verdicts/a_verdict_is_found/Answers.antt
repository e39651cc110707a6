use Rattle.hw_safety.proofs.VerdictLaws.{found, one, agreement}
use Rattle.hw_safety.proofs.verdicts.a_verdict_is_found.Goals as goal

pub returns-clause-found : goal.returns-clause-found
returns-clause-found c = found

pub returns-clause-one : goal.returns-clause-one
returns-clause-one c = one

pub returns-clause-agreement : goal.returns-clause-agreement
returns-clause-agreement c = agreement
