use Rattle.hw_safety.proofs.ShownLaws.{found, one}
use Rattle.hw_safety.proofs.VerdictWeightLaws.{rise, weigh}
use Rattle.hw_safety.proofs.verdicts.culprits_are_shown.Goals as goal

pub returns-clause-found : goal.returns-clause-found
returns-clause-found c = found

pub returns-clause-one : goal.returns-clause-one
returns-clause-one c = one

pub returns-clause-rise : goal.returns-clause-rise
returns-clause-rise c = rise

pub returns-clause-weigh : goal.returns-clause-weigh
returns-clause-weigh c = weigh
