use Rattle.hw_run_laws.proofs.OneMeetLaws.{one_meets}
use Rattle.hw_run_laws.proofs.TogetherLaws.{meetings_there}
use Rattle.hw_run_laws.proofs.laws.meetings_are_there.Goals as goal

pub returns-clause-all : goal.returns-clause-all
returns-clause-all c = meetings_there

pub returns-clause-one : goal.returns-clause-one
returns-clause-one c = one_meets
