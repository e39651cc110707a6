use Rattle.hw_honest.proofs.NewLaws.{plan_is_answered, plan_is_admitted}
use Rattle.hw_honest.proofs.plans.plan_is_admitted.Goals as goal

pub returns-clause-answered : goal.returns-clause-answered
returns-clause-answered c = plan_is_answered

pub returns-clause-admitted : goal.returns-clause-admitted
returns-clause-admitted c = plan_is_admitted
