use Rattle.hw_honest.proofs.CountLaws.{step_follows_own, plan_follows_own}
use Rattle.hw_honest.proofs.plans.plan_follows_own.Goals as goal

pub returns-clause-over : goal.returns-clause-over
returns-clause-over c = step_follows_own

pub returns-clause-after : goal.returns-clause-after
returns-clause-after c = plan_follows_own
