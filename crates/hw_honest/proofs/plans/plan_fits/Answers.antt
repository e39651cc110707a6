use Rattle.hw_honest.proofs.PlanRuleLaws.{step_fits}
use Rattle.hw_honest.proofs.NewLaws.{plan_fits}
use Rattle.hw_honest.proofs.plans.plan_fits.Goals as goal

pub returns-clause-over : goal.returns-clause-over
returns-clause-over c = step_fits

pub returns-clause-after : goal.returns-clause-after
returns-clause-after c = plan_fits
