use Rattle.hw_honest.proofs.PlanRuleLaws.{step_keeps_rules, plan_keeps_rules}
use Rattle.hw_honest.proofs.plans.plan_keeps_rules.Goals as goal

pub returns-clause-over : goal.returns-clause-over
returns-clause-over c = step_keeps_rules

pub returns-clause-after : goal.returns-clause-after
returns-clause-after c = plan_keeps_rules
