use Rattle.hw_honest.proofs.SomePlan.{some_plan_is_made, some_round_is_full, some_plan_clashes}
use Rattle.hw_honest.proofs.plans.a_plan_is_made.Goals as goal

pub returns-clause-made : goal.returns-clause-made
returns-clause-made c = some_plan_is_made

pub returns-clause-full : goal.returns-clause-full
returns-clause-full c = some_round_is_full

pub returns-clause-clash : goal.returns-clause-clash
returns-clause-clash c = some_plan_clashes
