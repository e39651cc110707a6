use Rattle.hw_honest.proofs.NewLaws.{plan_is_new}
use Rattle.hw_honest.proofs.plans.plan_is_new.Goals as goal

pub returns : goal.returns
returns c = plan_is_new
