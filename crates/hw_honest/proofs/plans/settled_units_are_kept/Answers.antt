use Rattle.hw_honest.proofs.KeptLaws.{settled_are_kept}
use Rattle.hw_honest.proofs.PlanRuleLaws.{planned_is_over_settled}
use Rattle.hw_honest.proofs.plans.settled_units_are_kept.Goals as goal

pub returns-clause-kept : goal.returns-clause-kept
returns-clause-kept c = settled_are_kept

pub returns-clause-planned : goal.returns-clause-planned
returns-clause-planned c = planned_is_over_settled
