use Rattle.hw_honest.proofs.ListedLaws.{lists_are_kept, rising_list_is_one}
use Rattle.hw_honest.proofs.plans.lists_are_kept.Goals as goal

pub returns-clause-kept : goal.returns-clause-kept
returns-clause-kept c = lists_are_kept

pub returns-clause-one : goal.returns-clause-one
returns-clause-one c = rising_list_is_one
