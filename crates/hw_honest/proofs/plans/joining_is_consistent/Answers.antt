use Rattle.hw_honest.proofs.ListedLaws.{with_own_is_consistent, no_citation_is_consistent}
use Rattle.hw_honest.proofs.plans.joining_is_consistent.Goals as goal

pub returns-clause-own : goal.returns-clause-own
returns-clause-own c = with_own_is_consistent

pub returns-clause-none : goal.returns-clause-none
returns-clause-none c = no_citation_is_consistent
