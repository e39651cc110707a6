use Rattle.hw_safety.proofs.SearchLaws.{finds, ends}
use Rattle.hw_safety.proofs.chain.a_search_finds.Goals as goal

pub returns-clause-finds : goal.returns-clause-finds
returns-clause-finds c = finds

pub returns-clause-ends : goal.returns-clause-ends
returns-clause-ends c = ends
