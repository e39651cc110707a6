use Rattle.hw_page.proofs.PageLaws.{page_safety, one_chain, choice_is, choice_there}
use Rattle.hw_page.proofs.one_page.Goals as goal

pub returns-clause-safety : goal.returns-clause-safety
returns-clause-safety c = page_safety

pub returns-clause-chain : goal.returns-clause-chain
returns-clause-chain c = one_chain

pub returns-clause-choice : goal.returns-clause-choice
returns-clause-choice c = choice_is

pub returns-clause-there : goal.returns-clause-there
returns-clause-there c = choice_there
