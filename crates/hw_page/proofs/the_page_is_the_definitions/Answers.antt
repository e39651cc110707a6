use Rattle.hw_page.proofs.JournalLaws.{lawful_page, page_of_journals, of_two_journals, blocks_of_journals, some_block}
use Rattle.hw_page.proofs.the_page_is_the_definitions.Goals as goal

pub returns-clause-lawful : goal.returns-clause-lawful
returns-clause-lawful c = lawful_page

pub returns-clause-journals : goal.returns-clause-journals
returns-clause-journals c = page_of_journals

pub returns-clause-two : goal.returns-clause-two
returns-clause-two c = of_two_journals

pub returns-clause-blocks : goal.returns-clause-blocks
returns-clause-blocks c = blocks_of_journals

pub returns-clause-some : goal.returns-clause-some
returns-clause-some c = some_block
