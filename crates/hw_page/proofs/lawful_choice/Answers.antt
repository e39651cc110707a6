use Rattle.hw_page.proofs.ChoiceLaws.{acyclic, one_choice}
use Rattle.hw_page.proofs.lawful_choice.Goals as goal

pub returns-clause-acyclic : goal.returns-clause-acyclic
returns-clause-acyclic c = acyclic

pub returns-clause-one : goal.returns-clause-one
returns-clause-one c = one_choice
