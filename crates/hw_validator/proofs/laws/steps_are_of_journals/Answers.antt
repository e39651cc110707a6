use Rattle.hw_validator.proofs.JournalLaws.{step_is}
use Rattle.hw_validator.proofs.laws.steps_are_of_journals.Goals as goal

pub returns : goal.returns
returns c = step_is
