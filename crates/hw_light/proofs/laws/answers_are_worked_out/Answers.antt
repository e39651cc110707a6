use Rattle.hw_light.proofs.AnswerLaws.{answer_is}
use Rattle.hw_light.proofs.ToldLaws.{told_is}
use Rattle.hw_light.proofs.laws.answers_are_worked_out.Goals as goal

pub returns-clause-checked : goal.returns-clause-checked
returns-clause-checked c = answer_is

pub returns-clause-asked : goal.returns-clause-asked
returns-clause-asked c = told_is
