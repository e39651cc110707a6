use Rattle.std.proofs.Common.{refl}
use Rattle.hw_explain.proofs.ToldLaws.{told_nothing}
use Rattle.hw_explain.proofs.told.DecisionLines.new.Goals as goal

pub returns : goal.returns
returns c core empty = told_nothing core _ empty c.new.ensures refl
