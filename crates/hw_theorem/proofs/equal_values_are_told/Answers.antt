use Rattle.hw_theorem.proofs.EqualLaws.{units_told, needs_told}
use Rattle.hw_theorem.proofs.equal_values_are_told.Goals as goal

pub returns-clause-units : goal.returns-clause-units
returns-clause-units c = units_told

pub returns-clause-needs : goal.returns-clause-needs
returns-clause-needs c = needs_told
