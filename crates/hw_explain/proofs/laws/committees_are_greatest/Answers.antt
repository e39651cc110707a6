use Rattle.hw_explain.proofs.AllowedLaws.{explained_is_of_greatest, decided_have_greatest}
use Rattle.hw_explain.proofs.laws.committees_are_greatest.Goals as goal

pub returns-clause-greatest : goal.returns-clause-greatest
returns-clause-greatest c = explained_is_of_greatest

pub returns-clause-there : goal.returns-clause-there
returns-clause-there c = decided_have_greatest
