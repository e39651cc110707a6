use Rattle.hw_safety.proofs.ClashLaws.{clash_is_a_test, no_clash}
use Rattle.hw_safety.proofs.verdicts.clash_is_a_test.Goals as goal

pub returns-clause-test : goal.returns-clause-test
returns-clause-test c = clash_is_a_test

pub returns-clause-none : goal.returns-clause-none
returns-clause-none c = no_clash
