use Rattle.hw_safety.proofs.StandLaws.{stands_is_test}
use Rattle.hw_safety.proofs.summits.standing_is_a_test.Goals as goal

pub returns : goal.returns
returns c = stands_is_test
