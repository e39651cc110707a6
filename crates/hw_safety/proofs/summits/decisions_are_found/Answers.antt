use Rattle.hw_safety.proofs.DecidedLaws.{decisions_are}
use Rattle.hw_safety.proofs.summits.decisions_are_found.Goals as goal

pub returns : goal.returns
returns c = decisions_are
