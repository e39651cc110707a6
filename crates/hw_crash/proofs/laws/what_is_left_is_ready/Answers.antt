use Rattle.hw_crash.proofs.LeftLaws.{left_starts, left_ready}
use Rattle.hw_crash.proofs.laws.what_is_left_is_ready.Goals as goal

pub returns-clause-starts : goal.returns-clause-starts
returns-clause-starts c = left_starts

pub returns-clause-ready : goal.returns-clause-ready
returns-clause-ready c = left_ready
