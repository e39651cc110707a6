use Rattle.hw_meeting_node.proofs.TakenLaws.{take}
use Rattle.hw_meeting_node.proofs.SentLaws.{taken_first}
use Rattle.hw_meeting_node.proofs.laws.meetings_take.Goals as goal

pub returns-clause-take : goal.returns-clause-take
returns-clause-take c = take

pub returns-clause-first : goal.returns-clause-first
returns-clause-first c = taken_first
