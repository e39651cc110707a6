use Rattle.hw_meeting_node.proofs.SentLaws.{said_stood}
use Rattle.hw_meeting_node.proofs.laws.meetings_say_what_stood.Goals as goal

pub returns : goal.returns
returns c = said_stood
