use Rattle.hw_meeting_node.proofs.RangeLaws.{said_in_range}
use Rattle.hw_meeting_node.proofs.laws.meetings_say_what_is_in_range.Goals as goal

pub returns : goal.returns
returns c = said_in_range
