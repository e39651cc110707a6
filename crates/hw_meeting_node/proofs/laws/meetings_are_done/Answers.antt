use Rattle.hw_meeting_node.proofs.DoneLaws.{done, complete}
use Rattle.hw_meeting_node.proofs.laws.meetings_are_done.Goals as goal

pub returns-clause-done : goal.returns-clause-done
returns-clause-done c = done

pub returns-clause-complete : goal.returns-clause-complete
returns-clause-complete c = complete
