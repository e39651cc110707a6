-- The end of a meeting as that of a session.
-- Source: ours.
use Rattle.hw_link.specs.declared.end.SessionEnd.{SessionEnd}
use Rattle.hw_link.specs.declared.end.SessionEnd.TheVariants as session
use Rattle.hw_meeting_node.specs.declared.end.MeetEnd.{MeetEnd}
use Rattle.hw_meeting_node.specs.declared.end.MeetEnd.TheVariants as end

-- the end of the session whose meeting has this end, without the number of refused vertices
abbrev pub session_end : MeetEnd → SessionEnd
session_end (end.Done refused) = session.Done
session_end end.EndOfInput = session.EndOfInput
session_end end.WrongInstance = session.WrongInstance
session_end (end.BadFrame at) = session.BadFrame at
session_end end.LinkFault = session.LinkFault
session_end end.AppendFault = session.AppendFault
session_end end.ByteLimit = session.ByteLimit
session_end end.Clash = session.Clash
session_end end.OutOfMemory = session.OutOfMemory
