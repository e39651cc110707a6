-- The counts of a meeting, as those of a session.
use Rattle.std.proofs.Common.{ℕ}
use Rattle.hw_meeting_node.specs.declared.end.MeetEnd.{MeetEnd}
use Rattle.hw_meeting_node.specs.declared.end.MeetEnd.TheVariants as end
use Rattle.hw_meeting_node.specs.Sessions.{IsLinkEnd as IsMeetLinkEnd, IsTakerEnd}
use Rattle.hw_session.specs.Handling.{IsLogEnd, IsLinkEnd}
use Rattle.hw_service.specs.Ends.{session_end}

pub logged : (before now : ℕ) (e : MeetEnd) → IsTakerEnd before now e → IsLogEnd before now (session_end e)
logged before now (end.Done refused) is = is
logged before now end.EndOfInput is = is
logged before now end.WrongInstance is = is
logged before now (end.BadFrame at) is = is
logged before now end.LinkFault is = is
logged before now end.AppendFault is = is
logged before now end.ByteLimit is = is
logged before now end.Clash is = is
logged before now end.OutOfMemory is = is

pub linked : (before now : ℕ) (e : MeetEnd) → IsMeetLinkEnd before now e → IsLinkEnd before now (session_end e)
linked before now (end.Done refused) is = is
linked before now end.EndOfInput is = is
linked before now end.WrongInstance is = is
linked before now (end.BadFrame at) is = is
linked before now end.LinkFault is = is
linked before now end.AppendFault is = is
linked before now end.ByteLimit is = is
linked before now end.Clash is = is
linked before now end.OutOfMemory is = is
