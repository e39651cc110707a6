use Rattle.std.proofs.Common.{All, take}
use Rattle.hw_meeting.specs.Frames.{PartInRange}
use Rattle.hw_meeting_node.proofs.ranges.parts_are_in_range.Given as goal

abbrev pub invariant-loop-part : goal.invariant-loop-part
invariant-loop-part l = All PartInRange (take l.part-index l.parts)
