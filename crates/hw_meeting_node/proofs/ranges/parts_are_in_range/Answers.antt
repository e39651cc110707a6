use Rattle.std.proofs.Common.{All, subst}
use Rattle.std.proofs.lemmas.List.{take_all}
use Rattle.std.proofs.lemmas.List.Elements.{All-more}
use Rattle.hw_meeting.specs.Frames.{PartInRange}
use Rattle.hw_meeting_node.proofs.ranges.parts_are_in_range.Goals as goal

pub loop-part-preserved : goal.loop-part-preserved
loop-part-preserved c = All-more PartInRange c.args.parts.now c.loop-part.part-index _ c.loop-part-test.true c.loop-part.invariant c.part_is_in_range.ensures

pub returns : goal.returns
returns c = subst (All PartInRange) (take_all c.loop-part.part-index c.args.parts.now c.loop-part-test.false) c.loop-part.invariant
