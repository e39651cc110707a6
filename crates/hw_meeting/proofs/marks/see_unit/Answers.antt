use Rattle.hw_meeting.specs.Lanes.{node_named}
use Rattle.hw_meeting.proofs.MarkLaws.{marks_more}
use Rattle.hw_meeting.proofs.marks.see_unit.Goals as goal

pub returns : goal.returns
returns c = λ units name are. rw c.marked.ensures (marks_more c.args.dag.now c.args.tips.now units c.args.marks.now (node_named name c.args.unit.now) c.is_on_tip-is_on.result c.requires.creator c.is_on_tip-is_on.ensures are)
