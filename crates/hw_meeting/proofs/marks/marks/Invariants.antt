use Rattle.std.proofs.Common.{take}
use Rattle.hw_types.specs.Real.{setting_of}
use Rattle.hw_types.specs.laws.StateLaws.{units_in}
use Rattle.hw_meeting.specs.Lanes.{AreMarks}
use Rattle.hw_meeting.proofs.marks.marks.Given as goal

abbrev pub invariant-loop-place : goal.invariant-loop-place
invariant-loop-place l = AreMarks l.dag l.tips (units_in (setting_of l.core.config) (take l.place l.core.journal)) l.marks.items
