use Rattle.hw_meeting.specs.Lanes.{AreHighest}
use Rattle.hw_meeting.proofs.highest.highest.Given as goal

abbrev pub invariant-loop-number : goal.invariant-loop-number
invariant-loop-number l = AreHighest l.dag l.number l.tips.items
