use Rattle.std.proofs.Common.{◌≡◌, drop}
use Rattle.hw_meeting.specs.Frames.{rise_from}
use Rattle.hw_meeting.proofs.decoding.are_rising.Given as goal

abbrev pub invariant-loop-number : goal.invariant-loop-number
invariant-loop-number l = rise_from l.least (drop l.number-index l.numbers) ≡ rise_from 0 l.numbers
