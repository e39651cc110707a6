use Rattle.std.proofs.Common.{All, take}
use Rattle.hw_codec.specs.Ranges.{NeedInRange}
use Rattle.hw_codec.proofs.ranges.needs_are_in_range.Given as goal

abbrev pub invariant-loop-need : goal.invariant-loop-need
invariant-loop-need l = All NeedInRange (take l.need-index l.needs)
