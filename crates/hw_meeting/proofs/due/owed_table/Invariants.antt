use Rattle.std.proofs.Common.{◌≡◌, map}
use Rattle.std.specs.List.{range_with_len}
use Rattle.hw_meeting.specs.Due.{owed_at}
use Rattle.hw_meeting.proofs.due.owed_table.Given as goal

abbrev pub invariant-loop-validator : goal.invariant-loop-validator
invariant-loop-validator l = l.table.items ≡ map (owed_at l.torn l.mine l.theirs) (range_with_len 0 l.validator)
