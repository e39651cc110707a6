use Rattle.std.proofs.Common.{◌≡◌, map}
use Rattle.std.specs.List.{range_with_len}
use Rattle.hw_meeting.specs.Lanes.{tip_at, mark_at, lane_summary}
use Rattle.hw_meeting.proofs.summary.parts_of.Given as goal

abbrev pub invariant-loop-validator : goal.invariant-loop-validator
invariant-loop-validator l = l.parts ≡ map (λ v. lane_summary l.dag (tip_at l.tips v) (mark_at l.marks v)) (range_with_len 0 l.validator)
