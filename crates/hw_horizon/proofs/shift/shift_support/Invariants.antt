use Rattle.hw_horizon.proofs.ShiftLaws.{HasShifted}
use Rattle.hw_horizon.proofs.shift.shift_support.Given as goal

abbrev pub invariant-loop-slot : goal.invariant-loop-slot
invariant-loop-slot l = HasShifted l.question.weights.now l.question.dag.now l.tips l.before l.fn.bound l.bound l.slot
