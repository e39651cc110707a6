use Rattle.std.proofs.Common.{◌≡◌, ℕ, ◌+◌, ◌<◌, ◌≤◌, Some, None, length, get_or}
use Rattle.hw_dag.specs.declared.numbers.UnitNo.{UnitNo}
use Rattle.hw_horizon.specs.Firsts.{weight_amid}
use Rattle.hw_horizon.specs.Bounds.{support_of}
use Rattle.hw_horizon.proofs.shift.shift_by.Given as goal

abbrev pub invariant-loop-v : goal.invariant-loop-v
invariant-loop-v l = record {
  firsts : l.bound.firsts ≡ l.fn.bound.firsts;
  long : length l.bound.support ≡ length l.fn.bound.support;
  rest : (v : ℕ) → l.v ≤ v → support_of l.bound v ≡ support_of l.fn.bound v;
  done : (v : ℕ) (tip : UnitNo) → v < l.v → get_or l.tips v None ≡ Some tip → weight_amid l.question.weights.now l.question.dag.now l.before l.fn.bound.firsts (l.fn.slot + 1) tip.0 ≡ support_of l.bound v;
}
