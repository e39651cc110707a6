use Rattle.std.proofs.Common.{◌≡◌, ℕ, ◌<◌, ◌≤◌, length}
use Rattle.hw_dag.specs.Dag.{view_at}
use Rattle.hw_dag.specs.declared.numbers.UnitNo.{UnitNo}
use Rattle.hw_dag.specs.declared.numbers.View.TheVariants as view
use Rattle.hw_horizon.specs.Firsts.{weight_after}
use Rattle.hw_horizon.specs.Bounds.{support_of}
use Rattle.hw_horizon.proofs.follow.put_support.Given as goal

abbrev pub invariant-loop-v : goal.invariant-loop-v
invariant-loop-v l = record {
  firsts : l.bound.firsts ≡ l.fn.bound.firsts;
  long : length l.bound.support ≡ length l.fn.bound.support;
  rest : (v : ℕ) → l.v ≤ v → support_of l.bound v ≡ support_of l.fn.bound v;
  done : (v : ℕ) (tip : UnitNo) → v < l.v → view_at l.question.panorama.now v ≡ view.Correct tip → weight_after l.question.weights.now l.question.dag.now l.fn.bound.firsts tip.0 ≡ support_of l.bound v;
}
