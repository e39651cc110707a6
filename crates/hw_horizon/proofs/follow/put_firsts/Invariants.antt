use Rattle.std.proofs.Common.{◌≡◌, ℕ, ◌<◌, ◌≤◌, length}
use Rattle.hw_dag.specs.Dag.{view_at}
use Rattle.hw_dag.specs.declared.numbers.UnitNo.{UnitNo}
use Rattle.hw_dag.specs.declared.numbers.View.TheVariants as view
use Rattle.hw_horizon.specs.Bounds.{first_of, counts_over, IsFirstOf, AreLowered, AreSameBelow}
use Rattle.hw_horizon.proofs.follow.put_firsts.Given as goal

abbrev pub invariant-loop-v : goal.invariant-loop-v
invariant-loop-v l = record {
  long : length l.bound.firsts ≡ length l.fn.bound.firsts;
  support : l.bound.support ≡ l.fn.bound.support;
  rest : (v : ℕ) → l.v ≤ v → first_of l.bound v ≡ first_of l.fn.bound v;
  firsts : (v : ℕ) (tip : UnitNo) → v < l.v → view_at l.question.panorama.now v ≡ view.Correct tip → IsFirstOf l.question.dag.now tip.0 (counts_over l.question.weights.now l.question.dag.now l.question.block.0 l.question.quorum l.below.is_votes l.below.bound.now.firsts) (first_of l.bound v);
  lowered : AreLowered l.fn.bound l.bound l.moves.down;
  same : AreSameBelow l.fn.bound l.bound l.moves.any;
  edges : l.edges ≡ l.fn.edges;
}
