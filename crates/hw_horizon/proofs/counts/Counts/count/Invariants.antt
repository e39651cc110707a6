use Rattle.std.proofs.Common.{◌≡◌, ℕ, ◌<◌, true, length, get_or}
use Rattle.std.specs.Prelude.{is_some}
use Rattle.hw_dag.specs.declared.numbers.UnitNo.{UnitNo}
use Rattle.hw_dag.specs.declared.numbers.View.TheVariants as view
use Rattle.hw_dag.specs.Dag.{view_at}
use Rattle.hw_horizon.specs.Tables.{entry}
use Rattle.hw_horizon.specs.Firsts.{weight_after}
use Rattle.hw_horizon.proofs.counts.Counts.count.Given as goal

abbrev pub invariant-loop-v : goal.invariant-loop-v
invariant-loop-v l = record {
  long : length l.self ≡ l.question.dag.now.validators;
  done : (w : ℕ) (tip : UnitNo) → w < l.v → is_some (entry l.present w) ≡ true → view_at l.question.panorama.now w ≡ view.Correct tip → weight_after l.question.weights.now l.question.dag.now l.firsts tip.0 ≡ get_or l.self w 0;
}
