use Rattle.std.proofs.Common.{◌≡◌, ℕ, ◌-◌, ◌^◌, ◌<◌, ◌≤◌, true, length, set, get_or}
use Rattle.std.specs.Prelude.{is_some}
use Rattle.hw_dag.specs.declared.numbers.UnitNo.{UnitNo}
use Rattle.hw_dag.specs.declared.numbers.View.TheVariants as view
use Rattle.hw_dag.specs.Dag.{view_at}
use Rattle.hw_horizon.specs.Tables.{entry}
use Rattle.hw_horizon.specs.Firsts.{weight_after}
use Rattle.hw_horizon.proofs.counts.Counts.take.Given as goal

abbrev pub invariant-loop-v : goal.invariant-loop-v
invariant-loop-v l = record {
  long : length l.self ≡ l.question.dag.now.validators;
  done : (w : ℕ) → w < l.v → (tip : UnitNo) → is_some (entry l.present w) ≡ true → view_at l.question.panorama.now w ≡ view.Correct tip
      → weight_after l.question.weights.now l.question.dag.now (set l.firsts l.validator (2 ^ 32 - 1)) tip.0 ≡ get_or l.self w 0;
  rest : (w : ℕ) → l.v ≤ w → get_or l.self w 0 ≡ get_or l.fn.self w 0;
}
