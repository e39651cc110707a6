use Rattle.std.proofs.Common.{◌≡◌, ℕ, ◌<◌, cond, None, length}
use Rattle.std.specs.Prelude.{is_some}
use Rattle.hw_dag.specs.Dag.{graph, observations}
use Rattle.hw_horizon.specs.Tables.{entry, start_over}
use Rattle.hw_horizon.proofs.rounds.put_next.Given as goal

abbrev pub invariant-loop-v : goal.invariant-loop-v
invariant-loop-v l = record {
  long : length l.next ≡ l.question.dag.now.validators;
  starts : (v : ℕ) → v < l.v → entry l.next v ≡ cond (is_some (entry l.present v)) (start_over l.question.weights.now (graph l.question.dag.now) (observations l.question.dag.now l.question.panorama.now) l.question.quorum l.lower l.present v) None;
}
