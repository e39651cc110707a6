use Rattle.std.proofs.Common.{◌≡◌, ℕ, ◌<◌, ◌≤◌, true, length}
use Rattle.std.specs.Prelude.{is_some}
use Rattle.hw_types.specs.Votes.{weight_of}
use Rattle.hw_dag.specs.Dag.{graph, observations}
use Rattle.hw_horizon.specs.Tables.{Starts, entry, is_member, start_over, next_table, AreAmong}
use Rattle.hw_horizon.specs.Starts.{HasSlots}
use Rattle.hw_horizon.specs.Firsts.{AreFirsts, AreSeen}
use Rattle.hw_horizon.proofs.rounds.strike.Given as goal

abbrev pub invariant-loop-v : goal.invariant-loop-v
invariant-loop-v l = record {
  present_length : length l.present ≡ l.question.dag.now.validators;
  firsts_length : length l.firsts ≡ l.question.dag.now.validators;
  firsts : AreFirsts l.question.dag.now l.question.panorama.now l.lower l.present l.firsts;
  slots : HasSlots l.question.panorama.now l.present;
  weight : l.left ≡ weight_of l.question.weights.now (is_member l.present);
  most : l.left ≤ l.fn.weight;
  among : AreAmong l.present l.fn.present;
  keeps : (kept : Starts) → AreAmong kept (next_table l.question.weights.now (graph l.question.dag.now) (observations l.question.dag.now l.question.panorama.now) l.question.quorum l.lower kept) → AreAmong kept l.fn.present → AreAmong kept l.present;
  judged : (v : ℕ) → v < l.v → is_some (entry l.present v) ≡ true → is_some (start_over l.question.weights.now (graph l.question.dag.now) (observations l.question.dag.now l.question.panorama.now) l.question.quorum l.lower l.fn.present v) ≡ true;
  settled : l.left ≡ l.fn.weight → AreAmong l.fn.present l.present;
  counts : AreSeen l.question.weights.now l.question.dag.now l.question.panorama.now l.present l.firsts l.counts;
}
