use Rattle.std.proofs.Common.{◌≡◌, length}
use Rattle.hw_types.specs.Votes.{weight_of}
use Rattle.hw_dag.specs.Dag.{graph, observations}
use Rattle.hw_horizon.specs.Tables.{is_member, AreAmong, table_after}
use Rattle.hw_horizon.specs.Firsts.{AreFirsts, AreSeen}
use Rattle.hw_horizon.proofs.rounds.put_members.Given as goal

abbrev pub invariant-loop : goal.invariant-loop
invariant-loop l = record {
  present_length : length l.present ≡ l.question.dag.now.validators;
  firsts_length : length l.firsts ≡ l.question.dag.now.validators;
  firsts : AreFirsts l.question.dag.now l.question.panorama.now l.lower l.present l.firsts;
  weight : l.weight ≡ weight_of l.question.weights.now (is_member l.present);
  counts : AreSeen l.question.weights.now l.question.dag.now l.question.panorama.now l.present l.firsts l.counts;
  down : AreAmong l.present (table_after l.counter l.question.weights.now (graph l.question.dag.now) (observations l.question.dag.now l.question.panorama.now) l.question.quorum l.lower);
  up : AreAmong (table_after (length l.question.weights.now) l.question.weights.now (graph l.question.dag.now) (observations l.question.dag.now l.question.panorama.now) l.question.quorum l.lower) l.present;
}
