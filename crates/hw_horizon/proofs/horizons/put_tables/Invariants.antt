use Rattle.std.proofs.Common.{◌≡◌, ℕ, ◌≤◌, ◌<◌, length}
use Rattle.hw_dag.specs.Dag.{graph, observations, node_at}
use Rattle.hw_horizon.specs.Tables.{pruned_table}
use Rattle.hw_horizon.specs.Starts.{HasSlots}
use Rattle.hw_horizon.specs.Search.{table_of, IsScratch}
use Rattle.hw_horizon.proofs.horizons.put_tables.Given as goal

abbrev pub invariant-loop-below : goal.invariant-loop-below
invariant-loop-below l = record {
  tables : (k : ℕ) → k ≤ l.below → table_of l.tables k ≡ pruned_table l.question.weights.now (graph l.question.dag.now) (observations l.question.dag.now l.question.panorama.now) (node_at l.question.dag.now l.question.block.0) l.question.quorum k;
  lower : l.scratch.lower ≡ pruned_table l.question.weights.now (graph l.question.dag.now) (observations l.question.dag.now l.question.panorama.now) (node_at l.question.dag.now l.question.block.0) l.question.quorum l.below;
  slots : HasSlots l.question.panorama.now l.scratch.lower;
  lengths : (k : ℕ) → k < length l.tables → length (table_of l.tables k) ≡ l.question.dag.now.validators;
  scratch : IsScratch l.question.dag.now.validators l.scratch;
}
