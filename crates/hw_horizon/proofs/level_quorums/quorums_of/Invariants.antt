use Rattle.std.proofs.Common.{◌≡◌, ℕ, ◌+◌, ◌<◌, length}
use Rattle.std.specs.Prelude.{sum, slice_index_or}
use Rattle.hw_types.specs.Quorum.{IsQuorum}
use Rattle.hw_horizon.proofs.level_quorums.quorums_of.Given as goal

abbrev pub invariant-loop-below : goal.invariant-loop-below
invariant-loop-below l = record {
  count : length l.quorums.items ≡ l.below;
  each : (k : ℕ) → k < length l.quorums.items → IsQuorum (sum l.config.weights) l.config.ftt (k + 1) (slice_index_or l.quorums.items k 0);
}
