use Rattle.std.proofs.Common.{◌≡◌, ℕ, ◌<◌, length, Some}
use Rattle.hw_dag.specs.Dag.{view_at}
use Rattle.hw_horizon.specs.Kept.{AreWalks, AreFences}
use Rattle.hw_horizon.specs.Tables.{entry}
use Rattle.hw_horizon.specs.Starts.{IsSlotStart, votes_over}
use Rattle.hw_horizon.proofs.votes.put_vote_starts.Given as goal

abbrev pub invariant-loop-v : goal.invariant-loop-v
invariant-loop-v l = record {
  walks : length l.kept.walks ≡ l.dag.validators;
  kept : AreWalks l.dag l.block.0 l.kept;
  fences : AreFences l.dag l.kept.fences;
  block : l.kept.block ≡ Some l.block;
  long : length l.table ≡ l.dag.validators;
  starts : (v : ℕ) → v < l.v → IsSlotStart l.dag (view_at l.panorama v) 0 (votes_over l.dag l.block.0) (entry l.table v);
}
