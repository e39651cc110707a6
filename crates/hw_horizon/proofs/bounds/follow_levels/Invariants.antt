use Rattle.std.proofs.Common.{◌≡◌, ℕ, ◌<◌, length}
use Rattle.hw_horizon.specs.Bounds.{bound_of}
use Rattle.hw_horizon.proofs.FollowLaws.{HasFollowed}
use Rattle.hw_horizon.proofs.bounds.follow_levels.Given as goal

abbrev pub invariant-loop-level : goal.invariant-loop-level
invariant-loop-level l = record {
  followed : HasFollowed l.question.weights.now l.question.dag.now l.question.panorama.now l.tips l.question.block.0 l.fn.asked.0 l.question.quorum l.fn.levels l.levels l.lower l.moves.down l.level;
  firsts : (j : ℕ) → j < length l.levels → length (bound_of l.levels j).firsts ≡ l.question.dag.now.validators;
  support : (j : ℕ) → j < length l.levels → length (bound_of l.levels j).support ≡ l.question.dag.now.validators;
  lower_firsts : length l.lower.firsts ≡ l.question.dag.now.validators;
  lower_support : length l.lower.support ≡ l.question.dag.now.validators;
  edges : length l.edges ≡ l.question.dag.now.validators;
}
