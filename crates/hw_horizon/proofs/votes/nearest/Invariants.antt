use Rattle.std.proofs.Common.{◌≡◌, ◌≤◌, true}
use Rattle.hw_forks.specs.Walk.{is_over}
use Rattle.hw_horizon.specs.Kept.{IsFence, AreFences}
use Rattle.hw_horizon.proofs.votes.nearest.Given as goal

abbrev pub invariant-loop-slot : goal.invariant-loop-slot
invariant-loop-slot l = record {
  low : l.slot ≤ 20;
  fence : IsFence l.dag l.fence;
  over : is_over l.dag l.fn.block.0 l.fence.block.0 ≡ true;
  tip : l.fence.tip ≡ l.fn.tip;
  fences : AreFences l.dag l.kept.fences;
  rest : l.kept ≡ record l.fn.kept { fences = l.kept.fences };
}

abbrev pub decreases-loop-slot : goal.decreases-loop-slot
decreases-loop-slot l = l.slot
