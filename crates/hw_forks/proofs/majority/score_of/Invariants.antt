use Rattle.std.proofs.Common.{◌≡◌, take}
use Rattle.hw_forks.specs.Walk.{score_in}
use Rattle.hw_forks.proofs.majority.score_of.Given as goal

abbrev pub invariant-loop-vote : goal.invariant-loop-vote
invariant-loop-vote l = l.score ≡ score_in l.dag (take l.vote-index l.votes) l.block.0
