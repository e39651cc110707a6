use Rattle.std.proofs.Common.{◌≡◌, take}
use Rattle.hw_forks.specs.Walk.{weight_in}
use Rattle.hw_forks.proofs.majority.weight_of.Given as goal

abbrev pub invariant-loop-vote : goal.invariant-loop-vote
invariant-loop-vote l = l.weight ≡ weight_in (take l.vote-index l.votes)
