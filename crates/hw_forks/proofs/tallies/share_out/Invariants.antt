use Rattle.std.proofs.Common.{◌≤◌, take}
use Rattle.hw_forks.specs.Walk.{HoldsShares}
use Rattle.hw_forks.proofs.tallies.share_out.Given as goal

abbrev pub invariant-loop-vote : goal.invariant-loop-vote
invariant-loop-vote l = (l.count ≤ l.vote-index) × HoldsShares l.dag (take l.vote-index l.votes) l.place (take l.count l.shares)
