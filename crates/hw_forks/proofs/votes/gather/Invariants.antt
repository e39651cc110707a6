use Rattle.std.proofs.Common.{◌≡◌, ◌≤◌, take, length}
use Rattle.hw_forks.specs.Votes.{votes_of}
use Rattle.hw_forks.proofs.votes.gather.Given as goal

abbrev pub invariant-loop-slot : goal.invariant-loop-slot
invariant-loop-slot l = (l.count ≤ length l.votes) × (take l.count l.votes ≡ votes_of l.dag l.weights l.panorama (length l.yielded))
