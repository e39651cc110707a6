use Rattle.std.proofs.Common.{◌<◌, ◌≤◌, length, take}
use Rattle.hw_dag.specs.Jumps.{floor_log2}
use Rattle.hw_forks.specs.Walk.{weight_in}
use Rattle.hw_forks.proofs.BranchLaws.{IsUnderWay}
use Rattle.hw_forks.proofs.choice.walk.Given as goal

abbrev pub invariant-loop-child : goal.invariant-loop-child
invariant-loop-child l = (l.kept ≤ length l.votes) × (0 < l.kept) × IsUnderWay l.dag (take l.count l.initial.votes) (take l.kept l.votes) l.place

-- Each round leaves half of the weight at most. So there are no more rounds than the weight of all votes can be halved.
abbrev pub decreases-loop-child : goal.decreases-loop-child
decreases-loop-child l = floor_log2 (weight_in (take l.kept l.votes))
