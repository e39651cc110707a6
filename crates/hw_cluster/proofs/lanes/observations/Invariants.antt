use Rattle.std.proofs.Common.{◌≡◌, map, take}
use Rattle.hw_cluster.specs.Lanes.{observed}
use Rattle.hw_cluster.proofs.lanes.observations.Given as goal

-- the observations so far
abbrev pub invariant-loop-last : goal.invariant-loop-last
invariant-loop-last l = l.list.items ≡ map observed (take l.last-index l.last)
