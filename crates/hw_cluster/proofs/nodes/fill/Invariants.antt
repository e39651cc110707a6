use Rattle.std.proofs.Common.{◌≡◌, replicate}
use Rattle.hw_core.specs.Promises.{begun as begun_core}
use Rattle.hw_cluster.proofs.nodes.fill.Given as goal

-- the nodes so far
abbrev pub invariant-loop : goal.invariant-loop
invariant-loop l = l.cores.items ≡ replicate l.counter (begun_core l.config)
