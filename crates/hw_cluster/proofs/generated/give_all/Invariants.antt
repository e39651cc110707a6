use Rattle.std.proofs.Common.{◌≡◌}
use Rattle.hw_cluster.specs.Generating.{given}
use Rattle.hw_cluster.specs.Nodes.{AllFit}
use Rattle.hw_cluster.proofs.generated.give_all.Given as goal

-- the node was given the units so far, and the others keep the limits of their format
abbrev pub invariant-loop-unit : goal.invariant-loop-unit
invariant-loop-unit l = (l.core ≡ given l.initial.core l.yielded) × AllFit l.unit-iterator.rest.items
