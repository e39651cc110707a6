use Rattle.std.proofs.Common.{◌≡◌}
use Rattle.hw_cluster.specs.Nodes.{nodes_in}
use Rattle.hw_node_cases.proofs.node.actions.acted.Given as goal

-- the nodes are as many as before
abbrev pub invariant-loop-word : goal.invariant-loop-word
invariant-loop-word l = nodes_in l.cluster ≡ l.nodes
