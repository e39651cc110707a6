use Rattle.hw_forks.proofs.AncestorLaws.{anc_over}
use Rattle.hw_horizon.proofs.FenceLaws.{stop_is}
use Rattle.hw_horizon.proofs.votes.fence_above.Goals as goal

pub lowered-requires-clause-known : goal.lowered-requires-clause-known
lowered-requires-clause-known c =
    let found = c.ancestor_at-block.ensures in
    stop_is c.args.dag.now c.requires.graph c.args.fence c.ancestor_at-block.result c.requires.fence found.known found.block
    (anc_over c.args.dag.now c.requires.graph c.ancestor_at-block.result.0 c.args.fence.block.0 c.requires.fence.block_known found.ancestor)

pub lowered-requires-clause-over : goal.lowered-requires-clause-over
lowered-requires-clause-over c =
    let found = c.ancestor_at-block.ensures in
    anc_over c.args.dag.now c.requires.graph c.ancestor_at-block.result.0 c.args.fence.block.0 c.requires.fence.block_known found.ancestor
