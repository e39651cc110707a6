use Rattle.hw_horizon.proofs.FenceLaws.{over_itself}
use Rattle.hw_horizon.proofs.votes.lowest_fence.Goals as goal

pub is_over-requires-clause-known : goal.is_over-requires-clause-known
is_over-requires-clause-known c = let k = c.fence.ensures c.in-Some.fence c.in-Some.is in (c.requires.fences k.0 c.in-Some.fence k.1).block_known

pub is_over-requires-clause-high : goal.is_over-requires-clause-high
is_over-requires-clause-high c = let k = c.fence.ensures c.in-Some.fence c.in-Some.is in (c.requires.fences k.0 c.in-Some.fence k.1).block

pub is_over-requires-then-is_over-clause-block_known : goal.is_over-requires-then-is_over-clause-block_known
is_over-requires-then-is_over-clause-block_known c = let k = c.fence.ensures c.in-Some.fence c.in-Some.is in (c.requires.fences k.0 c.in-Some.fence k.1).block_known

pub returns-then-is_over-2-clause-fence : goal.returns-then-is_over-2-clause-fence
returns-then-is_over-2-clause-fence c = let k = c.fence.ensures c.in-Some.fence c.in-Some.is in c.requires.fences k.0 c.in-Some.fence k.1

pub returns-clause-on_way : goal.returns-clause-on_way
returns-clause-on_way c = over_itself c.args.dag.now c.requires.graph c.args.own.block.0 c.requires.own.block_known
