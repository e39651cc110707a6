use Rattle.std.proofs.Common.{arith}
use Rattle.hw_horizon.proofs.VoteLaws.{walked_more, walked_down}
use Rattle.hw_horizon.proofs.FenceLaws.{walked_lower, jump_walked}
use Rattle.hw_horizon.proofs.votes.lowered.Goals as goal

pub loop-before-init : goal.loop-before-init
loop-before-init c = (jump_walked c.args.dag.now c.requires.graph c.args.fence.tip.0 c.args.known c.args.fence.first c.jumped-first.result c.requires.fence.known c.requires.known
    (walked_lower c.args.dag.now c.requires.graph c.args.fence.tip.0 c.args.known.block.0 c.args.fence.block.0 c.args.fence.first.0 c.requires.over c.requires.fence.walked) c.jumped-first.ensures).0

pub loop-before-preserved : goal.loop-before-preserved
loop-before-preserved c =
    let w = walked_more c.args.dag.now c.requires.graph c.args.fence.tip.0 c.requires.fence.known c.args.known.block.0 c.loop-before.first.0 c.in-Some.before c.loop-before.invariant c.in-Some.ensures in
    (jump_walked c.args.dag.now c.requires.graph c.args.fence.tip.0 c.args.known c.in-Some.before c.jumped-first-in-Some.result c.requires.fence.known c.requires.known w c.jumped-first-in-Some.ensures).0

pub loop-before-smaller : goal.loop-before-smaller
loop-before-smaller c =
    let w = walked_more c.args.dag.now c.requires.graph c.args.fence.tip.0 c.requires.fence.known c.args.known.block.0 c.loop-before.first.0 c.in-Some.before c.loop-before.invariant c.in-Some.ensures in
    let down = walked_down c.args.dag.now c.requires.graph c.args.fence.tip.0 c.requires.fence.known c.args.known.block.0 c.loop-before.first.0 c.in-Some.before c.loop-before.invariant c.in-Some.ensures in
    let j = (jump_walked c.args.dag.now c.requires.graph c.args.fence.tip.0 c.args.known c.in-Some.before c.jumped-first-in-Some.result c.requires.fence.known c.requires.known w c.jumped-first-in-Some.ensures).1 in
    omega arith

pub returns-clause-fence : goal.returns-clause-fence
returns-clause-fence c = record {
  known = c.requires.fence.known;
  block_known = c.requires.known.block_known;
  block = c.requires.known.block;
  walked = c.loop-before.invariant;
}
