use Rattle.std.proofs.Common.{arith}
use Rattle.hw_dag.proofs.KeptLaws.{height_bound}
use Rattle.hw_forks.proofs.MajorityLaws.{majority_lower, weigh_bounded}
use Rattle.hw_forks.proofs.majority.majority_block.Goals as goal

pub weight_of-weight-requires : goal.weight_of-weight-requires
weight_of-weight-requires c = record { bounded = weigh_bounded c.args.dag.now c.args.votes.now c.requires.votes }

pub loop-low-init : goal.loop-low-init
loop-low-init c =
    let low = c.children_height-low.ensures in (
      c.requires.place,
      c.children_height-low.ensures,
      omega arith,
      majority_lower c.args.dag.now c.requires.votes.graph c.args.votes.now c.requires.votes c.args.top c.requires.highest,
      omega arith,
    )

pub overflow_add-low : goal.overflow_add-low
overflow_add-low c =
    let is = c.requires.votes.each c.args.top c.requires.top in
    let height = is.height_is in
    let bound = height_bound c.args.dag.now c.requires.votes.graph c.args.top.block.0 is.known in
    let small = c.requires.votes.graph.bounded in
    let high = c.loop-low.invariant.4 in
    let test = c.loop-low-test.true in
    omega arith
