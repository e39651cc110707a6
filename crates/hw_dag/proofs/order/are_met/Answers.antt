-- A panorama is at most another where each slot is met.
use Rattle.std.proofs.Common.{◌≡◌, ◌<◌, length, false, sym, arith, rules}
use Rattle.hw_dag.proofs.OrderLaws.{all_met, unmet_step}
use Rattle.hw_dag.proofs.order.are_met.Goals as goal

pub returns-then-not-meets : goal.returns-then-not-meets
returns-then-not-meets c =
    let lt : c.loop-validator.validator < length c.args.left.now = (let many = c.requires.left.length_is in omega arith) in
    let unmet : c.meets.result ≡ false = search rules in
    unmet_step c.args.dag.now c.args.left.now c.args.right.now c.loop-validator.validator c.get.result c.get-in-loop-validator.result c.meets.result
    lt c.get.ensures c.get-in-loop-validator.ensures c.meets.ensures unmet

pub returns : goal.returns
returns c = sym (all_met c.args.dag.now c.args.left.now c.args.right.now (λ v lt. c.loop-validator.invariant v (let many = c.requires.left.length_is in omega arith)))
